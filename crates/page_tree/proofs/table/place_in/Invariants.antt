use Rattle.std.proofs.Common.{◌≡◌, ◌+◌, drop}
use Rattle.page_model.specs.Pages as pages
use Rattle.page_tree.proofs.table.place_in.Given as goal

abbrev pub invariant-loop-place : goal.invariant-loop-place
invariant-loop-place l = l.place + pages.place_in l.id (drop l.place l.children) ≡ pages.place_in l.id l.children
