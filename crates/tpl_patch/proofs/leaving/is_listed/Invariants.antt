use Rattle.std.proofs.Common.{◌≡◌, drop}
use Rattle.page_model.specs.Edits.{listed}
use Rattle.tpl_patch.proofs.leaving.is_listed.Given as goal

-- the number is one of these exactly where it is one of those that are left
abbrev pub invariant-loop-other : goal.invariant-loop-other
invariant-loop-other l = listed l.number (drop l.other-index l.numbers) ≡ listed l.number l.numbers
