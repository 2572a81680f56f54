use Rattle.std.proofs.Common.{◌≡◌, drop}
use Rattle.signal_model.specs.Signals.{is_in}
use Rattle.effect_teardown.proofs.lookup.has_page.Given as goal

abbrev pub invariant-loop-page : goal.invariant-loop-page
invariant-loop-page l = is_in l.id (drop l.page-index l.pages) ≡ is_in l.id l.pages
