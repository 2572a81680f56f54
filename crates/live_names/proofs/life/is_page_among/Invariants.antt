use Rattle.std.proofs.Common.{◌≡◌, drop}
use Rattle.signal_model.specs.Signals.{is_in}
use Rattle.live_names.proofs.life.is_page_among.Given as goal

-- it is none so far
abbrev pub invariant-loop-page : goal.invariant-loop-page
invariant-loop-page l = is_in l.id (drop l.page-index l.pages) ≡ is_in l.id l.pages
