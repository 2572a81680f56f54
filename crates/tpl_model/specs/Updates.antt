-- A page brought up to date: what is settled for it, and how it is carried on.
use Rattle.std.specs.Prelude.{ℕ, List}
use Rattle.signal_model.specs.Recipes.{Hosts}
use Rattle.signal_model.specs.Signals.{Signals}
use Rattle.signal_model.specs.Memos.{Memos}
use Rattle.signal_model.specs.Settling.{Settled, settled}
use Rattle.page_model.specs.Replay.{Op}
use Rattle.page_model.specs.Pages.{NumberedPage, edits_between, renumbered}
use Rattle.tpl_model.specs.Lines.{Line}
use Rattle.tpl_model.specs.Sources.{template_asked, template_shape}

-- what an update comes to: what is kept of the signals and the runs that were noted, the page, and the operations that lead to it
pub record Updated : Type 0 where
  pub kept : Settled
  pub page : NumberedPage
  pub ops : List Op

-- The names that the template reads are settled; the page is carried to the template's shape, and these are the edits. A page is mounted
-- from the bare one.
abbrev pub updated : Hosts → Signals → List Line → List ℕ → Memos → NumberedPage → Updated
updated hosts w lines links k old =
    let new = renumbered old (template_shape hosts w lines links) in
    record { kept = settled hosts w k (template_asked hosts w lines links); page = new; ops = edits_between old new }
