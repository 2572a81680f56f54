-- What making a page from scratch comes to.
use Rattle.std.specs.Prelude.{◌≡◌, Bool, List, map, Option, Some, None, Result, Ok, Err}
use Rattle.sig_base.specs.declared.value.Outcome.{Outcome}
use Rattle.page_tree.specs.Subs.{side_by_side, sub_tree}
use Rattle.tpl_model.specs.Lines.{Line}
use Rattle.tpl_model.specs.Sources.{known_page, needed}
use Rattle.tpl_scratch.specs.Pages.{Numbered}
use Rattle.tpl_scratch.specs.declared.stop.Stop.{Stop}
use Rattle.tpl_scratch.specs.declared.stop.Stop.TheVariants as stop
use Rattle.tpl_scratch.specs.declared.scratch.ScratchStep.{ScratchStep}
use Rattle.tpl_scratch.specs.declared.scratch.ScratchStep.TheVariants as step

-- the name that is needed first and isn't known is asked for; where there is none, this is the page
abbrev pub IsScratch : List (Option Outcome) → List Line → ScratchStep → Type 0
IsScratch known lines (step.Ask i) = needed known lines ≡ Some i
IsScratch known lines (step.Page subs) = (needed known lines ≡ None) × (side_by_side (map sub_tree subs.items) ≡ known_page known lines)

-- what was made, or the name that stopped it
abbrev pub Comes : Result Bool Stop → Numbered → ScratchStep → Type 0
Comes (Ok failed) n (step.Page subs) = side_by_side (map sub_tree subs.items) ≡ n.nodes
Comes (Err (stop.Ask i)) n (step.Ask j) = i ≡ j
Comes _ _ _ = ⊥
