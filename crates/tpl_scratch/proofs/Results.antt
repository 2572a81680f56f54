-- What making a page from scratch comes to.
use Rattle.std.proofs.Common.{◌≡◌, Bool, false, List, Option, Some, None, Result, Ok, Err, refl, ap, subst, ◌∙◌}
use Rattle.std.specs.Result.{IfErr, IfOk}
use Rattle.sig_base.specs.declared.value.Outcome.{Outcome}
use Rattle.page_model.specs.Forest.{none}
use Rattle.tpl_model.specs.Lines.{Block, Line, block_of}
use Rattle.tpl_model.specs.Shapes.{shown_block}
use Rattle.tpl_model.specs.Sources.{on_known}
use Rattle.tpl_scratch.specs.declared.stop.Stop.{Stop}
use Rattle.tpl_scratch.specs.declared.stop.Stop.TheVariants as stop
use Rattle.tpl_scratch.specs.declared.scratch.ScratchStep.{ScratchStep}
use Rattle.tpl_scratch.specs.declared.scratch.ScratchStep.TheVariants as step
use Rattle.tpl_scratch.specs.Pages.{Numbered, Shows, Stops}
use Rattle.tpl_scratch.specs.Scratch.{Comes, IsScratch}

-- no nodes, and the first number
abbrev begin : Numbered
begin = record { nodes = none; next = 1 }

ends_so : (known : List (Option Outcome)) (lines : List Line) (r : Result Bool Stop) (n : Numbered) (s : ScratchStep) →
    IfOk r (λ f. Shows known false (shown_block (on_known known) false None (block_of lines)) begin n f) →
    IfErr r (λ e. Stops known (shown_block (on_known known) false None (block_of lines)).reads e) → Comes r n s → IsScratch known lines s
ends_so known lines (Ok u) n (step.Page subs) h k c = (h.reads, c ∙ ap (λ (x : Numbered). x.nodes) (h.nodes refl))
ends_so known lines (Ok u) n (step.Ask j) h k c = absurd c
ends_so known lines (Err (stop.Ask i)) n (step.Ask j) h k c = k ∙ ap Some c
ends_so known lines (Err (stop.Ask i)) n (step.Page subs) h k c = absurd c
ends_so known lines (Err stop.NoMemory) n (step.Ask j) h k c = absurd c
ends_so known lines (Err stop.NoMemory) n (step.Page subs) h k c = absurd c

pub scratch_is : (known : List (Option Outcome)) (lines : List Line) (b : Block) (r : Result Bool Stop) (start n : Numbered) (s : ScratchStep) →
    b ≡ block_of lines → start ≡ begin → IfOk r (λ f. Shows known false (shown_block (on_known known) false None b) start n f) →
    IfErr r (λ e. Stops known (shown_block (on_known known) false None b).reads e) → Comes r n s → IsScratch known lines s
scratch_is known lines b r start n s e f h k c =
    ends_so known lines r n s
    (subst (λ x. IfOk r (λ f. Shows known false (shown_block (on_known known) false None x) begin n f)) e
    (subst (λ y. IfOk r (λ f. Shows known false (shown_block (on_known known) false None b) y n f)) f h))
    (subst (λ x. IfErr r (λ y. Stops known (shown_block (on_known known) false None x).reads y)) e k) c
