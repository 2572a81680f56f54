use Rattle.std.proofs.Common.{[], ◌∷◌, ◌++◌, Some, ap, sym, subst, ◌∙◌}
use Rattle.sig_base.specs.declared.value.Outcome.TheVariants.{Bad}
use Rattle.signal_model.specs.Values.{Evaluation}
use Rattle.sig_formula.specs.Trees.{slot}
use Rattle.tpl_hearing.specs.Heard.{Evaluates, recipe_of}
use Rattle.tpl_hearing.proofs.Asks.{slot_bad, slot_good}
use Rattle.tpl_hearing.proofs.evaluation.evaluate_slot.Goals as goal

pub returns-in_ok-evaluated-in-Good-clause-evaluated : goal.returns-in_ok-evaluated-in-Good-clause-evaluated
returns-in_ok-evaluated-in-Good-clause-evaluated g c = λ row.
    let h = c.in_ok-value.ensures in
    subst (λ (e : Evaluation). Evaluates (recipe_of (slot c.args.slot) row c.args.slots.now) e c.args.heard.now c.hear.new.heard) (sym c.in_ok-evaluated-in-Good.ensures)
    (slot_good c.args.slot row c.args.slots.now c.args.heard.now c.hear.new.heard c.slot_name-id.result c.in-Good.value c.requires.inside h.after.grows
    c.slot_name-id.ensures (h.outcome ∙ ap Some c.in-Good.is) h.names)

pub returns-in_ok-evaluated-in-Bad-clause-evaluated : goal.returns-in_ok-evaluated-in-Bad-clause-evaluated
returns-in_ok-evaluated-in-Bad-clause-evaluated g c = λ row.
    let h = c.in_ok-value.ensures in
    subst (λ (e : Evaluation). Evaluates (recipe_of (slot c.args.slot) row c.args.slots.now) e c.args.heard.now c.hear.new.heard)
    (sym (c.in_ok-evaluated-in-Bad.ensures ∙ ap (λ z. record { reads = z ++ record { name = c.slot_name-id.result; outcome = Bad c.in-Bad.fault } ∷ []; outcome = Bad c.in-Bad.fault }) c.new.ensures.items))
    (slot_bad c.args.slot row c.args.slots.now c.args.heard.now c.hear.new.heard c.slot_name-id.result c.in-Bad.fault c.requires.inside h.after.grows
    c.slot_name-id.ensures (h.outcome ∙ ap Some c.in-Bad.is) h.names)
