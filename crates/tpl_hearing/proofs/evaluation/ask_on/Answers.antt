use Rattle.std.proofs.Common.{Some, sym, ap, subst, ◌∙◌}
use Rattle.std.specs.Option.{option_copied}
use Rattle.sig_formula.specs.Trees.{tree}
use Rattle.signal_model.specs.Recipes.{recipe_answer}
use Rattle.signal_model.specs.Values.{Evaluation}
use Rattle.tpl_hearing.specs.Heard.{Evaluates, recipe_of}
use Rattle.tpl_hearing.proofs.Names.{nothing_heard, then_heard}
use Rattle.tpl_hearing.proofs.Asks.{IsAsking, asked_more, asks_new, ends_bad, ends_good, ends_read, fewer_unknown, nothing_asked}
use Rattle.tpl_hearing.proofs.evaluation.ask_on.Goals as goal

pub asking-init : goal.asking-init
asking-init g c = record {
  asking = subst (λ x. x) (λ i. IsAsking (recipe_of (tree c.args.formula.now) (option_copied c.args.row) c.args.slots.now) (sym c.new-known.ensures.items i) (sym c.new-reads.ensures.items i) c.args.heard.now c.args.heard.now)
      (nothing_asked (recipe_of (tree c.args.formula.now) (option_copied c.args.row) c.args.slots.now) c.args.heard.now);
  after = nothing_heard _ _ c.args.heard.now c.requires.can.idle;
  can = c.requires.can;
  counted = c.requires.counted;
}

pub returns-in-Done-clause-evaluated : goal.returns-in-Done-clause-evaluated
returns-in-Done-clause-evaluated g c =
    ends_good (recipe_of (tree c.args.formula.now) (option_copied c.args.row) c.args.slots.now) c.asking.known.items c.asking.reads.items c.args.heard.now c.asking.heard c.in-Done.value c.asking.invariant.asking
    (λ hosts. sym (c.in_ok-slot.ensures.answer hosts ∙ ap (recipe_answer hosts (recipe_of (tree c.args.formula.now) (option_copied c.args.row) c.args.slots.now)) c.deref.ensures.value) ∙ c.in-Done.is)

pub returns-in-Fail-clause-evaluated : goal.returns-in-Fail-clause-evaluated
returns-in-Fail-clause-evaluated g c =
    ends_bad (recipe_of (tree c.args.formula.now) (option_copied c.args.row) c.args.slots.now) c.asking.known.items c.asking.reads.items c.args.heard.now c.asking.heard c.in-Fail.fault c.asking.invariant.asking
    (λ hosts. sym (c.in_ok-slot.ensures.answer hosts ∙ ap (recipe_answer hosts (recipe_of (tree c.args.formula.now) (option_copied c.args.row) c.args.slots.now)) c.deref.ensures.value) ∙ c.in-Fail.is)

pub asking-smaller : goal.asking-smaller
asking-smaller g c =
    fewer_unknown (recipe_of (tree c.args.formula.now) (option_copied c.args.row) c.args.slots.now) c.asking.known.items c.learn.new.known.items c.in-Read.slot c.in-Good.value
    (asks_new (recipe_of (tree c.args.formula.now) (option_copied c.args.row) c.args.slots.now) c.asking.known.items c.deref.result.now c.in_ok-slot.field-0 c.in-Read.slot c.in_ok-slot.ensures.judged
    c.deref.ensures.value c.in-Read.is)
    c.in_ok-learn-in-Good.ensures.known

pub asking-preserved : goal.asking-preserved
asking-preserved g c =
    let i = c.asking.invariant in
    let h = c.in_ok-value.ensures in
    record {
      asking = subst (λ x. x)
          (λ i. IsAsking (recipe_of (tree c.args.formula.now) (option_copied c.args.row) c.args.slots.now) (sym c.in_ok-learn-in-Good.ensures.known i) (sym c.in_ok-learn-in-Good.ensures.reads i) c.args.heard.now c.hear.new.heard)
          (asked_more (recipe_of (tree c.args.formula.now) (option_copied c.args.row) c.args.slots.now)
          c.asking.known.items c.asking.reads.items c.args.heard.now c.asking.heard c.hear.new.heard c.in-Read.slot c.slot_name-id.result c.in-Good.value
          i.asking h.after.grows
          (λ hosts. sym (c.in_ok-slot.ensures.answer hosts ∙ ap (recipe_answer hosts (recipe_of (tree c.args.formula.now) (option_copied c.args.row) c.args.slots.now)) c.deref.ensures.value) ∙ c.in-Read.is)
          c.slot_name-id.ensures (h.outcome ∙ ap Some c.in-Good.is) h.names);
      after = then_heard _ _ _ _ _ _ _ _ _ i.after h.after;
      can = h.can;
      counted = h.counted;
    }

pub returns-in-Bad-clause-evaluated : goal.returns-in-Bad-clause-evaluated
returns-in-Bad-clause-evaluated g c =
    let h = c.in_ok-value.ensures in
    subst (λ (e : Evaluation). Evaluates (recipe_of (tree c.args.formula.now) (option_copied c.args.row) c.args.slots.now) e c.args.heard.now c.hear.new.heard) (sym c.in_ok-evaluated-in-Bad.ensures)
    (ends_read (recipe_of (tree c.args.formula.now) (option_copied c.args.row) c.args.slots.now)
    c.asking.known.items c.asking.reads.items c.args.heard.now c.asking.heard c.hear.new.heard c.in-Read.slot c.slot_name-id.result c.in-Bad.fault
    c.asking.invariant.asking h.after.grows
    (λ hosts. sym (c.in_ok-slot.ensures.answer hosts ∙ ap (recipe_answer hosts (recipe_of (tree c.args.formula.now) (option_copied c.args.row) c.args.slots.now)) c.deref.ensures.value) ∙ c.in-Read.is)
    c.slot_name-id.ensures (h.outcome ∙ ap Some c.in-Bad.is) h.names)

pub returns-in-Bad-clause-after : goal.returns-in-Bad-clause-after
returns-in-Bad-clause-after g c = then_heard _ _ _ _ _ _ _ _ _ c.asking.invariant.after c.in_ok-value.ensures.after
