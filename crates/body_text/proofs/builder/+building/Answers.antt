use Rattle.std.proofs.Common.{◌≡◌, ◌∷◌, [], refl, sym, ap, ◌∙◌, length, arith}
use Rattle.std.proofs.lemmas.List.{length-append, nil_from_length}
use Rattle.body_text.proofs.Parts.{all_put, begun, effect_begins, effect_built, end_begins, line_begins, none_front, one_further, rewire_begins, when_begins, when_built}
use Rattle.body_text.proofs.builder.+building.Goals as goal

pub guarded-returns-clause-built : goal.guarded-returns-clause-built
guarded-returns-clause-built u c = λ s r e.
    let b = c.in_ok-inner.ensures.built s r e in
    let f = c.in_ok-formula.ensures.put in
    (b.0, when_built _ s _ _ _ _ _ _ b.1 refl f.0 refl refl f.1 c.when.ensures)

pub nested-block-requires : goal.nested-block-requires
nested-block-requires u c =
    let n = c.new-own.ensures in
    let ts = ap length n.0 in
    let ns = ap length n.1 in
    let es = ap length n.2 in
    let rs = ap length n.3 in
    (omega arith, omega (arith, c.requires, ts, ns, es, rs))

pub nested-returns-clause-few : goal.nested-returns-clause-few
nested-returns-clause-few u c =
    let more = ap length c.in_ok-place.ensures.0 ∙ length-append c.args.lists.now.effects.items (c.body.result ∷ []) in
    omega (arith, more, c.in_ok-statements.ensures.shorter)

pub nested-returns-clause-built : goal.nested-returns-clause-built
nested-returns-clause-built u c = λ s r e.
    let n = c.new-own.ensures in
    let b = c.in_ok-statements.ensures.built s r e in
    let p = c.in_ok-place.ensures in
    (b.0, effect_built s _ _ _ _ _ _ _ _ b.1 n.0 n.1 n.2 n.3 c.body.ensures refl refl p.0 refl p.1 c.effect.ensures)

pub statement-returns-in-End-clause-built : goal.statement-returns-in-End-clause-built
statement-returns-in-End-clause-built u c = λ s r e. end_begins s r c.args.lines.now.items c.args.lists.now (rw c.in-End.is at e)

pub statement-returns-in_ok-boxed-in-Plain-clause-built : goal.statement-returns-in_ok-boxed-in-Plain-clause-built
statement-returns-in_ok-boxed-in-Plain-clause-built u c = λ s r e.
    rw c.in_ok-boxed-in-Plain.ensures (line_begins c.in-Plain.plain s r _ _ _ _ (rw c.in-Plain.is at e) c.in_ok-statement-in-Plain.ensures)

pub statement-returns-in_ok-boxed-in-Rewire-clause-built : goal.statement-returns-in_ok-boxed-in-Rewire-clause-built
statement-returns-in_ok-boxed-in-Rewire-clause-built u c = λ s r e.
    rw c.in_ok-boxed-in-Rewire.ensures (rewire_begins c.in-Rewire.name c.in-Rewire.source s r _ _ _ _ (rw c.in-Rewire.is at e) c.in_ok-statement-in-Rewire.ensures.built)

pub statement-returns-in_ok-boxed-in-When-clause-built : goal.statement-returns-in_ok-boxed-in-When-clause-built
statement-returns-in_ok-boxed-in-When-clause-built u c = λ s r e.
    rw c.in_ok-boxed-in-When.ensures (when_begins c.in-When.formula s r _ _ _ _ _ (rw c.in-When.is at e) c.in_ok-statement-in-When.ensures.built)

pub statement-returns-in_ok-boxed-in-Effect-clause-built : goal.statement-returns-in_ok-boxed-in-Effect-clause-built
statement-returns-in_ok-boxed-in-Effect-clause-built u c = λ s r e.
    rw c.in_ok-boxed-in-Effect.ensures (effect_begins s r _ _ _ _ _ (rw c.in-Effect.is at e) c.in_ok-statement-in-Effect.ensures.built)

pub block-loop-line-init : goal.block-loop-line-init
block-loop-line-init u c = record {
  fewer = omega arith;
  few = omega arith;
  upto = λ s r e. rw c.new-out.ensures.items (begun s r c.args.lists.now c.args.lines.now.items e);
}

pub block-statement-requires : goal.block-statement-requires
block-statement-requires u c =
    let front = ap length c.in-Some.ensures.items in
    (omega (arith, c.loop-line.invariant.fewer, front), omega (arith, c.requires, c.loop-line.invariant.few, front))

pub block-loop-line-preserved : goal.block-loop-line-preserved
block-loop-line-preserved u c =
    let v = c.loop-line.invariant in
    let front = ap length c.in-Some.ensures.items in
    let built = rw c.in-Some-2.is at c.in_ok-statement.ensures.built in
    record {
      fewer = omega (arith, v.fewer, front, c.in_ok-statement.ensures.shorter);
      few = omega (arith, v.few, front, c.in_ok-statement.ensures.few);
      upto = λ s r e.
          let a = v.upto s r e in
          one_further s r _ _ c.statement.new.lists _ _ c.in-Some-2.statement.value _ c.statement.new.lines.items a (built a.rest r (sym c.in-Some.ensures.items ∙ a.ahead))
          (rw c.into_inner.ensures at c.in_ok-push.ensures.items);
    }

pub block-returns-in_default-2-clause-built : goal.block-returns-in_default-2-clause-built
block-returns-in_default-2-clause-built u c =
    let v = c.loop-line.invariant in
    let built = rw c.in_default-2.is at c.in_ok-statement.ensures.built in
    λ s r e.
    let a = v.upto s r e in
    all_put s r _ _ c.statement.new.lists _ _ c.statement.new.lines.items a (built a.rest r (sym c.in-Some.ensures.items ∙ a.ahead))

pub block-returns-clause-built : goal.block-returns-clause-built
block-returns-clause-built u c = λ s r e.
    let a = c.loop-line.invariant.upto s r e in
    let none = c.in_default.ensures.cases.0 in
    let front : c.loop-line.lines.items ≡ [] = nil_from_length c.loop-line.lines.items (omega arith) in
    absurd (none_front a.rest r (sym front ∙ a.ahead))
