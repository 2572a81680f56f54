use Rattle.std.proofs.Common.{[], ◌∷◌, ◌++◌, refl, sym, inl, inr}
use Rattle.std.proofs.lemmas.Result.{err_from_is_err_and}
use Rattle.line_forms.specs.Forms.{value}
use Rattle.line_forms.specs.Told.{ahead}
use Rattle.line_forms.proofs.Listed.{goes, stops, ends, lacks}
use Rattle.line_forms.proofs.Causes.{either}
use Rattle.line_forms.proofs.values.values_behind.Goals as goal

pub loop-after-init : goal.loop-after-init
loop-after-init c = λ v t. (v ∷ [], refl, c.in_ok-held.ensures [] v (rw c.empty.ensures (refl, refl)) t)

pub returns-in_err-value : goal.returns-in_err-value
returns-in_err-value c = λ v t.
    let now = c.loop-after.invariant v t in
    let p = err_from_is_err_and c.from_residual-in_err-value.result c.from_residual-in_err-value.ensures.1 in
    elim (either c.in_err-value.field-0.0) [
      | inl e ↦
          rw (p.1, p.2, e)
          (stops value now.0 (ahead c.args.line.now c.args.tokens.now c.loop-after.at) (ahead c.args.line.now c.args.tokens.now c.in-Ok.after) _
          now.1 c.in-Ok.ensures.exact (sym (rw e at c.in_err-value.ensures.exact)))
      | inr e ↦ rw (p.1, p.2, e.1) tt
    ]

pub loop-after-preserved : goal.loop-after-preserved
loop-after-preserved c = λ v t.
    let now = c.loop-after.invariant v t in
    let read = c.in_ok-value.ensures.exact in (
      now.0 ++ read.0 ∷ [],
      goes value now.0 read.0 (ahead c.args.line.now c.args.tokens.now c.loop-after.at) (ahead c.args.line.now c.args.tokens.now c.in-Ok.after) (ahead c.args.line.now c.args.tokens.now c.in_ok-value.next) _
          now.1 c.in-Ok.ensures.exact (sym read.1),
      c.in_ok-more.ensures now.0 read.0 now.2 read.2,
    )

pub returns-in_err-after : goal.returns-in_err-after
returns-in_err-after c = λ v t.
    let now = c.loop-after.invariant v t in
    let p = err_from_is_err_and c.from_residual-in_err-after.result c.from_residual-in_err-after.ensures.1 in
    rw (p.1, p.2)
    (lacks value now.0 (ahead c.args.line.now c.args.tokens.now c.loop-after.at) _ now.1 c.in_default.ensures.exact c.in_err-after.ensures.exact)

pub returns : goal.returns
returns c = λ v t.
    let now = c.loop-after.invariant v t in (
      now.0,
      ends value now.0 (ahead c.args.line.now c.args.tokens.now c.loop-after.at) (ahead c.args.line.now c.args.tokens.now c.in_ok-after.after) _
          now.1 c.in_default.ensures.exact c.in_ok-after.ensures.exact,
      now.2,
    )
