use Rattle.std.proofs.Common.{◌≡◌, ℕ, List, ◌++◌, map, sym, ap, ◌∙◌, take_all}
use Rattle.std.proofs.lemmas.List.{append-nil}
use Rattle.sig_untrack.specs.declared.body.Body.TheViews.{out-Body}
use Rattle.sig_untrack.specs.Stated as stated
use Rattle.body_text.proofs.Texts.{text_held, whole_text}
use Rattle.body_text.proofs.writer.+put_body.Goals as goal

pub returns : goal.returns
returns t c =
    let b = c.args.body.now in
    let all = take_all c.loop-inner.inner-index c.deref-inner-items.result.now c.loop-inner-test.false in
    let each : map (λ v. v.items) c.loop-inner.texts.items ≡ map text_held (out-Body b).effects.items
    = c.loop-inner.invariant ∙ ap (map text_held) (all ∙ c.deref-inner-items.ensures.value) in
    let written = rw (c.deref.ensures.value, c.deref-2.ensures.value, c.deref-3.ensures.value, c.deref-4.ensures.value, c.deref-5.ensures.value)
    at (c.in_ok-put_statements.ensures stated.no_more) in
    sym (append-nil _) ∙ written ∙ ap (λ (k : List ℕ). c.args.out.now.items ++ k) (whole_text b (map (λ v. v.items) c.loop-inner.texts.items) each)
