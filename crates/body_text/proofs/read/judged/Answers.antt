use Rattle.std.proofs.Common.{◌≡◌, Ok, None, map, sym, ap, ◌∙◌}
use Rattle.sig_untrack.specs.Stated.{Bodies}
use Rattle.body_text.specs.Refusals.{refusal_of}
use Rattle.body_text.specs.Views.{judged_read}
use Rattle.body_text.proofs.Judgements.{few_read}
use Rattle.body_text.proofs.read.judged.Goals as goal

pub body_of-requires : goal.body_of-requires
body_of-requires c =
    let none : refusal_of (map judged_read c.args.lines.items) ≡ None = sym (rw c.deref.ensures.value at c.refusal_of.ensures) ∙ c.in_default.is in
    rw c.in_ok-lines.ensures (few_read c.args.lines.items none)

pub returns : goal.returns
returns c = λ s h.
    let none : refusal_of (map judged_read c.args.lines.items) ≡ None = sym (rw c.deref.ensures.value at c.refusal_of.ensures) ∙ c.in_default.is in
    let e = c.in_ok-lines.ensures ∙ h none in
    rw none (ap (λ (b : Bodies). Ok b) (c.in_ok-body.ensures s e))
