use Rattle.std.proofs.Common.{◌≡◌, map, take}
use Rattle.body_text.proofs.Texts.{text_held}
use Rattle.body_text.proofs.writer.+put_body.Given as goal

abbrev pub invariant-loop-inner : goal.invariant-loop-inner
invariant-loop-inner l = map (λ v. v.items) l.texts.items ≡ map text_held (take l.inner-index l.inner-items)
