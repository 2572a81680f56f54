use Rattle.page_ops.proofs.Texts.{attr_said}
use Rattle.page_ops.proofs.reader.attribute.Goals as goal

pub returns-clause-same : goal.returns-clause-same
returns-clause-same c = λ o s.
    attr_said c.args.number c.number_at-place.result.0 c.args.bytes.now c.number_at-place.result.1.now c.behind.result.now c.word.result.0.now c.word.result.1.now c.behind-2.result.now c.in_ok-name.name c.in_ok-value.value o s
    c.number_at-place.ensures.same c.behind.ensures c.word.ensures.front c.word.ensures.behind c.behind-2.ensures c.in_ok-name.ensures.same c.in_ok-value.ensures.same
