use Rattle.page_ops.proofs.Texts.{text_said}
use Rattle.page_ops.proofs.reader.likely.Goals as goal

pub returns-clause-same : goal.returns-clause-same
returns-clause-same c = λ o has e. c.in_ok-op.ensures.same o (
    text_said o c.args.bytes.now c.word.result.0.now c.word.result.1.now c.behind.result.now c.number_at-number.result.1.now c.behind-2.result.now c.meant_by.result c.number_at-number.result.0 has e
    c.word.ensures.front c.word.ensures.behind c.meant_by.ensures c.behind.ensures c.number_at-number.ensures.same c.behind-2.ensures)
