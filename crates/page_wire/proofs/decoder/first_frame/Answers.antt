use Rattle.page_wire.proofs.Pieces.{whole_frame}
use Rattle.page_wire.proofs.decoder.first_frame.Goals as goal

pub returns-clause-whole : goal.returns-clause-whole
returns-clause-whole c =
    whole_frame c.args.bytes.now c.in_ok-front.front.now c.in_ok-front.behind.now c.in_ok-body.body.now c.in_ok-body.behind.now c.told_length.result
    c.in_ok-front.ensures.cases c.told_length.ensures.bytes c.in_ok-body.ensures.cases
