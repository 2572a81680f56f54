use Rattle.std.proofs.Common.{refl}
use Rattle.live_run.proofs.frames.follow_frames.Goals as goal

pub returns-in-Ok : goal.returns-in-Ok
returns-in-Ok g c = (c.in-Ok.ensures.followed, c.in-Ok.ensures.fine, c.in-Ok.ensures.end)

pub returns-in-Err-Read : goal.returns-in-Err-Read
returns-in-Err-Read g c =
    let is = c.in-Err-Read.field-0-is in (c.in-Err-Read.ensures.read (rw is refl), rw is at c.in-Err-Read.ensures.ended)

pub returns-in-Err-Write : goal.returns-in-Err-Write
returns-in-Err-Write g c =
    let is = c.in-Err-Write.field-0-is in (c.in-Err-Write.ensures.write (rw is refl), rw is at c.in-Err-Write.ensures.ended)

pub returns-in-Err-Memory : goal.returns-in-Err-Memory
returns-in-Err-Memory g c = rw c.in-Err-Memory.field-0-is at c.in-Err-Memory.ensures.ended

pub returns-in-Err-TooLong : goal.returns-in-Err-TooLong
returns-in-Err-TooLong g c =
    let is = c.in-Err-TooLong.field-0-is in (c.in-Err-TooLong.ensures.long (rw is refl), rw is at c.in-Err-TooLong.ensures.ended)

pub returns-in-Err-BadFrames : goal.returns-in-Err-BadFrames
returns-in-Err-BadFrames g c =
    let is = c.in-Err-BadFrames.field-0-is in (c.in-Err-BadFrames.ensures.bad (rw is refl), rw is at c.in-Err-BadFrames.ensures.ended)
