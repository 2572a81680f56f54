use Rattle.std.proofs.Common.{sym, ap, ◌∙◌, arith}
use Rattle.sig_marks.specs.Sets.{marks_of, unmarked_count}
use Rattle.sig_marks.proofs.PushedMarks.{marks_len, set_fewer, set_same}
use Rattle.sig_marks.proofs.propagation.mark_reader.Goals as goal

pub returns-then-mark_one-clause-room : goal.returns-then-mark_one-clause-room
returns-then-mark_one-clause-room c =
    let t = marks_of c.args.marked.now.entries in
    let same = ap unmarked_count (c.mark_one.ensures.marked ∙ set_same t c.args.reader (sym c.mark_one.ensures.was ∙ c.if-mark_one.true)) in
    let room = c.requires.room in
    omega (arith, same, room)

pub returns-then-mark_one-clause-work : goal.returns-then-mark_one-clause-work
returns-then-mark_one-clause-work c =
    let t = marks_of c.args.marked.now.entries in
    let same = ap unmarked_count (c.mark_one.ensures.marked ∙ set_same t c.args.reader (sym c.mark_one.ensures.was ∙ c.if-mark_one.true)) in
    omega (arith, same)

pub returns-then-mark_one-clause-fewer : goal.returns-then-mark_one-clause-fewer
returns-then-mark_one-clause-fewer c =
    let t = marks_of c.args.marked.now.entries in
    let same = ap unmarked_count (c.mark_one.ensures.marked ∙ set_same t c.args.reader (sym c.mark_one.ensures.was ∙ c.if-mark_one.true)) in
    omega (arith, same)

pub push_reserved-requires : goal.push_reserved-requires
push_reserved-requires c =
    let ms = c.args.marked.now.entries in
    let within = c.requires.within in
    let len = marks_len ms in
    let fewer = set_fewer (marks_of ms) c.args.reader (omega (arith, within, len)) (sym c.mark_one.ensures.was ∙ c.if-mark_one.false) in
    let room = c.requires.room in
    omega (arith, fewer, room)

pub returns-clause-room : goal.returns-clause-room
returns-clause-room c =
    let ms = c.args.marked.now.entries in
    let within = c.requires.within in
    let len = marks_len ms in
    let fewer = set_fewer (marks_of ms) c.args.reader (omega (arith, within, len)) (sym c.mark_one.ensures.was ∙ c.if-mark_one.false) in
    let now = ap unmarked_count c.mark_one.ensures.marked in
    let pushed = c.push_reserved.ensures.len in
    let capacity = c.push_reserved.ensures.capacity in
    let room = c.requires.room in
    omega (arith, fewer, now, pushed, capacity, room)

pub returns-clause-work : goal.returns-clause-work
returns-clause-work c =
    let ms = c.args.marked.now.entries in
    let within = c.requires.within in
    let len = marks_len ms in
    let fewer = set_fewer (marks_of ms) c.args.reader (omega (arith, within, len)) (sym c.mark_one.ensures.was ∙ c.if-mark_one.false) in
    let now = ap unmarked_count c.mark_one.ensures.marked in
    let pushed = c.push_reserved.ensures.len in
    omega (arith, fewer, now, pushed)

pub returns-clause-fewer : goal.returns-clause-fewer
returns-clause-fewer c =
    let ms = c.args.marked.now.entries in
    let within = c.requires.within in
    let len = marks_len ms in
    let fewer = set_fewer (marks_of ms) c.args.reader (omega (arith, within, len)) (sym c.mark_one.ensures.was ∙ c.if-mark_one.false) in
    let now = ap unmarked_count c.mark_one.ensures.marked in
    omega (arith, fewer, now)
