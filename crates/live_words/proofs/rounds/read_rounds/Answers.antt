use Rattle.std.proofs.Common.{sym, arith}
use Rattle.live_words.proofs.Numerals.{none_of, not_begun, not_parsed, read, too_many}
use Rattle.live_words.proofs.rounds.read_rounds.Goals as goal

pub returns-then-not-begins_plainly : goal.returns-then-not-begins_plainly
returns-then-not-begins_plainly c = none_of c.args.text.now (not_begun c.args.text.now (rw c.as_bytes.ensures.value at (sym c.if-not-begins_plainly.ensures)))

pub returns-in_default : goal.returns-in_default
returns-in_default c = none_of c.args.text.now (not_parsed c.args.text.now c.in_default.field-0 c.in_default.ensures.value.0)

pub returns-then-rounds-gt-MOST_ROUNDS : goal.returns-then-rounds-gt-MOST_ROUNDS
returns-then-rounds-gt-MOST_ROUNDS c =
    too_many c.args.text.now c.in-Ok.rounds (rw c.as_bytes.ensures.value at (sym c.if-not-begins_plainly.ensures)) c.in-Ok.ensures.value.0 (omega arith)

pub returns : goal.returns
returns c =
    read c.args.text.now c.in-Ok.rounds (rw c.as_bytes.ensures.value at (sym c.if-not-begins_plainly.ensures)) c.in-Ok.ensures.value.0 (omega arith)
