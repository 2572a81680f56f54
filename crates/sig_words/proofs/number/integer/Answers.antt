use Rattle.std.proofs.Common.{sym}
use Rattle.std.proofs.lemmas.Int.{to_z-of_z}
use Rattle.std.specs.Int.{w64}
use Rattle.sig_words.proofs.Numbers.{not_plain, not_text, not_parsed, parsed}
use Rattle.sig_words.proofs.number.integer.Goals as goal

pub returns-then-not-is_plain : goal.returns-then-not-is_plain
returns-then-not-is_plain c = not_plain c.args.text.now (sym c.if-not-is_plain.ensures)

pub returns-in_default : goal.returns-in_default
returns-in_default c = not_text c.args.text.now c.in_default.ensures.cases.0

pub returns-in_default-parse : goal.returns-in_default-parse
returns-in_default-parse c =
    let e = c.in-Ok.ensures.cases.0 in
    not_parsed c.args.text.now c.in_default-parse.field-0 (rw e at c.in_default-parse.ensures.value.0)

pub returns : goal.returns
returns c =
    let e = c.in-Ok.ensures.cases.0 in
    let h = rw e at c.in-Ok-parse.ensures.value.0 in
    let fits = rw (← h.1) at h.0.1 in
    rw (to_z-of_z w64 c.in-Ok-parse.n fits) (parsed c.args.text.now c.in-Ok-parse.n (sym c.if-not-is_plain.ensures) h.0 h.1)
