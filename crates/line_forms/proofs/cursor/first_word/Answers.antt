use Rattle.std.proofs.Common.{◌∙◌}
use Rattle.line_forms.proofs.Findings.{first_says, first_utf8}
use Rattle.line_forms.proofs.cursor.first_word.Goals as goal

pub unreachable-requires : goal.unreachable-requires
unreachable-requires c =
    let first = rw c.in_ok-token.ensures.ok_part at c.first.ensures.value in
    let bytes = first_utf8 c.args.line.now c.args.tokens.now c.in_ok-token.token.now c.requires first c.in-Word.is in
    c.in_default-from_utf8.ensures.cases.0 (rw c.token_bytes.ensures bytes)

pub returns-in-Ok : goal.returns-in-Ok
returns-in-Ok c =
    let first = rw c.in_ok-token.ensures.ok_part at c.first.ensures.value in
    first_says c.args.line.now c.args.tokens.now c.in_ok-token.token.now c.in-Ok.word.now first c.in-Word.is (c.in-Ok.ensures.cases.0 ∙ c.token_bytes.ensures)
