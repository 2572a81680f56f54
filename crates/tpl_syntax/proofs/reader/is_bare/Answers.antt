use Rattle.tpl_syntax.proofs.Literals.{inner_utf8, bare_literal}
use Rattle.tpl_syntax.proofs.reader.is_bare.Goals as goal

pub unreachable-requires : goal.unreachable-requires
unreachable-requires c =
    let leaves = rw c.in-Text.is at c.requires.leaves in
    let utf8 = inner_utf8 c.args.line.now c.args.tokens.now c.in-Text.place _ c.requires.of_line leaves.0 leaves.1 in
    c.in_default-from_utf8.ensures.cases.0 (rw (c.between_quotes-text.ensures, c.token_bytes.ensures) utf8)

pub returns-in-Ok : goal.returns-in-Ok
returns-in-Ok c =
    let leaves = rw c.in-Text.is at c.requires.leaves in
    let bare = bare_literal c.args.line.now c.args.tokens.now c.in-Text.place _ c.requires.of_line leaves.0 leaves.1 in
    rw (c.in-Text.is, c.has_end.ensures, c.in-Ok.ensures.cases.0, c.between_quotes-text.ensures, c.token_bytes.ensures) bare
