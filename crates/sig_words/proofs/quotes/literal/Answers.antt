use Rattle.std.proofs.Common.{ap, ◌∙◌}
use Rattle.sig_words.specs.Literals.{between_quotes}
use Rattle.sig_words.proofs.LiteralLaws.{literal_utf8}
use Rattle.sig_words.proofs.quotes.literal.Goals as goal

pub unreachable-requires : goal.unreachable-requires
unreachable-requires c =
    let part = c.between_quotes.ensures ∙ ap between_quotes c.token_bytes.ensures in
    c.in_default.ensures.cases.0 (rw part (literal_utf8 c.args.line.now c.args.token.now c.requires.of_line c.requires.is_literal))
