use Rattle.std.proofs.Common.{◌∙◌}
use Rattle.std.specs.Str.{IsUtf8}
use Rattle.sig_words.specs.declared.token.TokenKind.TheVariants as kind
use Rattle.formula_text.proofs.Places.{at_place, name_utf8}
use Rattle.formula_text.proofs.judge.name_at.Goals as goal

pub unreachable-requires : goal.unreachable-requires
unreachable-requires c =
    let good = rw (at_place c.args.line.now c.args.tokens.now c.args.place (record { kind = kind.Word; start = 0; end = 0 }) c.requires.within) at c.requires.good in
    let text : IsUtf8 c.token_bytes.result.now = rw c.token_bytes.ensures (name_utf8 _ good) in
    c.in_default.ensures.cases.0 text

pub of_judged-requires : goal.of_judged-requires
of_judged-requires c =
    rw (c.in-Ok.ensures.cases.0 ∙ c.token_bytes.ensures)
    (rw (at_place c.args.line.now c.args.tokens.now c.args.place (record { kind = kind.Word; start = 0; end = 0 }) c.requires.within) at c.requires.good)

pub returns : goal.returns
returns c =
    rw (at_place c.args.line.now c.args.tokens.now c.args.place (record { kind = kind.Word; start = 0; end = 0 }) c.requires.within)
    (rw (c.in-Ok.ensures.cases.0 ∙ c.token_bytes.ensures) at c.of_judged.ensures)
