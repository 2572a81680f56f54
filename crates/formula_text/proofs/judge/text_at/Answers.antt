use Rattle.sig_words.specs.declared.token.TokenKind.TheVariants as kind
use Rattle.sig_words.proofs.Shared.{each_token}
use Rattle.formula_text.proofs.Places.{at_place, literal_place}
use Rattle.formula_text.proofs.judge.text_at.Goals as goal

pub literal-requires-clause-of_line : goal.literal-requires-clause-of_line
literal-requires-clause-of_line c = each_token c.args.line.now c.args.tokens.now c.requires.of_line c.args.place _ c.requires.within

pub literal-requires-clause-is_literal : goal.literal-requires-clause-is_literal
literal-requires-clause-is_literal c = literal_place c.args.tokens.now c.args.place _ c.requires.within c.requires.is_literal

pub returns-in-Ok : goal.returns-in-Ok
returns-in-Ok c =
    let at = at_place c.args.line.now c.args.tokens.now c.args.place (record { kind = kind.Word; start = 0; end = 0 }) c.requires.within in
    let is = c.in-Ok.ensures.ok in
    let short = rw is at c.in-Ok.ensures.short in
    rw at (record { ok = is; short = short; long = c.in-Ok.ensures.long })

pub returns-in-Err : goal.returns-in-Err
returns-in-Err c =
    let at = at_place c.args.line.now c.args.tokens.now c.args.place (record { kind = kind.Word; start = 0; end = 0 }) c.requires.within in
    rw at (record { ok = tt; short = tt; long = c.in-Err.ensures.long })
