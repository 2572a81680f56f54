use Rattle.std.proofs.lemmas.Option.{slice_get-get_or}
use Rattle.formula_text.proofs.Places.{found_at, seen_at}
use Rattle.formula_text.proofs.sign.sign_at.Goals as goal

pub returns-then-at-tokens-clause-found : goal.returns-then-at-tokens-clause-found
returns-then-at-tokens-clause-found c =
    found_at c.args.line.now c.args.tokens.now c.args.at _ c.token_sign.result (slice_get-get_or c.args.tokens.now c.args.at _ c.if-at-tokens.true) c.token_sign.ensures.sign

pub returns-then-at-tokens-clause-seen : goal.returns-then-at-tokens-clause-seen
returns-then-at-tokens-clause-seen c =
    seen_at c.args.line.now c.args.tokens.now c.args.at _ c.token_sign.result (slice_get-get_or c.args.tokens.now c.args.at _ c.if-at-tokens.true) c.token_sign.ensures.seen
