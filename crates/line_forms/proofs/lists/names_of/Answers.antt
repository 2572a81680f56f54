use Rattle.std.proofs.Common.{◌+◌, List, drop, option_map, sym, ◌++◌, ◌∙◌}
use Rattle.std.proofs.lemmas.List.{at_drop_more}
use Rattle.sig_words.specs.declared.token.Token.{Token}
use Rattle.sig_words.specs.Lexemes.{lexeme, lexemes}
use Rattle.line_forms.specs.Forms.{name}
use Rattle.line_forms.specs.Reader.{each_of}
use Rattle.line_forms.proofs.Listed.{each_goes}
use Rattle.line_forms.proofs.lists.names_of.Goals as goal

pub loop-token-preserved : goal.loop-token-preserved
loop-token-preserved c =
    let line = c.args.line.now in
    let tokens = c.args.tokens.now in
    let i = c.loop-token.token-index in
    let vs = c.loop-token.names.items in
    let here = at_drop_more (λ (ts : List Token). option_map (λ ws. vs ++ ws) (each_of name (lexemes line ts))) tokens i _ c.loop-token-test.true in
    rw c.in_ok-push.ensures.items (each_goes name vs c.in_ok-name.name _ (lexemes line (drop (i + 1) tokens)) _ c.in_ok-name.ensures (sym here ∙ c.loop-token.invariant))
