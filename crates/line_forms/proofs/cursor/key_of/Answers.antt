use Rattle.std.proofs.Common.{ap}
use Rattle.sig_words.specs.Lexemes.{text_at}
use Rattle.sig_words.specs.Literals.{between_quotes, text_of}
use Rattle.sig_words.proofs.Shared.{lexeme-Literal}
use Rattle.line_forms.specs.Reader.{key_of}
use Rattle.line_forms.proofs.cursor.key_of.Goals as goal

pub returns : goal.returns
returns c = (
  text_of (between_quotes (text_at c.args.line.now c.args.token.now)),
  ap key_of (lexeme-Literal c.args.line.now c.args.token.now c.in-Literal.is),
  c.in_ok-told_text.ensures,
)
