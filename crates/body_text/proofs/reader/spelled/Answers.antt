use Rattle.sig_words.specs.Lexemes.{lexemes}
use Rattle.line_forms.specs.Told.{ahead}
use Rattle.line_forms.proofs.Shared.{said_word}
use Rattle.body_text.specs.Grammar.{bodies}
use Rattle.body_text.specs.Views.{found_of}
use Rattle.body_text.proofs.reader.spelled.Goals as goal

pub returns : goal.returns
returns c =
    let says =
    said_word bodies (found_of c.args.allow) c.in_ok-word.word.now (ahead c.args.line.now c.args.tokens.now 1) (lexemes c.args.line.now c.args.tokens.now) c.in_ok-word.ensures in
    rw says c.behind_word.ensures
