use Rattle.std.proofs.Common.{sym}
use Rattle.std.proofs.lemmas.Result.{err_from_is_err_and}
use Rattle.sig_words.specs.Lexemes.{lexemes}
use Rattle.line_forms.specs.Told.{ahead}
use Rattle.line_forms.proofs.Shared.{said_word}
use Rattle.live_cmd.specs.Grammar.{commands}
use Rattle.live_cmd.specs.Views.{found_of}
use Rattle.live_cmd.proofs.Unread.{unread_line}
use Rattle.live_cmd.proofs.reader.spelled.Goals as goal

pub returns-in_err-found : goal.returns-in_err-found
returns-in_err-found c =
    let says =
    said_word commands found_of c.in_ok-word.word.now (ahead c.args.line.now c.args.tokens.now 1) (lexemes c.args.line.now c.args.tokens.now) c.in_ok-word.ensures in
    let p = err_from_is_err_and c.from_residual-in_err-found.result c.from_residual-in_err-found.ensures.1 in
    rw (p.1, p.2) (unread_line c.in_err-found.field-0.0 _ _ (sym says) c.in_err-found.ensures)

pub returns : goal.returns
returns c =
    let says =
    said_word commands found_of c.in_ok-word.word.now (ahead c.args.line.now c.args.tokens.now 1) (lexemes c.args.line.now c.args.tokens.now) c.in_ok-word.ensures in
    rw (says, c.in_ok-held.ensures.ok) c.in_ok-found.ensures
