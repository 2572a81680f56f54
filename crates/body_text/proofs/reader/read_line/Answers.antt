use Rattle.line_forms.proofs.Shared.{bad_writes_none, from_tokens}
use Rattle.body_text.specs.Grammar.{bodies}
use Rattle.body_text.specs.Views.{found_of}
use Rattle.body_text.proofs.Grammars.{is_grammar}
use Rattle.body_text.proofs.reader.read_line.Goals as goal

pub spelled-requires : goal.spelled-requires
spelled-requires c = rw c.deref.ensures.value c.in-Ok.ensures.ok

pub returns-in-Ok : goal.returns-in-Ok
returns-in-Ok c =
    let value = c.deref.ensures.value in
    rw c.optional.ensures
    (from_tokens bodies is_grammar (found_of c.args.allow) c.args.line.now c.in-Ok.found.items c.spelled.result c.in-Ok.ensures.ok
    (rw value at c.spelled.ensures))

pub returns-in-Err-Bad : goal.returns-in-Err-Bad
returns-in-Err-Bad c = bad_writes_none bodies c.args.line.now c.in-Err-Bad.field-0-0 (rw c.in-Err-Bad.field-0-is at c.in-Err-Bad.ensures.refused)
