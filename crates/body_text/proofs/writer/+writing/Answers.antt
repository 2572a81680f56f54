use Rattle.std.proofs.Common.{◌∙◌, ap}
use Rattle.sig_untrack.specs.declared.body.Stmt.{Stmt}
use Rattle.sig_untrack.specs.Stated.{held_line, put}
use Rattle.body_text.specs.Texts.{held_parts, parts_text, plain_text}
use Rattle.body_text.specs.Printer.{named_line}
use Rattle.body_text.proofs.Texts.{line_begins, put_more}
use Rattle.body_text.proofs.writer.+writing.Goals as goal

pub put_statement-returns-in_ok-put_line-in-Plain : goal.put_statement-returns-in_ok-put_line-in-Plain
put_statement-returns-in_ok-put_line-in-Plain t c = λ rest.
    let h = held_parts c.args.parts.now in
    let a = c.in-Plain.line in
    put_more c.args.out.now.items _ (plain_text (named_line h.targets h.names (held_line a))) (parts_text h rest) _ c.in_ok-put_line-in-Plain.ensures
    (ap (λ (s : Stmt). parts_text h (put s rest)) c.in-Plain.is ∙ line_begins h rest a)
