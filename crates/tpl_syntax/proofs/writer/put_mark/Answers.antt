use Rattle.tpl_syntax.proofs.writer.put_mark.Goals as goal

pub returns-in-Tag : goal.returns-in-Tag
returns-in-Tag c = rw c.in-Tag.is c.put_element.ensures
