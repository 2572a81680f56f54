use Rattle.tpl_syntax.proofs.writer.put_line.Goals as goal

pub returns-in-Plain : goal.returns-in-Plain
returns-in-Plain c = rw c.in-Plain.is c.put_mark.ensures

pub returns-in-Over : goal.returns-in-Over
returns-in-Over c = rw c.in-Over.is c.put_over.ensures
