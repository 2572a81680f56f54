use Rattle.tpl_syntax.proofs.writer.put_over.Goals as goal

pub returns-in-Text : goal.returns-in-Text
returns-in-Text c = rw c.in-Text.is c.put_alone.ensures

pub returns-in-Attr : goal.returns-in-Attr
returns-in-Attr c = rw c.in-Attr.is c.put_attribute.ensures

pub returns-in-If : goal.returns-in-If
returns-in-If c = rw c.in-If.is c.put_alone-in-If.ensures

pub returns-in-Each : goal.returns-in-Each
returns-in-Each c = rw c.in-Each.is c.put_alone-in-Each.ensures
