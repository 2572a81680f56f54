use Rattle.tpl_syntax.proofs.Printer.{lines_are, read_back}
use Rattle.tpl_syntax.proofs.laws.templates_read_back.Goals as goal

pub returns-clause-read : goal.returns-clause-read
returns-clause-read c = read_back

pub returns-clause-lines : goal.returns-clause-lines
returns-clause-lines c = lines_are
