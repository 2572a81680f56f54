use Rattle.std.proofs.Common.{◌∙◌, ap, sym}
use Rattle.tpl_model.specs.Lines as model
use Rattle.tpl_blocks.specs.Blocks.{block}
use Rattle.tpl_blocks.proofs.builder.first_lines.Goals as goal

pub returns-in_default : goal.returns-in_default
returns-in_default c = sym (ap model.first_block c.in_default.ensures.0)

pub returns : goal.returns
returns c = ap block c.lines_in.ensures ∙ sym (ap model.first_block c.in-Some.ensures)
