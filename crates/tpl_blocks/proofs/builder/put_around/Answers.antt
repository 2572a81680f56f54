use Rattle.tpl_blocks.specs.Blocks.{block, held, part_of, plain_line}
use Rattle.tpl_blocks.proofs.Stacks.{line_around}
use Rattle.tpl_blocks.proofs.builder.put_around.Goals as goal

pub returns-in_default : goal.returns-in_default
returns-in_default c = c.in_default.ensures c.args.ordinal (plain_line c.args.line.now) c.requires

pub returns : goal.returns
returns c =
    line_around c.args.ordinal (plain_line c.args.line.now) (part_of c.in-Some.inner) (part_of c.in-Some.outer) (block c.in_ok-lines.lines.value)
    (held c.args.parts.now.items) (held c.two_innermost.new.parts.items) (held c.open.new.parts.items) c.requires c.in-Some.ensures c.in_ok-lines.ensures
    c.in_ok-open.ensures
