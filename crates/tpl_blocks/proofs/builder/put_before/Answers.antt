use Rattle.std.proofs.Common.{◌∙◌, sym, ap}
use Rattle.tpl_model.specs.Lines as model
use Rattle.tpl_blocks.specs.Blocks.{held, part_of, plain_line}
use Rattle.tpl_blocks.proofs.Stacks.{line_before}
use Rattle.tpl_blocks.proofs.builder.put_before.Goals as goal

pub returns-in_default : goal.returns-in_default
returns-in_default c =
    let l = plain_line c.args.line.now in
    c.in_default.ensures.1 ∙ (sym c.requires.0 ∙ sym (ap (model.with_line c.args.ordinal l) c.in_default.ensures.0))

pub returns : goal.returns
returns c =
    line_before c.args.ordinal (plain_line c.args.line.now) (part_of c.in-Some.part) (part_of c.in_ok-part.part) (held c.args.parts.now.items)
    (held c.innermost.new.parts.items) (held c.open.new.parts.items) c.requires c.in-Some.ensures (c.in_ok-part.ensures c.requires) c.in_ok-open.ensures
