use Rattle.std.proofs.Common.{◌∙◌, ◌∷◌, ap, arith}
use Rattle.tpl_blocks.specs.Blocks.{held, part_of}
use Rattle.tpl_blocks.proofs.Stacks.{held_push, short}
use Rattle.tpl_blocks.proofs.builder.two_innermost.Goals as goal

pub returns-then-len-lt2 : goal.returns-then-len-lt2
returns-then-len-lt2 c = short c.args.parts.now.items (omega (arith, c.if-len-lt2.true, c.len.ensures))

pub returns : goal.returns
returns c =
    (ap held c.in_ok-inner.ensures.items ∙ held_push c.pop.new.self.items c.in_ok-inner.inner)
    ∙ ap (λ z. part_of c.in_ok-inner.inner ∷ z) (ap held c.in_ok-outer.ensures.items ∙ held_push c.pop-2.new.self.items c.in_ok-outer.outer)
