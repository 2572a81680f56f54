use Rattle.std.proofs.Common.{drop}
use Rattle.std.specs.Option.{option_copied}
use Rattle.tpl_model.specs.Shapes.{row_here}
use Rattle.tpl_scratch.specs.Pages.{attributes_in}
use Rattle.tpl_scratch.proofs.Parts.{AreLeft}
use Rattle.tpl_scratch.proofs.show.attributes_here.Given as goal

abbrev pub invariant-loop-attribute : goal.invariant-loop-attribute
invariant-loop-attribute l =
    AreLeft l.known l.ends (row_here (option_copied l.here)) (attributes_in l.attributes) (attributes_in (drop l.attribute-index l.attributes)) l.values.items l.failed
