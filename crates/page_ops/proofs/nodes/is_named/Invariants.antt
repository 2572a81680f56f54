use Rattle.std.proofs.Common.{◌≡◌, drop}
use Rattle.page_model.specs.Labels.{named}
use Rattle.page_ops.proofs.nodes.is_named.Given as goal

abbrev pub invariant-loop-attribute : goal.invariant-loop-attribute
invariant-loop-attribute l = named l.name (drop l.attribute-index l.attributes) ≡ named l.name l.attributes
