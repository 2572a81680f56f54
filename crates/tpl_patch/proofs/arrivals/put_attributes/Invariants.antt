use Rattle.std.proofs.Common.{◌≡◌, ◌++◌, drop}
use Rattle.page_model.specs.Labels.{present}
use Rattle.tpl_patch.proofs.arrivals.put_attributes.Given as goal

abbrev pub invariant-loop-attribute : goal.invariant-loop-attribute
invariant-loop-attribute l = l.out.items ++ present (drop l.attribute-index l.attributes) ≡ l.initial.out.items ++ present l.attributes
