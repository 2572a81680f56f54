use Rattle.std.proofs.Common.{◌≡◌, ◌++◌, drop}
use Rattle.page_model.specs.Texts.{HaveTexts, written_attributes}
use Rattle.page_ops.proofs.writer.put_attributes.Given as goal

abbrev pub invariant-loop-attribute : goal.invariant-loop-attribute
invariant-loop-attribute l = record {
  text : l.out.items ++ written_attributes (drop l.attribute-index l.attributes) ≡ l.initial.out.items ++ written_attributes l.attributes;
  sized : HaveTexts (drop l.attribute-index l.attributes) → HaveTexts l.attributes;
}
