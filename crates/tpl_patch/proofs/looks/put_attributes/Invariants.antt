use Rattle.std.proofs.Common.{◌≡◌, ◌≤◌, ◌++◌, map, drop}
use Rattle.page_model.specs.Forest.{label_in}
use Rattle.page_model.specs.Labels.{Root}
use Rattle.page_ops.specs.Ops.{op_of}
use Rattle.page_tree.specs.Rows.{attributes_of}
use Rattle.tpl_model.specs.NextPage.KeptNodes.{attributes_told}
use Rattle.tpl_patch.proofs.looks.put_attributes.Given as goal

-- the lines so far are told, and those that are left go on from the place
abbrev pub invariant-loop-line : goal.invariant-loop-line
invariant-loop-line l = record {
  within : l.place ≤ l.line-index;
  told : map op_of l.ops.items ++ attributes_told l.number (attributes_of (label_in Root l.number l.tree)) (drop l.line-index l.attributes) l.place
      ≡ map op_of l.initial.ops.items ++ attributes_told l.number (attributes_of (label_in Root l.number l.tree)) l.attributes 0;
}
