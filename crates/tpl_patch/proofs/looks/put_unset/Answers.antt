use Rattle.std.proofs.Common.{ap, map}
use Rattle.page_model.specs.Forest.{label_in}
use Rattle.page_model.specs.Labels.{Root}
use Rattle.page_model.specs.Replay.{OpUnattr}
use Rattle.page_ops.specs.Ops.{op_of}
use Rattle.page_tree.specs.Queries.{attribute_value}
use Rattle.tpl_patch.proofs.Said.{no_unset, one_unset, pushed}
use Rattle.tpl_patch.proofs.looks.put_unset.Goals as goal

pub returns-in_default : goal.returns-in_default
returns-in_default c =
    no_unset c.args.number c.args.name.now (attribute_value c.args.name.now (label_in Root c.args.number c.args.tree.now)) (map op_of c.args.ops.now.items) c.in_default.ensures

pub returns : goal.returns
returns c =
    one_unset c.args.number c.args.name.now (attribute_value c.args.name.now (label_in Root c.args.number c.args.tree.now)) _ (map op_of c.args.ops.now.items)
    (map op_of c.push.new.self.items) c.in-Some.ensures
    (pushed c.args.ops.now.items c.push.new.self.items _ (OpUnattr c.args.number c.args.name.now) c.in_ok-push.ensures.items (ap (OpUnattr c.args.number) c.in_ok-name.ensures))
