use Rattle.std.proofs.Common.{sym, ap, ◌∙◌, map}
use Rattle.page_model.specs.Forest.{label_in}
use Rattle.page_model.specs.Labels.{Root}
use Rattle.page_model.specs.Replay.{OpText}
use Rattle.page_ops.specs.Ops.{op_of}
use Rattle.tpl_patch.proofs.Said.{no_text, other_text, pushed, same_text}
use Rattle.tpl_patch.proofs.looks.put_text.Goals as goal

pub returns-in_default : goal.returns-in_default
returns-in_default c = no_text c.args.number (label_in Root c.args.number c.args.tree.now) c.args.text.now (map op_of c.args.ops.now.items) c.in_default.ensures

pub returns-then-same : goal.returns-then-same
returns-then-same c =
    same_text c.args.number (label_in Root c.args.number c.args.tree.now) c.in-Some.now.now c.args.text.now (map op_of c.args.ops.now.items) c.in-Some.ensures
    (sym c.same.ensures ∙ c.if-same.true)

pub returns : goal.returns
returns c =
    other_text c.args.number (label_in Root c.args.number c.args.tree.now) c.in-Some.now.now c.args.text.now (map op_of c.args.ops.now.items) (map op_of c.push_reserved.new.self.items)
    c.in-Some.ensures (sym c.same.ensures ∙ c.if-same.false)
    (pushed c.args.ops.now.items c.push_reserved.new.self.items _ (OpText c.args.number c.args.text.now) (rw c.in_ok-reserve.ensures.items at c.push_reserved.ensures.items) (ap (OpText c.args.number) c.in_ok-text.ensures))
