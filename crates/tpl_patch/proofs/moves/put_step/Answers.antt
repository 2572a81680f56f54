use Rattle.std.proofs.Common.{◌∷◌, ◌++◌, sym, ap, ◌∙◌, map}
use Rattle.page_ops.specs.Ops.{op_of}
use Rattle.tpl_patch.specs.Spelled.{spelled}
use Rattle.tpl_patch.proofs.Operations.{move_spelled, side}
use Rattle.tpl_patch.proofs.moves.put_step.Goals as goal

pub returns-in_ok-put_move-in-Move : goal.returns-in_ok-put_move-in-Move
returns-in_ok-put_move-in-Move c = λ ns steps.
    let os = map op_of c.args.ops.now.items in
    let u = side c.args.waiting.now.items in
    move_spelled c.args.parent c.args.place c.args.number c.in-Move.field-0 ns steps u os (map op_of c.put_move.new.ops.items) c.in_ok-put_move-in-Move.ensures
    ∙ ap (λ z. os ++ spelled c.args.parent c.args.place (c.args.number ∷ ns) (z ∷ steps) u) (sym c.in-Move.is)

pub returns-in_ok-put_arrival-in-Insert : goal.returns-in_ok-put_arrival-in-Insert
returns-in_ok-put_arrival-in-Insert c = λ ns steps.
    c.in_ok-put_arrival-in-Insert.ensures c.args.number c.in-Insert.field-0 ns steps
    ∙ ap (λ z. map op_of c.args.ops.now.items ++ spelled c.args.parent c.args.place (c.args.number ∷ ns) (z ∷ steps) (side c.args.waiting.now.items)) (sym c.in-Insert.is)
