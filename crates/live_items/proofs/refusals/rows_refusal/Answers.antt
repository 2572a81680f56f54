use Rattle.std.proofs.Common.{◌∙◌, ℕ, ap}
use Rattle.live_model.specs.Rows.{edit_refusal, rows_at}
use Rattle.live_items.proofs.refusals.rows_refusal.Goals as goal

pub returns : goal.returns
returns c =
    let m = c.args.machine.now in
    c.in_ok-refusal.ensures
    ∙ ap (λ (n : ℕ). edit_refusal c.args.edit.now (rows_at m.world.graph.state.signals n)) (c.of-list.ensures ∙ c.number_of.ensures)
