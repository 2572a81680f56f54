use Rattle.std.proofs.Common.{arith}
use Rattle.std.specs.Prelude.{slice_get}
use Rattle.sig_base.specs.Values.{scalar_value}
use Rattle.effect_model.specs.Acts.{set_cell}
use Rattle.effect_laws.proofs.SharedFrames.{framed_set}
use Rattle.effect_tables.specs.Bodies.{signal_number, target_thing}
use Rattle.effect_acts.proofs.Acts.{acted_lent, acted_undoes}
use Rattle.effect_acts.proofs.cells.set.Goals as goal

pub returns-clause-done : goal.returns-clause-done
returns-clause-done g c = λ asked a.
    acted_lent _ _ _ _ _ 1 1 (λ env. set_cell env c.cell_at-cell.result c.in_ok-value.value)
    (λ env. set_cell env (signal_number (target_thing c.args.origin (slice_get c.args.targets.now c.args.place))) (scalar_value c.args.scalar.now))
    (λ env. (λ i. set_cell env (c.cell_at-cell.ensures i) (c.in_ok-value.ensures i))) (omega arith)
    (acted_undoes _ _ _ _ _ 1 (λ env. set_cell env c.cell_at-cell.result c.in_ok-value.value) (λ env. framed_set env c.cell_at-cell.result c.in_ok-value.value) a
    (c.in_ok-set_signal.ensures.agrees asked a) c.in_ok-set_signal.ensures.told (c.in_ok-set_signal.ensures.done asked a.signals))

pub returns-clause-tables : goal.returns-clause-tables
returns-clause-tables g c = λ asked a. (c.in_ok-set_signal.ensures.done asked a.signals).tables
