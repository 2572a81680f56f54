use Rattle.std.proofs.Common.{arith}
use Rattle.signal_model.specs.Signals.{standing}
use Rattle.effect_model.specs.Acts.{set_cell}
use Rattle.effect_world.specs.Signals.{any_hosts}
use Rattle.effect_world.proofs.Undone.{cell_only, undoes_one}
use Rattle.effect_world.proofs.world.World.set_there.Goals as goal

pub change_cell-requires-clause-can : goal.change_cell-requires-clause-can
change_cell-requires-clause-can g c =
    record { kind = cell_only (standing c.args.self.now.graph.state.signals c.args.id) c.requires.kind; ruled = c.requires.ruled.each c.args.id }

pub returns-in-Ok-clause-done : goal.returns-in-Ok-clause-done
returns-in-Ok-clause-done g c = λ asked a.
    let e = c.in-Ok.ensures.changed in
    undoes_one _ c.args.self.now c.change_cell.new.self asked asked _ _ any_hosts any_hosts (λ env. set_cell env c.args.id c.args.value)
    (λ hosts sound. e.acts hosts asked sound) (e.agreed asked a) (λ hosts h. h) (omega arith) e.rules c.in-Ok.ensures.tables (record { given = e.given; made = e.made; worn = e.worn })

pub returns-in-Ok-clause-agrees : goal.returns-in-Ok-clause-agrees
returns-in-Ok-clause-agrees g c = λ asked a. c.in-Ok.ensures.changed.agrees asked a
