use Rattle.std.proofs.Common.{◌∙◌}
use Rattle.live_cmd.specs.declared.command.Command.TheVariants as command
use Rattle.live_model.specs.declared.names.Kind.TheVariants as kind
use Rattle.live_model.specs.declared.names.Need.TheVariants as need
use Rattle.live_core.proofs.Rightly.{neither, refused_at, uses_fine}
use Rattle.live_core.proofs.Settable.{cell_stands}
use Rattle.live_core.proofs.Batched.{setting_as}
use Rattle.live_core.proofs.machine.Machine.set.Goals as goal

pub set_value-requires-clause-kind : goal.set_value-requires-clause-kind
set_value-requires-clause-kind g c =
    let m = c.args.self.now in
    let fine = neither (refused_at m.world m.names c.args.name.now (need.Of kind.Cell)) _ (uses_fine m (command.Set c.args.name.now c.args.value) c.requires.fine) in
    (cell_stands m c.args.name.now c.of-cell.result c.requires.ready.meant fine.0 (c.of-cell.ensures ∙ c.number_of.ensures)).0

pub set_value-requires-clause-there : goal.set_value-requires-clause-there
set_value-requires-clause-there g c =
    let m = c.args.self.now in
    let fine = neither (refused_at m.world m.names c.args.name.now (need.Of kind.Cell)) _ (uses_fine m (command.Set c.args.name.now c.args.value) c.requires.fine) in
    (cell_stands m c.args.name.now c.of-cell.result c.requires.ready.meant fine.0 (c.of-cell.ensures ∙ c.number_of.ensures)).1

pub returns-clause-steps : goal.returns-clause-steps
returns-clause-steps g c = λ hosts asked sound.
    setting_as hosts _ asked c.args.self.now _ _ _ _ _ _ (c.of-cell.ensures ∙ c.number_of.ensures) c.into.ensures (c.in_ok-told.ensures.steps hosts asked sound)
