use Rattle.std.proofs.Common.{◌∙◌, refl, ap}
use Rattle.signal_model.specs.Signals.{is_there, standing}
use Rattle.live_cmd.specs.declared.command.Command.TheVariants as command
use Rattle.live_cmd.specs.declared.command.Verb.TheVariants as verb
use Rattle.live_model.specs.declared.names.Kind.TheVariants as kind
use Rattle.live_model.specs.declared.names.Need.TheVariants as need
use Rattle.live_core.specs.Consistency.{is_of_kind}
use Rattle.live_core.proofs.Rightly.{kind_used, neither, refused_at, used_of, uses_fine}
use Rattle.live_core.proofs.Commands.{computed_is}
use Rattle.live_core.proofs.machine.Machine.state.Goals as goal

pub mark_of-requires : goal.mark_of-requires
mark_of-requires c =
    let m = c.args.self.now in
    let fine = neither (refused_at m.world m.names c.args.name (need.Of kind.Computed)) _ (uses_fine m (command.Named verb.State c.args.name) c.requires.fine) in
    let is = kind_used m.world _ m.names c.args.name kind.Computed refl c.requires.ready.meant (used_of m.world m.names c.args.name kind.Computed fine.0) in
    let n = c.of-computed.ensures ∙ c.number_of.ensures in
    computed_is (standing m.world.graph.state.signals c.of-computed.result)
    (ap (λ i. is_there (standing m.world.graph.state.signals i)) n ∙ is.0.there)
    (ap (λ i. is_of_kind kind.Computed (standing m.world.graph.state.signals i)) n ∙ is.1)
