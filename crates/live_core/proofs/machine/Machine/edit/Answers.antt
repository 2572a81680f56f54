use Rattle.std.proofs.Common.{◌≡◌, ◌∙◌, ℕ, None, refl, sym, ap, subst}
use Rattle.sig_base.specs.declared.value.Value.TheVariants as value
use Rattle.live_model.specs.Rows.{edit_refusal, edited, rows_at}
use Rattle.signal_model.specs.Signals.{is_there, standing}
use Rattle.live_cmd.specs.declared.command.Command.TheVariants as command
use Rattle.live_model.specs.declared.names.Kind.TheVariants as kind
use Rattle.live_model.specs.declared.names.Need.TheVariants as need
use Rattle.live_core.specs.Consistency.{is_of_kind}
use Rattle.live_core.proofs.Rightly.{kind_used, neither, refused_at, used_of, uses_fine}
use Rattle.live_core.proofs.Commands.{list_is}
use Rattle.live_core.proofs.Batched.{setting_as}
use Rattle.live_core.proofs.machine.Machine.edit.Goals as goal

pub set_value-requires-clause-kind : goal.set_value-requires-clause-kind
set_value-requires-clause-kind g c =
    let m = c.args.self.now in
    let fine = neither (refused_at m.world m.names c.args.name.now (need.Of kind.List)) _ (uses_fine m (command.Edit c.args.name.now c.args.edit.now) c.requires.fine) in
    let is = kind_used m.world _ m.names c.args.name.now kind.List refl c.requires.ready.meant (used_of m.world m.names c.args.name.now kind.List fine.0) in
    list_is (standing m.world.graph.state.signals c.of-list.result)
    (ap (λ i. is_of_kind kind.List (standing m.world.graph.state.signals i)) (c.of-list.ensures ∙ c.number_of.ensures) ∙ is.1)

pub set_value-requires-clause-there : goal.set_value-requires-clause-there
set_value-requires-clause-there g c =
    let m = c.args.self.now in
    let fine = neither (refused_at m.world m.names c.args.name.now (need.Of kind.List)) _ (uses_fine m (command.Edit c.args.name.now c.args.edit.now) c.requires.fine) in
    let is = kind_used m.world _ m.names c.args.name.now kind.List refl c.requires.ready.meant (used_of m.world m.names c.args.name.now kind.List fine.0) in
    ap (λ i. is_there (standing m.world.graph.state.signals i)) (c.of-list.ensures ∙ c.number_of.ensures) ∙ is.0.there

pub returns-clause-steps : goal.returns-clause-steps
returns-clause-steps g c = λ hosts asked sound.
    let m = c.args.self.now in
    let n = c.of-list.ensures ∙ c.number_of.ensures in
    setting_as hosts _ asked m _ _ _ _ _ _ n
    (ap value.Rows (c.in_ok-rows.ensures ∙ ap (λ (i : ℕ). edited c.args.edit.now (rows_at m.world.graph.state.signals i)) n))
    (c.in_ok-told.ensures.steps hosts asked sound)

pub edited_rows-requires : goal.edited_rows-requires
edited_rows-requires g c =
    let m = c.args.self.now in
    subst (λ (n : ℕ). edit_refusal c.args.edit.now (rows_at m.world.graph.state.signals n) ≡ None) (sym (c.of-list.ensures ∙ c.number_of.ensures)) c.requires.fits
