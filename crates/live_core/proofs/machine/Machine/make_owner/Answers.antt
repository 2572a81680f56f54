use Rattle.effect_tables.specs.Owners.{living}
use Rattle.effect_model.specs.Worlds.{at_rest}
use Rattle.effect_tables.specs.Placed.{is_open}
use Rattle.live_cmd.specs.declared.command.Command.TheVariants as command
use Rattle.live_model.specs.declared.names.Need.TheVariants as need
use Rattle.live_core.proofs.Rightly.{inside_open, neither, new_name, refused_at, uses_fine}
use Rattle.std.proofs.Common.{◌≡◌, true, ◌∙◌, ◌∷◌, [], ◌++◌, ◌+◌, length, refl, sym, ap, subst, arith}
use Rattle.effect_model.specs.Commands.{with_new_owner}
use Rattle.sig_effect.specs.Stores.{AreRuled}
use Rattle.effect_world.specs.Wholes.{whole_of}
use Rattle.live_model.specs.declared.names.Kind.TheVariants as kind
use Rattle.live_model.specs.Links.{owner_of}
use Rattle.live_labels.specs.Views.{labels_of}
use Rattle.live_entries.specs.declared.refusal.LimitWord.TheVariants as limit
use Rattle.effect_model.specs.declared.limits.TheConstants.{MOST_OWNERS}
use Rattle.live_core.proofs.Commands.{room_below}
use Rattle.live_core.proofs.Creations.{leaves_other, other_owner, steps_named}
use Rattle.live_core.proofs.machine.Machine.make_owner.Goals as goal

pub returns-clause-steps : goal.returns-clause-steps
returns-clause-steps c = λ hosts slacks asked sound.
    let m = c.args.self.now in
    let e = c.in_ok-id.ensures in
    let n = c.in_ok-name_owner.ensures in
    let d = e.does hosts asked sound in
    let labels = record (labels_of m.labels) { owners = m.labels.owners.items ++ c.args.name ∷ [] } in
    steps_named hosts asked m c.name_owner.new.self c.make_owner.new.world c.args.name kind.Owner c.in_ok-id.id (length m.world.tables.owners.items) labels
    (with_new_owner (owner_of m.names c.args.inside) (whole_of asked m.world)) c.new.result.items e.id
    (d.whole ∙ ap (λ o. at_rest (with_new_owner o (whole_of asked m.world))) c.owner_of-owner.ensures)
    (record { names = n.names; labels = n.labels; parts = n.parts }) c.new.ensures.items d.sound

pub returns-clause-leaves : goal.returns-clause-leaves
returns-clause-leaves c = λ hosts asked rules sound.
    let m = c.args.self.now in
    let e = c.in_ok-id.ensures in
    let n = c.in_ok-name_owner.ensures in
    let whole = (e.does hosts asked sound).whole in
    leaves_other asked rules m c.name_owner.new.self c.make_owner.new.world c.args.name kind.Owner c.in_ok-id.id
    (record (labels_of m.labels) { owners = m.labels.owners.items ++ c.args.name ∷ [] }) c.requires.ready other_owner
    (record { names = n.names; labels = n.labels; parts = n.parts }) refl refl
    (record { watchers = ap (λ x. x.made.watchers) whole; pages = ap (λ x. x.pages) whole; paged = ap (λ x. x.made.pages) whole }) e.signals
    (let a = ap (λ s. s.graph.state.worn) e.signals in let b = ap (λ x. x.made.effects) whole in omega (arith, a, b))
    (λ h. record { agrees = e.agrees asked h.agrees; ruled = subst (λ s. AreRuled rules s.graph.state.signals) (sym e.signals) h.ruled })

pub make_owner-requires-clause-open : goal.make_owner-requires-clause-open
make_owner-requires-clause-open c =
    let m = c.args.self.now in
    let fine = neither (refused_at m.world m.names c.args.name need.New) _ (uses_fine m (command.Owner c.args.name c.args.inside) c.requires.fine) in
    subst (λ o. is_open (living 0 m.world.tables.owners.items) o ≡ true) (sym c.owner_of-owner.ensures) (inside_open m.world m.names c.args.inside fine.1)

pub make_owner-requires-clause-room : goal.make_owner-requires-clause-room
make_owner-requires-clause-room c =
    room_below MOST_OWNERS (length (living 0 c.args.self.now.world.tables.owners.items)) limit.Owners c.requires.room

pub name_owner-requires : goal.name_owner-requires
name_owner-requires c =
    let m = c.args.self.now in
    new_name m.world m.names c.args.name (neither (refused_at m.world m.names c.args.name need.New) _ (uses_fine m (command.Owner c.args.name c.args.inside) c.requires.fine)).0
