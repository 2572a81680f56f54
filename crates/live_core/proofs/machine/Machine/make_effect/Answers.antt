use Rattle.effect_tables.specs.Owners.{living}
use Rattle.effect_model.specs.Worlds.{at_rest}
use Rattle.effect_tables.specs.Placed.{is_open}
use Rattle.live_cmd.specs.declared.command.Command.TheVariants as command
use Rattle.live_model.specs.declared.names.Need.TheVariants as need
use Rattle.live_core.proofs.Rightly.{inside_open, neither, new_name, refused_at, uses_fine}
use Rattle.std.proofs.Common.{true, ◌≡◌, ◌∙◌, [], Some, refl, sym, ap, subst, arith}
use Rattle.effect_model.specs.Commands.{with_new_effect}
use Rattle.sig_untrack.specs.Stated.{no_bodies}
use Rattle.effect_tables.specs.Scripts.{AreFitting}
use Rattle.effect_tables.specs.Bodies.{body_along, body_of}
use Rattle.sig_effect.specs.Stores.{AreRuled}
use Rattle.effect_world.specs.Wholes.{whole_of}
use Rattle.live_model.specs.declared.names.Kind.TheVariants as kind
use Rattle.live_model.specs.Labels.{named, with_label}
use Rattle.live_model.specs.Links.{linked_body, links_of, owner_of}
use Rattle.live_labels.specs.Views.{labels_of}
use Rattle.live_linking.proofs.Shared.{fit_links}
use Rattle.live_core.proofs.Creations.{leaves_other, other_effect, steps_named}
use Rattle.live_core.proofs.machine.Machine.make_effect.Goals as goal

pub returns-clause-steps : goal.returns-clause-steps
returns-clause-steps c = λ hosts slacks asked sound.
    let m = c.args.self.now in
    let e = c.in_ok-id.ensures in
    let n = c.in_ok-name_effect.ensures in
    let d = e.does hosts asked sound in
    let number = m.world.tables.effects_made in
    let labels = record (labels_of m.labels) { effects = with_label number (Some (named c.args.name)) (labels_of m.labels).effects } in
    let body : body_of number (record { body = c.into_body.result; links = c.in_ok-links.links }) [] ≡ linked_body m.names c.args.name number c.args.body =
    (λ i. body_along number (c.into_body.ensures i)
    ((c.in_ok-links.ensures no_bodies ∙ (λ i. links_of m.names (c.as_str.ensures i) (c.as_body.ensures i))) i) 0 []) in
    steps_named hosts asked m c.name_effect.new.self c.make_effect.new.world c.args.name kind.Effect c.in_ok-id.id number labels
    (with_new_effect (linked_body m.names c.args.name number c.args.body) (owner_of m.names c.args.inside) (whole_of asked m.world)) c.new.result.items e.id
    (d.whole ∙ (λ i. at_rest (with_new_effect (body i) (c.owner_of-owner.ensures i) (whole_of asked m.world))))
    (record {
      names = n.names;
      labels = n.labels ∙ ap (λ k. record (labels_of m.labels) { effects = with_label k (Some (named c.args.name)) (labels_of m.labels).effects }) e.id;
      parts = n.parts;
    }) c.new.ensures.items d.sound

pub returns-clause-leaves : goal.returns-clause-leaves
returns-clause-leaves c = λ hosts asked rules sound.
    let m = c.args.self.now in
    let e = c.in_ok-id.ensures in
    let n = c.in_ok-name_effect.ensures in
    let whole = (e.does hosts asked sound).whole in
    leaves_other asked rules m c.name_effect.new.self c.make_effect.new.world c.args.name kind.Effect c.in_ok-id.id
    (record (labels_of m.labels) { effects = with_label c.in_ok-id.id (Some (named c.args.name)) (labels_of m.labels).effects }) c.requires.ready other_effect
    (record { names = n.names; labels = n.labels; parts = n.parts }) refl refl
    (record { watchers = ap (λ x. x.made.watchers) whole; pages = ap (λ x. x.pages) whole; paged = ap (λ x. x.made.pages) whole }) e.signals
    (let a = ap (λ s. s.graph.state.worn) e.signals in let b = ap (λ x. x.made.effects) whole in omega (arith, a, b))
    (λ h. record { agrees = e.agrees asked h.agrees; ruled = subst (λ s. AreRuled rules s.graph.state.signals) (sym e.signals) h.ruled })

pub make_effect-requires-clause-open : goal.make_effect-requires-clause-open
make_effect-requires-clause-open c =
    let m = c.args.self.now in
    let fine = neither (refused_at m.world m.names c.args.name need.New) _ (uses_fine m (command.Effect c.args.name c.args.body c.args.inside) c.requires.fine) in
    subst (λ o. is_open (living 0 m.world.tables.owners.items) o ≡ true) (sym c.owner_of-owner.ensures) (inside_open m.world m.names c.args.inside fine.1)

pub name_effect-requires : goal.name_effect-requires
name_effect-requires c =
    let m = c.args.self.now in
    new_name m.world m.names c.args.name (neither (refused_at m.world m.names c.args.name need.New) _ (uses_fine m (command.Effect c.args.name c.args.body c.args.inside) c.requires.fine)).0

pub make_effect-requires-clause-fitting : goal.make_effect-requires-clause-fitting
make_effect-requires-clause-fitting c =
    let m = c.args.self.now in
    let links = c.in_ok-links.ensures no_bodies ∙ (λ i. links_of m.names (c.as_str.ensures i) (c.as_body.ensures i)) in
    record {
      fits = subst (λ x. x) (λ i. AreFitting (sym c.into_body.ensures i) (sym links i))
          (fit_links m.names c.args.name c.args.body c.requires.fit);
    }
