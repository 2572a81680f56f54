use Rattle.std.proofs.Common.{rules, Err, ◌≡◌, ◌∙◌, ◌∷◌, [], ◌++◌, ℕ, true, refl, sym, ap, subst, arith}
use Rattle.std.proofs.lemmas.Bool.{true≢false}
use Rattle.sig_base.specs.declared.limits.TheConstants.{MOST_NODES}
use Rattle.signal_model.specs.Changes.{live_count}
use Rattle.effect_tables.specs.Owners.{living}
use Rattle.live_entries.specs.declared.refusal.LimitWord.TheVariants as limit
use Rattle.std.specs.List.{All}
use Rattle.signal_model.specs.Recipes.{Recipe}
use Rattle.signal_model.specs.Signals.{Computed}
use Rattle.effect_model.specs.Acts.{host_of, with_use}
use Rattle.effect_model.specs.Commands.{with_new_computed}
use Rattle.effect_model.specs.Worlds.{at_rest}
use Rattle.effect_tables.specs.Placed.{is_open}
use Rattle.sig_nodes.specs.Answers.{expression_of}
use Rattle.sig_nodes.specs.Computations.{recipe_made}
use Rattle.sig_graph.specs.States.{is_given}
use Rattle.effect_world.specs.Wholes.{whole_of}
use Rattle.live_cmd.specs.declared.command.Command.TheVariants as command
use Rattle.live_model.specs.declared.names.Kind.TheVariants as kind
use Rattle.live_model.specs.declared.names.Need.TheVariants as need
use Rattle.live_model.specs.Links.{owner_of, recipe_of}
use Rattle.live_model.specs.Uses.{uses_of_inside, uses_of_source}
use Rattle.live_labels.specs.Views.{labels_of}
use Rattle.live_core.proofs.Rightly.{inside_open, neither, new_name, parted, refused_at, uses_fine}
use Rattle.live_core.proofs.Commands.{every, few_made, few_slots, free_made, host_fine, made_for, none_next, not_most, only_three, paged_for, room_below, source_used, stood_for}
use Rattle.live_core.proofs.Creations.{beside_computed, here_computed, leaves_signal, steps_named}
use Rattle.live_core.proofs.machine.Machine.make_computed.Goals as goal

pub make_computed-requires-clause-links : goal.make_computed-requires-clause-links
make_computed-requires-clause-links c =
    let m = c.args.self.now in
    let fine = neither (refused_at m.world m.names c.args.name need.New) _ (uses_fine m (command.Computed c.args.name c.args.source c.args.inside) c.requires.fine) in
    let named = parted m.world m.names (uses_of_source c.args.source) (uses_of_inside c.args.inside) fine.1 in
    record {
      given = subst (λ (r : Recipe). All (λ (n : ℕ). is_given m.world.graph n ≡ true) r.slots) (sym c.in_ok-linked.ensures)
          (every (λ n. is_given m.world.graph n ≡ true) (recipe_of m.names c.args.source).slots (source_used m.world _ m.names c.args.source c.requires.ready.meant named.0).given);
      few = few_made (recipe_made (expression_of c.in_ok-linked.linked.recipe) c.in_ok-linked.linked.slots.items) (recipe_of m.names c.args.source) c.in_ok-linked.ensures
          (few_slots m.names c.args.source c.requires.few);
    }

pub returns-clause-steps : goal.returns-clause-steps
returns-clause-steps c = λ hosts slacks asked agrees free sound.
    let m = c.args.self.now in
    let new = c.name_signal.new.self in
    let e = c.in_ok-id.ensures in
    let n = c.in_ok-name_signal.ensures in
    let r : Recipe = recipe_of m.names c.args.source in
    let made = recipe_made (expression_of c.in_ok-linked.linked.recipe) c.in_ok-linked.linked.slots.items in
    let d = e.does hosts asked agrees (free_made (whole_of asked m.world) made r c.in_ok-linked.ensures (host_fine (whole_of asked m.world) m.names c.args.source free)) sound in
    let labels = record (labels_of m.labels) { signals = m.labels.signals.items ++ c.args.name ∷ [] } in
    steps_named hosts asked m new c.make_computed.new.self c.args.name kind.Computed c.in_ok-id.id m.world.graph.given labels
    (with_use (host_of r.expression) (with_new_computed r (owner_of m.names c.args.inside) (whole_of asked m.world))) c.new.result.items e.made.next
    (d.whole
    ∙ (λ i. at_rest (with_use (host_of (c.in_ok-linked.ensures i).expression) (with_new_computed (c.in_ok-linked.ensures i) (c.owner_of-owner.ensures i) (whole_of asked m.world)))))
    (record { names = n.names; labels = n.labels; parts = n.parts }) c.new.ensures.items d.sound

pub returns-clause-leaves : goal.returns-clause-leaves
returns-clause-leaves c = λ hosts asked rules sound agrees free.
    let m = c.args.self.now in
    let new = c.name_signal.new.self in
    let e = c.in_ok-id.ensures in
    let n = c.in_ok-name_signal.ensures in
    let made = recipe_made (expression_of c.in_ok-linked.linked.recipe) c.in_ok-linked.linked.slots.items in
    let opened = free_made (whole_of asked m.world) made (recipe_of m.names c.args.source) c.in_ok-linked.ensures (host_fine (whole_of asked m.world) m.names c.args.source free) in
    let whole = (e.does hosts asked agrees opened sound).whole in
    let computed : Computed = record { name = m.world.graph.given; recipe = made } in
    let signals = ap (λ x. x.signals) whole ∙ stood_for (host_of made.expression) _ in
    leaves_signal asked rules m new c.make_computed.new.self c.args.name kind.Computed c.in_ok-id.id (record (labels_of m.labels) { signals = m.labels.signals.items ++ c.args.name ∷ [] })
    c.requires.ready refl e.made.next (record { names = n.names; labels = n.labels; parts = n.parts }) refl refl
    (record {
      watchers = ap (λ x. x.made.watchers) whole ∙ ap (λ x. x.watchers) (made_for (host_of made.expression) _);
      pages = ap (λ x. x.pages) whole ∙ paged_for (host_of made.expression) _;
      paged = ap (λ x. x.made.pages) whole ∙ ap (λ x. x.pages) (made_for (host_of made.expression) _);
    })
    e.made.given
    (beside_computed m.world.graph.state.signals c.make_computed.new.self.graph.state.signals computed signals)
    (here_computed m.world.graph.state.signals c.make_computed.new.self.graph.state.signals computed (none_next m.world.graph c.made-made.ensures.used) signals)
    c.requires.alone
    (let a = e.made.worn in
    let b = ap (λ x. x.made.effects) whole ∙ ap (λ x. x.effects) (made_for (host_of made.expression) _) in omega (arith, a, b))
    (λ h. record { agrees = e.agrees asked h.agrees opened; ruled = e.ruled rules h.ruled })

pub returns-in_err-id-clause-memory : goal.returns-in_err-id-clause-memory
returns-in_err-id-clause-memory c =
    let m = c.args.self.now in
    let fine = neither (refused_at m.world m.names c.args.name need.New) _ (uses_fine m (command.Computed c.args.name c.args.source c.args.inside) c.requires.fine) in
    let opened : is_open (living 0 m.world.tables.owners.items) c.owner_of-owner.result ≡ true =
    subst (λ o. is_open (living 0 m.world.tables.owners.items) o ≡ true) (sym c.owner_of-owner.ensures) (inside_open m.world m.names c.args.inside (parted m.world m.names (uses_of_source c.args.source) (uses_of_inside c.args.inside) fine.1).1) in
    let room = room_below MOST_NODES (live_count m.world.graph.state.signals) limit.Nodes c.requires.room in
    let f = only_three _ (λ e. true≢false (sym opened ∙ c.in_err-id.ensures.refuses.0.0 (ap (λ x. Err x) e))) (λ e. not_most _ MOST_NODES room (c.in_err-id.ensures.refuses.1.0 (ap (λ x. Err x) e)).1) in
    search rules

pub name_signal-requires : goal.name_signal-requires
name_signal-requires c =
    let m = c.args.self.now in
    new_name m.world m.names c.args.name (neither (refused_at m.world m.names c.args.name need.New) _ (uses_fine m (command.Computed c.args.name c.args.source c.args.inside) c.requires.fine)).0
