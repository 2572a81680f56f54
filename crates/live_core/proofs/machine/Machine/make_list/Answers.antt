use Rattle.std.proofs.Common.{◌≡◌, rules, Err, None, true, ◌∙◌, ◌∷◌, [], ◌++◌, refl, sym, ap, subst, arith}
use Rattle.std.proofs.lemmas.Bool.{true≢false}
use Rattle.sig_base.specs.declared.limits.TheConstants.{MOST_NODES}
use Rattle.signal_model.specs.Changes.{live_count}
use Rattle.effect_tables.specs.Owners.{living}
use Rattle.live_entries.specs.declared.refusal.LimitWord.TheVariants as limit
use Rattle.sig_base.specs.declared.value.Value.TheVariants as value
use Rattle.live_model.specs.Rows.{no_rows}
use Rattle.signal_model.specs.Signals.{Cell}
use Rattle.effect_model.specs.Commands.{with_new_cell}
use Rattle.effect_model.specs.Worlds.{at_rest}
use Rattle.effect_tables.specs.Placed.{is_open}
use Rattle.effect_world.specs.Wholes.{whole_of}
use Rattle.live_cmd.specs.declared.command.Command.TheVariants as command
use Rattle.live_model.specs.declared.names.Kind.TheVariants as kind
use Rattle.live_model.specs.declared.names.Need.TheVariants as need
use Rattle.live_model.specs.Links.{owner_of}
use Rattle.live_labels.specs.Views.{labels_of}
use Rattle.live_core.proofs.Rightly.{inside_open, neither, new_name, refused_at, uses_fine}
use Rattle.live_core.proofs.Commands.{not_most, only_three, room_below}
use Rattle.live_core.proofs.Creations.{beside_cell, here_list, leaves_signal, steps_named}
use Rattle.live_core.proofs.machine.Machine.make_list.Goals as goal

pub returns-clause-steps : goal.returns-clause-steps
returns-clause-steps c = λ hosts slacks asked sound.
    let m = c.args.self.now in
    let new = c.name_signal.new.self in
    let e = c.in_ok-id.ensures in
    let n = c.in_ok-name_signal.ensures in
    let d = e.does hosts asked sound in
    let labels = record (labels_of m.labels) { signals = m.labels.signals.items ++ c.args.name ∷ [] } in
    steps_named hosts asked m new c.make_cell.new.self c.args.name kind.List c.in_ok-id.id m.world.graph.given labels
    (with_new_cell (value.Rows (no_rows c.args.fields.now)) None (owner_of m.names c.args.inside) (whole_of asked m.world)) c.new.result.items e.made.next
    (d.whole ∙ (λ i. at_rest (with_new_cell (c.in_ok-rows.ensures i) None (c.owner_of-owner.ensures i) (whole_of asked m.world))))
    (record { names = n.names; labels = n.labels; parts = n.parts }) c.new.ensures.items d.sound

pub returns-clause-leaves : goal.returns-clause-leaves
returns-clause-leaves c = λ hosts asked rules sound.
    let m = c.args.self.now in
    let new = c.name_signal.new.self in
    let e = c.in_ok-id.ensures in
    let n = c.in_ok-name_signal.ensures in
    let whole = (e.does hosts asked sound).whole in
    let cell : Cell = record { name = m.world.graph.given; value = c.in_ok-rows.rows; rule = None } in
    let signals = ap (λ x. x.signals) whole in
    let labels = record (labels_of m.labels) { signals = m.labels.signals.items ++ c.args.name ∷ [] } in
    leaves_signal asked rules m new c.make_cell.new.self c.args.name kind.List c.in_ok-id.id labels c.requires.ready refl e.made.next
    (record { names = n.names; labels = n.labels; parts = n.parts }) refl refl
    (record { watchers = ap (λ x. x.made.watchers) whole; pages = ap (λ x. x.pages) whole; paged = ap (λ x. x.made.pages) whole })
    e.made.given
    (beside_cell m.world.graph.state.signals c.make_cell.new.self.graph.state.signals cell signals)
    (here_list m.world.graph.state.signals c.make_cell.new.self.graph.state.signals cell signals)
    c.requires.alone (let a = e.made.worn in let b = ap (λ x. x.made.effects) whole in omega (arith, a, b))
    (λ h. record { agrees = e.agrees asked h.agrees; ruled = e.ruled rules (λ r is. absurd cc) h.ruled })

pub returns-in_err-id-clause-memory : goal.returns-in_err-id-clause-memory
returns-in_err-id-clause-memory c =
    let m = c.args.self.now in
    let fine = neither (refused_at m.world m.names c.args.name need.New) _ (uses_fine m (command.List c.args.name c.args.fields.now c.args.inside) c.requires.fine) in
    let opened : is_open (living 0 m.world.tables.owners.items) c.owner_of-owner.result ≡ true =
    subst (λ o. is_open (living 0 m.world.tables.owners.items) o ≡ true) (sym c.owner_of-owner.ensures) (inside_open m.world m.names c.args.inside fine.1) in
    let room = room_below MOST_NODES (live_count m.world.graph.state.signals) limit.Nodes c.requires.room in
    let f = only_three _ (λ e. true≢false (sym opened ∙ c.in_err-id.ensures.refuses.0.0 (ap (λ x. Err x) e))) (λ e. not_most _ MOST_NODES room (c.in_err-id.ensures.refuses.1.0 (ap (λ x. Err x) e)).1) in
    search rules

pub name_signal-requires : goal.name_signal-requires
name_signal-requires c =
    let m = c.args.self.now in
    new_name m.world m.names c.args.name (neither (refused_at m.world m.names c.args.name need.New) _ (uses_fine m (command.List c.args.name c.args.fields.now c.args.inside) c.requires.fine)).0
