use Rattle.std.proofs.Common.{◌++◌, ◌∷◌, [], map, None, refl, ap, sym, arith}
use Rattle.std.proofs.lemmas.List.{length-map}
use Rattle.std.specs.Rc.{rc_value}
use Rattle.effect_model.specs.Runs.{make_child}
use Rattle.effect_model.specs.Worlds as plain
use Rattle.effect_model.specs.Worlds.{made_child}
use Rattle.effect_tables.specs.Children.{with_child}
use Rattle.effect_tables.specs.Bodies.{body_of}
use Rattle.effect_tables.specs.Placed.{effect_of}
use Rattle.effect_tables.proofs.Shared.{added_heard}
use Rattle.effect_teardown.specs.Sites.{parts_of}
use Rattle.effect_teardown.proofs.SharedSites.{child_body}
use Rattle.effect_teardown.proofs.Shared.{effect_found, effect_unlisted}
use Rattle.sig_effect.specs.declared.events.Event.TheVariants as event
use Rattle.sig_effect.specs.Wholes as wholes
use Rattle.effect_world.specs.Wholes.{stores_of, whole_of}
use Rattle.effect_acts.proofs.Tabled.{acted_tabled, owned_child}
use Rattle.effect_acts.proofs.children.make_child.Goals as goal

pub returns-in_default-clause-gone : goal.returns-in_default-clause-gone
returns-in_default-clause-gone c = λ h. effect_unlisted c.args.id c.args.world.now.tables.effects.items c.in_default.ensures

pub make_child-requires-clause-stands : goal.make_child-requires-clause-stands
make_child-requires-clause-stands c =
    let f = effect_found c.args.world.now.tables.store c.args.id c.in-Some.row c.args.world.now.tables.effects.items c.in-Some.ensures c.requires.owned.tables.alive.effects in
    record { lives = f.lives; thing = f.thing }

pub returns-clause-done : goal.returns-clause-done
returns-clause-done c = λ asked slacks a.
    let s = rc_value c.args.site.now.script in
    let path = c.args.site.now.path.items in
    let b = body_of c.args.site.now.origin s (path ++ c.args.place ∷ []) in
    acted_tabled slacks c.args.world.now c.make_child.new.self c.add.new.self asked _ _ (event.Made c.in_ok-child.child c.args.id c.args.label) (made_child c.args.world.now.tables.effects_made c.args.id c.args.label)
    (λ env. make_child c.args.id c.args.label ((parts_of c.args.site.now.origin s path).bodies c.args.place)) (with_child c.args.id b) c.in_ok-child.ensures.makes.does
    (λ env. ap (λ x. make_child c.args.id c.args.label x (whole_of asked c.args.world.now)) (sym (child_body c.args.site.now.origin s path c.args.place))) refl
    (ap (λ n. made_child n c.args.id c.args.label) (sym c.in_ok-child.ensures.id)) c.in_ok-push.ensures.items (let m = c.in_ok-child.ensures.made in omega (arith, m))
    (owned_child asked c.args.world.now c.make_child.new.self c.args.id b c.in_ok-child.ensures.makes.does c.in_ok-child.ensures.makes.signals c.in_ok-child.ensures.makes.holds a.owned)
    (let e = c.len-last.ensures in
    let m = length-map c.args.world.now.tables.effects.items effect_of in
    added_heard c.len-last.result c.args.world.now.graph.state.signals c.args.world.now.heard c.add.new.self (map effect_of c.args.world.now.tables.effects.items)
    (map effect_of c.make_child.new.self.effects.items) (record { number = c.args.world.now.tables.effects_made; body = b; kept = None }) c.add.ensures (omega (arith, e, m))
    (ap (λ (w : plain.World). w.effects) (c.in_ok-child.ensures.makes.does (wholes.whole_of asked (stores_of c.args.world.now)))) a.heard) a
