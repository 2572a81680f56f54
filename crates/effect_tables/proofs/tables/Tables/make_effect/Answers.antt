use Rattle.std.proofs.Common.{◌≡◌, [], refl, sym, subst, ◌∙◌}
use Rattle.std.specs.Prelude.{None}
use Rattle.effect_tables.specs.declared.tables.Tables.{Tables}
use Rattle.effect_tables.specs.declared.thing.Thing.TheVariants as a
use Rattle.effect_tables.specs.Children.{MakesEffect}
use Rattle.effect_tables.specs.Scripts.{IsFitting}
use Rattle.effect_tables.specs.Bodies.{body_of}
use Rattle.effect_tables.specs.Placed.{effect_of}
use Rattle.effect_tables.specs.Things.{noted}
use Rattle.effect_tables.proofs.Creations.{IsPut, open_row}
use Rattle.effect_tables.proofs.Tabled.{effect_makes}
use Rattle.effect_tables.proofs.tables.Tables.make_effect.Goals as goal

pub make_for_in-requires-clause-open : goal.make_for_in-requires-clause-open
make_for_in-requires-clause-open c =
    open_row c.args.self.now.owners.items c.args.self.now.effects.items (noted c.args.self.now.things) c.args.self.now.store c.args.inside c.in_ok-outer.outer
    c.in_ok-outer.ensures.inside c.requires.holds.numbered c.requires.holds.alive

pub returns-clause-makes : goal.returns-clause-makes
returns-clause-makes c =
    let t : Tables = record {
      store = c.make_for_in.new.store;
      things = c.note_thing.new.things;
      owners = c.args.self.now.owners;
      effects = c.push.new.self;
      pages = c.args.self.now.pages;
      effects_made = c.in_ok-made.made;
      pages_made = c.args.self.now.pages_made;
    } in
    let e = c.in_ok-effect.ensures in
    effect_makes c.args.self.now t c.args.inside c.in_ok-outer.outer c.in_ok-effect.effect c.args.script (record {
      made = subst (λ x. x) (λ i. MakesEffect c.args.self.now.store c.make_for_in.new.store c.in_ok-outer.outer (sym e.number i) (sym e.place i)) c.in_ok-row.ensures.made;
      number = e.number ∙ c.of-id.ensures;
      things = subst (λ x. x) (λ i. IsPut (noted c.args.self.now.things) (noted c.note_thing.new.things) (sym e.place i) (a.Effect (sym e.number i))) c.in_ok-note_thing.ensures;
      effects = c.in_ok-push.ensures.items;
      owners = refl;
      pages = refl;
      fits = subst IsFitting (sym e.script) c.requires.fits;
      effects_made = c.in_ok-made.ensures.ok;
      pages_made = refl;
    })
    (subst (λ k. effect_of c.in_ok-effect.effect ≡ record { number = k; body = body_of k c.args.script []; kept = None }) c.of-id.ensures e.seen)
    c.in_ok-outer.ensures.inside c.requires.holds
