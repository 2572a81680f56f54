use Rattle.std.proofs.Common.{◌≡◌, ◌++◌, ◌∷◌, [], refl, sym, subst, ◌∙◌}
use Rattle.std.specs.Prelude.{None, Some}
use Rattle.std.specs.Rc.{rc_value}
use Rattle.effect_tables.specs.declared.tables.Tables.{Tables}
use Rattle.effect_tables.specs.declared.thing.Thing.TheVariants as a
use Rattle.effect_tables.specs.Children.{MakesEffect}
use Rattle.effect_tables.specs.Scripts.{IsFitting}
use Rattle.effect_tables.specs.Bodies.{body_of}
use Rattle.effect_tables.specs.Placed.{effect_of}
use Rattle.effect_tables.specs.Things.{noted}
use Rattle.effect_tables.proofs.Creations.{IsPut}
use Rattle.effect_tables.proofs.Tabled.{child_makes}
use Rattle.effect_tables.proofs.tables.Tables.make_child.Goals as goal

pub returns-clause-makes : goal.returns-clause-makes
returns-clause-makes c =
    let t : Tables = record {
      store = c.child_row.new.store;
      things = c.note_thing.new.things;
      owners = c.args.self.now.owners;
      effects = c.push.new.self;
      pages = c.args.self.now.pages;
      effects_made = c.in_ok-made.made;
      pages_made = c.args.self.now.pages_made;
    } in
    let e = c.in_ok-effect.ensures in
    let b = body_of c.args.site.now.origin (rc_value c.args.site.now.script) (c.args.site.now.path.items ++ c.args.place ∷ []) in
    child_makes c.args.self.now t c.args.parent c.args.row c.in_ok-effect.effect b (record {
      made = subst (λ x. x) (λ i. MakesEffect c.args.self.now.store c.child_row.new.store (Some c.args.row) (sym e.number i) (sym e.place i)) c.in_ok-own_row.ensures;
      number = e.number ∙ c.of-id.ensures;
      things = subst (λ x. x) (λ i. IsPut (noted c.args.self.now.things) (noted c.note_thing.new.things) (sym e.place i) (a.Effect (sym e.number i))) c.in_ok-note_thing.ensures;
      effects = c.in_ok-push.ensures.items;
      owners = refl;
      pages = refl;
      fits = subst IsFitting (sym e.script) c.requires.fits;
      effects_made = c.in_ok-made.ensures.ok;
      pages_made = refl;
    })
    (subst (λ k. effect_of c.in_ok-effect.effect ≡ record { number = k; body = b; kept = None }) c.of-id.ensures e.seen) c.requires.stands.thing c.requires.holds
