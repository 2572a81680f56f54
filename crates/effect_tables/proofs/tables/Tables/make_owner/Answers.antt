use Rattle.std.proofs.Common.{◌≡◌, ◌<◌, ◌≤◌, true, refl, subst, ◌∙◌, rules}
use Rattle.std.specs.Prelude.{IsErrOf}
use Rattle.sig_owner.specs.declared.errors.OwnFault.TheVariants as fault
use Rattle.effect_model.specs.declared.limits.TheConstants.{MOST_OWNERS}
use Rattle.effect_tables.specs.declared.tables.Tables.{Tables}
use Rattle.effect_tables.specs.Owners.{living}
use Rattle.effect_tables.specs.Placed.{is_open}
use Rattle.effect_tables.proofs.Counts.{owners_counted}
use Rattle.effect_tables.specs.Things.{noted}
use Rattle.effect_tables.proofs.Creations.{open_row}
use Rattle.effect_tables.proofs.Tabled.{owner_makes}
use Rattle.effect_tables.proofs.tables.Tables.make_owner.Goals as goal

pub make_in-requires : goal.make_in-requires
make_in-requires c =
    open_row c.args.self.now.owners.items c.args.self.now.effects.items (noted c.args.self.now.things) c.args.self.now.store c.args.inside c.in_ok-outer.outer
    c.in_ok-outer.ensures.inside c.requires.numbered c.requires.alive

pub returns-in_err-row-clause-limit : goal.returns-in_err-row-clause-limit
returns-in_err-row-clause-limit c =
    subst (λ n. IsErrOf c.from_residual-in_err-row.result fault.Limit → (is_open (living 0 c.args.self.now.owners.items) c.args.inside ≡ true) × (MOST_OWNERS ≤ n))
    (owners_counted c.args.self.now c.requires) (search rules)

pub returns-clause-room : goal.returns-clause-room
returns-clause-room c = subst (λ n. n < MOST_OWNERS) (owners_counted c.args.self.now c.requires) c.in_ok-row.ensures.room

pub returns-clause-makes : goal.returns-clause-makes
returns-clause-makes c =
    let t : Tables = record {
      store = c.make_in.new.store;
      things = c.note_thing.new.things;
      owners = c.add.new.self;
      effects = c.args.self.now.effects;
      pages = c.args.self.now.pages;
      effects_made = c.args.self.now.effects_made;
      pages_made = c.args.self.now.pages_made;
    } in
    owner_makes c.args.self.now t c.args.inside c.in_ok-outer.outer c.in_ok-row.row c.of-id.result (record {
      made = c.in_ok-row.ensures.made;
      number = c.of-id.ensures ∙ c.made.ensures;
      things = c.in_ok-note_thing.ensures;
      owners = c.in_ok-add.ensures;
      effects = refl;
      pages = refl;
      effects_made = refl;
      pages_made = refl;
    })
    c.in_ok-outer.ensures.inside c.requires
