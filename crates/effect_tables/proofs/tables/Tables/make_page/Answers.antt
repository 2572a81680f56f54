use Rattle.std.proofs.Common.{refl}
use Rattle.effect_tables.specs.declared.tables.Tables.{Tables}
use Rattle.effect_tables.proofs.Tabled.{page_makes}
use Rattle.effect_tables.proofs.tables.Tables.make_page.Goals as goal

pub returns-clause-makes : goal.returns-clause-makes
returns-clause-makes c =
    let t : Tables = record {
      store = c.adopt_in.new.store;
      things = c.args.self.now.things;
      owners = c.args.self.now.owners;
      effects = c.args.self.now.effects;
      pages = c.push.new.self;
      effects_made = c.args.self.now.effects_made;
      pages_made = c.in_ok-made.made;
    } in
    page_makes c.args.self.now t c.args.inside c.in_ok-outer.outer c.of-id.result (record {
      adopts = c.in_ok-adopt_in.ensures.adopts;
      number = c.of-id.ensures;
      pages = c.in_ok-push.ensures.items;
      things = refl;
      owners = refl;
      effects = refl;
      effects_made = refl;
      pages_made = c.in_ok-made.ensures.ok;
    })
    c.in_ok-outer.ensures.inside c.requires.holds
