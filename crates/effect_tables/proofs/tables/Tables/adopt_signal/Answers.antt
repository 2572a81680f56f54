use Rattle.std.proofs.Common.{refl}
use Rattle.effect_tables.specs.declared.tables.Tables.{Tables}
use Rattle.effect_tables.proofs.Tabled.{signal_makes}
use Rattle.effect_tables.proofs.tables.Tables.adopt_signal.Goals as goal

pub returns-clause-makes : goal.returns-clause-makes
returns-clause-makes c =
    let t : Tables = record {
      store = c.adopt_in.new.store;
      things = c.args.self.now.things;
      owners = c.args.self.now.owners;
      effects = c.args.self.now.effects;
      pages = c.args.self.now.pages;
      effects_made = c.args.self.now.effects_made;
      pages_made = c.args.self.now.pages_made;
    } in
    signal_makes c.args.self.now t c.in_ok-outer.outer c.args.id c.in_ok-adopt_in.ensures.adopts refl c.args.inside
    c.in_ok-outer.ensures.inside c.requires.holds
