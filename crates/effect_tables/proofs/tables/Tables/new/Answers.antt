use Rattle.std.proofs.Common.{refl}
use Rattle.effect_tables.specs.declared.tables.Tables.{Tables}
use Rattle.effect_tables.proofs.Start.{bare_holds, bare_placed}
use Rattle.effect_tables.proofs.tables.Tables.new.Goals as goal

pub returns-clause-placed : goal.returns-clause-placed
returns-clause-placed c =
    let t : Tables = record {
      store = c.in_ok-store.store;
      things = c.new-things.result;
      owners = c.new-owners.result;
      effects = c.new-effects.result;
      pages = c.new-pages.result;
      effects_made = 0;
      pages_made = 0;
    } in
    bare_placed t (record {
      store = c.in_ok-store.ensures.after;
      tree = c.in_ok-store.ensures.tree;
      owners = c.new-owners.ensures;
      effects = c.new-effects.ensures.items;
      pages = c.new-pages.ensures.items;
      effects_made = refl;
      pages_made = refl;
    })

pub returns-clause-holds : goal.returns-clause-holds
returns-clause-holds c =
    let t : Tables = record {
      store = c.in_ok-store.store;
      things = c.new-things.result;
      owners = c.new-owners.result;
      effects = c.new-effects.result;
      pages = c.new-pages.result;
      effects_made = 0;
      pages_made = 0;
    } in
    bare_holds t (record {
      store = c.in_ok-store.ensures.after;
      tree = c.in_ok-store.ensures.tree;
      owners = c.new-owners.ensures;
      effects = c.new-effects.ensures.items;
      pages = c.new-pages.ensures.items;
      effects_made = refl;
      pages_made = refl;
    })
