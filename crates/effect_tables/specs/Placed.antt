-- What the tables stand for.
use Rattle.std.specs.Prelude.{ℕ, Bool, true, List, [], map, length, Option, Some, None, option_map, if◌then◌else◌}
use Rattle.std.specs.Rc.{rc_value}
use Rattle.signal_model.specs.Signals.{is_in}
use Rattle.effect_model.specs.Owners.{Owned, nothing, thing, cleanup}
use Rattle.effect_model.specs.Worlds as plain
use Rattle.effect_model.specs.Worlds.{World}
use Rattle.sig_owner.specs.Trees.{owned_of}
use Rattle.sig_owner.specs.Renames.{renamed}
use Rattle.effect_tables.specs.declared.effect.Effect.{Effect}
use Rattle.effect_tables.specs.declared.tables.Tables.{Tables}
use Rattle.effect_tables.specs.Bodies.{body_of}
use Rattle.effect_tables.specs.Owners.{living, number_in}

-- an effect as the definitions have it
abbrev pub effect_of : Effect → plain.Effect
effect_of x = record { number = x.id; body = body_of x.origin (rc_value x.script) x.path.items; kept = option_map (λ ss. ss.items) x.kept }

-- the number of an owner, by the row that it has in the store
abbrev pub numbering : Tables → ℕ → ℕ
numbering t = number_in t.owners.items

-- all that stands, by the owners' own numbers
abbrev pub tree_of : Tables → Owned
tree_of t = renamed (numbering t) (owned_of t.store)

-- a plain world with the owners, effects and pages of the tables
abbrev pub placed : Tables → World → World
placed t w = record w {
  owners = living 0 t.owners.items;
  effects = map effect_of t.effects.items;
  pages = t.pages.items;
  owned = tree_of t;
  made = record (w.made) { owners = length t.owners.items; effects = t.effects_made; pages = t.pages_made };
}

-- a plain world in which no owner, effect or page was made
abbrev pub untouched : World → World
untouched w = record w { owners = []; effects = []; pages = []; owned = nothing; made = record (w.made) { owners = 0; effects = 0; pages = 0 } }

-- whether something can be made there: at the top, or inside an owner that lives
abbrev pub is_open : List ℕ → Option ℕ → Bool
is_open owners None = true
is_open owners (Some o) = is_in o owners
