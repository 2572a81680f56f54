-- What is put under an owner.
use Rattle.std.specs.Prelude.{◌≡◌, ℕ, true, List, length, Option, Some, None}
use Rattle.effect_model.specs.Owners.{Thing, the_owner, the_effect, the_signal, Owned, alone, made_inside, put_under}
use Rattle.effect_model.specs.Bodies.{Body}
use Rattle.effect_model.specs.Runs.{with_effect}
use Rattle.effect_model.specs.Worlds.{World}
use Rattle.sig_owner.specs.Tables.{Row, live_at, thing_at, with_holder}
use Rattle.sig_owner.specs.Trees.{made_in, owned_of}

-- a thing is put under the row that is given, if any
abbrev pub put_in : List Row → Option ℕ → Thing → Owned → Owned
put_in rows None t owned = owned
put_in rows (Some r) t owned = put_under (thing_at rows r) (alone t) owned

-- the store has a thing more there, and is as before otherwise
pub record Adopts (rows later : List Row) (outer : Option ℕ) (t : Thing) : Type 0 where
  pub things : (k : ℕ) → thing_at later k ≡ thing_at rows k
  pub lives : (k : ℕ) → live_at later k ≡ live_at rows k
  pub tree : owned_of later ≡ put_in rows outer t (owned_of rows)

-- a signal stands inside the owner that is given, else at the top
abbrev pub adopted : ℕ → Option ℕ → World → World
adopted n inside w = record w { owned = made_inside inside (the_signal n) w.owned }

-- the store has an owner more
pub record MakesOwner (rows later : List Row) (outer : Option ℕ) (n : ℕ) : Type 0 where
  pub after : later ≡ with_holder rows outer (the_owner n)
  pub tree : owned_of later ≡ made_in rows outer (the_owner n) (owned_of rows)
  pub gives : n ≡ length rows

-- the store has an effect more
pub record MakesEffect (rows later : List Row) (outer : Option ℕ) (e n : ℕ) : Type 0 where
  pub after : later ≡ with_holder rows outer (the_effect e)
  pub tree : owned_of later ≡ made_in rows outer (the_effect e) (owned_of rows)
  pub gives : n ≡ length rows

-- this row is that of an effect that lives
pub record IsRowOf (rows : List Row) (e r : ℕ) : Type 0 where
  pub lives : live_at rows r ≡ true
  pub thing : thing_at rows r ≡ the_effect e

-- a child of an effect is made, the last under it
abbrev pub with_child : ℕ → Body → World → World
with_child e b w =
    with_effect (record { number = w.made.effects; body = b; kept = None })
    (record w { owned = put_under (the_effect e) (alone (the_effect w.made.effects)) w.owned })
