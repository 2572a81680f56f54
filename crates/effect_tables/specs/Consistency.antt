-- What holds of the tables between calls.
use Rattle.std.specs.Prelude.{◌≡◌, ℕ, suc, ◌<◌, ◌≤◌, true, false, List, [], ◌∷◌, Option, Some, None}
use Rattle.std.specs.List.{AllByRecursion}
use Rattle.signal_model.specs.Signals.{is_in}
use Rattle.effect_model.specs.Owners.{Thing, the_signal, the_owner, the_effect, the_page}
use Rattle.sig_owner.specs.Tables.{Row, live_at, thing_at}
use Rattle.sig_owner.specs.Trees.{has_thing, owned_of}
use Rattle.sig_owner.specs.Renames.{renamed_thing}
use Rattle.effect_tables.specs.declared.effect.Effect.{Effect}
use Rattle.effect_tables.specs.declared.tables.Tables.{Tables}
use Rattle.effect_tables.specs.declared.thing.Thing.{Thing as AThing}
use Rattle.effect_tables.specs.Scripts.{IsFitted}
use Rattle.effect_tables.specs.Things.{named_at, noted}
use Rattle.effect_tables.specs.Owners.{is_row, number_in}

-- a thing is an effect, or the owner of this row, which is one of these
abbrev pub IsKnown : List (Option ℕ) → ℕ → Thing → Type 0
IsKnown owners k (the_owner n) = (k ≡ n) × (is_row k owners ≡ true)
IsKnown owners k (the_effect n) = Unit {0}
IsKnown owners k _ = ⊥

-- each number stands once
abbrev pub AreApart : List ℕ → Type 0
AreApart [] = Unit {0}
AreApart (m ∷ ms) = (is_in m ms ≡ false) × AreApart ms

-- none of these owners has the row of this one
abbrev pub HasOwnRow : Option ℕ → List (Option ℕ) → Type 0
HasOwnRow None es = Unit {0}
HasOwnRow (Some m) es = is_row m es ≡ false

-- each owner has a row of its own
abbrev pub HaveOwnRows : List (Option ℕ) → Type 0
HaveOwnRows [] = Unit {0}
HaveOwnRows (e ∷ es) = HasOwnRow e es × HaveOwnRows es

-- an owner lives in the store, in this row
pub record IsOwner (rows : List Row) (k : ℕ) : Type 0 where
  pub lives : live_at rows k ≡ true
  pub thing : thing_at rows k ≡ the_owner k

-- an effect lives in the store
pub record IsEffect (rows : List Row) (x : Effect) : Type 0 where
  pub lives : live_at rows x.row ≡ true
  pub thing : thing_at rows x.row ≡ the_effect x.id

-- an effect's row lives
abbrev pub AreLiving : List Row → Type 0
AreLiving rows = (k e : ℕ) → thing_at rows k ≡ the_effect e → live_at rows k ≡ true

-- an owner that is gone stands nowhere
abbrev pub AreAbsent : List Row → Type 0
AreAbsent rows = (m : ℕ) → live_at rows m ≡ false → has_thing (the_owner m) (owned_of rows) ≡ false

-- Each row that lives is an effect or the owner that has this row, and its thing is that by the owners' own numbers; an effect's row lives.
-- Owners have rows of their own, and one that stands somewhere has a row.
pub record AreNumbered (owners : List (Option ℕ)) (things : ℕ → Option AThing) (rows : List Row) : Type 0 where
  pub named : (k : ℕ) → live_at rows k ≡ true → named_at things k ≡ renamed_thing (number_in owners) (thing_at rows k)
  pub known : (k : ℕ) → live_at rows k ≡ true → IsKnown owners k (thing_at rows k)
  pub effects : AreLiving rows
  pub apart : HaveOwnRows owners
  pub stand : (m : ℕ) → is_row m owners ≡ false → has_thing (the_owner m) (owned_of rows) ≡ false

-- what lives by the tables lives in the store
pub record AreAlive (es : List (Option ℕ)) (xs : List Effect) (rows : List Row) : Type 0 where
  pub owners : (k : ℕ) → is_row k es ≡ true → IsOwner rows k
  pub effects : AllByRecursion (IsEffect rows) xs

-- the numbers of effects rise, from one on
abbrev pub AreRising : ℕ → List Effect → Type 0
AreRising n [] = Unit {0}
AreRising n (x ∷ xs) = (n ≤ x.id) × AreRising (suc x.id) xs

-- effects stand in the order of making, each with a number that was given
pub record AreOrdered (made : ℕ) (xs : List Effect) : Type 0 where
  pub rising : AreRising 0 xs
  pub below : AllByRecursion (λ (x : Effect). x.id < made) xs

-- the numbers that come next stand nowhere
pub record AreFresh (effect page : ℕ) (rows : List Row) : Type 0 where
  pub effects : (n : ℕ) → effect ≤ n → has_thing (the_effect n) (owned_of rows) ≡ false
  pub pages : (n : ℕ) → page ≤ n → has_thing (the_page n) (owned_of rows) ≡ false

-- The tables and the store belong together.
pub record TablesAgree (t : Tables) : Type 0 where
  pub numbered : AreNumbered t.owners.items (noted t.things) t.store
  pub alive : AreAlive t.owners.items t.effects.items t.store
  pub fresh : AreFresh t.effects_made t.pages_made t.store
  pub ordered : AreOrdered t.effects_made t.effects.items
  pub fitting : AllByRecursion IsFitted t.effects.items

-- Of signals this one alone, if any, may stand somewhere where it stood nowhere before.
pub record LeavesOut (one : Option ℕ) (rows later : List Row) : Type 0 where
  pub still : (n : ℕ) → (one ≡ Some n → ⊥) → has_thing (the_signal n) (owned_of rows) ≡ false → has_thing (the_signal n) (owned_of later) ≡ false
