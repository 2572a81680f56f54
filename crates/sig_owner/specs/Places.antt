-- What holds of a store's fields between its calls.
use Rattle.std.specs.Prelude.{◌≡◌, ℕ, ◌+◌, ◌==◌, ◌||◌, Bool, true, false, List, [], ◌∷◌, Option, Some, if◌then◌else◌}
use Rattle.effect_model.specs.Owners.{Thing, the_owner, the_effect, same_thing, is_holder}
use Rattle.sig_owner.specs.declared.thing.Thing.{Thing as AThing}
use Rattle.sig_owner.specs.declared.thing.Thing.TheVariants as a
use Rattle.sig_owner.specs.Tables.{Item, held, leaf, noted, Row, above_at, items_at, live_at, owner_count, thing_at, thing_of}
use Rattle.sig_owner.specs.Walks.{IsTable, is_held}

-- how often a holder stands among the items
abbrev pub held_count : ℕ → List Item → ℕ
held_count m [] = 0
held_count m (held k ∷ is) = (if m == k then 1 else 0) + held_count m is
held_count m (_ ∷ is) = held_count m is

-- no holder stands among the items as a thing that holds nothing
abbrev pub AreLeaves : List Item → Type 0
AreLeaves [] = Unit {0}
AreLeaves (leaf t ∷ is) = (is_holder t ≡ false) × AreLeaves is
AreLeaves (_ ∷ is) = AreLeaves is

-- an item that is no holder: a thing that can't hold others, or a cleanup
abbrev pub IsPlain : Item → Type 0
IsPlain (held m) = ⊥
IsPlain (leaf t) = is_holder t ≡ false
IsPlain (noted c) = Unit {0}

-- whether a thing that holds nothing stands among the items
abbrev pub has_leaf : Thing → List Item → Bool
has_leaf t [] = false
has_leaf t (leaf u ∷ is) = same_thing t u || has_leaf t is
has_leaf t (_ ∷ is) = has_leaf t is

-- What is held lives, and stands once where its row says, in a later row; what is gone holds nothing; the things that live are distinct
-- holders, each owner under its own number; and the owners that live are counted.
pub record RowsAgree (rows : List Row) (owners : ℕ) : Type 0 where
  pub table : IsTable rows
  pub count : owners ≡ owner_count rows
  pub above : (n m : ℕ) → is_held m (items_at rows n) ≡ true → above_at rows m ≡ Some n
  pub once : (n m : ℕ) → live_at rows m ≡ true → above_at rows m ≡ Some n → held_count m (items_at rows n) ≡ 1
  pub empty : (n : ℕ) → live_at rows n ≡ false → items_at rows n ≡ []
  pub leaves : (n : ℕ) → AreLeaves (items_at rows n)
  pub kinds : (n : ℕ) → live_at rows n ≡ true → is_holder (thing_at rows n) ≡ true
  pub numbers : (n k : ℕ) → live_at rows n ≡ true → thing_at rows n ≡ the_owner k → k ≡ n
  pub names : (n m : ℕ) → live_at rows n ≡ true → live_at rows m ≡ true → same_thing (thing_at rows n) (thing_at rows m) ≡ true → n ≡ m

-- A thing that holds nothing is placed where it stands, and an effect that lives at its own number.
pub record ArePlaced (rows : List Row) (place : AThing → Option ℕ) : Type 0 where
  pub leaves : (n : ℕ) (t : AThing) → has_leaf (thing_of t) (items_at rows n) ≡ true → place t ≡ Some n
  pub effects : (n e : ℕ) → live_at rows n ≡ true → thing_at rows n ≡ the_effect e → place (a.Effect e) ≡ Some n

-- the same of all fields
pub record Keeps (rows : List Row) (owners : ℕ) (place : AThing → Option ℕ) : Type 0 where
  pub holds : RowsAgree rows owners
  pub placed : ArePlaced rows place
