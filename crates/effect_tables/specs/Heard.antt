-- Which effects need no look, and which of them a cell wakes.
use Rattle.std.specs.Prelude.{◌≡◌, ◌⊎◌, ℕ, zero, suc, ◌+◌, ◌<◌, ◌≤◌, ◌/◌, ◌==◌, ◌||◌, nat_eq, Bool, true, false, List, [], ◌∷◌, slice_get, Option, Some, None}
use Rattle.std.specs.List.{list_any, AllByRecursion}
use Rattle.std.proofs.Common.{Vec, Global}
use Rattle.indexmap.specs.IndexMap.{IndexMap, get}
use Rattle.sig_base.specs.declared.value.Outcome.{Outcome}
use Rattle.sig_base.specs.declared.value.Outcome.TheVariants.{Good}
use Rattle.sig_base.specs.Values.{same_value}
use Rattle.signal_model.specs.Signals.{Signals, Stands, IsCell, standing}
use Rattle.signal_model.specs.Values.{Seen}
use Rattle.effect_model.specs.Worlds.{Effect}
use Rattle.effect_tables.specs.declared.heard.Heard.{Heard}
use Rattle.effect_tables.specs.declared.quiet_places.QuietPlaces.{QuietPlaces}
use Rattle.effect_tables.specs.declared.quiet_places.TheConstants.{BLOCK}

-- whether the mark at a place is set
abbrev pub is_set : ℕ → List Bool → Bool
is_set p [] = false
is_set zero (b ∷ bs) = b
is_set (suc p) (b ∷ bs) = is_set p bs

-- so many from a place on are
abbrev pub AreSet : ℕ → ℕ → List Bool → Type 0
AreSet p k bs = (q : ℕ) → p ≤ q → q < p + k → is_set q bs ≡ true

-- whether the effect at a place is marked as one that needs no look, with all of its block or by itself
abbrev pub is_marked : ℕ → QuietPlaces → Bool
is_marked p q = is_set (p / BLOCK) q.full.items || is_set p q.ones.items

-- whether a place is among these
abbrev pub has_place : ℕ → List ℕ → Bool
has_place p ps = list_any (λ q. p == q) ps

-- whether it is, if there are any
abbrev pub holds : Option (Vec ℕ Global) → ℕ → Bool
holds None p = false
holds (Some v) p = has_place p v.items

-- whether these readers have a place under a cell
abbrev pub reads_at : {S : Type 0} → IndexMap ℕ (Vec ℕ Global) S → ℕ → ℕ → Bool
reads_at m n p = holds (get nat_eq m n) p

-- A cell has another value: what it wakes needs a look, and of the others none more is marked.
pub record IsWoken (n : ℕ) (old new : Heard) : Type 0 where
  pub marked : (p : ℕ) → is_marked p new.quiet ≡ true → is_marked p old.quiet ≡ true
  pub woken : (p : ℕ) → is_marked p new.quiet ≡ true → reads_at old.readers n p ≡ false
  pub readers : new.readers ≡ old.readers

-- The effect at a place may be marked, and each of these reads wakes it then. Of the others none more is marked, and cells wake as before.
pub record IsHeard (p : ℕ) (ss : List Seen) (old new : Heard) : Type 0 where
  pub marked : (q : ℕ) → is_marked q new.quiet ≡ true → (is_marked q old.quiet ≡ true) ⊎ (q ≡ p)
  pub more : (n q : ℕ) → reads_at old.readers n q ≡ true → reads_at new.readers n q ≡ true
  pub each : AllByRecursion (λ (s : Seen). reads_at new.readers s.name p ≡ true) ss

-- At a place none is marked, as where an effect is made there. Of the others none more is, and cells wake as before.
pub record IsAdded (p : ℕ) (old new : Heard) : Type 0 where
  pub marked : (q : ℕ) → is_marked q new.quiet ≡ true → is_marked q old.quiet ≡ true
  pub off : is_marked p new.quiet ≡ false
  pub readers : new.readers ≡ old.readers

-- Of the effect of a number none is marked. Of the others none more is, and cells wake as before.
pub record IsMissed (e : ℕ) (xs : List Effect) (old new : Heard) : Type 0 where
  pub marked : (p : ℕ) → is_marked p new.quiet ≡ true → is_marked p old.quiet ≡ true
  pub off : (p : ℕ) (x : Effect) → is_marked p new.quiet ≡ true → slice_get xs p ≡ Some x → (e == x.number) ≡ false
  pub readers : new.readers ≡ old.readers

-- whether what stands is a cell that has this value
abbrev pub still_in : Stands → Outcome → Bool
still_in (IsCell c) (Good v) = same_value c.value v
still_in _ _ = false

-- what was read is a cell that has its value still, and wakes the effect at a place
pub record IsHeardOf (w : Signals) (h : Heard) (p : ℕ) (s : Seen) : Type 0 where
  pub still : still_in (standing w s.name) s.outcome ≡ true
  pub wakes : reads_at h.readers s.name p ≡ true

-- an effect has run, and this holds of all that it read
abbrev pub IsQuiet : Signals → Heard → ℕ → Option (List Seen) → Type 0
IsQuiet w h p None = ⊥
IsQuiet w h p (Some ss) = AllByRecursion (IsHeardOf w h p) ss

-- so it is with each effect that is marked
pub record AreHeard (w : Signals) (h : Heard) (xs : List Effect) : Type 0 where
  pub each : (p : ℕ) (x : Effect) → is_marked p h.quiet ≡ true → slice_get xs p ≡ Some x → IsQuiet w h p x.kept
