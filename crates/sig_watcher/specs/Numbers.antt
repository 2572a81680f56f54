-- What holds of the watchers between calls, and where one stands among them.
use Rattle.std.specs.Prelude.{◌≡◌, ℕ, zero, suc, ◌+◌, ◌≤◌, ◌==◌, false, List, [], ◌∷◌, length}
use Rattle.effect_model.specs.Worlds.{Watcher}
use Rattle.effect_model.specs.declared.limits.TheConstants.{MOST_WATCHERS}

-- the numbers of watchers rise, from one number on and up to below another
abbrev pub Rises : ℕ → List Watcher → ℕ → Type 0
Rises low [] high = low ≤ high
Rises low (x ∷ xs) high = (low ≤ x.number) × Rises (x.number + 1) xs high

-- the numbers are below the count of those that were made, each once and in the order of making, and no more live than may
pub record AreNumbered (xs : List Watcher) (made : ℕ) : Type 0 where
  pub rising : Rises 0 xs made
  pub room : length xs ≤ MOST_WATCHERS

-- the first watcher of a number stands at a place
abbrev pub IsFirst : List Watcher → ℕ → ℕ → Type 0
IsFirst [] n p = ⊥
IsFirst (x ∷ xs) n zero = n ≡ x.number
IsFirst (x ∷ xs) n (suc p) = ((n == x.number) ≡ false) × IsFirst xs n p

-- the watcher at a place is changed
abbrev pub changed_at : (Watcher → Watcher) → ℕ → List Watcher → List Watcher
changed_at f p [] = []
changed_at f zero (x ∷ xs) = f x ∷ xs
changed_at f (suc p) (x ∷ xs) = x ∷ changed_at f p xs
