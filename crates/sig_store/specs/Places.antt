-- How the places of values make what callers see.
use Rattle.std.specs.Prelude.{◌≡◌, ◌≢◌, ◌⊎◌, ℕ, zero, suc, ◌-◌, ◌<◌, ◌^◌, min, Bool, false, if◌then◌else◌, nat_eq, List, [], ◌∷◌, ◌++◌, Option, Some, None}
use Rattle.std.specs.Option.{option_map}
use Rattle.indexmap.specs.IndexMap.{IndexMap, spare}
use Rattle.slab.specs.Slab.{Slab, slab_len}
use Rattle.sig_store.specs.declared.store.Held.{Held}

-- what f gives for each number below n
abbrev pub counted_up : {A : Type 0} → (ℕ → A) → ℕ → List A
counted_up f zero = []
counted_up f (suc n) = counted_up f n ++ f n ∷ []

module _ {T : Type 0} where
  -- what a place holds, if there is one
  abbrev pub value_there : (ℕ → Option (Held T)) → Option ℕ → Option T
  value_there look None = None
  value_there look (Some p) = option_map (λ (h : Held T). h.value) (look p)

  -- the number of which a place holds the value, if it holds one
  abbrev pub number_there : (ℕ → Option (Held T)) → ℕ → Option ℕ
  number_there look p = option_map (λ (h : Held T). h.number) (look p)

  -- whether this is held under a number
  abbrev pub holds_number : Option (Held T) → ℕ → Bool
  holds_number None n = false
  holds_number (Some h) n = nat_eq h.number n

  -- where the value of a number stands: at the number itself, where its value is there, otherwise where the index says
  unfoldable pub place_by : (ℕ → Option ℕ) → (ℕ → Option (Held T)) → ℕ → Option ℕ
  place_by index look n = if holds_number (look n) n then Some n else index n

  -- the index has only places that hold the value of their number, and aren't that number
  pub record IsIndex (index : ℕ → Option ℕ) (look : ℕ → Option (Held T)) : Type 0 where
    pub stands : (n p : ℕ) → index n ≡ Some p → number_there look p ≡ Some n
    pub away : (n p : ℕ) → index n ≡ Some p → p ≢ n

  -- what a place holds is of the number that has the place
  pub record AreOwn (at : ℕ → Option ℕ) (look : ℕ → Option (Held T)) : Type 0 where
    pub place : (n p : ℕ) → number_there look p ≡ Some n → at n ≡ Some p

  -- a value stands under a number, wherever what places hold is of the numbers that have them
  abbrev pub IsValueOf : (ℕ → Option (Held T)) → ℕ → T → Type 0
  IsValueOf look n v = (at : ℕ → Option ℕ) → AreOwn at look → value_there look (at n) ≡ Some v

  -- what stands under each number that was given, by the places of numbers and by what places hold
  unfoldable pub entries_by : (ℕ → Option ℕ) → (ℕ → Option (Held T)) → ℕ → List (Option T)
  entries_by at look made = counted_up (λ n. value_there look (at n)) made

  -- What holds of them: a number's place holds it, and the number was given; and a place that holds something is that number's.
  pub record IsStore (at : ℕ → Option ℕ) (look : ℕ → Option (Held T)) (made : ℕ) : Type 0 where
    pub stands : (n p : ℕ) → at n ≡ Some p → number_there look p ≡ Some n
    pub below : (n p : ℕ) → at n ≡ Some p → n < made
    pub own : AreOwn at look

  -- What holds of a store's fields: of the places by index and by number, and of the index.
  pub record IsPlaced (index : ℕ → Option ℕ) (look : ℕ → Option (Held T)) (made : ℕ) : Type 0 where
    pub store : IsStore (place_by index look) look made
    pub indexed : IsIndex index look

  -- how many more fit without memory, of as many numbers as are left once so many were given
  abbrev pub room_of : {S : Type 0} → IndexMap ℕ ℕ S → Slab T → ℕ → ℕ
  room_of places held made = min (min (spare places) (held.capacity - slab_len held)) (2 ^ 64 - 1 - made)

-- an index once the place p of the number n is noted: it has it, unless the place is the number
pub record IsNoted (old new : ℕ → Option ℕ) (n p : ℕ) : Type 0 where
  pub others : (j : ℕ) → j ≢ n → new j ≡ old j
  pub here : ((p ≡ n) × (new n ≡ old n)) ⊎ ((p ≢ n) × (new n ≡ Some p))

-- an index once the number n has left the place p: it has none of it, or is as before where the place was the number
pub record IsLeft (old new : ℕ → Option ℕ) (n p : ℕ) : Type 0 where
  pub others : (j : ℕ) → j ≢ n → new j ≡ old j
  pub here : ((p ≡ n) × (new n ≡ old n)) ⊎ (new n ≡ None)
