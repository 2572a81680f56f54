-- An effect is found by halves.
use Rattle.std.proofs.Common.{◌≡◌, ℕ, zero, suc, ◌<◌, ◌≤◌, ◌==◌, true, List, [], ◌∷◌, length, get_or, Some, None, Err, refl, sym, subst, ◌∙◌, inl, inr, arith}
use Rattle.std.specs.List.Sorted.{IsBinarySearchResult, IsNonDecreasingBy, IsPartitionPoint}
use Rattle.std.specs.Ordering.{nat_cmp, ordering_index}
use Rattle.std.proofs.lemmas.Cmp.{ranked}
use Rattle.std.specs.declared.cmp.Ordering.TheVariants.{Less, Equal, Greater}
use Rattle.std.proofs.lemmas.Bool.{cases_lt, eqb-true}
use Rattle.std.proofs.lemmas.Bool.Decides.{nat_tests}
use Rattle.effect_tables.specs.declared.effect.Effect.{Effect}
use Rattle.effect_tables.specs.Consistency.{AreRising}
use Rattle.effect_tables.specs.Locations.{effect_place}

-- none is below the lower bound
at_least : (low : ℕ) (xs : List Effect) → AreRising low xs → (i : ℕ) (d : Effect) → i < length xs → low ≤ (get_or xs i d).id
at_least low [] o i d h = absurd (omega (arith, h))
at_least low (x ∷ xs) o zero d h = o.0
at_least low (x ∷ xs) o (suc i) d h =
    let more = at_least (suc x.id) xs o.1 i d (omega (arith, h)) in
    let first = o.0 in
    omega (arith, more, first)

-- so the numbers rise
rising : (low : ℕ) (xs : List Effect) → AreRising low xs → (i j : ℕ) (d : Effect) → i ≤ j → j < length xs → (get_or xs i d).id ≤ (get_or xs j d).id
rising low [] o i j d le h = absurd (omega (arith, h))
rising low (x ∷ xs) o zero zero d le h = omega arith
rising low (x ∷ xs) o zero (suc j) d le h = let more = at_least (suc x.id) xs o.1 j d (omega (arith, h)) in omega (arith, more)
rising low (x ∷ xs) o (suc i) zero d le h = absurd (omega (arith, le))
rising low (x ∷ xs) o (suc i) (suc j) d le h = rising (suc x.id) xs o.1 i j d (omega (arith, le)) (omega (arith, h))

-- the one that has the number is the first that has it
is_found : (low : ℕ) (xs : List Effect) → AreRising low xs → (k i : ℕ) (d : Effect) → i < length xs → (get_or xs i d).id ≡ k → effect_place k xs ≡ Some i
is_found low [] o k i d h e = absurd (omega (arith, h))
is_found low (x ∷ xs) o k zero d h e = grind (arith, nat_tests, e)
is_found low (x ∷ xs) o k (suc i) d h e =
    grind (arith, nat_tests, at_least (suc x.id) xs o.1 i d (omega (arith, h)), e, is_found (suc x.id) xs o.1 k i d (omega (arith, h)) e)

-- where none has the number
is_missing : (xs : List Effect) (k : ℕ) → ((i : ℕ) (d : Effect) → i < length xs → (get_or xs i d).id ≡ k → ⊥) → effect_place k xs ≡ None
is_missing [] k none = refl
is_missing (x ∷ xs) k none = grind (arith, nat_tests, none 0 x (omega arith), is_missing xs k (λ i d h e. none (suc i) d (omega (arith, h)) e))

-- the answers of a search rise
answers_rise : (low : ℕ) (xs : List Effect) → AreRising low xs → (k : ℕ) → IsNonDecreasingBy (λ (x : Effect). ordering_index (nat_cmp x.id k)) xs
answers_rise low xs o k i j d le h =
    let up = rising low xs o i j d le h in
    grind (arith, nat_tests, up)

-- one that is looked at
pub by_number : (xs : List Effect) → AreRising 0 xs → (k i : ℕ) (x : Effect) → i < length xs → (k == (get_or xs i x).id) ≡ true → effect_place k xs ≡ Some i
by_number xs o k i x h e = is_found 0 xs o k i x h (sym (eqb-true k (get_or xs i x).id e))

-- what the search says where it has found one
pub by_hit : (xs : List Effect) → AreRising 0 xs → (k b i : ℕ) → b ≡ k → i < length xs → ((d : Effect) → nat_cmp (get_or xs i d).id b ≡ Equal) → Some i ≡ effect_place k xs
by_hit [] o k b i n h e = absurd (omega (arith, h))
by_hit (x ∷ xs) o k b i n h e = sym (is_found 0 (x ∷ xs) o k i x h (ranked _ b _ (sym (e x)) ∙ n))

-- and where it has found none
pub by_gap : (xs : List Effect) → AreRising 0 xs → (k b i : ℕ) → b ≡ k → IsBinarySearchResult (λ (x : Effect). nat_cmp x.id b) xs (Err i) → None ≡ effect_place k xs
by_gap xs o k b i n parts =
    sym (is_missing xs k (λ j d h e.
    let there : IsBinarySearchResult (λ (x : Effect). nat_cmp x.id k) xs (Err i) = subst (λ c. IsBinarySearchResult (λ (x : Effect). nat_cmp x.id c) xs (Err i)) n parts in
    apart j d h e (there (answers_rise 0 xs o k))))
  where
    apart : (j : ℕ) (d : Effect) → j < length xs → (get_or xs j d).id ≡ k → IsPartitionPoint (λ (x : Effect). nat_cmp x.id k ≡ Less) (λ (x : Effect). nat_cmp x.id k ≡ Greater) xs i → ⊥
    apart j d h e parted = elim (cases_lt j i) [
      | inl before ↦ omega (arith, ranked _ k _ (sym (parted.0 j d (omega arith) before)), e)
      | inr behind ↦ omega (arith, ranked _ k _ (sym (parted.1 j d behind h)), e)
    ]
