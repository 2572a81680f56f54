-- The first names that were heard, so many of them.
use Rattle.std.proofs.Common.{◌≡◌, ◌<◌, ℕ, zero, suc, ◌+◌, false, true, Option, [], ◌∷◌, ◌++◌, eq-eqb, nat_eq, slice_get, take, Some, None, refl, sym, ap, subst, arith, ◌∙◌}
use Rattle.std.specs.Prelude.{unwrap_or}
use Rattle.std.specs.List.{AllByRecursion, IsDistinct}
use Rattle.std.specs.Map.{keys_of}
use Rattle.std.proofs.lemmas.List.{take_more}
use Rattle.std.proofs.lemmas.Option.{get_or_from_slice_get, slice_get_within}
use Rattle.sig_base.specs.declared.value.Outcome.{Outcome}
use Rattle.tpl_hearing.specs.Heard.{Outcomes, heard_of}
use Rattle.tpl_hearing.specs.HeardAgain.{IsCompared}
use Rattle.tpl_hearing.proofs.Paired.{flipped}

-- one more of them
pub front_more : (before : Outcomes) (i n : ℕ) (o : Outcome) → slice_get before i ≡ Some (n, o) → take (i + 1) before ≡ take i before ++ (n, o) ∷ []
front_more before i n o e =
    take_more before i (n, o) (slice_get_within before i (n, o) e)
    ∙ ap (λ (p : ℕ × Outcome). take i before ++ p ∷ []) (get_or_from_slice_get before i (n, o) (n, o) e)

-- ---- each name was heard once

apart_from : (k : ℕ) (ps : Outcomes) (i n : ℕ) (o : Outcome) → AllByRecursion (λ m. nat_eq k m ≡ false) (keys_of ps) → slice_get ps i ≡ Some (n, o) →
    nat_eq k n ≡ false
apart_from k [] i n o all e = cc
apart_from k (p ∷ ps) zero n o all e = subst (λ m. nat_eq k m ≡ false) (ap (λ (q : Option (ℕ × Outcome)). (unwrap_or q p).0) e) all.0
apart_from k (p ∷ ps) (suc i) n o all e = apart_from k ps i n o all.1 e

-- so it isn't among those before it
pub not_before : (before : Outcomes) (i n : ℕ) (o : Outcome) → IsDistinct nat_eq (keys_of before) → slice_get before i ≡ Some (n, o) →
    heard_of (take i before) n ≡ None
unfolding IsDistinct
not_before [] i n o once e = cc
not_before (p ∷ ps) zero n o once e = refl
not_before (p ∷ ps) (suc i) n o once e = rw (flipped p.0 n (apart_from p.0 ps i n o once.0 e)) (not_before ps i n o once.1 e)

-- each has its outcome, among the first as well
pub front_heard : (before : Outcomes) (count i n : ℕ) (o : Outcome) → IsDistinct nat_eq (keys_of before) → i < count → slice_get before i ≡ Some (n, o) →
    heard_of (take count before) n ≡ Some o
unfolding IsDistinct
front_heard [] count i n o once lt e = cc
front_heard (p ∷ ps) zero i n o once lt e = absurd (omega (arith, lt))
front_heard (p ∷ ps) (suc count) zero n o once lt e =
    let same : nat_eq n p.0 ≡ true = eq-eqb n p.0 (sym (ap (λ (q : Option (ℕ × Outcome)). (unwrap_or q p).0) e)) in
    rw same (ap (λ (q : Option (ℕ × Outcome)). Some (unwrap_or q p).1) e)
front_heard (p ∷ ps) (suc count) (suc i) n o once lt e =
    rw (flipped p.0 n (apart_from p.0 ps i n o once.0 e)) (front_heard ps count i n o once.1 (omega (arith, lt)) e)

pub all_heard : (before : Outcomes) (i n : ℕ) (o : Outcome) → IsDistinct nat_eq (keys_of before) → slice_get before i ≡ Some (n, o) → heard_of before n ≡ Some o
unfolding IsDistinct
all_heard [] i n o once e = cc
all_heard (p ∷ ps) zero n o once e =
    let same : nat_eq n p.0 ≡ true = eq-eqb n p.0 (sym (ap (λ (q : Option (ℕ × Outcome)). (unwrap_or q p).0) e)) in
    rw same (ap (λ (q : Option (ℕ × Outcome)). Some (unwrap_or q p).1) e)
all_heard (p ∷ ps) (suc i) n o once e = rw (flipped p.0 n (apart_from p.0 ps i n o once.0 e)) (all_heard ps i n o once.1 e)

-- so they have the outcomes of before
pub front_compared : (before : Outcomes) (count i n : ℕ) (o : Outcome) → IsDistinct nat_eq (keys_of before) → i < count → slice_get before i ≡ Some (n, o) →
    IsCompared before (take count before) n true
front_compared before count i n o once lt e = record {
  outcome = o;
  is = front_heard before count i n o once lt e;
  was = λ same. all_heard before i n o once e;
}
