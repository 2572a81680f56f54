-- Names in a list, of which the first have outcomes.
use Rattle.std.proofs.Common.{◌≡◌, ◌<◌, ◌≤◌, ℕ, zero, suc, ◌+◌, if◌then◌else◌, Bor, Bool, true, false, ◌||◌, cond, List, [], ◌∷◌, ◌++◌, length, nat_eq, position, get_or, Option, None, Some, slice_get, take, eq-eqb, inl, inr, refl, sym, ap, subst, arith, ◌∙◌}
use Rattle.std.specs.Prelude.{unwrap_or, IfSome}
use Rattle.std.specs.Option.{option_copied}
use Rattle.std.specs.List.{list_any, zip, AllByRecursion, IsDistinct}
use Rattle.std.specs.Map.{keys_of}
use Rattle.std.proofs.lemmas.Bool.{cases_Bool, eqb-true, false≢true}
use Rattle.std.proofs.lemmas.List.{take_more}
use Rattle.std.proofs.lemmas.List.Quantifiers.{position-Some}
use Rattle.std.proofs.lemmas.Option.{get_or_from_slice_get, slice_get-get_or, slice_get_within}
use Rattle.indexmap.specs.IndexSet.{insert_key}
use Rattle.sig_base.specs.declared.value.Outcome.{Outcome}
use Rattle.tpl_hearing.specs.Heard.{HasRows, HaveRows, heard_of}

-- ---- names that stand once

pub flipped : (m n : ℕ) → nat_eq m n ≡ false → nat_eq n m ≡ false
flipped m n e = elim (cases_Bool (nat_eq n m)) [ inl t ↦ absurd (false≢true (sym e ∙ eq-eqb m n (sym (eqb-true n m t)))) | inr f ↦ f ]

-- a name differs from those before it
apart : (k : ℕ) (ns : List ℕ) (i n : ℕ) → AllByRecursion (λ m. nat_eq k m ≡ false) ns → slice_get ns i ≡ Some n → nat_eq k n ≡ false
apart k [] i n all e = cc
apart k (m ∷ ms) zero n all e = subst (λ x. nat_eq k x ≡ false) (ap (λ (q : Option ℕ). unwrap_or q m) e) all.0
apart k (m ∷ ms) (suc i) n all e = apart k ms i n all.1 e

-- so it isn't among them
pub not_listed : (ns : List ℕ) (i n : ℕ) → IsDistinct nat_eq ns → slice_get ns i ≡ Some n → list_any (nat_eq n) (take i ns) ≡ false
unfolding IsDistinct
not_listed [] i n once e = cc
not_listed (m ∷ ms) zero n once e = refl
not_listed (m ∷ ms) (suc i) n once e = rw (flipped m n (apart m ms i n once.0 e)) (not_listed ms i n once.1 e)

-- ---- what was heard of a name

-- one that is listed has the outcome at its place, if there is one
pub heard_there : (ns : List ℕ) (os : List Outcome) (n i : ℕ) → IsDistinct nat_eq ns → slice_get ns i ≡ Some n → heard_of (zip ns os) n ≡ slice_get os i
unfolding IsDistinct
heard_there [] os n i once e = cc
heard_there (m ∷ ms) [] n i once e = refl
heard_there (m ∷ ms) (o ∷ os) n zero once e =
    let same : nat_eq n m ≡ true = eq-eqb n m (sym (ap (λ (q : Option ℕ). unwrap_or q m) e)) in rw same refl
heard_there (m ∷ ms) (o ∷ os) n (suc i) once e = rw (flipped m n (apart m ms i n once.0 e)) (heard_there ms os n i once.1 e)

-- one that isn't listed has none
pub unheard : (ns : List ℕ) (os : List Outcome) (n : ℕ) → list_any (nat_eq n) ns ≡ false → heard_of (zip ns os) n ≡ None
unheard [] os n e = refl
unheard (m ∷ ms) [] n e = refl
unheard (m ∷ ms) (o ∷ os) n e = go (nat_eq n m) e (unheard ms os n)
  where
    go : (b : Bool) → (b || list_any (nat_eq n) ms) ≡ false → (list_any (nat_eq n) ms ≡ false → heard_of (zip ms os) n ≡ None) →
        cond b (Some o) (heard_of (zip ms os) n) ≡ None
    go true none later = cc
    go false none later = later none

-- one that has none isn't among the first
pub unlisted : (ns : List ℕ) (os : List Outcome) (n : ℕ) → length os ≤ length ns → heard_of (zip ns os) n ≡ None →
    list_any (nat_eq n) (take (length os) ns) ≡ false
unlisted ns [] n le e = refl
unlisted [] (o ∷ os) n le e = absurd (omega (arith, le))
unlisted (m ∷ ms) (o ∷ os) n le e = go (nat_eq n m) e (unlisted ms os n (omega (arith, le)))
  where
    go : (b : Bool) → cond b (Some o) (heard_of (zip ms os) n) ≡ None →
        (heard_of (zip ms os) n ≡ None → list_any (nat_eq n) (take (length os) ms) ≡ false) → (b || list_any (nat_eq n) (take (length os) ms)) ≡ false
    go true none later = cc
    go false none later = later none

-- ---- one more outcome

pub none_paired : (ns : List ℕ) → zip {X = Outcome} ns [] ≡ []
none_paired [] = refl
none_paired (n ∷ ns) = refl

-- the first outcomes, so many of them
pub taken_paired : (ns : List ℕ) (os : List Outcome) (count : ℕ) → zip ns (take count os) ≡ take count (zip ns os)
taken_paired [] os zero = refl
taken_paired [] os (suc count) = refl
taken_paired (n ∷ ns) [] zero = refl
taken_paired (n ∷ ns) [] (suc count) = refl
taken_paired (n ∷ ns) (o ∷ os) zero = refl
taken_paired (n ∷ ns) (o ∷ os) (suc count) = ap (λ ps. (n, o) ∷ ps) (taken_paired ns os count)

-- of the name that comes next
pub next_paired : (ns : List ℕ) (os : List Outcome) (n : ℕ) (o : Outcome) → slice_get ns (length os) ≡ Some n →
    zip ns (os ++ o ∷ []) ≡ zip ns os ++ (n, o) ∷ []
next_paired [] os n o e = cc
next_paired (m ∷ ms) [] n o e =
    ap (λ ps. (m, o) ∷ ps) (none_paired ms) ∙ ap (λ k. (k, o) ∷ []) (ap (λ (q : Option ℕ). unwrap_or q m) e)
next_paired (m ∷ ms) (x ∷ xs) n o e = ap (λ ps. (m, x) ∷ ps) (next_paired ms xs n o e)

-- of a name that is put behind those that have one
last_paired : (ns : List ℕ) (os : List Outcome) (n : ℕ) (o : Outcome) → length os ≤ length ns →
    zip (take (length os) ns ++ n ∷ []) (os ++ o ∷ []) ≡ zip ns os ++ (n, o) ∷ []
last_paired [] [] n o le = refl
last_paired (m ∷ ms) [] n o le = refl
last_paired [] (x ∷ xs) n o le = absurd (omega (arith, le))
last_paired (m ∷ ms) (x ∷ xs) n o le = ap (λ ps. (m, x) ∷ ps) (last_paired ms xs n o (omega (arith, le)))

pub put_paired : (ns ms : List ℕ) (os : List Outcome) (n count : ℕ) (o : Outcome) → length os ≤ length ns → length os ≡ count → ms ≡ take count ns ++ n ∷ [] →
    zip ms (os ++ o ∷ []) ≡ zip ns os ++ (n, o) ∷ []
put_paired ns ms os n count o le long e =
    ap (λ ks. zip ks (os ++ o ∷ [])) (e ∙ ap (λ k. take k ns ++ n ∷ []) (sym long)) ∙ last_paired ns os n o le

-- ---- all of them

-- how many have outcomes
pub count_paired : (ns : List ℕ) (os : List Outcome) → length os ≤ length ns → length (zip ns os) ≡ length os
count_paired [] [] le = refl
count_paired (n ∷ ns) [] le = refl
count_paired [] (o ∷ os) le = absurd (omega (arith, le))
count_paired (n ∷ ns) (o ∷ os) le = ap suc (count_paired ns os (omega (arith, le)))

-- each of them stands once
apart_paired : (k : ℕ) (ns : List ℕ) (os : List Outcome) → AllByRecursion (λ m. nat_eq k m ≡ false) ns →
    AllByRecursion (λ m. nat_eq k m ≡ false) (keys_of (zip ns os))
apart_paired k [] os all = tt
apart_paired k (n ∷ ns) [] all = tt
apart_paired k (n ∷ ns) (o ∷ os) all = (all.0, apart_paired k ns os all.1)

pub once_paired : (ns : List ℕ) (os : List Outcome) → IsDistinct nat_eq ns → IsDistinct nat_eq (keys_of (zip ns os))
unfolding IsDistinct
once_paired [] os once = tt
once_paired (n ∷ ns) [] once = tt
once_paired (n ∷ ns) (o ∷ os) once = (apart_paired n ns os once.0, once_paired ns os once.1)

-- the name and the outcome at a place
pub at_paired : (ns : List ℕ) (os : List Outcome) (i n : ℕ) (o : Outcome) → slice_get ns i ≡ Some n → slice_get os i ≡ Some o →
    slice_get (zip ns os) i ≡ Some (n, o)
at_paired [] os i n o e f = cc
at_paired (m ∷ ms) [] i n o e f = cc
at_paired (m ∷ ms) (x ∷ xs) zero n o e f =
    ap (λ (q : Option ℕ). Some (unwrap_or q m, x)) e ∙ ap (λ (q : Option Outcome). Some (n, unwrap_or q x)) f
at_paired (m ∷ ms) (x ∷ xs) (suc i) n o e f = at_paired ms xs i n o e f

-- where outcomes are rows, these are rows
pub rows_paired : (ns : List ℕ) (os : List Outcome) → AllByRecursion HasRows os → HaveRows (zip ns os)
rows_paired [] os all = tt
rows_paired (n ∷ ns) [] all = tt
rows_paired (n ∷ ns) (o ∷ os) all = (all.0, rows_paired ns os all.1)

-- ---- names that are put into a list one after the other

-- one more of them
pub put_listed : (ns own : List ℕ) (i n : ℕ) → IsDistinct nat_eq ns → slice_get ns i ≡ Some n → own ≡ take i ns → insert_key nat_eq own n ≡ take (i + 1) ns
put_listed ns own i n once e is =
    ap (λ ks. insert_key nat_eq ks n) is ∙ ap (λ b. if b then take i ns else take i ns ++ n ∷ []) (not_listed ns i n once e)
    ∙ sym (take_more ns i n (slice_get_within ns i n e) ∙ ap (λ m. take i ns ++ m ∷ []) (get_or_from_slice_get ns i n n e))

-- one that isn't among them
pub put_new : (ns own : List ℕ) (i count n : ℕ) → list_any (nat_eq n) (take count ns) ≡ false → own ≡ take i ns → i ≡ count →
    insert_key nat_eq own n ≡ take count ns ++ n ∷ []
put_new ns own i count n new is e =
    ap (λ ks. insert_key nat_eq ks n) (is ∙ ap (λ k. take k ns) e) ∙ ap (λ b. if b then take count ns else take count ns ++ n ∷ []) new

-- no names
pub none_once : (ns : List ℕ) → ns ≡ [] → IsDistinct nat_eq ns
unfolding IsDistinct
none_once [] e = tt
none_once (n ∷ ns) e = cc

-- ---- where a name stands

pub place_listed : (ns : List ℕ) (n : ℕ) (o : Option ℕ) → o ≡ position (nat_eq n) ns → IfSome o (λ i. slice_get ns i ≡ Some n)
place_listed ns n None e = tt
place_listed ns n (Some i) e =
    let at = position-Some (nat_eq n) ns i n (sym e) in slice_get-get_or ns i n at.0 ∙ ap Some (sym (eqb-true n (get_or ns i n) at.1))

-- within the pairs there are a name and an outcome
pub has_name : (ns : List ℕ) (os : List Outcome) (i : ℕ) → i < length (zip ns os) → slice_get ns i ≡ None → ⊥
has_name [] os i lt e = omega (arith, lt)
has_name (n ∷ ns) [] i lt e = omega (arith, lt)
has_name (n ∷ ns) (o ∷ os) zero lt e = cc
has_name (n ∷ ns) (o ∷ os) (suc i) lt e = has_name ns os i (omega (arith, lt)) e

pub has_outcome : (ns : List ℕ) (os : List Outcome) (i : ℕ) → i < length (zip ns os) → slice_get os i ≡ None → ⊥
has_outcome [] os i lt e = omega (arith, lt)
has_outcome (n ∷ ns) [] i lt e = omega (arith, lt)
has_outcome (n ∷ ns) (o ∷ os) zero lt e = cc
has_outcome (n ∷ ns) (o ∷ os) (suc i) lt e = has_outcome ns os i (omega (arith, lt)) e

-- an outcome that is shown
pub shown : (r : Option (Bor Outcome)) (o : Option Outcome) → o ≡ option_copied r → IfSome r (λ x. o ≡ Some x.now)
shown None o e = tt
shown (Some x) o e = e
