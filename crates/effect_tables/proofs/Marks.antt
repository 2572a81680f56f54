-- Marks that are taken, and places that are noted.
use Rattle.std.proofs.Common.{◌≡◌, ◌⊎◌, inl, inr, ℕ, zero, suc, ◌+◌, ◌==◌, ◌||◌, ◌<◌, ◌≤◌, Bool, true, false, List, [], ◌∷◌, ◌++◌, length, map, take, get_or, Some, refl, sym, ap, subst, ◌∙◌, arith}
use Rattle.std.specs.Prelude.{slice_get, slice_index_or, slice_set}
use Rattle.std.specs.List.{AllByRecursion}
use Rattle.std.proofs.lemmas.Bool.{eqb-true, true≢false}
use Rattle.std.proofs.lemmas.Bool.Decides.{nat_tests}
use Rattle.std.proofs.lemmas.List.{take_all, take_more}
use Rattle.signal_model.specs.Values.{Seen}
use Rattle.signal_laws.proofs.Shared.{all_snoc}
use Rattle.effect_model.specs.Worlds as plain
use Rattle.effect_tables.specs.declared.effect.Effect.{Effect}
use Rattle.effect_tables.specs.Consistency.{AreRising}
use Rattle.effect_tables.specs.declared.quiet_places.QuietPlaces.{QuietPlaces}
use Rattle.effect_tables.specs.Heard.{has_place, is_marked, is_set, AreSet}
use Rattle.effect_tables.specs.Placed.{effect_of}
use Rattle.effect_tables.proofs.Found.{IsNowhere, IsPlace}
use Rattle.effect_tables.proofs.Kept.{none_behind}

-- ---- one mark is taken

pub set_off : (bs : List Bool) (i : ℕ) → is_set i (slice_set bs i false) ≡ false
set_off [] i = refl
set_off (b ∷ bs) zero = refl
set_off (b ∷ bs) (suc i) = set_off bs i

pub set_less : (bs : List Bool) (i p : ℕ) → is_set p (slice_set bs i false) ≡ true → is_set p bs ≡ true
set_less [] i p h = h
set_less (b ∷ bs) zero zero h = absurd (true≢false (sym h))
set_less (b ∷ bs) zero (suc p) h = h
set_less (b ∷ bs) (suc i) zero h = h
set_less (b ∷ bs) (suc i) (suc p) h = set_less bs i p h

pub beyond_off : (bs : List Bool) (i : ℕ) → length bs ≤ i → is_set i bs ≡ false
beyond_off [] i l = refl
beyond_off (b ∷ bs) zero l = absurd (omega (arith, l))
beyond_off (b ∷ bs) (suc i) l = beyond_off bs i (omega (arith, l))

-- ---- marks that are set

-- a place before another one, or not
before_or : (p q : ℕ) → (p < q) ⊎ (q ≤ p)
before_or p zero = inr (omega arith)
before_or zero (suc q) = inl (omega arith)
before_or (suc p) (suc q) = elim (before_or p q) [ inl l ↦ inl (omega (arith, l)) | inr m ↦ inr (omega (arith, m)) ]

-- marked ones, and others behind them
pub marks_joined : (p k j : ℕ) (bs : List Bool) → AreSet p k bs → AreSet (p + k) j bs → AreSet p (k + j) bs
marks_joined p k j bs one other q low high = elim (before_or q (p + k)) [
  | inl l ↦ one q low l
  | inr l ↦ other q l (omega (arith, high))
]

pub mark_alone : (p : ℕ) (bs : List Bool) → is_set p bs ≡ true → AreSet p 1 bs
mark_alone p bs on q low high = ap (λ r. is_set r bs) (let e : q ≡ p = omega (arith, low, high) in e) ∙ on

-- so far, and so many more
pub marks_on : (from p k : ℕ) (bs : List Bool) → ((q : ℕ) → from ≤ q → q < p → is_set q bs ≡ true) → AreSet p k bs →
    (q : ℕ) → from ≤ q → q < p + k → is_set q bs ≡ true
marks_on from p k bs before more q low high = elim (before_or q p) [ inl l ↦ before q low l | inr l ↦ more q l high ]

-- from one place on to another, and from there on to a third
pub joined_passes : (from mid to : ℕ) (bs : List Bool) → ((q : ℕ) → from ≤ q → q < mid → is_set q bs ≡ true) →
    ((q : ℕ) → mid ≤ q → q < to → is_set q bs ≡ true) → (q : ℕ) → from ≤ q → q < to → is_set q bs ≡ true
joined_passes from mid to bs before more q low high = elim (before_or q mid) [ inl l ↦ before q low l | inr m ↦ more q m high ]

-- ---- several are

-- a mark that isn't set before isn't set after
pub stays_off : (b c : Bool) → (c ≡ true → b ≡ true) → b ≡ false → c ≡ false
stays_off b true f off = absurd (true≢false (sym (f refl) ∙ off))
stays_off b false f off = refl

either_place : {A : Type 0} (b c d : Bool) → (b || d) ≡ true → (d ≡ true → (c ≡ true) ⊎ A) → ((b || c) ≡ true) ⊎ A
either_place true c d h rest = inl refl
either_place false c d h rest = rest h

-- one place more
pub any_more : (p q : ℕ) (ps : List ℕ) → has_place p (ps ++ q ∷ []) ≡ true → (has_place p ps ≡ true) ⊎ (p ≡ q)
any_more p q [] h = go (p == q) refl h
  where
    go : (b : Bool) → (p == q) ≡ b → (b || false) ≡ true → (false ≡ true) ⊎ (p ≡ q)
    go true e k = inr (eqb-true p q e)
    go false e k = absurd cc
any_more p q (r ∷ ps) h = either_place (p == r) (has_place p ps) (has_place p (ps ++ q ∷ [])) h (any_more p q ps)

pub off_next : (old new : QuietPlaces) (ps : List ℕ) (i place : ℕ) → i < length ps → place ≡ get_or ps i place →
    ((p : ℕ) → is_marked p new ≡ true → is_marked p old ≡ true) → is_marked place new ≡ false →
    ((p : ℕ) → has_place p (take i ps) ≡ true → is_marked p old ≡ false) → (p : ℕ) → has_place p (take (i + 1) ps) ≡ true → is_marked p new ≡ false
off_next old new ps i place l is less off so p h =
    elim (any_more p place (take i ps) (sym (ap (has_place p) (take_more ps i place l ∙ ap (λ q. take i ps ++ q ∷ []) (sym is))) ∙ h)) [
      | inl before ↦ stays_off (is_marked p old) (is_marked p new) (less p) (so p before)
      | inr here ↦ ap (λ q. is_marked q new) here ∙ off
    ]

pub off_all : (bs : QuietPlaces) (ps : List ℕ) (i : ℕ) → length ps ≤ i → ((p : ℕ) → has_place p (take i ps) ≡ true → is_marked p bs ≡ false) →
    (p : ℕ) → has_place p ps ≡ true → is_marked p bs ≡ false
off_all bs ps i l so p h = so p (ap (has_place p) (take_all i ps l) ∙ h)

-- what is marked is none of those that were taken
pub none_of : (b c : Bool) → (b ≡ true → c ≡ false) → c ≡ true → b ≡ false
none_of true c f on = absurd (true≢false (sym on ∙ f refl))
none_of false c f on = refl

-- ---- the mark of the effect of a number is

some_is : (x y : plain.Effect) → Some x ≡ Some y → x ≡ y
some_is x y e = cc

pub at_nowhere : (k p : ℕ) (xs : List Effect) (x : plain.Effect) → IsNowhere k xs → slice_get (map effect_of xs) p ≡ Some x → (k == x.number) ≡ false
at_nowhere k p [] x none at = absurd cc
at_nowhere k zero (y ∷ ys) x none at = subst (λ (z : plain.Effect). (k == z.number) ≡ false) (some_is (effect_of y) x at) none.0
at_nowhere k (suc p) (y ∷ ys) x none at = at_nowhere k p ys x none.1 at

pub at_other : (k p i low : ℕ) (xs : List Effect) (x : plain.Effect) → AreRising low xs → IsPlace k xs i → (p ≡ i → ⊥) → slice_get (map effect_of xs) p ≡ Some x →
    (k == x.number) ≡ false
at_other k p i low [] x up here off at = absurd here
at_other k zero zero low (y ∷ ys) x up here off at = absurd (off refl)
at_other k (suc p) zero low (y ∷ ys) x up here off at =
    at_nowhere k p ys x (none_behind k (suc y.id) ys (grind (arith, nat_tests, here)) up.1) at
at_other k zero (suc i) low (y ∷ ys) x up here off at = subst (λ (z : plain.Effect). (k == z.number) ≡ false) (some_is (effect_of y) x at) here.0
at_other k (suc p) (suc i) low (y ∷ ys) x up here off at = at_other k p i (suc y.id) ys x up.1 here.1 (λ e. off (ap suc e)) at

-- ---- a mark is looked at

pub mark_at : (bs : List Bool) (i : ℕ) (d : Bool) → i < length bs → slice_index_or bs i d ≡ is_set i bs
mark_at [] i d l = absurd (omega (arith, l))
mark_at (b ∷ bs) zero d l = refl
mark_at (b ∷ bs) (suc i) d l = mark_at bs i d (omega (arith, l))

-- ---- a mark is set

pub set_one : (bs : List Bool) (i p : ℕ) → is_set p (slice_set bs i true) ≡ true → (is_set p bs ≡ true) ⊎ (p ≡ i)
set_one [] i p h = inl h
set_one (b ∷ bs) zero zero h = inr refl
set_one (b ∷ bs) zero (suc p) h = inl h
set_one (b ∷ bs) (suc i) zero h = inl h
set_one (b ∷ bs) (suc i) (suc p) h = elim (set_one bs i p h) [ inl was ↦ inl was | inr is ↦ inr (ap suc is) ]

-- one that isn't set is put behind the others
pub put_off : (bs : List Bool) (p : ℕ) → is_set p (bs ++ false ∷ []) ≡ true → is_set p bs ≡ true
put_off [] zero h = absurd (true≢false (sym h))
put_off [] (suc p) h = h
put_off (c ∷ bs) zero h = h
put_off (c ∷ bs) (suc p) h = put_off bs p h

-- ---- one read after the other

pub each_next : (A : Seen → Type 0) (ss : List Seen) (i : ℕ) (s : Seen) → i < length ss → s ≡ get_or ss i s → AllByRecursion A (take i ss) → A s → AllByRecursion A (take (i + 1) ss)
each_next A ss i s l is all one =
    subst (AllByRecursion A) (sym (take_more ss i s l ∙ ap (λ (r : Seen). take i ss ++ r ∷ []) (sym is))) (all_snoc A (take i ss) s all one)

pub each_all : (A : Seen → Type 0) (ss : List Seen) (i : ℕ) → length ss ≤ i → AllByRecursion A (take i ss) → AllByRecursion A ss
each_all A ss i l all = subst (AllByRecursion A) (take_all i ss l) all

pub all_so : (A B : Seen → Type 0) (ss : List Seen) → ((s : Seen) → A s → B s) → AllByRecursion A ss → AllByRecursion B ss
all_so A B [] f all = tt
all_so A B (s ∷ ss) f all = (f s all.0, all_so A B ss f all.1)
