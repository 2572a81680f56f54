-- Who has the seats that a search came to.
use Rattle.std.proofs.Common.{◌≡◌, ℕ, zero, suc, ◌+◌, ◌<◌, ◌==◌, ◌||◌, Bool, true, false, if◌then◌else◌, List, [], ◌∷◌, length, drop, Option, Some, None, refl, sym, ap, ◌∙◌, arith, inl, inr}
use Rattle.std.specs.Prelude.{get_or}
use Rattle.std.proofs.lemmas.Bool.{eqb-true, eq-eqb}
use Rattle.signal_model.specs.Signals.{is_in}
use Rattle.signal_model.proofs.Shared.{either, or_right}
use Rattle.mark_laws.specs.Marked.{without_marks}
use Rattle.sig_graph.specs.Search.{is_seated, of_holder, some_seated}
use Rattle.sig_seats.specs.Seats.{holder}

earlier : (a b : Bool) → a ≡ true → (a || b) ≡ true
earlier true b q = refl
earlier false b q = cc

-- one who has a listed seat, and passes a test
pub record HasSeated (f : ℕ → Bool) (ss : List ℕ) (hs : List (Option ℕ)) : Type 0 where
  pub seat : ℕ
  pub listed : is_in seat ss ≡ true
  pub passes : of_holder f (holder hs seat) ≡ true

pub seated_at : (f : ℕ → Bool) (ss : List ℕ) (hs : List (Option ℕ)) → some_seated f ss hs ≡ true → HasSeated f ss hs
seated_at f [] hs q = cc
seated_at f (s ∷ ss) hs q = elim (either (of_holder f (holder hs s)) (some_seated f ss hs) q) [
  | inl a ↦ record { seat = s; listed = earlier (s == s) (is_in s ss) (eq-eqb s s refl); passes = a }
  | inr b ↦ let x : HasSeated f ss hs = seated_at f ss hs b in record { seat = x.seat; listed = or_right (x.seat == s) (is_in x.seat ss) x.listed; passes = x.passes }
]

pub seated_is : (f : ℕ → Bool) (ss : List ℕ) (hs : List (Option ℕ)) (s n : ℕ) → is_in s ss ≡ true → holder hs s ≡ Some n → f n ≡ true → some_seated f ss hs ≡ true
seated_is f [] hs s n listed has passes = cc
seated_is f (r ∷ ss) hs s n listed has passes = elim (either (s == r) (is_in s ss) listed) [
  | inl e ↦ earlier (of_holder f (holder hs r)) (some_seated f ss hs) (ap (λ k. of_holder f (holder hs k)) (sym (eqb-true s r e)) ∙ ap (of_holder f) has ∙ passes)
  | inr q ↦ or_right (of_holder f (holder hs r)) (some_seated f ss hs) (seated_is f ss hs s n q has passes)
]

-- who has a seat, by name
pub named_holder : (o : Option ℕ) (n : ℕ) → of_holder (λ m. m == n) o ≡ true → o ≡ Some n
named_holder None n q = cc
named_holder (Some m) n q = ap Some (eqb-true m n q)

-- those from a place on, by who has the seat at that place
pub seated_step : (f : ℕ → Bool) (ss : List ℕ) (hs : List (Option ℕ)) (i : ℕ) → i < length ss →
    some_seated f (drop i ss) hs ≡ (of_holder f (holder hs (get_or ss i 0)) || some_seated f (drop (i + 1) ss) hs)
seated_step f [] hs i l = absurd (omega arith)
seated_step f (s ∷ ss) hs zero l = refl
seated_step f (s ∷ ss) hs (suc i) l =
    let k : i < length ss = omega arith in
    let e : suc i + 1 ≡ suc (i + 1) = omega arith in
    rw e (seated_step f ss hs i k)

-- marks without those from a place on, once the mark of who has the seat at that place went
pub unmarked_step : (ss : List ℕ) (hs : List (Option ℕ)) (i n : ℕ) (was is : ℕ → Bool) → i < length ss →
    is n ≡ (if of_holder (λ m. m == n) (holder hs (get_or ss i 0)) then false else was n) →
    without_marks is (is_seated (drop (i + 1) ss) hs) n ≡ without_marks was (is_seated (drop i ss) hs) n
unmarked_step ss hs i n was is l e =
    ap (λ b. if is_seated (drop (i + 1) ss) hs n then false else b) e
    ∙ go (of_holder (λ m. m == n) (holder hs (get_or ss i 0))) (is_seated (drop (i + 1) ss) hs n) (was n)
    ∙ ap (λ b. if b then false else was n) (sym (seated_step (λ m. m == n) ss hs i l))
  where
    go : (a b x : Bool) → (if b then false else (if a then false else x)) ≡ (if a || b then false else x)
    go true true x = refl
    go true false x = refl
    go false b x = refl
