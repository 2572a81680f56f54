-- Owners that live are as many in the store as by the tables.
use Rattle.std.proofs.Common.{◌≡◌, ℕ, zero, suc, ◌+◌, ◌==◌, ◌&&◌, Bool, true, false, cond, List, [], ◌∷◌, length, Option, Some, None, refl, sym, ap, ◌∙◌, arith, inl, inr}
use Rattle.std.proofs.lemmas.Bool.{eq-eqb, eqb-true}
use Rattle.std.proofs.lemmas.Bool.Decides.{nat_tests}
use Rattle.signal_model.proofs.Shared.{either, or_left, or_right, tested}
use Rattle.effect_model.specs.Owners.{Thing, the_signal, the_owner, the_effect, the_page, the_watcher}
use Rattle.sig_owner.specs.Tables.{Row, changed_at, ended_row, is_owner, is_owner_row, live_at, owner_count, row_at, thing_at}
use Rattle.effect_tables.specs.declared.tables.Tables.{Tables}
use Rattle.effect_tables.specs.declared.thing.Thing.{Thing as AThing}
use Rattle.effect_tables.specs.Consistency.{AreNumbered, HaveOwnRows, TablesAgree, IsKnown, IsOwner}
use Rattle.effect_tables.specs.Things.{noted}
use Rattle.effect_tables.specs.Owners.{is_row, living}
use Rattle.effect_tables.proofs.Numbers.{off_on}

-- ---- in the store

both_on : (a b : Bool) → a ≡ true → b ≡ true → (a && b) ≡ true
both_on a b p q = λ i. p i && q i

-- one that ends is one fewer
one_fewer : (rows : List Row) (r : ℕ) → is_owner_row (row_at rows r) ≡ true → owner_count rows ≡ suc (owner_count (changed_at ended_row r rows))
one_fewer [] r h = cc
one_fewer (x ∷ xs) zero h = ap (λ b. cond b 1 0 + owner_count xs) h ∙ (let n : ℕ = owner_count xs in let e : 1 + n ≡ suc (0 + n) = omega arith in e)
one_fewer (x ∷ xs) (suc r) h =
    let m : ℕ = cond (is_owner_row x) 1 0 in
    let more : owner_count xs ≡ suc (owner_count (changed_at ended_row r xs)) = one_fewer xs r h in
    let e : m + owner_count xs ≡ suc (m + owner_count (changed_at ended_row r xs)) = omega (arith, more) in
    e

-- where no owner lives there are none
none_lives : (rows : List Row) → ((k : ℕ) → live_at rows k ≡ true → is_owner (thing_at rows k) ≡ true → ⊥) → owner_count rows ≡ 0
none_lives [] h = refl
none_lives (x ∷ xs) h = λ i. cond (go x.live (is_owner x.holder) (h zero) i) 1 0 + none_lives xs (λ k. h (suc k)) i
  where
    go : (a b : Bool) → (a ≡ true → b ≡ true → ⊥) → (a && b) ≡ false
    go true true off = absurd (off refl refl)
    go true false off = refl
    go false b off = refl

other_row : (rows : List Row) (r k : ℕ) → (r ≡ k → ⊥) → row_at (changed_at ended_row r rows) k ≡ row_at rows k
other_row [] r k off = refl
other_row (x ∷ xs) zero zero off = absurd (off refl)
other_row (x ∷ xs) zero (suc k) off = refl
other_row (x ∷ xs) (suc r) zero off = refl
other_row (x ∷ xs) (suc r) (suc k) off = other_row xs r k (λ e. off (ap suc e))

ended_here : (rows : List Row) (r : ℕ) → live_at (changed_at ended_row r rows) r ≡ false
ended_here [] r = refl
ended_here (x ∷ xs) zero = refl
ended_here (x ∷ xs) (suc r) = ended_here xs r

-- ---- in both

-- each owner that lives in the store has its row by the tables
abbrev AreListed : List (Option ℕ) → List Row → Type 0
AreListed es rows = (k : ℕ) → live_at rows k ≡ true → is_owner (thing_at rows k) ≡ true → is_row k es ≡ true

-- and owners of the tables live there
abbrev AreOwners : List (Option ℕ) → List Row → Type 0
AreOwners es rows = (k : ℕ) → is_row k es ≡ true → IsOwner rows k

owner_listed : (es : List (Option ℕ)) (k : ℕ) (t : Thing) → IsKnown es k t → is_owner t ≡ true → is_row k es ≡ true
owner_listed es k (the_owner n) h q = h.1
owner_listed es k (the_signal n) h q = cc
owner_listed es k (the_effect n) h q = cc
owner_listed es k (the_page n) h q = cc
owner_listed es k (the_watcher n) h q = cc

pub are_listed : (es : List (Option ℕ)) (things : ℕ → Option AThing) (rows : List Row) → AreNumbered es things rows → AreListed es rows
are_listed es things rows h k on owner = owner_listed es k (thing_at rows k) (h.known k on) owner

apart_from : (m n : ℕ) → (m == n) ≡ false → m ≡ n → ⊥
apart_from m n off e = let on : (m == n) ≡ true = grind (arith, nat_tests, e) in off_on (m == n) off on

still_owners : (es : List (Option ℕ)) (rows : List Row) (r : ℕ) → is_row r es ≡ false → AreOwners es rows → AreOwners es (changed_at ended_row r rows)
still_owners es rows r off h k on =
    let other : r ≡ k → ⊥ = λ e. off_on (is_row r es) off (ap (λ j. is_row j es) e ∙ on) in
    let same : row_at (changed_at ended_row r rows) k ≡ row_at rows k = other_row rows r k other in
    record { lives = ap (λ (x : Row). x.live) same ∙ (h k on).lives; thing = ap (λ (x : Row). x.holder) same ∙ (h k on).thing }

-- without the first, which has ended
others_listed : (r : ℕ) (es : List (Option ℕ)) (rows : List Row) → AreListed (Some r ∷ es) rows → AreListed es (changed_at ended_row r rows)
others_listed r es rows h k lives owner = elim (tested (r == k)) [
  | inl on ↦ absurd (off_on (live_at (changed_at ended_row r rows) k) (ap (live_at (changed_at ended_row r rows)) (sym (eqb-true r k on)) ∙ ended_here rows r) lives)
  | inr off ↦ (let same : row_at (changed_at ended_row r rows) k ≡ row_at rows k = other_row rows r k (apart_from r k off) in
      elim (either (k == r) (is_row k es) (h k (ap (λ (x : Row). x.live) (sym same) ∙ lives) (ap (λ (x : Row). is_owner x.holder) (sym same) ∙ owner))) [
        | inl q ↦ absurd (apart_from r k off (sym (eqb-true k r q)))
        | inr q ↦ q
      ])
]

counted : (es : List (Option ℕ)) (rows : List Row) (n : ℕ) → HaveOwnRows es → AreOwners es rows → AreListed es rows → owner_count rows ≡ length (living n es)
counted [] rows n apart own h = none_lives rows (λ k lives owner. let e : false ≡ true = h k lives owner in cc)
counted (None ∷ es) rows n apart own h = counted es rows (suc n) apart.1 own h
counted (Some r ∷ es) rows n apart own h =
    let first : IsOwner rows r = own r (or_left (r == r) (is_row r es) (eq-eqb r r refl)) in
    one_fewer rows r (both_on (live_at rows r) (is_owner (thing_at rows r)) first.lives (ap is_owner first.thing))
    ∙ ap suc (counted es (changed_at ended_row r rows) (suc n) apart.1 (still_owners es rows r apart.0 (λ k on. own k (or_right (k == r) (is_row k es) on))) (others_listed r es rows h))

pub owners_counted : (t : Tables) → TablesAgree t → owner_count t.store ≡ length (living 0 t.owners.items)
owners_counted t h = counted t.owners.items t.store 0 h.numbered.apart h.alive.owners (are_listed t.owners.items (noted t.things) t.store h.numbered)
