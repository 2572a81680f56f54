-- Owners by their own numbers.
use Rattle.std.proofs.Common.{◌≡◌, ℕ, zero, suc, ◌+◌, ◌<◌, ◌==◌, ◌||◌, ◌++◌, Bool, true, false, cond, List, [], ◌∷◌, length, Option, Some, None, refl, sym, ap, subst, ◌∙◌, arith, inl, inr}
use Rattle.std.specs.Prelude.{is_some}
use Rattle.std.proofs.lemmas.Bool.{eqb-true, eq-eqb}
use Rattle.std.proofs.lemmas.Bool.Decides.{nat_tests}
use Rattle.signal_model.specs.Signals.{is_in}
use Rattle.signal_model.proofs.Shared.{either, or_left, or_right, tested}
use Rattle.sig_store.specs.Stored.{entry}
use Rattle.effect_tables.specs.Consistency.{HasOwnRow, HaveOwnRows}
use Rattle.effect_tables.specs.Owners.{closed_at, has_row, is_row, living, number_in}

suc_apart : (a b : ℕ) → suc a ≡ suc b → a ≡ b
suc_apart a b e = omega (arith, e)

-- two that are there are one
pub some_one : (m n : ℕ) → Some m ≡ Some n → m ≡ n
some_one m n e = cc

-- which row an owner has that has this one
pub row_is : (n : ℕ) (e : Option ℕ) → has_row n e ≡ true → e ≡ Some n
row_is n None h = cc
row_is n (Some m) h = ap Some (sym (eqb-true n m h))

-- and that it has it
pub row_has : (n : ℕ) (e : Option ℕ) → e ≡ Some n → has_row n e ≡ true
row_has n e h = ap (has_row n) h ∙ eq-eqb n n refl

-- both parts of a test that fails
pub left_off : (a b : Bool) → (a || b) ≡ false → a ≡ false
left_off true b e = cc
left_off false b e = refl

pub right_off : (a b : Bool) → (a || b) ≡ false → b ≡ false
right_off true b e = cc
right_off false b e = e

pub off_on : (b : Bool) → b ≡ false → b ≡ true → ⊥
off_on true p q = cc
off_on false p q = cc

pub swapped : (j k : ℕ) → (k == j) ≡ false → (j == k) ≡ false
swapped j k e = elim (tested (j == k)) [
  | inl q ↦ absurd (off_on (k == j) e (eq-eqb k j (sym (eqb-true j k q))))
  | inr q ↦ q
]

-- ---- numbers

-- two rows of one number are one
pub number_apart : (es : List (Option ℕ)) (m n : ℕ) → number_in es m ≡ number_in es n → m ≡ n
number_apart [] m n e = e
number_apart (k ∷ ks) m n e = go (has_row m k) (has_row n k) refl refl e (number_apart ks m n)
  where
    go : (a b : Bool) → has_row m k ≡ a → has_row n k ≡ b → cond a 0 (suc (number_in ks m)) ≡ cond b 0 (suc (number_in ks n)) → (number_in ks m ≡ number_in ks n → m ≡ n) → m ≡ n
    go true true p q h more = some_one m n (sym (row_is m k p) ∙ row_is n k q)
    go true false p q h more = absurd (omega (arith, h))
    go false true p q h more = absurd (omega (arith, h))
    go false false p q h more = more (suc_apart (number_in ks m) (number_in ks n) h)

-- what is a row keeps its number where one more is put behind
pub number_more : (es : List (Option ℕ)) (x : Option ℕ) (n : ℕ) → is_row n es ≡ true → number_in (es ++ x ∷ []) n ≡ number_in es n
number_more [] x n h = cc
number_more (e ∷ es) x n h = go (has_row n e) refl (number_more es x n)
  where
    go : (b : Bool) → has_row n e ≡ b → (is_row n es ≡ true → number_in (es ++ x ∷ []) n ≡ number_in es n) → cond b 0 (suc (number_in (es ++ x ∷ []) n)) ≡ cond b 0 (suc (number_in es n))
    go true p more = refl
    go false p more = elim (either (has_row n e) (is_row n es) h) [
      | inl q ↦ absurd (off_on (has_row n e) p q)
      | inr q ↦ ap suc (more q)
    ]

-- and the new one comes last
pub number_new : (es : List (Option ℕ)) (x : ℕ) → is_row x es ≡ false → number_in (es ++ Some x ∷ []) x ≡ length es
number_new [] x h = ap (λ b. cond b 0 (suc x)) (eq-eqb x x refl)
number_new (e ∷ es) x h = go (has_row x e) h (number_new es x)
  where
    go : (b : Bool) → (b || is_row x es) ≡ false → (is_row x es ≡ false → number_in (es ++ Some x ∷ []) x ≡ length es) → cond b 0 (suc (number_in (es ++ Some x ∷ []) x)) ≡ suc (length es)
    go true q more = cc
    go false q more = ap suc (more q)

-- the number of an owner, by its row
pub number_at : (es : List (Option ℕ)) (k r : ℕ) → HaveOwnRows es → entry es k ≡ Some r → (number_in es r ≡ k) × (is_row r es ≡ true)
number_at [] k r a h = cc
number_at (x ∷ xs) zero r a h =
    let on : has_row r x ≡ true = row_has r x h in
    (ap (λ b. cond b 0 (suc (number_in xs r))) on, or_left (has_row r x) (is_row r xs) on)
number_at (x ∷ xs) (suc k) r a h =
    let two = number_at xs k r a.1 h in
    (by (has_row r x) refl two.0 two.1, or_right (has_row r x) (is_row r xs) two.1)
  where
    by : (b : Bool) → has_row r x ≡ b → number_in xs r ≡ k → is_row r xs ≡ true → cond b 0 (suc (number_in xs r)) ≡ suc k
    by true p m i = absurd (off_on (is_row r xs) (subst (λ o. HasOwnRow o xs) (row_is r x p) a.0) i)
    by false p m i = ap suc m

-- ---- rows

-- one more is another one
other_more : (es : List (Option ℕ)) (j k : ℕ) → is_row j es ≡ false → (k == j) ≡ false → is_row j (es ++ Some k ∷ []) ≡ false
other_more [] j k p q = ap (λ b. b || false) (swapped j k q)
other_more (e ∷ es) j k p q = λ t. left_off (has_row j e) (is_row j es) p t || other_more es j k (right_off (has_row j e) (is_row j es) p) q t

one_apart : (e : Option ℕ) (es : List (Option ℕ)) (x : ℕ) → has_row x e ≡ false → HasOwnRow e es → HasOwnRow e (es ++ Some x ∷ [])
one_apart None es x h a = tt
one_apart (Some m) es x h a = other_more es m x a h

-- one more is apart from the others
pub apart_more : (es : List (Option ℕ)) (x : ℕ) → is_row x es ≡ false → HaveOwnRows es → HaveOwnRows (es ++ Some x ∷ [])
apart_more [] x h a = (refl, tt)
apart_more (e ∷ es) x h a = (one_apart e es x (left_off (has_row x e) (is_row x es) h) a.0, apart_more es x (right_off (has_row x e) (is_row x es) h) a.1)

-- ---- owners that live

-- before the first number none lives
pub living_below : (es : List (Option ℕ)) (n k : ℕ) → k < n → is_in k (living n es) ≡ false
living_below [] n k l = refl
living_below (e ∷ es) n k l = go (is_some e) (living_below es (suc n) k (omega (arith, l)))
  where
    go : (b : Bool) → is_in k (living (suc n) es) ≡ false → is_in k (cond b (n ∷ living (suc n) es) (living (suc n) es)) ≡ false
    go true more = let off : (k == n) ≡ false = grind (arith, nat_tests, l) in ap (λ b. b || is_in k (living (suc n) es)) off ∙ more
    go false more = more

living_at : (es : List (Option ℕ)) (n j k : ℕ) → k ≡ n + j → is_in k (living n es) ≡ is_some (entry es j)
living_at [] n j k q = refl
living_at (e ∷ es) n zero k q = go (is_some e)
  where
    go : (b : Bool) → is_in k (cond b (n ∷ living (suc n) es) (living (suc n) es)) ≡ b
    go true = ap (λ b. b || is_in k (living (suc n) es)) (eq-eqb k n (omega (arith, q)))
    go false = living_below es (suc n) k (omega (arith, q))
living_at (e ∷ es) n (suc j) k q = go (is_some e) ∙ living_at es (suc n) j k (omega (arith, q))
  where
    go : (b : Bool) → is_in k (cond b (n ∷ living (suc n) es) (living (suc n) es)) ≡ is_in k (living (suc n) es)
    go true = let off : (k == n) ≡ false = grind (arith, nat_tests, q) in ap (λ b. b || is_in k (living (suc n) es)) off
    go false = refl

-- an owner lives where it has a row
pub lives_at : (es : List (Option ℕ)) (k : ℕ) → is_in k (living 0 es) ≡ is_some (entry es k)
lives_at es k = living_at es 0 k k (omega arith)

-- one more that lives
pub living_more : (es : List (Option ℕ)) (r n k : ℕ) → k ≡ n + length es → living n (es ++ Some r ∷ []) ≡ living n es ++ k ∷ []
living_more [] r n k q = ap (λ m. m ∷ []) (let s : n ≡ k = omega (arith, q) in s)
living_more (x ∷ es) r n k q = go (is_some x) (living_more es r (suc n) k (omega (arith, q)))
  where
    go : (b : Bool) → living (suc n) (es ++ Some r ∷ []) ≡ living (suc n) es ++ k ∷ [] → cond b (n ∷ living (suc n) (es ++ Some r ∷ [])) (living (suc n) (es ++ Some r ∷ [])) ≡ cond b (n ∷ living (suc n) es) (living (suc n) es) ++ k ∷ []
    go true more = ap (λ (ks : List ℕ). n ∷ ks) more
    go false more = more

-- where one that lived is gone there is one fewer
pub living_fewer : (es : List (Option ℕ)) (n j r : ℕ) → entry es j ≡ Some r → length (living n es) ≡ suc (length (living n (closed_at j es)))
living_fewer [] n j r h = cc
living_fewer (e ∷ es) n zero r h = ap (λ b. length (cond b (n ∷ living (suc n) es) (living (suc n) es))) (ap is_some h)
living_fewer (e ∷ es) n (suc j) r h = go (is_some e) (living_fewer es (suc n) j r h)
  where
    go : (b : Bool) → length (living (suc n) es) ≡ suc (length (living (suc n) (closed_at j es))) →
        length (cond b (n ∷ living (suc n) es) (living (suc n) es)) ≡ suc (length (cond b (n ∷ living (suc n) (closed_at j es)) (living (suc n) (closed_at j es))))
    go true more = ap suc more
    go false more = more
