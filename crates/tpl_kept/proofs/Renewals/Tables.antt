-- The rows of a table in which lines are gone over.
use Rattle.std.proofs.Common.{◌≡◌, ℕ, zero, suc, ◌+◌, ◌-◌, ◌<◌, ◌≤◌, List, ◌∷◌, drop, length, Option, Some, sym, ap, subst, ◌∙◌, arith}
use Rattle.std.proofs.lemmas.List.{drop_all}
use Rattle.sig_base.specs.Tables.{Table}
use Rattle.sig_formula.specs.declared.formula.RowRef.{RowRef}
use Rattle.tpl_kept.specs.Heads.{places_from}
use Rattle.tpl_kept.proofs.Made.Memos.{places_count}

-- those behind so many
places_drop : (t : Table) (k i m : ℕ) → drop k (places_from t i (k + m)) ≡ places_from t (i + k) m
places_drop t zero i m =
    let e : 0 + m ≡ m = omega arith in
    let f : i ≡ i + 0 = omega arith in
    ap (places_from t i) e ∙ ap (λ z. places_from t z m) f
places_drop t (suc k) i m =
    let e : suc k + m ≡ suc (k + m) = omega arith in
    let f : suc i + k ≡ i + suc k = omega arith in
    ap (λ z. drop (suc k) (places_from t i z)) e ∙ (places_drop t k (suc i) m ∙ ap (λ z. places_from t z m) f)

-- the first of them, and the others
places_part : (t : Table) (k m n : ℕ) → n ≡ k + suc m →
    drop k (places_from t 0 n) ≡ Some (record { rows = t; place = k }) ∷ drop (k + 1) (places_from t 0 n)
places_part t k m n e =
    let f : k + suc m ≡ (k + 1) + m = omega arith in
    let g : 0 + k ≡ k = omega arith in
    let h : suc (0 + k) ≡ 0 + (k + 1) = omega arith in
    ap (λ z. drop k (places_from t 0 z)) e
    ∙ (places_drop t k 0 (suc m)
    ∙ (ap (λ z. Some (record { rows = t; place = z }) ∷ places_from t (suc (0 + k)) m) g
    ∙ ap (λ z. Some (record { rows = t; place = k }) ∷ z)
    (ap (λ z. places_from t z m) h ∙ (sym (places_drop t (k + 1) 0 m) ∙ ap (λ z. drop (k + 1) (places_from t 0 z)) (sym f ∙ sym e)))))

place_split : (t : Table) (k n : ℕ) → k < length (places_from t 0 n) →
    drop k (places_from t 0 n) ≡ Some (record { rows = t; place = k }) ∷ drop (k + 1) (places_from t 0 n)
place_split t k n lt =
    let c : length (places_from t 0 n) ≡ n = places_count t 0 n in
    let e : n ≡ k + suc (n - (k + 1)) = omega (arith, c, lt) in
    places_part t k (n - (k + 1)) n e

-- none is left
pub none_behind : (rows : List (Option RowRef)) (k : ℕ) → length rows ≤ k → length (drop k rows) ≡ 0
none_behind rows k le = ap length (drop_all k rows le)

-- one of a table
pub table_split : (rows : List (Option RowRef)) (t u : Table) (k n : ℕ) → rows ≡ places_from t 0 n → k < length rows → u ≡ t →
    drop k rows ≡ Some (record { rows = u; place = k }) ∷ drop (k + 1) rows
table_split rows t u k n e lt f =
    let there = subst (λ z. k < length z) e lt in
    ap (drop k) e ∙ (place_split t k n there ∙ (λ i. Some (record { rows = sym f i; place = k }) ∷ drop (k + 1) (sym e i)))
