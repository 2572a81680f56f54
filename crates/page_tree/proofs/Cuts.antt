-- Rows cut out of a table.
use Rattle.std.proofs.Common.{◌≡◌, ℕ, zero, suc, ◌-◌, ◌<◌, ◌≤◌, ◌==◌, Bool, true, false, ◌||◌, refl, sym, ap, ◌∙◌, arith, cond, eqb-true, eq-eqb, inl, inr, if◌then◌else◌, List, [], ◌∷◌, Option, None}
use Rattle.std.proofs.lemmas.Bool.{cases_Bool, false≢true}
use mathlib.Core.Path.{fun_ext}
use Rattle.page_model.specs.Forest.{Forest, none, node, on, tally, height}
use Rattle.page_model.specs.Labels.{Kind}
use Rattle.page_model.specs.Edits.{siblings}
use Rattle.page_model.proofs.Shared.{on_tally, tally_off}
use Rattle.page_tree.specs.Rows.{Row, row_in, HaveRows, children_of, gone, cut, cut_each}
use Rattle.page_tree.specs.declared.table.Node.{Node}
use Rattle.page_tree.proofs.Tables.{holds_same, apart_from}

-- a map without a number has the rows without it
pub gone_is : (id q : ℕ) (w o : Option Node) → w ≡ cond (id == q) None o → row_in w ≡ (if q == id then None else row_in o)
gone_is id q w o e = elim (cases_Bool (id == q)) [
  | inl a ↦ (let b : (q == id) ≡ true = eq-eqb q id (sym (eqb-true id q a)) in rw b (ap row_in (rw a at e)))
  | inr a ↦ (
      let b : (q == id) ≡ false = elim (cases_Bool (q == id)) [ inl f ↦ absurd (false≢true (sym a ∙ eq-eqb id q (sym (eqb-true q id f)))) | inr f ↦ f ] in
      rw b (ap row_in (rw a at e)))
]

-- one number more
pub cut_cons : (levels n : ℕ) (ns : List ℕ) (rows rows' : ℕ → Option Row) → 0 < levels → ((q : ℕ) → rows' q ≡ cut (levels - 1) (children_of (rows n)) (gone n rows) q) → (q : ℕ) → cut levels ns rows' q ≡ cut levels (n ∷ ns) rows q
cut_cons zero n ns rows rows' h e q = absurd (omega arith)
cut_cons (suc levels) n ns rows rows' h e q =
    let z : suc levels - 1 ≡ levels = omega arith in
    let e' : (p : ℕ) → rows' p ≡ cut levels (children_of (rows n)) (gone n rows) p = rw z at e in
    ap (λ (f : ℕ → Option Row). cut_each (cut levels) ns f q) (fun_ext e')

pub cut_nil : (levels : ℕ) (rows : ℕ → Option Row) → cut levels [] rows ≡ rows
cut_nil zero rows = refl
cut_nil (suc levels) rows = refl

pub cut_same : (levels : ℕ) (ns : List ℕ) (rows rows' : ℕ → Option Row) → ((q : ℕ) → rows q ≡ rows' q) → (q : ℕ) → cut levels ns rows q ≡ cut levels ns rows' q
cut_same levels ns rows rows' e q = ap (λ (f : ℕ → Option Row). cut levels ns f q) (fun_ext e)

gone_other : (n q : ℕ) (rows : ℕ → Option Row) → (q == n) ≡ false → gone n rows q ≡ rows q
gone_other n q rows e = rw e refl

settled_none : (a b : Bool) (v : Option Row) → v ≡ (if a then None else None) → (if b then None else v) ≡ None
settled_none true true v e = refl
settled_none true false v e = e
settled_none false true v e = refl
settled_none false false v e = e

settled_some : (a b : Bool) (w v : Option Row) → v ≡ (if a then None else w) → (if b then None else v) ≡ (if a || b then None else w)
settled_some true true w v e = refl
settled_some true false w v e = e
settled_some false true w v e = refl
settled_some false false w v e = e

shared : (n q : ℕ) (a b : Bool) (w v : Option Row) → v ≡ (if a then None else if q == n then None else w) → (if b then None else v) ≡ (if n == q || (a || b) then None else w)
shared n q a b w v e = elim (cases_Bool (n == q)) [
  | inl c ↦ (let d : (q == n) ≡ true = eq-eqb q n (sym (eqb-true n q c)) in rw c (settled_none a b v (rw d at e)))
  | inr c ↦ (
      let d : (q == n) ≡ false = elim (cases_Bool (q == n)) [ inl f ↦ absurd (false≢true (sym c ∙ eq-eqb n q (sym (eqb-true q n f)))) | inr f ↦ f ] in
      rw c (settled_some a b w v (rw d at e)))
]

-- just the rows of the trees are cut
pub cut_is : (levels above : ℕ) (rows : ℕ → Option Row) (t : Forest Kind) → HaveRows rows above t → ((j : ℕ) → tally j t ≤ 1) → height t ≤ levels → (q : ℕ) → cut levels (siblings t) rows q ≡ (if on q t then None else rows q)
cut_is levels above rows none h o l q = ap (λ (f : ℕ → Option Row). f q) (cut_nil levels rows)
cut_is zero above rows (node n x k r) h o l q = absurd (omega arith)
cut_is (suc levels) above rows (node n x k r) h o l q =
    let self : (n == n) ≡ true = eq-eqb n n refl in
    let on_n = rw self at (o n) in
    let off_k : on n k ≡ false = tally_off n k (omega arith) in
    let rows1 = gone n rows in
    let h1 : HaveRows rows1 n k = holds_same rows rows1 n k (λ j i. gone_other n j rows (apart_from j n k i off_k)) h.1 in
    let rows2 = cut levels (siblings k) rows1 in
    let ik = cut_is levels n rows1 k h1 (λ j. (let z = o j in omega arith)) (omega arith) in
    let away : (j : ℕ) → on j r ≡ true → on j k ≡ false = λ j i. tally_off j k (let z = o j in let w = on_tally j r i in omega arith) in
    let off_r : on n r ≡ false = tally_off n r (omega arith) in
    let h2 : HaveRows rows2 above r = holds_same rows rows2 above r (λ j i. ik j ∙ (rw (away j i) (gone_other n j rows (apart_from j n r i off_r)))) h.2 in
    let ir = cut_is (suc levels) above rows2 r h2 (λ j. (let z = o j in omega arith)) (omega arith) q in
    let first : cut (suc levels) (n ∷ siblings r) rows q ≡ cut (suc levels) (siblings r) rows2 q = ap (λ (w : Option Row). cut_each (cut levels) (siblings r) (cut levels (children_of w) rows1) q) h.0 in
    first ∙ (ir ∙ shared n q (on q k) (on q r) (rows q) (rows2 q) (ik q))
