-- The tree of all that stands, after each edit of the rows.
use Rattle.std.proofs.Common.{◌≡◌, ℕ, zero, suc, ◌+◌, ◌<◌, ◌≤◌, ◌&&◌, Bool, true, false, List, [], ◌∷◌, ◌++◌, length, Option, Some, None, inl, inr, eq-eqb, refl, sym, ap, ◌∙◌, arith, cond}
use Rattle.std.specs.Prelude.{not, is_some}
use Rattle.std.proofs.lemmas.Bool.{cases_Bool, cases_eq, ne_eqb, or_left, true≢false}
use Rattle.effect_model.specs.Owners.{Thing, Owned, Cleanup, alone, nothing, thing, cleanup, emptied, put_under, same_thing, taken_out, with_earlier}
use Rattle.effect_model.specs.Owners.{is_holder}
use Rattle.sig_owner.specs.Tables.{IsBare, Item, held, leaf, noted, Row, above_at, above_row, all_ended, changed_at, dropped, is_open, is_row_of, items_at, live_at, owner_count, row_at, thing_at, with_holder, with_item, without}
use Rattle.sig_owner.specs.Trees.{is_top, laid, made_in, owned_of, piled, stands_under, top_items}
use Rattle.sig_owner.specs.Places.{RowsAgree, has_leaf}
use Rattle.signal_model.specs.Signals.{is_in}
use Rattle.sig_owner.specs.Walks.{IsTable, ended_under, with_taken_back}
use Rattle.sig_owner.proofs.Counts.{live_there}
use Rattle.sig_owner.proofs.Removals.{dropped_holds, dropped_length, held_left, in_kept, name_kept, other_row, out_gone, row_is}
use Rattle.sig_owner.proofs.Ends.{ended_held, gone_there, held_lives, keeps, live_there_still, none_here, outside, taken_back_holds, taken_length}
use Rattle.sig_owner.proofs.Forests.{piled_same, same_is, stands_here, stands_past, top_lives}
use Rattle.sig_owner.proofs.Consistency.{IsNew, holder_holds, holder_row, item_holds, last, name, row, size}
use Rattle.sig_owner.proofs.Placement.{leaf_kind}
use Rattle.sig_owner.proofs.Rows.{changed_here, changed_keeps, changed_length, changed_other, row_past}

-- ---- the top

-- rows that look alike from above have the same at the top
tops_same : (rs qs : List Row) (k : ℕ) → length rs ≡ length qs → ((j : ℕ) → is_top (row_at rs j) ≡ is_top (row_at qs j)) → top_items k rs ≡ top_items k qs
tops_same [] [] k l h = refl
tops_same [] (q ∷ qs) k l h = absurd (omega arith)
tops_same (r ∷ rs) [] k l h = absurd (omega arith)
tops_same (r ∷ rs) (q ∷ qs) k l h =
    let ih = tops_same rs qs (k + 1) (let m : length rs ≡ length qs = omega arith in m) (λ j. h (suc j)) in
    let here = h 0 in
    (λ i. cond (here i) (held k ∷ ih i) (ih i))

-- ---- nothing stands under a thing any more

-- what a holder keeps
abbrev pub kept : (ℕ → Thing) → (ℕ → Owned) → Thing → ℕ → Owned
kept names f t m = cond (same_thing t (names m)) nothing (emptied t (f m))

emptied_piled : (names : ℕ → Thing) (f : ℕ → Owned) (t : Thing) (is : List Item) (e : Owned) → emptied t (piled names f is e) ≡ piled names (kept names f t) is (emptied t e)
emptied_piled names f t [] e = refl
emptied_piled names f t (held m ∷ is) e = emptied_piled names f t is (thing (names m) (f m) e)
emptied_piled names f t (noted c ∷ is) e = emptied_piled names f t is (cleanup c e)
emptied_piled names f t (leaf u ∷ is) e = emptied_piled names f t is (thing u nothing e) ∙ ap (λ x. piled names (kept names f t) is (thing u x (emptied t e))) (none (same_thing t u))
  where
    none : (b : Bool) → cond b nothing nothing ≡ nothing
    none true = refl
    none false = refl

module _ (rows : List Row) (owners o : ℕ) (h : RowsAgree rows owners) (live : live_at rows o ≡ true) (table : IsTable (with_taken_back rows o)) where
  name_back : (k : ℕ) → is_in k (ended_under rows o) ≡ false → thing_at (with_taken_back rows o) k ≡ thing_at rows k
  name_back = keeps rows owners o owners h (λ r. r.holder) (λ r. refl)

  above_back : (k : ℕ) → is_in k (ended_under rows o) ≡ false → above_at (with_taken_back rows o) k ≡ above_at rows k
  above_back = keeps rows owners o owners h (λ r. r.above) (λ r. refl)

  -- one of the items that are left
  kept_item : (m : ℕ) → live_at rows m ≡ true → ((o ≡ m → ⊥) → stands_under (with_taken_back rows o) m ≡ emptied (thing_at rows o) (stands_under rows m)) →
      stands_under (with_taken_back rows o) m ≡ kept (thing_at rows) (stands_under rows) (thing_at rows o) m
  kept_item m l f = elim (cases_eq o m) [
    | inl q ↦ stands_here (with_taken_back rows o) table m
        ∙ (ap (λ is. piled (thing_at (with_taken_back rows o)) (stands_under (with_taken_back rows o)) is nothing) (none_here rows owners o owners h m (sym q))
        ∙ sym (ap (λ b. cond b nothing (emptied (thing_at rows o) (stands_under rows m))) (same_is rows owners h o m live l ∙ eq-eqb o m q)))
    | inr q ↦ f q ∙ sym (ap (λ b. cond b nothing (emptied (thing_at rows o) (stands_under rows m))) (same_is rows owners h o m live l ∙ ne_eqb o m q))
  ]

  back_under : (b n : ℕ) → length rows ≤ b + n → (o ≡ n → ⊥) → is_in n (ended_under rows o) ≡ false → stands_under (with_taken_back rows o) n ≡ emptied (thing_at rows o) (stands_under rows n)
  back_under zero n s q x =
      stands_past (with_taken_back rows o) table n (let l = taken_length rows owners o owners h in omega (arith, l, s)) ∙ sym (ap (emptied (thing_at rows o)) (stands_past rows h.table n (omega (arith, s))))
  back_under (suc b) n s q x =
      stands_here (with_taken_back rows o) table n
      ∙ (ap (λ (r : Row). piled (thing_at (with_taken_back rows o)) (stands_under (with_taken_back rows o)) r.items nothing) (outside rows owners o owners h n (λ z. q (sym z)) x)
      ∙ (piled_same (thing_at (with_taken_back rows o)) (thing_at rows) (stands_under (with_taken_back rows o)) (kept (thing_at rows) (stands_under rows) (thing_at rows o)) (items_at rows n) nothing
      (λ m e. let y = h.table.later n m e in let l = held_lives rows owners o owners h n m (λ z. q (sym z)) x e in
      (name_back m l, kept_item m (h.table.lives n m e) (λ w. back_under b m (omega (arith, y, s)) w l)))
      ∙ sym (ap (emptied (thing_at rows o)) (stands_here rows h.table n) ∙ emptied_piled (thing_at rows) (stands_under rows) (thing_at rows o) (items_at rows n) nothing)))

  top_stays : (k : ℕ) → is_top (row_at (with_taken_back rows o) k) ≡ is_top (row_at rows k)
  top_stays k = elim (cases_Bool (is_in k (ended_under rows o))) [
    | inl x ↦ (let z = ended_held rows o k x in
        (λ i. (gone_there rows owners o owners h k x i) && not (is_some (above_at (with_taken_back rows o) k)))
        ∙ sym (ap (λ a. live_at rows k && not (is_some a)) (h.above z.above k z.held) ∙ off (live_at rows k)))
    | inr x ↦ (λ i. (live_there_still rows owners o owners h k x i) && not (is_some (above_back k x i)))
  ]
    where
      off : (b : Bool) → (b && false) ≡ false
      off true = refl
      off false = refl

  top_not_ended : (m : ℕ) → above_at rows m ≡ None → is_in m (ended_under rows o) ≡ false
  top_not_ended m a = elim (cases_Bool (is_in m (ended_under rows o))) [
    | inl x ↦ (let z = ended_held rows o m x in let y : None ≡ Some z.above = sym a ∙ h.above z.above m z.held in absurd (cc))
    | inr x ↦ x
  ]

  -- after things were taken back
  pub emptied_is : owned_of (with_taken_back rows o) ≡ emptied (thing_at rows o) (owned_of rows)
  unfolding owned_of
  emptied_is =
      ap (λ is. piled (thing_at (with_taken_back rows o)) (stands_under (with_taken_back rows o)) is nothing) (tops_same (with_taken_back rows o) rows 0 (taken_length rows owners o owners h) top_stays)
      ∙ (piled_same (thing_at (with_taken_back rows o)) (thing_at rows) (stands_under (with_taken_back rows o)) (kept (thing_at rows) (stands_under rows) (thing_at rows o)) (top_items 0 rows) nothing
      (λ m e. let t = top_lives rows owners h m e in let l = top_not_ended m t.1 in (name_back m l, kept_item m t.0 (λ w. back_under (length rows) m (omega arith) w l)))
      ∙ sym (emptied_piled (thing_at rows) (stands_under rows) (thing_at rows o) (top_items 0 rows) nothing))

-- ---- a thing is taken out

taken_piled : (names : ℕ → Thing) (f : ℕ → Owned) (t : Thing) (is : List Item) (e : Owned) → taken_out t (piled names f is e) ≡ piled names (λ m. taken_out t (f m)) (without names t is) (taken_out t e)
taken_piled names f t [] e = refl
taken_piled names f t (noted c ∷ is) e = taken_piled names f t is (cleanup c e)
taken_piled names f t (held m ∷ is) e = taken_piled names f t is (thing (names m) (f m) e) ∙ by (same_thing t (names m))
  where
    by : (b : Bool) → piled names (λ k. taken_out t (f k)) (without names t is) (cond b (taken_out t e) (thing (names m) (taken_out t (f m)) (taken_out t e)))
        ≡ piled names (λ k. taken_out t (f k)) (cond b (without names t is) (held m ∷ without names t is)) (taken_out t e)
    by true = refl
    by false = refl
taken_piled names f t (leaf u ∷ is) e = taken_piled names f t is (thing u nothing e) ∙ by (same_thing t u)
  where
    by : (b : Bool) → piled names (λ k. taken_out t (f k)) (without names t is) (cond b (taken_out t e) (thing u nothing (taken_out t e)))
        ≡ piled names (λ k. taken_out t (f k)) (cond b (without names t is) (leaf u ∷ without names t is)) (taken_out t e)
    by true = refl
    by false = refl

tops_without : (names : ℕ → Thing) (t : Thing) (rs qs : List Row) (k : ℕ) → length qs ≡ length rs → ((j : ℕ) → j < length rs → names (k + j) ≡ (row_at rs j).holder) →
    ((j : ℕ) → is_top (row_at qs j) ≡ (is_top (row_at rs j) && not (same_thing t (row_at rs j).holder))) → top_items k qs ≡ without names t (top_items k rs)
tops_without names t [] [] k l n h = refl
tops_without names t [] (q ∷ qs) k l n h = absurd (omega arith)
tops_without names t (r ∷ rs) [] k l n h = absurd (omega arith)
tops_without names t (r ∷ rs) (q ∷ qs) k l n h =
    let ih = tops_without names t rs qs (k + 1) (let m : length qs ≡ length rs = omega arith in m)
    (λ j lt. ap names (let e : k + 1 + j ≡ k + suc j = omega arith in e) ∙ n (suc j) (let m : suc j < suc (length rs) = omega (arith, lt) in m)) (λ j. h (suc j)) in
    let here : names k ≡ r.holder = ap names (let e : k ≡ k + 0 = omega arith in e) ∙ n 0 (omega arith) in
    (λ i. cond (h 0 i) (held k ∷ ih i) (ih i))
    ∙ ((λ i. cond (is_top r && not (same_thing t (sym here i))) (held k ∷ without names t (top_items (k + 1) rs)) (without names t (top_items (k + 1) rs)))
    ∙ by (is_top r) (same_thing t (names k)) refl)
  where
    by : (a b : Bool) → same_thing t (names k) ≡ b → cond (a && not b) (held k ∷ without names t (top_items (k + 1) rs)) (without names t (top_items (k + 1) rs)) ≡ without names t (cond a (held k ∷ top_items (k + 1) rs) (top_items (k + 1) rs))
    by false b e = refl
    by true true e = rw e refl
    by true false e = rw e refl

module _ (rows : List Row) (owners : ℕ) (t : Thing) (h : RowsAgree rows owners) (table : IsTable (dropped t rows)) where
  out_under : (b n : ℕ) → length rows ≤ b + n → is_row_of t (row_at rows n) ≡ false → stands_under (dropped t rows) n ≡ taken_out t (stands_under rows n)
  out_under zero n s q =
      stands_past (dropped t rows) table n (let l = dropped_length t rows in omega (arith, l, s)) ∙ sym (ap (taken_out t) (stands_past rows h.table n (omega (arith, s))))
  out_under (suc b) n s q =
      stands_here (dropped t rows) table n
      ∙ (ap (λ (r : Row). piled (thing_at (dropped t rows)) (stands_under (dropped t rows)) r.items nothing) (in_kept rows owners owners t h n q)
      ∙ (piled_same (thing_at (dropped t rows)) (thing_at rows) (stands_under (dropped t rows)) (λ m. taken_out t (stands_under rows m)) (without (thing_at rows) t (items_at rows n)) nothing
      (λ m e. let w = held_left (thing_at rows) t m (items_at rows n) e in let y = h.table.later n m w.0 in let f = other_row rows owners owners t h m (h.table.lives n m w.0) w.1 in
      (name_kept rows owners owners t h m f, out_under b m (omega (arith, y, s)) f))
      ∙ sym (ap (taken_out t) (stands_here rows h.table n) ∙ taken_piled (thing_at rows) (stands_under rows) t (items_at rows n) nothing)))

  top_left : (j : ℕ) → is_top (row_at (dropped t rows) j) ≡ (is_top (row_at rows j) && not (same_thing t (thing_at rows j)))
  top_left j = elim (cases_Bool (is_row_of t (row_at rows j))) [
    | inl q ↦ (let r = row_is t (row_at rows j) q in
        ap is_top (out_gone rows owners owners t h j q) ∙ sym (ap (λ b. is_top (row_at rows j) && not b) r.1 ∙ off (is_top (row_at rows j))))
    | inr q ↦ ap is_top (in_kept rows owners owners t h j q) ∙ by (row_at rows j).live (not (is_some (above_at rows j))) (same_thing t (thing_at rows j)) q
  ]
    where
      off : (b : Bool) → (b && false) ≡ false
      off true = refl
      off false = refl

      by : (a b c : Bool) → (a && c) ≡ false → (a && b) ≡ ((a && b) && not c)
      by false b c e = refl
      by true true c e = sym (ap not e)
      by true false c e = refl

  -- after a thing was taken out
  pub taken_is : owned_of (dropped t rows) ≡ taken_out t (owned_of rows)
  unfolding owned_of
  taken_is =
      ap (λ is. piled (thing_at (dropped t rows)) (stands_under (dropped t rows)) is nothing)
      (tops_without (thing_at rows) t rows (dropped t rows) 0 (dropped_length t rows) (λ j lt. ap (thing_at rows) (let e : 0 + j ≡ j = omega arith in e)) top_left)
      ∙ (piled_same (thing_at (dropped t rows)) (thing_at rows) (stands_under (dropped t rows)) (λ m. taken_out t (stands_under rows m)) (without (thing_at rows) t (top_items 0 rows)) nothing
      (λ m e. let w = held_left (thing_at rows) t m (top_items 0 rows) e in let f = other_row rows owners owners t h m (top_lives rows owners h m w.0).0 w.1 in
      (name_kept rows owners owners t h m f, out_under (length rows) m (omega arith) f))
      ∙ sym (taken_piled (thing_at rows) (stands_under rows) t (top_items 0 rows) nothing))

-- ---- one more is put under a holder

-- what a holder has after one is put under a thing
abbrev pub grown : (ℕ → Thing) → (ℕ → Owned) → Thing → Owned → ℕ → Owned
grown names f t one m = cond (same_thing t (names m)) (with_earlier one (f m)) (put_under t one (f m))

put_piled : (names : ℕ → Thing) (f : ℕ → Owned) (t : Thing) (one : Owned) (is : List Item) (e : Owned) → has_leaf t is ≡ false → put_under t one (piled names f is e) ≡ piled names (grown names f t one) is (put_under t one e)
put_piled names f t one [] e q = refl
put_piled names f t one (held m ∷ is) e q = put_piled names f t one is (thing (names m) (f m) e) q
put_piled names f t one (noted c ∷ is) e q = put_piled names f t one is (cleanup c e) q
put_piled names f t one (leaf u ∷ is) e q = elim (cases_Bool (same_thing t u)) [
  | inl s ↦ absurd (true≢false (sym (or_left (same_thing t u) (has_leaf t is) s) ∙ q))
  | inr s ↦ (let r : has_leaf t is ≡ false = rw s at q in
      put_piled names f t one is (thing u nothing e) r ∙ ap (λ b. piled names (grown names f t one) is (thing u (cond b (with_earlier one nothing) nothing) (put_under t one e))) s)
]

piled_last : (names : ℕ → Thing) (f : ℕ → Owned) (is : List Item) (i : Item) (e : Owned) → piled names f (is ++ i ∷ []) e ≡ laid names f i (piled names f is e)
piled_last names f [] i e = refl
piled_last names f (j ∷ is) i e = piled_last names f is i (laid names f j e)

laid_earlier : (names : ℕ → Thing) (f : ℕ → Owned) (i : Item) (x : Owned) → laid names f i x ≡ with_earlier (laid names f i nothing) x
laid_earlier names f (held m) x = refl
laid_earlier names f (leaf t) x = refl
laid_earlier names f (noted c) x = refl

-- no thing that holds nothing is among the holders at the top
pub tops_leaf : (t : Thing) (k : ℕ) (rs : List Row) → has_leaf t (top_items k rs) ≡ false
tops_leaf t k [] = refl
tops_leaf t k (r ∷ rs) = by (is_top r) (tops_leaf t (k + 1) rs)
  where
    by : (b : Bool) → has_leaf t (top_items (k + 1) rs) ≡ false → has_leaf t (cond b (held k ∷ top_items (k + 1) rs) (top_items (k + 1) rs)) ≡ false
    by true e = e
    by false e = e

-- from one number on the rows hold the same, and the things are the same
pub alike_under : (rows rows' : List Row) → IsTable rows → IsTable rows' → length rows ≤ length rows' → ((m : ℕ) → m < length rows → thing_at rows' m ≡ thing_at rows m) → (low : ℕ) → ((n : ℕ) → low ≤ n → items_at rows' n ≡ items_at rows n) →
    (b n : ℕ) → length rows' ≤ b + n → low ≤ n → stands_under rows' n ≡ stands_under rows n
alike_under rows rows' t t' le names low same zero n s q = stands_past rows' t' n (omega (arith, s)) ∙ sym (stands_past rows t n (omega (arith, le, s)))
alike_under rows rows' t t' le names low same (suc b) n s q =
    stands_here rows' t' n
    ∙ (ap (λ is. piled (thing_at rows') (stands_under rows') is nothing) (same n q)
    ∙ (piled_same (thing_at rows') (thing_at rows) (stands_under rows') (stands_under rows) (items_at rows n) nothing
    (λ m e. let x = t.later n m e in let y = live_there rows m (t.lives n m e) in (names m y, alike_under rows rows' t t' le names low same b m (omega (arith, x, s)) (omega (arith, x, q))))
    ∙ sym (stands_here rows t n)))

-- rows with one item more under one holder
pub record Puts (rows rows' : List Row) (o : ℕ) (i : Item) : Type 0 where
  pub others : (n : ℕ) → (o ≡ n → ⊥) → items_at rows' n ≡ items_at rows n
  pub here : items_at rows' o ≡ items_at rows o ++ i ∷ []
  pub names : (m : ℕ) → m < length rows → thing_at rows' m ≡ thing_at rows m
  pub tops : top_items 0 rows' ≡ top_items 0 rows
  pub more : length rows ≤ length rows'
  pub table : IsTable rows'

module _ (rows rows' : List Row) (owners o : ℕ) (i : Item) (h : RowsAgree rows owners) (live : live_at rows o ≡ true) (p : Puts rows rows' o i) where
  has_none : (n : ℕ) → has_leaf (thing_at rows o) (items_at rows n) ≡ false
  has_none n = elim (cases_Bool (has_leaf (thing_at rows o) (items_at rows n))) [
    | inl q ↦ absurd (true≢false (sym (h.kinds o live) ∙ leaf_kind (thing_at rows o) (items_at rows n) (h.leaves n) q))
    | inr q ↦ q
  ]

  put_here : stands_under rows' o ≡ with_earlier (laid (thing_at rows') (stands_under rows') i nothing) (stands_under rows o)
  put_here =
      stands_here rows' p.table o
      ∙ (ap (λ is. piled (thing_at rows') (stands_under rows') is nothing) p.here
      ∙ (piled_last (thing_at rows') (stands_under rows') (items_at rows o) i nothing
      ∙ (ap (laid (thing_at rows') (stands_under rows') i)
      (piled_same (thing_at rows') (thing_at rows) (stands_under rows') (stands_under rows) (items_at rows o) nothing
      (λ m e. let x = h.table.later o m e in
      (p.names m (live_there rows m (h.table.lives o m e)), alike_under rows rows' h.table p.table p.more p.names (suc o) (λ n q. p.others n (λ z. absurd (omega (arith, q, z)))) (length rows') m (omega arith) (omega (arith, x))))
      ∙ sym (stands_here rows h.table o))
      ∙ laid_earlier (thing_at rows') (stands_under rows') i (stands_under rows o))))

  grown_item : (m : ℕ) → live_at rows m ≡ true → ((o ≡ m → ⊥) → stands_under rows' m ≡ put_under (thing_at rows o) (laid (thing_at rows') (stands_under rows') i nothing) (stands_under rows m)) →
      stands_under rows' m ≡ grown (thing_at rows) (stands_under rows) (thing_at rows o) (laid (thing_at rows') (stands_under rows') i nothing) m
  grown_item m l f = elim (cases_eq o m) [
    | inl q ↦ ap (stands_under rows') (sym q) ∙ (put_here ∙ (ap (λ k. with_earlier (laid (thing_at rows') (stands_under rows') i nothing) (stands_under rows k)) q
        ∙ sym (ap (λ b. cond b (with_earlier (laid (thing_at rows') (stands_under rows') i nothing) (stands_under rows m)) (put_under (thing_at rows o) (laid (thing_at rows') (stands_under rows') i nothing) (stands_under rows m)))
        (same_is rows owners h o m live l ∙ eq-eqb o m q))))
    | inr q ↦ f q
        ∙ sym (ap (λ b. cond b (with_earlier (laid (thing_at rows') (stands_under rows') i nothing) (stands_under rows m)) (put_under (thing_at rows o) (laid (thing_at rows') (stands_under rows') i nothing) (stands_under rows m)))
        (same_is rows owners h o m live l ∙ ne_eqb o m q))
  ]

  put_there : (b n : ℕ) → length rows' ≤ b + n → (o ≡ n → ⊥) → stands_under rows' n ≡ put_under (thing_at rows o) (laid (thing_at rows') (stands_under rows') i nothing) (stands_under rows n)
  put_there zero n s q = stands_past rows' p.table n (omega (arith, s)) ∙ sym (ap (put_under (thing_at rows o) (laid (thing_at rows') (stands_under rows') i nothing)) (stands_past rows h.table n (let m = p.more in omega (arith, s, m))))
  put_there (suc b) n s q =
      stands_here rows' p.table n
      ∙ (ap (λ is. piled (thing_at rows') (stands_under rows') is nothing) (p.others n q)
      ∙ (piled_same (thing_at rows') (thing_at rows) (stands_under rows') (grown (thing_at rows) (stands_under rows) (thing_at rows o) (laid (thing_at rows') (stands_under rows') i nothing)) (items_at rows n) nothing
      (λ m e. let x = h.table.later n m e in (p.names m (live_there rows m (h.table.lives n m e)), grown_item m (h.table.lives n m e) (λ w. put_there b m (omega (arith, x, s)) w)))
      ∙ sym (ap (put_under (thing_at rows o) (laid (thing_at rows') (stands_under rows') i nothing)) (stands_here rows h.table n)
      ∙ put_piled (thing_at rows) (stands_under rows) (thing_at rows o) (laid (thing_at rows') (stands_under rows') i nothing) (items_at rows n) nothing (has_none n))))

  -- after one was put under a holder
  pub put_is : owned_of rows' ≡ put_under (thing_at rows o) (laid (thing_at rows') (stands_under rows') i nothing) (owned_of rows)
  unfolding owned_of
  put_is =
      ap (λ is. piled (thing_at rows') (stands_under rows') is nothing) p.tops
      ∙ (piled_same (thing_at rows') (thing_at rows) (stands_under rows') (grown (thing_at rows) (stands_under rows) (thing_at rows o) (laid (thing_at rows') (stands_under rows') i nothing)) (top_items 0 rows) nothing
      (λ m e. let t = top_lives rows owners h m e in (p.names m (live_there rows m t.0), grown_item m t.0 (λ w. put_there (length rows') m (omega arith) w)))
      ∙ sym (put_piled (thing_at rows) (stands_under rows) (thing_at rows o) (laid (thing_at rows') (stands_under rows') i nothing) (top_items 0 rows) nothing (tops_leaf (thing_at rows o) 0 rows)))

-- a plain item more
pub item_puts : (rows : List Row) (owners n : ℕ) (i : Item) → RowsAgree rows owners → live_at rows n ≡ true → IsTable (changed_at (with_item i) n rows) → Puts rows (changed_at (with_item i) n rows) n i
item_puts rows owners n i h l t = record {
  others = λ k q. ap (λ (r : Row). r.items) (changed_other (with_item i) n k rows q);
  here = ap (λ (r : Row). r.items) (changed_here (with_item i) n rows (live_there rows n l));
  names = λ m q. changed_keeps (λ r. r.holder) (with_item i) (λ r. refl) n rows m;
  tops = tops_same (changed_at (with_item i) n rows) rows 0 (changed_length (with_item i) n rows) (λ j. changed_keeps is_top (with_item i) (λ r. refl) n rows j);
  more = let z = changed_length (with_item i) n rows in omega (arith, z);
  table = t;
}

-- ---- a holder is made

tops_more : (k : ℕ) (rs : List Row) (r : Row) → is_top r ≡ false → top_items k (rs ++ r ∷ []) ≡ top_items k rs
tops_more k [] r e = rw e refl
tops_more k (q ∷ rs) r e = ap (λ is. cond (is_top q) (held k ∷ is) is) (tops_more (k + 1) rs r e)

tops_last : (k : ℕ) (rs : List Row) (r : Row) → is_top r ≡ true → top_items k (rs ++ r ∷ []) ≡ top_items k rs ++ held (k + length rs) ∷ []
tops_last k [] r e = rw e (ap (λ (n : ℕ). held n ∷ []) (let z : k ≡ k + 0 = omega arith in z))
tops_last k (q ∷ rs) r e =
    let ih = tops_last (k + 1) rs r e ∙ ap (λ (n : ℕ). top_items (k + 1) rs ++ held n ∷ []) (let z : k + 1 + length rs ≡ k + suc (length rs) = omega arith in z) in
    ap (λ is. cond (is_top q) (held k ∷ is) is) ih ∙ by (is_top q)
  where
    by : (b : Bool) → cond b (held k ∷ (top_items (k + 1) rs ++ held (k + suc (length rs)) ∷ [])) (top_items (k + 1) rs ++ held (k + suc (length rs)) ∷ []) ≡ cond b (held k ∷ top_items (k + 1) rs) (top_items (k + 1) rs) ++ held (k + suc (length rs)) ∷ []
    by true = refl
    by false = refl

module _ (rows : List Row) (owners : ℕ) (t : Thing) (new : IsNew rows t) (h : RowsAgree rows owners) where
  new_empty : (inside : Option ℕ) → is_open rows inside ≡ true → stands_under (with_holder rows inside t) (length rows) ≡ nothing
  new_empty inside may =
      stands_here (with_holder rows inside t) (holder_holds rows owners inside t new may h).table (length rows)
      ∙ ap (λ (r : Row). piled (thing_at (with_holder rows inside t)) (stands_under (with_holder rows inside t)) r.items nothing) (last rows owners inside t new may h (length rows) refl)

  new_name : (inside : Option ℕ) → is_open rows inside ≡ true → thing_at (with_holder rows inside t) (length rows) ≡ t
  new_name inside may = ap (λ (r : Row). r.holder) (last rows owners inside t new may h (length rows) refl)

  holder_puts : (o : ℕ) → (live : live_at rows o ≡ true) → Puts rows (with_holder rows (Some o) t) o (held (length rows))
  holder_puts o live = record {
    others = λ n q. elim (holder_row rows (Some o) t n) [
      | inl x ↦ ap (λ (r : Row). r.items) (x.1 ∙ changed_other (with_item (held (length rows))) o n rows q)
      | inr x ↦ ap (λ (r : Row). r.items) x.1 ∙ sym (ap (λ (r : Row). r.items) (row_past rows n (let z = x.0 in omega (arith, z))))
    ];
    here = ap (λ (r : Row). r.items) (row rows owners (Some o) t new live h o (λ z. let l = live_there rows o live in absurd (omega (arith, l, z))) ∙ changed_here (with_item (held (length rows))) o rows (live_there rows o live));
    names = λ m lt. name rows owners (Some o) t new live h m (λ z. absurd (omega (arith, lt, z)));
    tops = tops_more 0 (changed_at (with_item (held (length rows))) o rows) (above_row t (Some o)) refl
        ∙ tops_same (changed_at (with_item (held (length rows))) o rows) rows 0 (changed_length (with_item (held (length rows))) o rows) (λ j. changed_keeps is_top (with_item (held (length rows))) (λ r. refl) o rows j);
    more = let z = size rows owners (Some o) t new live h in omega (arith, z);
    table = (holder_holds rows owners (Some o) t new live h).table;
  }

  made_top : owned_of (with_holder rows None t) ≡ thing t nothing (owned_of rows)
  unfolding owned_of
  made_top =
      ap (λ is. piled (thing_at (with_holder rows None t)) (stands_under (with_holder rows None t)) is nothing) (tops_last 0 rows (above_row t None) refl)
      ∙ (piled_last (thing_at (with_holder rows None t)) (stands_under (with_holder rows None t)) (top_items 0 rows) (held (0 + length rows)) nothing
      ∙ (ap (λ (k : ℕ). thing (thing_at (with_holder rows None t) k) (stands_under (with_holder rows None t) k) (piled (thing_at (with_holder rows None t)) (stands_under (with_holder rows None t)) (top_items 0 rows) nothing)) (let z : 0 + length rows ≡ length rows = omega arith in z)
      ∙ (λ i. thing (new_name None refl i) (new_empty None refl i) (same i))))
    where
      same : piled (thing_at (with_holder rows None t)) (stands_under (with_holder rows None t)) (top_items 0 rows) nothing ≡ piled (thing_at rows) (stands_under rows) (top_items 0 rows) nothing
      same = piled_same (thing_at (with_holder rows None t)) (thing_at rows) (stands_under (with_holder rows None t)) (stands_under rows) (top_items 0 rows) nothing
          (λ m e. (
            name rows owners None t new refl h m (λ z. let l = live_there rows m (top_lives rows owners h m e).0 in absurd (omega (arith, l, z))),
            alike_under rows (with_holder rows None t) h.table (holder_holds rows owners None t new refl h).table (let z = size rows owners None t new refl h in omega (arith, z))
                (λ k lt. name rows owners None t new refl h k (λ z. absurd (omega (arith, lt, z)))) 0
                (λ k q. elim (holder_row rows None t k) [
                  | inl x ↦ ap (λ (r : Row). r.items) x.1
                  | inr x ↦ ap (λ (r : Row). r.items) x.1 ∙ sym (ap (λ (r : Row). r.items) (row_past rows k (let w = x.0 in omega (arith, w))))
                ]) (length (with_holder rows None t)) m (omega arith) (omega arith),
          ))

  -- after a holder was made
  pub made_is : (inside : Option ℕ) → is_open rows inside ≡ true → owned_of (with_holder rows inside t) ≡ made_in rows inside t (owned_of rows)
  made_is None may = made_top
  made_is (Some o) may =
      put_is rows (with_holder rows (Some o) t) owners o (held (length rows)) h may (holder_puts o may)
      ∙ (λ i. put_under (thing_at rows o) (thing (new_name (Some o) may i) (new_empty (Some o) may i) nothing) (owned_of rows))

-- ---- as callers see it

pub made_seen : (rows rows' seen : List Row) (owners : ℕ) (inside : Option ℕ) (t : Thing) → IsNew rows t → is_open rows inside ≡ true → RowsAgree rows owners → rows' ≡ with_holder rows inside t → rows ≡ seen →
    owned_of rows' ≡ made_in seen inside t (owned_of seen)
made_seen rows rows' seen owners inside t new may h e v = ap owned_of e ∙ (made_is rows owners t new h inside may ∙ ap (λ rs. made_in rs inside t (owned_of rs)) v)

pub leaf_seen : (rows rows' seen : List Row) (owners n : ℕ) (t : Thing) → is_holder t ≡ false → live_at rows n ≡ true → RowsAgree rows owners → rows' ≡ changed_at (with_item (leaf t)) n rows → rows ≡ seen →
    owned_of rows' ≡ put_under (thing_at seen n) (alone t) (owned_of seen)
leaf_seen rows rows' seen owners n t k l h e v =
    ap owned_of e
    ∙ (put_is rows (changed_at (with_item (leaf t)) n rows) owners n (leaf t) h l (item_puts rows owners n (leaf t) h l (item_holds rows owners n (leaf t) k l h).table)
    ∙ ap (λ rs. put_under (thing_at rs n) (alone t) (owned_of rs)) v)

pub noted_seen : (rows rows' seen : List Row) (owners n : ℕ) (c : Cleanup) → live_at rows n ≡ true → RowsAgree rows owners → rows' ≡ changed_at (with_item (noted c)) n rows → rows ≡ seen →
    owned_of rows' ≡ put_under (thing_at seen n) (cleanup c nothing) (owned_of seen)
noted_seen rows rows' seen owners n c l h e v =
    ap owned_of e
    ∙ (put_is rows (changed_at (with_item (noted c)) n rows) owners n (noted c) h l (item_puts rows owners n (noted c) h l (item_holds rows owners n (noted c) tt l h).table)
    ∙ ap (λ rs. put_under (thing_at rs n) (cleanup c nothing) (owned_of rs)) v)

pub taken_back_seen : (rows rows' seen : List Row) (owners o : ℕ) → live_at rows o ≡ true → RowsAgree rows owners → rows' ≡ with_taken_back rows o → rows ≡ seen → owned_of rows' ≡ emptied (thing_at seen o) (owned_of seen)
taken_back_seen rows rows' seen owners o l h e v =
    ap owned_of e
    ∙ (emptied_is rows owners o h l (taken_back_holds rows owners o (owner_count (all_ended (ended_under rows o) rows)) h refl).table
    ∙ ap (λ rs. emptied (thing_at rs o) (owned_of rs)) v)

pub dropped_seen : (rows rows' seen : List Row) (owners : ℕ) (t : Thing) → IsBare rows t → RowsAgree rows owners → rows' ≡ dropped t rows → rows ≡ seen → owned_of rows' ≡ taken_out t (owned_of seen)
dropped_seen rows rows' seen owners t bare h e v =
    ap owned_of e ∙ (taken_is rows owners t h (dropped_holds rows owners (owner_count (dropped t rows)) t h bare refl).table ∙ ap (λ rs. taken_out t (owned_of rs)) v)
