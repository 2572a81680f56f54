-- Rows that are gone over, one after the other.
use Rattle.std.proofs.Common.{◌≡◌, ◌<◌, ◌≤◌, ◌+◌, ℕ, zero, suc, Bool, Option, Some, None, List, [], ◌∷◌, ◌++◌, length, map, drop, get_or, slice_get, slice_index_or, is_some, IfSome, nat_lt, refl, sym, ap, subst, ◌∙◌, ◌⊎◌, inl, inr, arith}
use Rattle.std.proofs.lemmas.List.{drop_more}
use Rattle.std.proofs.lemmas.Option.{slice_get_past, slice_get_read}
use Rattle.std.proofs.lemmas.Bool.Decides.{nat_tests}
use denote.Ref.{Bor}
use Rattle.std.specs.Option.{option_copied}
use Rattle.sig_base.specs.Tables.{Table}
use Rattle.sig_base.specs.declared.rows.Row.{Row}
use Rattle.tpl_model.specs.KeptLines.Changes.{Change, also, nothing, stays, chain, changed}
use Rattle.tpl_model.specs.declared.change.Change as code
use Rattle.tpl_drawn.specs.Marks.{children_in, Knows}
use Rattle.tpl_drawn.proofs.Numbered.Marks.{children_after}
use Rattle.tpl_drawn.proofs.Shaped.Behind.{row_shown}
use Rattle.tpl_model.specs.KeptLines.Kept.{rows_from}
use Rattle.tpl_model.specs.Lines.{Block}
use Rattle.tpl_model.specs.Shapes.{Here}
use Rattle.tpl_model.specs.declared.shown.Address.{Address}
use Rattle.tpl_model.specs.ShownNodes.Shapes.{Marked, Next}
use Rattle.tpl_model.specs.PageUpdates.PageMemos.{PageMemo, blank, row, nodes, row_nodes}
use Rattle.tpl_drawn.specs.Comparison.{marked_by, restated_part, restating, row_marks, touched_part, touching}
use Rattle.tpl_drawn.specs.Walks.{Walk, as_listed, further, of_lines, of_rows, or_stays}
use Rattle.tpl_drawn.proofs.Compares.Walks.{alone, both_gone, listed_both, none_listed, stays_gone}

-- one row, and those behind it
row_also : (known : ℕ → Option ℕ) (inner : Block) (h : Here) (m next : PageMemo) (c d : Change) →
    of_rows known inner (row h m next) (also c d) ≡ further (of_lines known (Some h.key) inner m c) (of_rows known inner next d)
row_also known inner h m next c d = λ i. record {
  children = children_after known (nodes (Some h.key) inner m) (row_nodes (row_shown inner) next) i;
  touched = (of_rows known inner (row h m next) (also c d)).touched;
  restated = (of_rows known inner (row h m next) (also c d)).restated;
}

-- where nothing is told of rows, none is marked
none_told : (go : Here → PageMemo → Change → List Marked) (m : PageMemo) → row_marks go m nothing ≡ []
none_told go (row h m next) = refl
none_told go m = refl

untold : (known : ℕ → Option ℕ) (inner : Block) (m : PageMemo) → of_rows known inner m nothing ≡ alone (children_in known (row_nodes (row_shown inner) m))
untold known inner m = λ i. record {
  children = children_in known (row_nodes (row_shown inner) m);
  touched = none_told (λ here m d. marked_by touching touched_part known (Some here.key) inner m d) m i;
  restated = none_told (λ here m d. marked_by restating restated_part known (Some here.key) inner m d) m i;
}

row_nothing : (known : ℕ → Option ℕ) (inner : Block) (h : Here) (m next : PageMemo) →
    of_rows known inner (row h m next) nothing ≡ further (of_lines known (Some h.key) inner m stays) (of_rows known inner next nothing)
row_nothing known inner h m next =
    let below = row_nodes (row_shown inner) next in
    ap alone (children_after known (nodes (Some h.key) inner m) below)
    ∙ (ap (λ z. further z (alone (children_in known below))) (stays_gone known (Some h.key) inner m)
    ∙ ap (further (of_lines known (Some h.key) inner m stays)) (sym (untold known inner next)))

-- a row at a place
abbrev row_at : Table → ℕ → Row → Here
row_at t i r = record { key = r.key; row = record { rows = t; place = i } }

-- the table and the place of a row don't matter
same_place : (known : ℕ → Option ℕ) (inner : Block) (t u : Table) (i j : ℕ) (rs : List Row) (ms : List PageMemo) (cs : List Change) →
    of_rows known inner (rows_from t i rs ms) (chain cs) ≡ of_rows known inner (rows_from u j rs ms) (chain cs)
same_place known inner t u i j [] ms cs = refl
same_place known inner t u i j (r ∷ rs) [] cs = refl
same_place known inner t u i j (r ∷ rs) (m ∷ ms) [] =
    row_nothing known inner (row_at t i r) m (rows_from t (suc i) rs ms)
    ∙ (ap (further (of_lines known (Some r.key) inner m stays)) (same_place known inner t u (suc i) (suc j) rs ms [])
    ∙ sym (row_nothing known inner (row_at u j r) m (rows_from u (suc j) rs ms)))
same_place known inner t u i j (r ∷ rs) (m ∷ ms) (c ∷ cs) =
    row_also known inner (row_at t i r) m (rows_from t (suc i) rs ms) c (chain cs)
    ∙ (ap (further (of_lines known (Some r.key) inner m c)) (same_place known inner t u (suc i) (suc j) rs ms cs)
    ∙ sym (row_also known inner (row_at u j r) m (rows_from u (suc j) rs ms) c (chain cs)))

-- past the end nothing is left
pub past : {A : Type 0} (xs : List A) (n : ℕ) → length xs ≤ n → drop n xs ≡ []
past [] zero l = refl
past [] (suc n) l = refl
past (x ∷ xs) zero l = absurd (omega (arith, l))
past (x ∷ xs) (suc n) l = past xs n (omega (arith, l))

-- what is told of the row at a place, and of those behind it
pub data Told (c : Option code.Change) (cs later : List code.Change) : Type 0 where
  one : (d : code.Change) → c ≡ Some d → cs ≡ d ∷ later → Told c cs later
  none_left : c ≡ None → cs ≡ [] → later ≡ [] → Told c cs later

told_behind : (cs : List code.Change) (n : ℕ) → Told (slice_get cs n) (drop n cs) (drop (suc n) cs)
told_behind [] n = none_left refl (past [] n (omega arith)) refl
told_behind (c ∷ cs) zero = one c refl refl
told_behind (c ∷ cs) (suc n) = told_behind cs n

pub told_at : (cs : List code.Change) (n : ℕ) (c : Option code.Change) → c ≡ slice_get cs n → Told c (drop n cs) (drop (n + 1) cs)
told_at cs n c e =
    let more : suc n ≡ n + 1 = omega arith in
    subst (λ z. Told z (drop n cs) (drop (n + 1) cs)) (sym e) (subst (λ z. Told (slice_get cs n) (drop n cs) (drop z cs)) more (told_behind cs n))

row_split : (known : ℕ → Option ℕ) (inner : Block) (t : Table) (r : Row) (m : PageMemo) (rs : List Row) (ms : List PageMemo) (c : Option code.Change)
    (changes_left cs : List code.Change) → Told c changes_left cs →
    further (of_lines known (Some r.key) inner m (or_stays c)) (of_rows known inner (rows_from t 0 rs ms) (chain (map changed cs)))
    ≡ of_rows known inner (rows_from t 0 (r ∷ rs) (m ∷ ms)) (chain (map changed changes_left))
row_split known inner t r m rs ms c changes_left cs (one d e f) =
    ap (λ z. further (of_lines known (Some r.key) inner m (or_stays z)) (of_rows known inner (rows_from t 0 rs ms) (chain (map changed cs)))) e
    ∙ (ap (further (of_lines known (Some r.key) inner m (changed d))) (same_place known inner t t 0 1 rs ms (map changed cs))
    ∙ (sym (row_also known inner (row_at t 0 r) m (rows_from t 1 rs ms) (changed d) (chain (map changed cs)))
    ∙ ap (λ z. of_rows known inner (rows_from t 0 (r ∷ rs) (m ∷ ms)) (chain (map changed z))) (sym f)))
row_split known inner t r m rs ms c changes_left cs (none_left e f g) =
    (λ i. further (of_lines known (Some r.key) inner m (or_stays (e i))) (of_rows known inner (rows_from t 0 rs ms) (chain (map changed (g i)))))
    ∙ (ap (further (of_lines known (Some r.key) inner m stays)) (same_place known inner t t 0 1 rs ms [])
    ∙ (sym (row_nothing known inner (row_at t 0 r) m (rows_from t 1 rs ms))
    ∙ ap (λ z. of_rows known inner (rows_from t 0 (r ∷ rs) (m ∷ ms)) (chain (map changed z))) (sym f)))

-- rows that are left; with these all come
pub record RowsLeft (listed : Bool) (number : Address → Option ℕ) (inner : Block) (rs : List Row) (ms : List PageMemo) (cs : List code.Change)
    (all_rows : List Row) (memos : List PageMemo) (changes : List code.Change) (now first : Walk) : Type 0 where
  pub are : (known : ℕ → Option ℕ) → Knows number known → (t : Table) (i : ℕ) →
      further now (as_listed listed (of_rows known inner (rows_from t 0 rs ms) (chain (map changed cs))))
      ≡ further first (as_listed listed (of_rows known inner (rows_from t i all_rows memos) (chain (map changed changes))))

pub all_left : (listed : Bool) (number : Address → Option ℕ) (inner : Block) (rs : List Row) (ms : List PageMemo) (cs : List code.Change) (now : Walk) →
    RowsLeft listed number inner rs ms cs rs ms cs now now
all_left listed number inner rs ms cs now =
    record { are = λ known k t i. ap (λ z. further now (as_listed listed z)) (same_place known inner t t 0 i rs ms (map changed cs)) }

pub one_left : (listed : Bool) (number : Address → Option ℕ) (inner : Block) (r : Row) (m : PageMemo) (c : Option code.Change) (left rs : List Row) (memos_left ms : List PageMemo)
    (changes_left cs : List code.Change) (all_rows : List Row) (memos : List PageMemo) (changes : List code.Change) (now next first : Walk) →
    left ≡ r ∷ rs → memos_left ≡ m ∷ ms → Told c changes_left cs →
    ((known : ℕ → Option ℕ) → Knows number known → next ≡ further now (as_listed listed (of_lines known (Some r.key) inner m (or_stays c)))) →
    RowsLeft listed number inner left memos_left changes_left all_rows memos changes now first →
    RowsLeft listed number inner rs ms cs all_rows memos changes next first
one_left listed number inner r m c left rs memos_left ms changes_left cs all_rows memos changes now next first e f told put before = record {
  are = λ known k t i.
      let rest = of_rows known inner (rows_from t 0 rs ms) (chain (map changed cs)) in
      let one = of_lines known (Some r.key) inner m (or_stays c) in
      both_gone now next (further next (as_listed listed rest)) (as_listed listed one) (as_listed listed rest) (put known k) refl
      ∙ (ap (further now) (listed_both listed one rest
      ∙ ap (as_listed listed) (row_split known inner t r m rs ms c changes_left cs told
      ∙ (λ j. of_rows known inner (rows_from t 0 (sym e j) (sym f j)) (chain (map changed changes_left)))))
      ∙ before.are known k t i);
}

-- no row is left, or nothing is kept of those that are
pub rows_gone : (listed : Bool) (number : Address → Option ℕ) (inner : Block) (rs : List Row) (ms : List PageMemo) (cs : List code.Change) (all_rows : List Row)
    (memos : List PageMemo) (changes : List code.Change) (now first : Walk) → (rs ≡ []) ⊎ (ms ≡ []) →
    RowsLeft listed number inner rs ms cs all_rows memos changes now first → (known : ℕ → Option ℕ) → Knows number known → (t : Table) (i : ℕ) →
    now ≡ further first (as_listed listed (of_rows known inner (rows_from t i all_rows memos) (chain (map changed changes))))
rows_gone listed number inner rs ms cs all_rows memos changes now first none_there are known k t i =
    none_listed listed now (of_rows known inner (rows_from t 0 rs ms) (chain (map changed cs)))
    (ap (λ z. of_rows known inner z (chain (map changed cs))) (no_rows none_there))
    ∙ are.are known k t i
  where
    none_kept : (rs : List Row) → rows_from t 0 rs [] ≡ blank
    none_kept [] = refl
    none_kept (r ∷ rs) = refl

    no_rows : (rs ≡ []) ⊎ (ms ≡ []) → rows_from t 0 rs ms ≡ blank
    no_rows (inl e) = ap (λ z. rows_from t 0 z ms) e
    no_rows (inr e) = ap (rows_from t 0 rs) e ∙ none_kept rs

-- ---- rows that stay

-- a row that stays, as children alone
pub staying_row : (known : ℕ → Option ℕ) (k : Option (List ℕ)) (inner : Block) (m : PageMemo) (cs ds : List Next) →
    ds ≡ cs ++ children_in known (nodes k inner m) → alone ds ≡ further (alone cs) (of_lines known k inner m stays)
staying_row known k inner m cs ds e = ap alone e ∙ ap (further (alone cs)) (stays_gone known k inner m)

-- ---- what stands at a place

-- the item at a place, and those behind it
pub left_of : {A : Type 0} (xs : List A) (n : ℕ) (x : A) → n < length xs → x ≡ get_or xs n x → drop n xs ≡ x ∷ drop (n + 1) xs
left_of xs n x l e = drop_more xs n x l ∙ ap (λ z. z ∷ drop (n + 1) xs) (sym e)

-- what is found at a place
pub item_at : {A : Type 0} (xs : List A) (n : ℕ) (r : Option (Bor A)) → is_some r ≡ nat_lt n (length xs) → IfSome r (λ x. x.now ≡ slice_index_or xs n x.now) →
    option_copied r ≡ slice_get xs n
item_at xs n None there is = sym (slice_get_past xs n (grind (arith, nat_tests, there)))
item_at xs n (Some x) there is = sym (slice_get_read xs (length xs) n x.now refl (grind (arith, nat_tests, there)) is)
