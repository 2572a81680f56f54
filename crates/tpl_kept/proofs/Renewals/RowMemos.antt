-- What was kept for rows, taken one after the other for the rows of now.
use Rattle.std.specs.Prelude.{slice_set, IfSome}
use Rattle.std.proofs.Common.{◌≡◌, ℕ, zero, suc, ◌+◌, ◌<◌, ◌≤◌, true, false, List, [], ◌∷◌, ◌++◌, length, get_or, map, Option, Some, None, length-append, refl, sym, ap, subst, ◌∙◌, arith}
use Rattle.std.proofs.lemmas.Bool.{true≢false}
use Rattle.std.proofs.lemmas.List.{drop_all, length-map}
use Rattle.sig_base.specs.Tables.{Table}
use Rattle.sig_base.specs.declared.rows.Row.{Row}
use Rattle.sig_formula.specs.declared.formula.RowRef.{RowRef}
use Rattle.tpl_model.specs.Lines.{Block}
use Rattle.tpl_model.specs.Sources.{same_here}
use Rattle.tpl_hearing.specs.Heard.{Outcomes}
use Rattle.tpl_model.specs.KeptLines.Kept.{rows_of}
use Rattle.tpl_model.specs.PageUpdates.PageMemos.{Heard, PageMemo, unread, line, element, branch, loop}
use Rattle.tpl_model.specs.KeptLines.Memos.{lines_memo}
use Rattle.tpl_kept.specs.Renewals.{WasMadeIfRead, SlotsWere, TakesRow, is_unread}
use Rattle.tpl_kept.proofs.Listened.Slots.{one_taken, row_ready}
use Rattle.tpl_kept.proofs.Listened.Rowed.{row_at}
use Rattle.tpl_kept.specs.Heads.{last_of, places_from}
use Rattle.tpl_kept.proofs.Made.Memos.{places_more}
use Rattle.tpl_kept.specs.Turns.{AreAmong, IsAmong, KeysLeft, WereEach}

-- ---- one that is taken

got : {A B : Type 0} (f : A → B) (xs : List A) (j : ℕ) (x : A) → x ≡ get_or xs j x → f x ≡ get_or (map f xs) j (f x)
got f [] j x e = refl
got f (y ∷ ys) zero x e = ap f e
got f (y ∷ ys) (suc j) x e = got f ys j x e

pub left_out : {A B : Type 0} (f : A → B) (xs : List A) (j : ℕ) (x : A) → map f (slice_set xs j x) ≡ slice_set (map f xs) j (f x)
left_out f [] j x = refl
left_out f (y ∷ ys) zero x = refl
left_out f (y ∷ ys) (suc j) x = ap (λ z. f y ∷ z) (left_out f ys j x)

-- what was kept at a place, as the code has it
pub place_taken : {A : Type 0} (f : A → PageMemo) (b : Block) (links : List ℕ) (t : Table) (n : ℕ) (before : Outcomes) (place : Option ℕ) (j : ℕ) (x y : A)
    (xs ys : List A) → place ≡ Some (n + j) → j < length xs → x ≡ get_or xs j x → ys ≡ slice_set xs j y → f y ≡ unread →
    SlotsWere b links t n before (map f xs) → TakesRow b links t n before place (f x) (map f ys)
place_taken f b links t n before place j x y xs ys e lt is set none all =
    let l = length-map xs f in
    one_taken b links t n before place j (f x) (map f xs) (map f ys) e (omega (arith, l, lt)) (got f xs j x is)
    (ap (map f) set ∙ (left_out f xs j y ∙ ap (slice_set (map f xs) j) none)) all

-- ---- one row after the other

pub none_were : (b : Block) (links : List ℕ) (u : Table) (before : Outcomes) (ms : List PageMemo) → WereEach b links (places_from u 0 0) before ms
none_were b links u before ms = tt

-- some rows, and others behind them
pub were_both : (b : Block) (links : List ℕ) (before : Outcomes) (rs qs : List (Option RowRef)) (ms ks : List PageMemo) → length rs ≡ length ms →
    WereEach b links rs before ms → WereEach b links qs before ks → WereEach b links (rs ++ qs) before (ms ++ ks)
were_both b links before [] qs [] ks e all more = more
were_both b links before [] qs (m ∷ ms) ks e all more = absurd (omega (arith, e))
were_both b links before (r ∷ rs) qs [] ks e all more = absurd (omega (arith, e))
were_both b links before (r ∷ rs) qs (m ∷ ms) ks e all more = (all.0, were_both b links before rs qs ms ks (omega (arith, e)) all.1 more)

pub how_many : (u : Table) (i n : ℕ) → length (places_from u i n) ≡ n
how_many u i zero = refl
how_many u i (suc n) = ap suc (how_many u (suc i) n)

-- one more row of now
pub row_serves : (b : Block) (links : List ℕ) (t u : Table) (i : ℕ) (before : Outcomes) (at : Option ℕ) (n : ℕ) (m : PageMemo) (left ms ks : List PageMemo) →
    IfSome at (λ i. i < length t.rows) → IfSome at (λ i. same_here (row_at t i) (row_at u n) ≡ true) → TakesRow b links t i before at m left →
    length ms ≡ n → ks ≡ ms ++ m ∷ [] → WereEach b links (places_from u 0 n) before ms → WereEach b links (places_from u 0 (n + 1)) before ks
row_serves b links t u i before at n m left ms ks inside same x count put all =
    let w : WasMadeIfRead (lines_memo b) links (Some (row_at u n)) before m =
    row_ready b links t u i before at n (row_at u n) m left refl inside same x in
    let c : length (places_from u 0 n) ≡ length ms = how_many u 0 n ∙ sym count in
    let more : WereEach b links (places_from u 0 n ++ Some (row_at u n) ∷ []) before (ms ++ m ∷ []) =
    were_both b links before (places_from u 0 n) (Some (row_at u n) ∷ []) ms (m ∷ []) c all (w, tt) in
    let e : 0 + n ≡ n = omega arith in
    subst (λ z. WereEach b links z before ks) (sym (places_more u 0 n ∙ ap (λ z. places_from u 0 n ++ Some (row_at u z) ∷ []) e))
    (subst (WereEach b links (places_from u 0 n ++ Some (row_at u n) ∷ []) before) (sym put) more)

-- ---- where a row stood before

-- a row for which something was taken is among those of before
taken_among : (t u : Table) (at : Option ℕ) (n : ℕ) (m : PageMemo) → IfSome at (λ i. i < length t.rows) →
    IfSome at (λ i. same_here (row_at t i) (row_at u n) ≡ true) → (at ≡ None → is_unread m ≡ true) → is_unread m ≡ false → IsAmong t (row_at u n)
taken_among t u None n m inside same none k = absurd (true≢false (sym (none refl) ∙ k))
taken_among t u (Some i) n m inside same none k = record { place = i; inside = inside; same = same }

-- some rows, and others behind them
pub among_both : (t : Table) (rs qs : List (Option RowRef)) (ms ks : List PageMemo) → length rs ≡ length ms → AreAmong t rs ms → AreAmong t qs ks →
    AreAmong t (rs ++ qs) (ms ++ ks)
among_both t [] qs [] ks e all more = more
among_both t [] qs (m ∷ ms) ks e all more = absurd (omega (arith, e))
among_both t (r ∷ rs) qs [] ks e all more = absurd (omega (arith, e))
among_both t (r ∷ rs) qs (m ∷ ms) ks e all more = (all.0, among_both t rs qs ms ks (omega (arith, e)) all.1 more)

-- one more row of now
pub row_among : (t u : Table) (at : Option ℕ) (n : ℕ) (m : PageMemo) (ms ks : List PageMemo) → IfSome at (λ i. i < length t.rows) →
    IfSome at (λ i. same_here (row_at t i) (row_at u n) ≡ true) → (at ≡ None → is_unread m ≡ true) → length ms ≡ n → ks ≡ ms ++ m ∷ [] →
    AreAmong t (places_from u 0 n) ms → AreAmong t (places_from u 0 (n + 1)) ks
row_among t u at n m ms ks inside same none count put all =
    let c : length (places_from u 0 n) ≡ length ms = how_many u 0 n ∙ sym count in
    let more : AreAmong t (places_from u 0 n ++ Some (row_at u n) ∷ []) (ms ++ m ∷ []) =
    among_both t (places_from u 0 n) (Some (row_at u n) ∷ []) ms (m ∷ []) c all ((λ k. taken_among t u at n m inside same none k), tt) in
    let e : 0 + n ≡ n = omega arith in
    subst (λ z. AreAmong t z ks) (sym (places_more u 0 n ∙ ap (λ z. places_from u 0 n ++ Some (row_at u z) ∷ []) e))
    (subst (AreAmong t (places_from u 0 n ++ Some (row_at u n) ∷ [])) (sym put) more)

-- how many were taken
pub one_count : {A : Type 0} (f : A → PageMemo) (xs ys : List A) (x : A) (n : ℕ) → ys ≡ xs ++ x ∷ [] → length (map f xs) ≡ n → length (map f ys) ≡ n + 1
one_count f xs ys x n e c =
    let l = length-map xs f in
    let k = length-map ys f in
    let p : length ys ≡ length (xs ++ x ∷ []) = ap length e in
    let q = length-append xs (x ∷ []) in
    omega (arith, c, l, k, p, q)

-- ---- what was kept, taken apart

pub line_apart : (m : PageMemo) (h : Heard) (r k : PageMemo) → m ≡ line h r → r ≡ k → m ≡ line h k
line_apart m h r k e f = e ∙ ap (λ z. line h z) f

pub element_apart : (m : PageMemo) (hs : List Heard) (i r : PageMemo) (is : List PageMemo) (k : PageMemo) → m ≡ element hs i r → is ≡ i ∷ [] → r ≡ k →
    m ≡ element hs (last_of is) k
element_apart m hs i r is k e f g = e ∙ (λ j. element hs (last_of (sym f j)) (g j))

pub branch_apart : (m : PageMemo) (h : Heard) (i r : PageMemo) (is : List PageMemo) (k : PageMemo) → m ≡ branch h i r → is ≡ i ∷ [] → r ≡ k →
    m ≡ branch h (last_of is) k
branch_apart m h i r is k e f g = e ∙ (λ j. branch h (last_of (sym f j)) (g j))

pub loop_apart : (m : PageMemo) (h : Heard) (is : List PageMemo) (r k : PageMemo) → m ≡ loop h (rows_of h.outcome is) r → r ≡ k →
    m ≡ loop h (rows_of h.outcome is) k
loop_apart m h is r k e f = e ∙ ap (λ z. loop h (rows_of h.outcome is) z) f

-- ---- keys of rows

-- the keys of rows
abbrev pub keys : List Row → List (List ℕ)
keys rs = map (λ (r : Row). r.key) rs

-- no row is left
pub keys_end : (was rows : List Row) (n : ℕ) → length was ≡ length rows → length rows ≤ n → KeysLeft was rows n → keys was ≡ keys rows
keys_end was rows n e l all = all (ap keys (drop_all n was (omega (arith, e, l))) ∙ sym (ap keys (drop_all n rows l)))
