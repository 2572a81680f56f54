-- Nodes that are appended line by line are those that lines show.
use Rattle.std.proofs.Common.{◌≡◌, ◌<◌, ◌≤◌, ℕ, zero, suc, Bool, true, false, List, [], ◌∷◌, ◌++◌, length, map, take, Option, Some, None, slice_get, refl, sym, ap, subst, ◌∙◌, arith}
use Rattle.std.proofs.lemmas.Bool.{false≢true}
use Rattle.std.proofs.lemmas.List.{take_all}
use Rattle.sig_base.specs.Tables.{Table}
use Rattle.sig_base.specs.declared.rows.Row.{Row}
use Rattle.page_model.specs.Addresses.{address}
use Rattle.page_model.specs.Forest.{Forest, none, node, after}
use Rattle.page_model.specs.Labels.{Look, Element}
use Rattle.tpl_model.specs.KeptLines.Kept.{kept, rows_from}
use Rattle.tpl_model.specs.declared.memo.PageMemo as held
use Rattle.tpl_model.specs.Lines.{Block, empty, text, tag, choice, each, attempt}
use Rattle.tpl_model.specs.Shapes.{Here}
use Rattle.tpl_drawn.specs.Shown.{attributes_of, fits, inside_of, later_of, rows_of, shows, where_shown}
use Rattle.tpl_drawn.proofs.Placed.Placed.{picked, tried, unfit_shown}
use Rattle.tpl_scratch.proofs.Shared.{after_none, after_after}
use Rattle.tpl_model.specs.ShownNodes.Shapes.{all_shown, shown_tree}
use Rattle.tpl_model.specs.declared.shown.Shown.{Shown}
use Rattle.tpl_drawn.specs.Heads.{text_at}
use Rattle.tpl_model.specs.PageUpdates.PageMemos.{PageMemo, line, element, branch, loop, row, either, nodes, row_nodes, values}

-- ---- one node more

all_more : (xs : List Shown) (s : Shown) → all_shown (xs ++ s ∷ []) ≡ after (all_shown xs) (shown_tree s)
all_more [] s = after_none (shown_tree s)
all_more (x ∷ xs) s = ap (after (shown_tree x)) (all_more xs s) ∙ sym (after_after (shown_tree x) (all_shown xs) (shown_tree s))

pub one_more : (xs now : List Shown) (s : Shown) → now ≡ xs ++ s ∷ [] → all_shown now ≡ after (all_shown xs) (shown_tree s)
one_more xs now s e = ap all_shown e ∙ all_more xs s

-- nothing more
pub no_more : (a f : Forest Look) → f ≡ none → a ≡ after a f
no_more a f e = sym (ap (after a) e ∙ after_none a)

-- ---- lines

-- one part behind another
two_more : (a b c f g : Forest Look) → b ≡ after a f → c ≡ after b g → c ≡ after a (after f g)
two_more a b c f g e h = h ∙ (ap (λ z. after z g) e ∙ after_after a f g)

-- what is kept of another line shows nothing
pub unfit_more : (k : Option (List ℕ)) (b : Block) (m : PageMemo) (a : Forest Look) → fits b m ≡ false → a ≡ after a (nodes k b m)
unfit_more k b m a e = no_more a (nodes k b m) (unfit_shown k b m e)

-- the lines behind the first
abbrev pub behind : Block → Block
behind (text n f rest) = rest
behind (tag n name xs inner rest) = rest
behind (choice f one other rest) = rest
behind (each f inner rest) = rest
behind (attempt first second rest) = rest
behind empty = empty

-- two branches or parts, each where it is shown
abbrev pub two_shown : Option (List ℕ) → Block → Block → PageMemo → Forest Look
two_shown k one other m = after (where_shown (shows m true) (nodes k one (inside_of m))) (where_shown (shows m false) (nodes k other (inside_of m)))

-- what the first of some lines shows
abbrev pub first_shown : Option (List ℕ) → Block → PageMemo → Forest Look
first_shown k (text n f rest) m = text_at (address n k) m
first_shown k (tag n name xs inner rest) m = node (address n k) (Element name (values xs (attributes_of m))) (nodes k inner (inside_of m)) none
first_shown k (choice f one other rest) m = two_shown k one other m
first_shown k (each f inner rest) m = row_nodes (λ h i. nodes (Some h.key) inner i) (rows_of m)
first_shown k (attempt first second rest) m = two_shown k first second m
first_shown k empty m = none

-- lines show that, and what those behind it show
pub first_behind : (k : Option (List ℕ)) (b : Block) (m : PageMemo) → fits b m ≡ true → nodes k b m ≡ after (first_shown k b m) (nodes k (behind b) (later_of m))
first_behind k (text n f rest) (line h r) fit = refl
first_behind k (tag n name xs inner rest) (element hs i r) fit = refl
first_behind k (choice f one other rest) (branch h i r) fit = ap (λ z. after z (nodes k rest r)) (sym (picked h.outcome (nodes k one i) (nodes k other i)))
first_behind k (each f inner rest) (loop h i r) fit = refl
first_behind k (attempt first second rest) (either x y r) fit = ap (λ z. after z (nodes k rest r)) (sym (tried k first second x y))
first_behind k (text n f rest) m fit = absurd (false≢true fit)
first_behind k (tag n name xs inner rest) m fit = absurd (false≢true fit)
first_behind k (choice f one other rest) m fit = absurd (false≢true fit)
first_behind k (each f inner rest) m fit = absurd (false≢true fit)
first_behind k (attempt first second rest) m fit = absurd (false≢true fit)
first_behind k empty m fit = absurd (false≢true fit)

pub lines_more : (k : Option (List ℕ)) (b : Block) (m : PageMemo) (a c d : Forest Look) → fits b m ≡ true → c ≡ after a (first_shown k b m) →
    d ≡ after c (nodes k (behind b) (later_of m)) → d ≡ after a (nodes k b m)
lines_more k b m a c d fit e later =
    two_more a c d (first_shown k b m) (nodes k (behind b) (later_of m)) e later ∙ ap (after a) (sym (first_behind k b m fit))

pub branches_more : (k : Option (List ℕ)) (one other : Block) (m : PageMemo) (a b c : Forest Look) →
    b ≡ after a (where_shown (shows m true) (nodes k one (inside_of m))) → c ≡ after b (where_shown (shows m false) (nodes k other (inside_of m))) →
    c ≡ after a (two_shown k one other m)
branches_more k one other m a b c e g =
    two_more a b c (where_shown (shows m true) (nodes k one (inside_of m))) (where_shown (shows m false) (nodes k other (inside_of m))) e g

-- a branch that isn't shown, and one that is
pub branch_off : (b : Bool) (f a : Forest Look) → b ≡ false → a ≡ after a (where_shown b f)
branch_off b f a e = no_more a (where_shown b f) (ap (λ z. where_shown z f) e)

pub branch_on : (b : Bool) (f a c : Forest Look) → b ≡ true → c ≡ after a f → c ≡ after a (where_shown b f)
branch_on b f a c e h = subst (λ z. c ≡ after a (where_shown z f)) (sym e) h

-- ---- rows

-- what is kept of the lines of a row, as nodes
abbrev pub row_shown : Block → Here → PageMemo → Forest Look
row_shown inner h m = nodes (Some h.key) inner m

-- the row that stands behind so many
there_more : (go : Here → PageMemo → Forest Look) (t : Table) (i : ℕ) (rs : List Row) (ms : List PageMemo) (m : PageMemo) (r : Row) → slice_get rs (length ms) ≡ Some r →
    (h : Here) × (h.key ≡ r.key) × (row_nodes go (rows_from t i rs (ms ++ m ∷ [])) ≡ after (row_nodes go (rows_from t i rs ms)) (go h m))
there_more go t i [] ms m r e = cc
there_more go t i (r ∷ rs) [] m s e =
    let here : Here = record { key = r.key; row = record { rows = t; place = i } } in
    (here, ap key_in e, ap (after (go here m)) (none_left rs) ∙ after_none (go here m))
  where
    key_in : Option Row → List ℕ
    key_in (Some x) = x.key
    key_in None = []

    none_left : (rs : List Row) → row_nodes go (rows_from t (suc i) rs []) ≡ none
    none_left [] = refl
    none_left (x ∷ xs) = refl
there_more go t i (r ∷ rs) (x ∷ ms) m s e =
    let more = there_more go t (suc i) rs ms m s e in
    let here : Here = record { key = r.key; row = record { rows = t; place = i } } in
    (more.0, more.1, ap (after (go here x)) more.2 ∙ sym (after_after (go here x) (row_nodes go (rows_from t (suc i) rs ms)) (go more.0 m)))

-- so many rows were appended, of whatever table
pub record RowsMore (inner : Block) (rs : List Row) (ms : List PageMemo) (a b : Forest Look) : Type 0 where
  pub are : (t : Table) (i : ℕ) → b ≡ after a (row_nodes (row_shown inner) (rows_from t i rs ms))

pub no_rows : (inner : Block) (rs : List Row) (ms : List PageMemo) (a : Forest Look) → ms ≡ [] → RowsMore inner rs ms a a
no_rows inner rs ms a e = record { are = λ t i. no_more a _ (ap (λ z. row_nodes (row_shown inner) (rows_from t i rs z)) e ∙ none_left t i rs) }
  where
    none_left : (t : Table) (i : ℕ) (rs : List Row) → row_nodes (row_shown inner) (rows_from t i rs []) ≡ none
    none_left t i [] = refl
    none_left t i (x ∷ xs) = refl

pub one_row : (inner : Block) (rs : List Row) (ms now : List PageMemo) (m : PageMemo) (r : Row) (a b c : Forest Look) → slice_get rs (length ms) ≡ Some r →
    now ≡ ms ++ m ∷ [] → RowsMore inner rs ms a b → c ≡ after b (nodes (Some r.key) inner m) → RowsMore inner rs now a c
one_row inner rs ms now m r a b c at e before put = record {
  are = λ t i.
      let more = there_more (row_shown inner) t i rs ms m r at in
      two_more a b c (row_nodes (row_shown inner) (rows_from t i rs ms)) (row_shown inner more.0 m) (before.are t i)
      (put ∙ ap (λ z. after b (nodes (Some z) inner m)) (sym more.1))
      ∙ ap (after a) (sym more.2) ∙ ap (λ z. after a (row_nodes (row_shown inner) (rows_from t i rs z))) (sym e);
}

-- what is kept beyond the rows isn't looked at
cut_off : (t : Table) (i n : ℕ) (rs : List Row) (xs : List held.PageMemo) → length rs ≤ n → rows_from t i rs (map kept (take n xs)) ≡ rows_from t i rs (map kept xs)
cut_off t i n [] xs l = refl
cut_off t i zero (r ∷ rs) [] l = refl
cut_off t i (suc n) (r ∷ rs) [] l = refl
cut_off t i zero (r ∷ rs) (x ∷ xs) l = absurd (omega (arith, l))
cut_off t i (suc n) (r ∷ rs) (x ∷ xs) l =
    ap (λ z. row (record { key = r.key; row = record { rows = t; place = i } }) (kept x) z) (cut_off t (suc i) n rs xs (omega (arith, l)))

pub rows_past : (inner : Block) (rs : List Row) (xs : List held.PageMemo) (n : ℕ) (a b : Forest Look) → length rs ≤ n → RowsMore inner rs (map kept (take n xs)) a b →
    RowsMore inner rs (map kept xs) a b
rows_past inner rs xs n a b l p =
    record { are = λ t i. p.are t i ∙ ap (λ z. after a (row_nodes (row_shown inner) z)) (cut_off t i n rs xs l) }

pub rows_all : (inner : Block) (rs : List Row) (xs : List held.PageMemo) (n : ℕ) (a b : Forest Look) → length xs ≤ n → RowsMore inner rs (map kept (take n xs)) a b →
    RowsMore inner rs (map kept xs) a b
rows_all inner rs xs n a b l p = subst (λ z. RowsMore inner rs (map kept z) a b) (take_all n xs l) p

-- so many are taken
pub taken_many : {A B : Type 0} (f : A → B) (xs : List A) (n : ℕ) → n < length xs → length (map f (take n xs)) ≡ n
taken_many f [] n l = absurd (omega (arith, l))
taken_many f (x ∷ xs) zero l = refl
taken_many f (x ∷ xs) (suc n) l = ap suc (taken_many f xs n (omega (arith, l)))
