-- Names that are put behind others.
use Rattle.std.proofs.Common.{◌≡◌, ℕ, suc, ◌+◌, ◌<◌, ◌≤◌, List, [], ◌∷◌, ◌++◌, length, take, get_or, map, refl, sym, ap, ◌∙◌}
use Rattle.std.specs.List.{flat_map}
use Rattle.std.proofs.lemmas.Grind.{flat_map-append}
use Rattle.std.proofs.lemmas.List.{append-nil, take_all, take-map}
use Rattle.sig_base.specs.Tables.{Table}
use Rattle.sig_base.specs.declared.rows.Row.{Row}
use Rattle.tpl_model.specs.PageUpdates.PageMemos.{Heard, PageMemo, line, element, branch, loop, all_names, names, either}
use Rattle.tpl_model.specs.KeptLines.Kept.{rows_from, rows_of}
use Rattle.tpl_model.specs.KeptLines.Memos.{table_in}
use Rattle.tpl_kept.proofs.Listened.Sequences.{mapped_more, rows_picked, then_put}

-- ---- of rows

-- those of one row more
pub row_put : {A : Type 0} (f : A → PageMemo) (all : List A) (i : ℕ) (x : A) (a b c : List ℕ) → i < length all → x ≡ get_or all i x →
    b ≡ a ++ flat_map names (map f (take i all)) → c ≡ b ++ names (f x) → c ≡ a ++ flat_map names (map f (take (i + 1) all))
row_put f all i x a b c lt is h k =
    let more : flat_map names (map f (take (i + 1) all)) ≡ flat_map names (map f (take i all)) ++ names (f x) =
    ap (flat_map names) (mapped_more f all i x lt is) ∙ (flat_map-append names (map f (take i all)) (f x ∷ [])
    ∙ ap (λ z. flat_map names (map f (take i all)) ++ z) (append-nil (names (f x)))) in
    then_put a b c (flat_map names (map f (take i all))) (names (f x)) h k ∙ ap (λ z. a ++ z) (sym more)

-- those of all rows, as many as there are
pub rows_put : {A : Type 0} (f : A → PageMemo) (all items : List A) (count i : ℕ) (a b : List ℕ) → items ≡ take count all → length items ≤ i →
    b ≡ a ++ flat_map names (map f (take i items)) → b ≡ a ++ flat_map names (take count (map f all))
rows_put f all items count i a b is past h =
    h ∙ ap (λ z. a ++ flat_map names z) (ap (map f) (take_all i items past ∙ is) ∙ sym (take-map f count all))

-- what is kept for rows has the names of as many as the table has
rows_names : (t : Table) (i : ℕ) (rs : List Row) (ms : List PageMemo) → names (rows_from t i rs ms) ≡ flat_map names (take (length rs) ms)
rows_names t i [] [] = refl
rows_names t i [] (m ∷ ms) = refl
rows_names t i (r ∷ rs) [] = refl
rows_names t i (r ∷ rs) (m ∷ ms) = ap (λ z. names m ++ z) (rows_names t (suc i) rs ms)

-- ---- of lines

pub nothing_put : (m : PageMemo) (a : List ℕ) → names m ≡ [] → a ≡ a ++ names m
nothing_put m a e = sym (ap (λ z. a ++ z) e ∙ append-nil a)

pub line_put : (h : Heard) (r m : PageMemo) (a b c : List ℕ) → m ≡ line h r → b ≡ a ++ h.names → c ≡ b ++ names r → c ≡ a ++ names m
line_put h r m a b c e p q = then_put a b c h.names (names r) p q ∙ ap (λ z. a ++ names z) (sym e)

pub element_put : (hs : List Heard) (i r m : PageMemo) (a b c d : List ℕ) → m ≡ element hs i r → b ≡ a ++ all_names hs → c ≡ b ++ names i →
    d ≡ c ++ names r → d ≡ a ++ names m
element_put hs i r m a b c d e p q s =
    then_put a c d (all_names hs ++ names i) (names r) (then_put a b c (all_names hs) (names i) p q) s ∙ ap (λ z. a ++ names z) (sym e)

pub branch_put : (h : Heard) (i r m : PageMemo) (a b c d : List ℕ) → m ≡ branch h i r → b ≡ a ++ h.names → c ≡ b ++ names i → d ≡ c ++ names r →
    d ≡ a ++ names m
branch_put h i r m a b c d e p q s =
    then_put a c d (h.names ++ names i) (names r) (then_put a b c h.names (names i) p q) s ∙ ap (λ z. a ++ names z) (sym e)

pub either_put : (x y r m : PageMemo) (a b c d : List ℕ) → m ≡ either x y r → b ≡ a ++ names x → c ≡ b ++ names y → d ≡ c ++ names r → d ≡ a ++ names m
either_put x y r m a b c d e p q s =
    then_put a c d (names x ++ names y) (names r) (then_put a b c (names x) (names y) p q) s ∙ ap (λ z. a ++ names z) (sym e)

pub loop_put : (h : Heard) (ms : List PageMemo) (count : ℕ) (r m : PageMemo) (a b c d : List ℕ) → m ≡ loop h (rows_of h.outcome ms) r →
    count ≡ length (table_in h.outcome).rows → b ≡ a ++ h.names → c ≡ b ++ flat_map names (take count ms) → d ≡ c ++ names r → d ≡ a ++ names m
loop_put h ms count r m a b c d e n p q s =
    let t = table_in h.outcome in
    let i : PageMemo = rows_of h.outcome ms in
    let w : flat_map names (take count ms) ≡ names i =
    ap (λ z. flat_map names (take z ms)) n ∙ (sym (rows_names t 0 t.rows ms) ∙ ap names (sym (rows_picked h.outcome ms))) in
    then_put a c d (h.names ++ names i) (names r) (then_put a b c h.names (names i) p (q ∙ ap (λ z. b ++ z) w)) s ∙ ap (λ z. a ++ names z) (sym e)
