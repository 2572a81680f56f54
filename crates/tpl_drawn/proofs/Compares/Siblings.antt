-- Children that are put one after the other.
use Rattle.std.proofs.Common.{◌≡◌, ℕ, Bool, true, false, Option, Some, None, List, [], ◌∷◌, ◌++◌, append_assoc, append-nil, sym, ap, ◌∙◌}
use Rattle.std.proofs.lemmas.Bool.{false≢true}
use Rattle.page_model.specs.Forest.{Forest, none, node, after}
use Rattle.page_model.specs.Labels.{Look, Text}
use Rattle.tpl_model.specs.ShownNodes.Shapes.{Next, all_shown, comes, shown_tree, stays}
use Rattle.tpl_model.specs.declared.shown.Shown.{Shown}
use Rattle.tpl_model.proofs.Shared.{tree_is}
use Rattle.tpl_drawn.specs.Marks.{children_in, next_of}
use Rattle.tpl_drawn.proofs.Numbered.Marks.{children_after}
use Rattle.tpl_model.specs.Shapes.{node_text}
use Rattle.tpl_drawn.specs.Shown.{fits, inside_of, is_line, later_of, shows, where_shown}
use Rattle.tpl_drawn.specs.Heads.{text_at}
use Rattle.tpl_drawn.specs.Walks.{where_listed}
use Rattle.tpl_model.specs.PageUpdates.PageMemos.{PageMemo, line, nodes}
use Rattle.tpl_model.specs.Lines.{Block}
use Rattle.tpl_drawn.proofs.Shaped.Behind.{behind, first_behind, first_shown, two_shown}

-- nothing more
pub no_more : {B : Type 0} (a x : List B) → x ≡ [] → a ≡ a ++ x
no_more a x e = sym (ap (λ z. a ++ z) e ∙ append-nil a)

-- children that aren't listed, and those that are
pub unlisted : {B : Type 0} (listed : Bool) (a x : List B) → listed ≡ false → a ≡ a ++ where_listed listed x
unlisted listed a x e = no_more a (where_listed listed x) (ap (λ z. where_listed z x) e)

pub listed_all : {B : Type 0} (listed : Bool) (a b x : List B) → listed ≡ true → b ≡ a ++ x → b ≡ a ++ where_listed listed x
listed_all listed a b x e h = h ∙ ap (λ z. a ++ where_listed z x) (sym e)

-- two parts, one behind the other
pub two_more : {B : Type 0} (a b c x y : List B) → b ≡ a ++ x → c ≡ b ++ y → c ≡ a ++ (x ++ y)
two_more a b c x y e h = h ∙ (ap (λ z. z ++ y) e ∙ append_assoc a x y)

-- nothing is known
abbrev none_known : ℕ → Option ℕ
none_known a = None

-- a node is new then, and so are those behind it
one_new : (a : ℕ) (x : Look) (k r t : Forest Look) → t ≡ node a x k none → children_in none_known (after t r) ≡ comes t ∷ children_in none_known r
one_new a x k r t e = children_after none_known t r ∙ ap (λ z. children_in none_known z ++ children_in none_known r) e ∙ ap (λ z. comes z ∷ children_in none_known r) (sym e)

pub all_new : (s : Shown) (ss : List Shown) → children_in (λ a. None) (all_shown (s ∷ ss)) ≡ (comes (shown_tree s) ∷ []) ++ children_in (λ a. None) (all_shown ss)
all_new s ss = one_new _ _ _ (all_shown ss) (shown_tree s) (tree_is s)

-- a node that has a number as a child
kept_child : (known : ℕ → Option ℕ) (a n : ℕ) (x : Look) (k : Forest Look) → known a ≡ Some n → stays n ∷ [] ≡ children_in known (node a x k none)
kept_child known a n x k f = ap (λ z. next_of z (node a x k none) ∷ []) (sym f)

-- one that has none
new_child : (known : ℕ → Option ℕ) (a : ℕ) (x : Look) (k : Forest Look) → known a ≡ None →
    children_in (λ b. None) (node a x k none) ≡ children_in known (node a x k none)
new_child known a x k f = ap (λ z. next_of z (node a x k none) ∷ []) (sym f)

-- the same of a text
kept_text : (known : ℕ → Option ℕ) (a n : ℕ) (m : PageMemo) → is_line m ≡ true → known a ≡ Some n → stays n ∷ [] ≡ children_in known (text_at a m)
kept_text known a n (line h r) e f = kept_child known a n (Text (node_text h.outcome)) none f
kept_text known a n m e f = absurd (false≢true e)

new_text : (known : ℕ → Option ℕ) (a : ℕ) (m : PageMemo) → is_line m ≡ true → known a ≡ None → children_in (λ b. None) (text_at a m) ≡ children_in known (text_at a m)
new_text known a (line h r) e f = new_child known a (Text (node_text h.outcome)) none f
new_text known a m e f = absurd (false≢true e)

-- a child was put by its number
pub put_kept_node : (known : ℕ → Option ℕ) (a n : ℕ) (x : Look) (k : Forest Look) (before now : List Next) → known a ≡ Some n → now ≡ before ++ stays n ∷ [] →
    now ≡ before ++ children_in known (node a x k none)
put_kept_node known a n x k before now f e = e ∙ ap (λ z. before ++ z) (kept_child known a n x k f)

pub put_kept_text : (known : ℕ → Option ℕ) (a n : ℕ) (m : PageMemo) (before now : List Next) → is_line m ≡ true → known a ≡ Some n → now ≡ before ++ stays n ∷ [] →
    now ≡ before ++ children_in known (text_at a m)
put_kept_text known a n m before now is f e = e ∙ ap (λ z. before ++ z) (kept_text known a n m is f)

-- it was put as it is shown
put_as_shown : (known : ℕ → Option ℕ) (before now : List Next) (empty shown t : Forest Look) → now ≡ before ++ children_in (λ b. None) shown →
    shown ≡ after empty t → empty ≡ none → children_in (λ b. None) t ≡ children_in known t → now ≡ before ++ children_in known t
put_as_shown known before now empty shown t e f g h =
    e ∙ (ap (λ z. before ++ children_in (λ b. None) z) (f ∙ ap (λ z. after z t) g) ∙ ap (λ z. before ++ z) h)

pub put_new_node : (known : ℕ → Option ℕ) (a : ℕ) (x : Look) (k : Forest Look) (before now : List Next) (empty shown : Forest Look) → known a ≡ None →
    now ≡ before ++ children_in (λ b. None) shown → shown ≡ after empty (node a x k none) → empty ≡ none → now ≡ before ++ children_in known (node a x k none)
put_new_node known a x k before now empty shown f e put nothing = put_as_shown known before now empty shown (node a x k none) e put nothing (new_child known a x k f)

pub put_new_text : (known : ℕ → Option ℕ) (a : ℕ) (m : PageMemo) (before now : List Next) (empty shown : Forest Look) → is_line m ≡ true → known a ≡ None →
    now ≡ before ++ children_in (λ b. None) shown → shown ≡ after empty (text_at a m) → empty ≡ none → now ≡ before ++ children_in known (text_at a m)
put_new_text known a m before now empty shown is f e put nothing = put_as_shown known before now empty shown (text_at a m) e put nothing (new_text known a m is f)

-- the nodes of a branch, where it is shown
pub branch_hidden : (known : ℕ → Option ℕ) (b : Bool) (f : Forest Look) (a : List Next) → b ≡ false → a ≡ a ++ children_in known (where_shown b f)
branch_hidden known b f a e = no_more a (children_in known (where_shown b f)) (ap (λ z. children_in known (where_shown z f)) e)

pub branch_shown : (known : ℕ → Option ℕ) (b : Bool) (f : Forest Look) (a c : List Next) → b ≡ true → c ≡ a ++ children_in known f →
    c ≡ a ++ children_in known (where_shown b f)
branch_shown known b f a c e h = h ∙ ap (λ z. a ++ children_in known (where_shown z f)) (sym e)

-- ---- the children of lines that stay

pub both_stay : (known : ℕ → Option ℕ) (f g : Forest Look) (a b c : List Next) → b ≡ a ++ children_in known f → c ≡ b ++ children_in known g →
    c ≡ a ++ children_in known (after f g)
both_stay known f g a b c e h = two_more a b c (children_in known f) (children_in known g) e h ∙ ap (λ z. a ++ z) (sym (children_after known f g))

-- the first of them, and those behind it
pub lines_stay : (known : ℕ → Option ℕ) (k : Option (List ℕ)) (b : Block) (m : PageMemo) (cs ds es : List Next) → fits b m ≡ true →
    ds ≡ cs ++ children_in known (first_shown k b m) → es ≡ ds ++ children_in known (nodes k (behind b) (later_of m)) → es ≡ cs ++ children_in known (nodes k b m)
lines_stay known k b m cs ds es fit e later =
    both_stay known (first_shown k b m) (nodes k (behind b) (later_of m)) cs ds es e later ∙ ap (λ z. cs ++ children_in known z) (sym (first_behind k b m fit))

pub branches_stay : (known : ℕ → Option ℕ) (k : Option (List ℕ)) (one other : Block) (m : PageMemo) (cs ds es : List Next) →
    ds ≡ cs ++ children_in known (where_shown (shows m true) (nodes k one (inside_of m))) →
    es ≡ ds ++ children_in known (where_shown (shows m false) (nodes k other (inside_of m))) → es ≡ cs ++ children_in known (two_shown k one other m)
branches_stay known k one other m cs ds es e h =
    both_stay known (where_shown (shows m true) (nodes k one (inside_of m))) (where_shown (shows m false) (nodes k other (inside_of m))) cs ds es e h
