-- Texts that are marked one by one, and lines that were made anew behind them.
use Rattle.std.proofs.Common.{◌≡◌, ℕ, Bool, true, Option, Some, None, List, [], ◌∷◌, ◌++◌, map, append-nil, refl, sym, ap, ◌∙◌}
use Rattle.std.proofs.lemmas.Bool.{false≢true}
use Rattle.std.proofs.lemmas.List.{map-append}
use Rattle.page_model.specs.Forest.{Forest, none, after}
use Rattle.page_model.specs.Labels.{Look, Root, Text}
use Rattle.tpl_model.specs.Lines.{Block}
use Rattle.tpl_model.specs.Shapes.{node_text}
use Rattle.tpl_model.specs.ShownNodes.Shapes.{Marked}
use Rattle.tpl_model.specs.PageUpdates.PageMemos.{Heard, PageMemo, line, nodes}
use Rattle.tpl_drawn.specs.Comparison.{restated_part, touched_part}
use Rattle.tpl_drawn.specs.Heads.{text_at}
use Rattle.tpl_drawn.specs.Marks.{marked_at, marks_in}
use Rattle.tpl_drawn.specs.Shown.{fits, is_line, later_of}
use Rattle.tpl_drawn.specs.Walks.{Walk, as_listed, further, of_made}
use Rattle.tpl_drawn.proofs.Compares.Walks.{parts_gone}
use Rattle.tpl_drawn.proofs.Numbered.Marks.{children_after, marks_after}
use Rattle.tpl_drawn.proofs.Shaped.Behind.{behind, first_behind, first_shown}

-- ---- one text

-- its mark, where it has a number
pub said_marked : (known : ℕ → Option ℕ) (a n : ℕ) (m r : PageMemo) (h : Heard) (mark : Marked) (before now : List Marked) → m ≡ line h r → known a ≡ Some n →
    mark ≡ record { number = n; look = Text (node_text h.outcome); children = [] } → now ≡ before ++ mark ∷ [] → now ≡ before ++ marks_in known (text_at a m)
said_marked known a n m r h mark before now is there e put =
    put ∙ ap (λ z. before ++ z) (ap (λ z. z ∷ []) e
    ∙ (ap (λ z. marked_at z (Text (node_text h.outcome)) [] [] ++ []) (sym there) ∙ ap (λ z. marks_in known (text_at a z)) (sym is)))

-- what is kept of no text isn't marked
pub unsaid : (known : ℕ → Option ℕ) (a : ℕ) (m k : PageMemo) (before : List Marked) → m ≡ k → text_at a k ≡ none → before ≡ before ++ marks_in known (text_at a m)
unsaid known a m k before is e =
    sym (append-nil before) ∙ ap (λ z. before ++ z) (sym (ap (λ z. marks_in known (text_at a z)) is ∙ ap (marks_in known) e))

-- nor is a text without a number
unmarked : (known : ℕ → Option ℕ) (a : ℕ) (m : PageMemo) → known a ≡ None → marks_in known (text_at a m) ≡ []
unmarked known a (line h r) e = ap (λ z. marked_at z (Text (node_text h.outcome)) [] [] ++ []) e
unmarked known a m e = refl

pub none_marked : (known : ℕ → Option ℕ) (a : ℕ) (m : PageMemo) (before : List Marked) → known a ≡ None → before ≡ before ++ marks_in known (text_at a m)
none_marked known a m before e = sym (append-nil before) ∙ ap (λ z. before ++ z) (sym (unmarked known a m e))

-- a text has no children
looks_alone : (n : Option ℕ) (x : Look) → marked_at n x [] [] ++ [] ≡ map restated_part (marked_at n x [] [] ++ [])
looks_alone None x = refl
looks_alone (Some n) x = refl

pub said_restated : (known : ℕ → Option ℕ) (a : ℕ) (m : PageMemo) (before now : List Marked) → now ≡ before ++ marks_in known (text_at a m) →
    now ≡ before ++ map restated_part (marks_in known (text_at a m))
said_restated known a (line h r) before now e = e ∙ ap (λ z. before ++ z) (looks_alone (known a) (Text (node_text h.outcome)))
said_restated known a m before now e = e

pub said_touched : (known : ℕ → Option ℕ) (a n : ℕ) (m : PageMemo) (mark : Marked) (before now : List Marked) → is_line m ≡ true → known a ≡ Some n →
    mark ≡ record { number = n; look = Root; children = [] } → now ≡ before ++ mark ∷ [] → now ≡ before ++ map touched_part (marks_in known (text_at a m))
said_touched known a n (line h r) mark before now is there e put =
    put ∙ ap (λ z. before ++ z) (ap (λ z. z ∷ []) e ∙ ap (λ z. map touched_part (marked_at z (Text (node_text h.outcome)) [] [] ++ [])) (sym there))
said_touched known a n m mark before now is there e put = absurd (false≢true is)

pub none_touched : (known : ℕ → Option ℕ) (a : ℕ) (m : PageMemo) (before : List Marked) → known a ≡ None →
    before ≡ before ++ map touched_part (marks_in known (text_at a m))
none_touched known a m before e = sym (append-nil before) ∙ ap (λ z. before ++ z) (sym (ap (map touched_part) (unmarked known a m e)))

-- ---- lines that were made anew

made_both : (known : ℕ → Option ℕ) (x y : Forest Look) → of_made known (after x y) ≡ further (of_made known x) (of_made known y)
made_both known x y = λ i. record {
  children = children_after known x y i;
  touched = (ap (map touched_part) (marks_after known x y) ∙ map-append touched_part (marks_in known x) (marks_in known y)) i;
  restated = (ap (map restated_part) (marks_after known x y) ∙ map-append restated_part (marks_in known x) (marks_in known y)) i;
}

-- the first of them, and those behind it
pub made_parts : (listed : Bool) (known : ℕ → Option ℕ) (k : Option (List ℕ)) (b : Block) (m : PageMemo) (before mid now : Walk) → fits b m ≡ true →
    mid ≡ further before (as_listed listed (of_made known (first_shown k b m))) →
    now ≡ further mid (as_listed listed (of_made known (nodes k (behind b) (later_of m)))) → now ≡ further before (as_listed listed (of_made known (nodes k b m)))
made_parts listed known k b m before mid now fit e h =
    parts_gone listed before mid now (of_made known (first_shown k b m)) (of_made known (nodes k (behind b) (later_of m))) (of_made known (nodes k b m))
    (ap (of_made known) (first_behind k b m fit) ∙ made_both known (first_shown k b m) (nodes k (behind b) (later_of m))) e h
