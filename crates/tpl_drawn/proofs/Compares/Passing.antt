-- Texts that are the same, which are passed where children aren't listed.
use Rattle.std.proofs.Common.{◌≡◌, ◌+◌, ◌++◌, ℕ, Bool, true, false, List, [], Option, sym, ap, ◌∙◌}
use Rattle.sig_formula.specs.Trees.{Tree}
use Rattle.page_model.specs.Addresses.{address}
use Rattle.page_model.specs.Labels.{Root, Text}
use Rattle.tpl_model.specs.KeptLines.Changes.{Change, nothing, over, same_before}
use Rattle.tpl_model.specs.Lines.{Block, text}
use Rattle.tpl_model.specs.PageUpdates.PageMemos.{Heard, PageMemo, line}
use Rattle.tpl_model.specs.Shapes.{node_text}
use Rattle.tpl_model.proofs.ChangeEquations.{one_before}
use Rattle.tpl_drawn.specs.Comparison.{marked_by, restated_part, restating, touched_part, touching}
use Rattle.tpl_drawn.specs.Walks.{as_listed, of_lines}
use Rattle.tpl_drawn.proofs.Compares.Walks.{unless_alone}

-- what comes of lines of which so many are the same is what comes of others of which so many are
abbrev pub Passes : Block → PageMemo → ℕ → Block → PageMemo → ℕ → Type 0
Passes b m n rest left count = (known : ℕ → Option ℕ) (k : Option (List ℕ)) (c : Change) →
    as_listed false (of_lines known k b m (same_before n c)) ≡ as_listed false (of_lines known k rest left (same_before count c))

-- nothing comes of a text
pub text_past : (known : ℕ → Option ℕ) (k : Option (List ℕ)) (b rest : Block) (m r : PageMemo) (n : ℕ) (f : Tree) (h : Heard) (c : Change) →
    b ≡ text n f rest → m ≡ line h r → as_listed false (of_lines known k b m (over true nothing c)) ≡ as_listed false (of_lines known k rest r c)
text_past known k b rest m r n f h c is kept =
    (λ j. as_listed false (of_lines known k (is j) (kept j) (over true nothing c)))
    ∙ (λ j. record {
      children = [];
      touched = unless_alone true (known (address n k)) Root j ++ marked_by touching touched_part known k rest r c;
      restated = unless_alone true (known (address n k)) (Text (node_text h.outcome)) j ++ marked_by restating restated_part known k rest r c;
    })

pub passes_one : (b : Block) (m : PageMemo) (most : ℕ) (at : Block) (left : PageMemo) (n next : ℕ) (rest : Block) (r : PageMemo) (at_line : ℕ) (f : Tree) (h : Heard) →
    at ≡ text at_line f rest → left ≡ line h r → n ≡ next + 1 → Passes b m most at left n → Passes b m most rest r next
passes_one b m most at left n next rest r at_line f h is kept more so = λ known k c.
    so known k c
    ∙ (ap (λ z. as_listed false (of_lines known k at left z)) (ap (λ z. same_before z c) more ∙ one_before next c)
    ∙ text_past known k at rest left r at_line f h (same_before next c) is kept)

-- the first text and all behind it
pub passes_all : (listed : Bool) (b rest first : Block) (m r left : PageMemo) (n more : ℕ) (f : Tree) (h : Heard) (c d : Change) → listed ≡ false →
    b ≡ text n f rest → m ≡ line h r → c ≡ over true nothing (same_before more d) →
    ((known : ℕ → Option ℕ) (k : Option (List ℕ)) (e : Change) →
    as_listed false (of_lines known k rest r (same_before more e)) ≡ as_listed false (of_lines known k first left e)) →
    (known : ℕ → Option ℕ) (k : Option (List ℕ)) → as_listed listed (of_lines known k b m c) ≡ as_listed listed (of_lines known k first left d)
passes_all listed b rest first m r left n more f h c d off is kept so all known k =
    ap (λ z. as_listed z (of_lines known k b m c)) off
    ∙ (ap (λ z. as_listed false (of_lines known k b m z)) so
    ∙ (text_past known k b rest m r n f h (same_before more d) is kept
    ∙ (all known k d ∙ ap (λ z. as_listed z (of_lines known k first left d)) (sym off))))
