-- Nodes that are marked one after the other.
use Rattle.std.proofs.Common.{◌≡◌, ℕ, Option, Some, None, List, [], ◌∷◌, ◌++◌, append_assoc, append-nil, refl, sym, ap, ◌∙◌}
use Rattle.page_model.specs.Forest.{Forest, none, node, after}
use Rattle.page_model.specs.Labels.{Look}
use Rattle.tpl_model.specs.ShownNodes.Shapes.{Marked, Next, comes, stays}
use Rattle.tpl_model.specs.declared.shown.Address.{Address}
use Rattle.tpl_drawn.specs.Marks.{Knows, children_in, marked_at, marks_in, next_of}
use Rattle.page_tree.proofs.Shared.{last_out, step_out}

pub children_after : (known : ℕ → Option ℕ) (x y : Forest Look) → children_in known (after x y) ≡ children_in known x ++ children_in known y
children_after known none y = refl
children_after known (node a l k r) y = ap (λ z. next_of (known a) (node a l k none) ∷ z) (children_after known r y)

pub marks_after : (known : ℕ → Option ℕ) (x y : Forest Look) → marks_in known (after x y) ≡ marks_in known x ++ marks_in known y
marks_after known none y = refl
marks_after known (node a l k r) y =
    let first = marked_at (known a) l (children_in known k) (marks_in known k) in
    ap (λ z. first ++ z) (marks_after known r y) ∙ sym (append_assoc first (marks_in known r) (marks_in known y))

-- children and marks so far, of these nodes; others are left
pub record AreMarked (number : Address → Option ℕ) (rest all : Forest Look) (cs : List Next) (ms first : List Marked) : Type 0 where
  pub children : (known : ℕ → Option ℕ) → Knows number known → cs ++ children_in known rest ≡ children_in known all
  pub marks : (known : ℕ → Option ℕ) → Knows number known → ms ++ marks_in known rest ≡ first ++ marks_in known all

-- none so far
pub none_marked : (number : Address → Option ℕ) (all : Forest Look) (children : List Next) (marks first : List Marked) → children ≡ [] → marks ≡ first →
    AreMarked number all all children marks first
none_marked number all children marks first e f = record {
  children = λ known k. ap (λ z. z ++ children_in known all) e;
  marks = λ known k. ap (λ z. z ++ marks_in known all) f;
}

-- one node as a child, with its marks
pub record IsMarked (number : Address → Option ℕ) (one : Forest Look) (c : Next) (before now : List Marked) : Type 0 where
  pub child : (known : ℕ → Option ℕ) → Knows number known → c ∷ [] ≡ children_in known one
  pub marks : (known : ℕ → Option ℕ) → Knows number known → now ≡ before ++ marks_in known one

-- one node more
pub one_marked : (number : Address → Option ℕ) (one rest left all : Forest Look) (children next : List Next) (child : Next) (before now first : List Marked) →
    left ≡ after one rest → next ≡ children ++ child ∷ [] → IsMarked number one child before now → AreMarked number left all children before first →
    AreMarked number rest all next now first
one_marked number one rest left all children next child before now first e put is are = record {
  children = λ known k.
      step_out children next (child ∷ []) (children_in known rest) (children_in known left) (children_in known all) put
      (ap (children_in known) e ∙ (children_after known one rest ∙ ap (λ z. z ++ children_in known rest) (sym (is.child known k)))) (are.children known k);
  marks = λ known k.
      step_out before now (marks_in known one) (marks_in known rest) (marks_in known left) (first ++ marks_in known all) (is.marks known k)
      (ap (marks_in known) e ∙ marks_after known one rest) (are.marks known k);
}

-- none is left
pub record AllMarked (number : Address → Option ℕ) (all : Forest Look) (cs : List Next) (ms first : List Marked) : Type 0 where
  pub children : (known : ℕ → Option ℕ) → Knows number known → cs ≡ children_in known all
  pub marks : (known : ℕ → Option ℕ) → Knows number known → ms ≡ first ++ marks_in known all

pub all_marked : (number : Address → Option ℕ) (rest all : Forest Look) (children : List Next) (marks first : List Marked) → rest ≡ none →
    AreMarked number rest all children marks first → AllMarked number all children marks first
all_marked number rest all children marks first e are = record {
  children = λ known k. last_out children (children_in known rest) (children_in known all) (ap (children_in known) e) (are.children known k);
  marks = λ known k. last_out marks (marks_in known rest) (first ++ marks_in known all) (ap (marks_in known) e) (are.marks known k);
}

-- ---- one node

-- a new node
pub is_new : (number : Address → Option ℕ) (address : Address) (a : ℕ) (x : Look) (k t : Forest Look) (child : Next) (before : List Marked) → t ≡ node a x k none →
    number address ≡ None → ((known : ℕ → Option ℕ) → Knows number known → number address ≡ known a) → child ≡ comes t → IsMarked number t child before before
is_new number address a x k t child before e none_there at is = record {
  child = λ known kn.
      ap (λ z. z ∷ []) (is ∙ ap comes e)
      ∙ (ap (λ z. next_of z (node a x k none) ∷ []) (sym none_there ∙ at known kn) ∙ ap (children_in known) (sym e));
  marks = λ known kn.
      sym (append-nil before)
      ∙ ap (λ z. before ++ z) (ap (λ z. marked_at z x (children_in known k) (marks_in known k) ++ []) (sym none_there ∙ at known kn) ∙ ap (marks_in known) (sym e));
}

-- a node that stands, with those below it
pub is_there : (number : Address → Option ℕ) (address : Address) (n a : ℕ) (x : Look) (k t : Forest Look) (child : Next) (children : List Next)
    (before below now : List Marked) → t ≡ node a x k none → number address ≡ Some n →
    ((known : ℕ → Option ℕ) → Knows number known → number address ≡ known a) → child ≡ stays n → AllMarked number k children below before →
    now ≡ below ++ record { number = n; look = x; children = children } ∷ [] → IsMarked number t child before now
is_there number address n a x k t child children before below now e there at is all put = record {
  child = λ known kn.
      ap (λ z. z ∷ []) is ∙ (ap (λ z. next_of z (node a x k none) ∷ []) (sym there ∙ at known kn) ∙ ap (children_in known) (sym e));
  marks = λ known kn.
      let mark : List Next → Marked = λ cs. record { number = n; look = x; children = cs } in
      put ∙ (ap (λ z. z ++ mark children ∷ []) (all.marks known kn)
      ∙ (append_assoc before (marks_in known k) (mark children ∷ [])
      ∙ ap (λ z. before ++ z)
      (ap (λ z. marks_in known k ++ mark z ∷ []) (all.children known kn)
      ∙ (sym (append-nil (marks_in known k ++ mark (children_in known k) ∷ []))
      ∙ (ap (λ z. marked_at z x (children_in known k) (marks_in known k) ++ []) (sym there ∙ at known kn) ∙ ap (marks_in known) (sym e))))));
}
