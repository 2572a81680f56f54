-- What searches found, and that it stays true.
use Rattle.std.proofs.Common.{◌≡◌, ℕ, ◌+◌, ◌≤◌, ◌==◌, Bool, true, false, List, [], Option, refl, sym, ap, ◌∙◌, subst, arith, if◌then◌else◌, ◌⊎◌, inl, inr, true≢false}
use Rattle.sig_base.specs.declared.value.Known.{Known}
use Rattle.signal_model.specs.Signals.{Signals}
use Rattle.signal_model.specs.Memos.{Memos}
use Rattle.signal_model.specs.Marks.{HasBelow, is_due}
use Rattle.sig_nodes.specs.declared.node.Node.{Node}
use Rattle.sig_nodes.specs.declared.node.Body.{Body}
use Rattle.sig_nodes.specs.declared.node.Body.TheVariants.{Gone, Cell as CellBody, Computed as ComputedBody}
use Rattle.sig_graph.specs.States.{State}
use Rattle.sig_nodes.specs.Nodes.{body_at, changed_at, is_computed_body, known_node, with_body_known}
use Rattle.sig_graph.specs.Parts.{memos_of}
use Rattle.sig_graph.specs.Places.{KeepsFound}
use Rattle.sig_seats.specs.Found.{Noted, found_at, place_of}
use Rattle.sig_graph.specs.Search.{is_due_at, HasDue}
use Rattle.sig_nodes.proofs.Shared.{body_changed}
use Rattle.sig_graph.proofs.StateEdits.{known_state}

-- ---- what is true of it

-- nothing is found of no nodes
pub none_kept : (fs : Noted) → ((n : ℕ) → found_at fs n ≡ 0) → KeepsFound [] 0 0 fs
none_kept fs h = record {
  past = λ n. let e : found_at fs n ≡ 0 = h n in omega (arith, e);
  due = λ n c e. absurd (true≢false (sym c));
}

-- after one more change nothing is found
pub raised_kept : (xs ys : List Node) (g h w : ℕ) (fs : Noted) → KeepsFound xs g w fs → KeepsFound ys h (w + 1) fs
raised_kept xs ys g h w fs k = record {
  past = λ n. let p : found_at fs n ≤ w = k.past n in omega (arith, p);
  due = λ n c e. let p : found_at fs n ≤ w = k.past n in absurd (omega (arith, p, e));
}

-- what must run by what lives and what is kept
abbrev DueBy : Signals → Memos → ℕ → Type 0
DueBy w k n = (is_due w k n ≡ true) ⊎ HasBelow (is_due w k) k n

-- a step of an evaluation changes neither
pub known_found : (k : Option (List Known)) (n : ℕ) (xs : List Node) (g w : ℕ) (fs : Noted) → KeepsFound xs g w fs → KeepsFound (changed_at (known_node k) n xs) g w fs
known_found k n xs g w fs h = record {
  past = h.past;
  due = λ m c e. subst (λ (s : State). DueBy s.signals s.memos m) (sym (known_state xs n k g 0 0)) (h.due m (sym (kind m) ∙ c) e);
}
  where
    kind : (m : ℕ) → is_computed_body (body_at (changed_at (known_node k) n xs) m) ≡ is_computed_body (body_at xs m)
    kind m = ap is_computed_body (body_changed (known_node k) (λ b. with_body_known b k) n m xs (λ x. refl) refl) ∙ go (n == m) (body_at xs m)
      where
        go : (t : Bool) (b : Body) → is_computed_body (if t then with_body_known b k else b) ≡ is_computed_body b
        go false b = refl
        go true Gone = refl
        go true (CellBody v r) = refl
        go true (ComputedBody c) = refl

-- one more is found, and another may be forgotten
pub noted_kept : (xs : List Node) (g w id : ℕ) (fs us : Noted) → HasDue xs g id →
    ((n : ℕ) → (found_at us n ≡ found_at fs n) ⊎ (((n ≡ id) × (found_at us n ≡ w)) ⊎ ((place_of n ≡ place_of id) × (found_at us n ≡ 0)))) →
    KeepsFound xs g w fs → KeepsFound xs g w us
noted_kept xs g w id fs us due noted h = record {
  past = λ n. elim (noted n) [
    | inl same ↦ subst (λ z. z ≤ w) (sym same) (h.past n)
    | inr other ↦ elim other [ inl here ↦ subst (λ z. z ≤ w) (sym here.1) (omega arith) | inr none ↦ subst (λ z. z ≤ w) (sym none.1) (omega arith) ]
  ];
  due = λ n c e. elim (noted n) [
    | inl same ↦ h.due n c (sym same ∙ e)
    | inr other ↦ elim other [ inl here ↦ subst (HasDue xs g) (sym here.0) due | inr none ↦ h.due n c (first n (sym none.1 ∙ e)) ]
  ];
}
  where
    -- before the first change all counts are 0
    first : (n : ℕ) → 0 ≡ w → found_at fs n ≡ w
    first n e = let p : found_at fs n ≤ w = h.past n in omega (arith, p, e)

-- what is found of one that needn't run itself is below it
pub found_below : (xs : List Node) (g n : ℕ) → is_due_at xs g n ≡ false → HasDue xs g n → HasBelow (is_due_at xs g) (memos_of g xs) n
found_below xs g n calm (inl on) = absurd (true≢false (sym on ∙ calm))
found_below xs g n calm (inr below) = below
