-- What a set marks newly must run, or something below it must.
use Rattle.std.proofs.Common.{◌≡◌, ℕ, zero, suc, ◌+◌, ◌==◌, ◌||◌, ◌&&◌, not, Bool, true, false, if◌then◌else◌, List, [], ◌∷◌, Option, Some, None, refl, sym, ap, ◌∙◌, arith, inl, inr}
use Rattle.std.proofs.lemmas.Bool.{eqb-true}
use Rattle.std.proofs.lemmas.Bool.Decides.{nat_tests}
use Rattle.sig_base.specs.declared.value.Value.{Value}
use Rattle.signal_model.specs.Signals.{is_computed, is_in, is_there, standing}
use Rattle.signal_model.specs.Memos.{Source, Memos, is_moved, keeps, must_run_by, number_of, same_number, some_moved, source_names, sources_in}
use Rattle.signal_model.proofs.Shared.{either, or_right}
use Rattle.mark_laws.specs.Marked.{IsUnmarked}
use Rattle.mark_laws.proofs.Shared.{keeper}
use Rattle.sig_marks.specs.Tables.{MarkTable, Reached, depends, first, marked_at, next}
use Rattle.sig_nodes.specs.declared.node.Node.{Node}
use Rattle.sig_nodes.specs.declared.node.Body.{Body}
use Rattle.sig_nodes.specs.declared.node.Body.TheVariants.{Gone, Cell as CellBody, Computed as ComputedBody}
use Rattle.sig_nodes.specs.Nodes.{body_at, change_at, changed_at, is_cell_body, is_computed_body, is_live_body, memo_body, number_at, number_body, set_node, with_body_value}
use Rattle.sig_nodes.proofs.Shared.{body_changed, cell_live, computed_live}
use Rattle.sig_graph.specs.Parts.{memos_of, signals_of}
use Rattle.sig_graph.specs.Places.{KeepsMarks}
use Rattle.sig_graph.specs.Search.{is_due_at, HasDue}
use Rattle.sig_graph.proofs.Consistency.{computed_here, live_here}
use Rattle.sig_graph.proofs.Parts.{memo_found, number_found}
use Rattle.sig_graph.proofs.Searches.{due_below, due_found}
use Rattle.sig_graph.proofs.Walks.{keeps_name}

-- ---- after a set

-- a computed is as before
computed_stays : (v : Value) (n m : ℕ) (xs : List Node) → is_computed_body (body_at xs m) ≡ true → body_at (changed_at (set_node v) n xs) m ≡ body_at xs m
computed_stays v n m xs live = body_changed (set_node v) (λ b. with_body_value b v) n m xs (λ x. refl) refl ∙ go (n == m) (body_at xs m) live
  where
    go : (t : Bool) (b : Body) → is_computed_body b ≡ true → (if t then with_body_value b v else b) ≡ b
    go false b q = refl
    go true Gone q = cc
    go true (CellBody u r) q = cc
    go true (ComputedBody c) q = refl

-- the number of a cell, and the one after it is set
number_now : (n : ℕ) (xs : List Node) → is_cell_body (body_at xs n) ≡ true → number_at xs n ≡ Some (change_at xs n)
number_now n xs cell = go (change_at xs n) (body_at xs n) cell
  where
    go : (k : ℕ) (b : Body) → is_cell_body b ≡ true → number_body k b ≡ Some k
    go k Gone q = cc
    go k (CellBody u r) q = refl
    go k (ComputedBody c) q = cc

number_raised : (v : Value) (n : ℕ) (xs : List Node) → is_cell_body (body_at xs n) ≡ true → number_at (changed_at (set_node v) n xs) n ≡ Some (change_at xs n + 1)
number_raised v n [] cell = cc
number_raised v zero (x ∷ xs) cell = go x.body cell
  where
    go : (b : Body) → is_cell_body b ≡ true → number_body (x.number + 1) (with_body_value b v) ≡ Some (x.number + 1)
    go Gone q = cc
    go (CellBody u r) q = refl
    go (ComputedBody c) q = cc
number_raised v (suc n) (x ∷ xs) cell = number_raised v n xs cell

-- a source that had the number that was read has another one now
source_moves : (k k' : Memos) (n a : ℕ) (ss : List Source) → number_of k n ≡ Some a → number_of k' n ≡ Some (a + 1) → some_moved k [] ss ≡ false → is_in n (source_names ss) ≡ true →
    some_moved k' [] ss ≡ true
source_moves k k' n a [] was is calm among = cc
source_moves k k' n a (s ∷ ss) was is calm among =
    let both : (is_moved k [] s ≡ false) × (some_moved k [] ss ≡ false) = apart (is_moved k [] s) (some_moved k [] ss) calm in
    elim (either (n == s.name) (is_in n (source_names ss)) among) [
      | inl e ↦
          let here : n ≡ s.name = eqb-true n s.name e in
          let one : is_moved k' [] s ≡ true = go s.number (sym (ap (number_of k) here) ∙ was) (sym (ap (number_of k') here) ∙ is) both.0 in
          ap (λ b. b || some_moved k' [] ss) one
      | inr q ↦ or_right (is_moved k' [] s) (some_moved k' [] ss) (source_moves k k' n a ss was is both.1 q)
    ]
  where
    apart : (x y : Bool) → (x || y) ≡ false → (x ≡ false) × (y ≡ false)
    apart true y q = cc
    apart false y q = (refl, q)

    other : (b : ℕ) → (a == b) ≡ true → (a + 1 == b) ≡ false
    other b e = grind (arith, nat_tests)

    go : (o : Option ℕ) → number_of k s.name ≡ Some a → number_of k' s.name ≡ Some (a + 1) → (not (same_number (number_of k s.name) o) || false) ≡ false → (not (same_number (number_of k' s.name) o) || false) ≡ true
    go None e f q = cc (sym (ap (λ m. not (same_number m None) || false) e) ∙ q)
    go (Some b) e f q = ap (λ m. not (same_number m (Some b)) || false) f ∙ ap (λ c. not c || false) (other b (plain (a == b) (sym (ap (λ m. not (same_number m (Some b)) || false) e) ∙ q)))
      where
        plain : (c : Bool) → (not c || false) ≡ false → c ≡ true
        plain true r = refl
        plain false r = cc

-- ---- what comes after the cell along unmarked dependants

module _ (v : Value) (n : ℕ) (xs : List Node) (g : ℕ) (t : MarkTable) (cell : is_cell_body (body_at xs n) ≡ true) (h : KeepsMarks xs g t) where
  abbrev after : List Node
  after = changed_at (set_node v) n xs

  -- a dependant of what lives is a computed that keeps it, then too
  linked : (m d : ℕ) → is_live_body (body_at xs m) ≡ true → depends t.dependants m d ≡ true → (is_computed_body (body_at xs d) ≡ true) × (keeps (memos_of (g + 1) after) d m ≡ true)
  linked m d live on =
      let kept : keeps (memos_of g xs) d m ≡ true = sym (h.marked.links m d (live_here xs m ∙ live)) ∙ on in
      let kind : is_computed_body (body_at xs d) ≡ true = computed_here xs d (keeper (signals_of xs) (memos_of g xs) d m h.marked.owners kept) in
      (kind, keeps_name after (g + 1) d m ∙ ap (λ b. is_in m (source_names (sources_in (memo_body b)))) (computed_stays v n d xs kind) ∙ sym (keeps_name xs g d m) ∙ kept)

  -- an unmarked one that keeps the cell must run
  first_due : (d : ℕ) → depends t.dependants n d ≡ true → marked_at t.marked d ≡ false → is_due_at after (g + 1) d ≡ true
  first_due d on off =
      let there : is_there (standing (signals_of xs) n) ≡ true = live_here xs n ∙ cell_live (body_at xs n) cell in
      let kept : keeps (memos_of g xs) d n ≡ true = sym (h.marked.links n d there) ∙ on in
      let comp : is_computed (standing (signals_of xs) d) ≡ true = keeper (signals_of xs) (memos_of g xs) d n h.marked.owners kept in
      let kind : is_computed_body (body_at xs d) ≡ true = computed_here xs d comp in
      let u : IsUnmarked (signals_of xs) (memos_of g xs) (marked_at t.marked) d = h.marked.clean d comp off in
      let among : is_in n (source_names u.memo.sources) ≡ true = sym (ap (λ o. is_in n (source_names (sources_in o))) u.at) ∙ kept in
      let moves : some_moved (memos_of (g + 1) after) [] u.memo.sources ≡ true =
      source_moves (memos_of g xs) (memos_of (g + 1) after) n (change_at xs n) u.memo.sources (number_found xs g n ∙ number_now n xs cell) (number_found after (g + 1) n ∙ number_raised v n xs cell) u.current among in
      let memo : memo_body (body_at after d) ≡ Some u.memo = ap memo_body (computed_stays v n d xs kind) ∙ sym (memo_found xs g d) ∙ u.at in
      due_found after (g + 1) d
      ∙ ap (λ b. b && must_run_by (memos_of (g + 1) after) (memo_body (body_at after d)) []) (ap is_computed_body (computed_stays v n d xs kind) ∙ kind)
      ∙ ap (λ o. must_run_by (memos_of (g + 1) after) o []) memo
      ∙ ap (λ b. if b then not (u.memo.generation == g + 1) else (u.memo.rewired || some_moved (memos_of (g + 1) after) [] u.memo.sources)) u.fine
      ∙ or_right u.memo.rewired (some_moved (memos_of (g + 1) after) [] u.memo.sources) moves

  -- so must each that comes after it, or something below
  fresh_both : {a m : ℕ} → Reached t.dependants t.marked a m → a ≡ n → (is_computed_body (body_at xs m) ≡ true) × HasDue after (g + 1) m
  fresh_both {a} {m} (first on off) e =
      let here : depends t.dependants n m ≡ true = ap (λ z. depends t.dependants z m) (sym e) ∙ on in
      ((linked n m (cell_live (body_at xs n) cell) here).0, inl (first_due m here off))
  fresh_both {a} {m} (next {p = p} r on off) e =
      let before : (is_computed_body (body_at xs p) ≡ true) × HasDue after (g + 1) p = fresh_both r e in
      let l : (is_computed_body (body_at xs m) ≡ true) × (keeps (memos_of (g + 1) after) m p ≡ true) = linked p m (computed_live (body_at xs p) before.0) on in
      (l.0, inr (due_below after (g + 1) m p l.1 before.1))

  pub fresh_due : (m : ℕ) → Reached t.dependants t.marked n m → HasDue after (g + 1) m
  fresh_due m r = (fresh_both r refl).1
