-- Dependants and marks after each edit of a graph's nodes.
use Rattle.std.proofs.Common.{◌≡◌, ℕ, zero, suc, ◌+◌, ◌<◌, ◌==◌, ◌||◌, ◌&&◌, not, Bool, true, false, cond, if◌then◌else◌, List, [], ◌∷◌, ◌++◌, length, length-append, map, Option, Some, None, refl, sym, ap, ◌∙◌, subst, arith, ◌⊎◌, inl, inr, true≢false}
use Rattle.std.specs.Prelude.{slice_set, is_some}
use Rattle.std.proofs.lemmas.Bool.{eqb-true, eq-eqb}
use Rattle.sig_base.specs.declared.value.Value.{Value}
use Rattle.sig_base.specs.declared.value.Outcome.{Outcome}
use Rattle.sig_base.specs.declared.value.Known.{Known}
use Rattle.signal_model.specs.Recipes.{Recipe}
use Rattle.signal_model.specs.Signals.{Signals, Stands, Cell, Computed, IsCell, IsComputed, IsGone, is_computed, is_in, is_there, standing}
use Rattle.signal_model.specs.Memos.{Memo, Memos, Entry, entry_at, holds_cycle, is_cycle, memo_is_cycle, must_run, keeps, named_now, source_names, sources_in, sources_of}
use Rattle.signal_model.proofs.Shared.{tested}
use Rattle.sig_marks.specs.Tables.{Drops, MarkTable, Pushes, Relinks, Spreads, depends, marked_at, stands_at, with_place}
use Rattle.std.specs.List.{All}
use Rattle.sig_seats.specs.Found.{Noted}
use Rattle.sig_graph.specs.Search.{is_seated, search_unmarks, some_marked_at, some_seated, stays_marked, stop_unmarks_by, Reaches}
use Rattle.sig_marks.proofs.Shared.{all_in, depends_end, depends_past, mark_end, mark_other, mark_past, mark_set, mark_set_len, set_more}
use Rattle.mark_laws.proofs.Shared.{marked_spread}
use Rattle.mark_laws.specs.Marked.{AreMarked, HasSpread, IsSearched, IsUnmarked, IsUnused, ended, relinked, run_unmarks, some_marked, stop_unmarks, unlinked, without_marks}
use Rattle.sig_nodes.specs.declared.node.Node.{Node}
use Rattle.sig_nodes.specs.declared.node.Body.{Body}
use Rattle.sig_nodes.specs.declared.node.Body.TheVariants.{Gone, Cell as CellBody, Computed as ComputedBody}
use Rattle.sig_nodes.specs.Computations.{GoesOn}
use Rattle.sig_graph.specs.States.{State, is_computing, with_disposal, with_kept_run, with_progress}
use Rattle.sig_seats.specs.Seats.{Seating, holder}
use Rattle.sig_nodes.specs.Nodes.{IsFresh, body_at, changed_at, change_at, gone_node, is_cell_body, is_computed_body, is_live_body, known_body, known_node, memo_body, new_node, rewired_node, run_node, seat_at, set_node, stands_of, with_body_known, with_body_memo, with_body_recipe, with_body_value}
use Rattle.sig_graph.specs.Parts.{entries_of, entry_of, memos_of, signals_of, state_of, with_new}
use Rattle.sig_graph.proofs.KeptFinds.{known_found}
use Rattle.sig_graph.proofs.Parts.{entry_found, memo_found, progress_found, stands}
use Rattle.sig_nodes.proofs.Shared.{body_changed, body_past, changed_length, memo_made, computed_live}
use Rattle.sig_graph.proofs.StateEdits.{gone_state, known_state, new_state, rewired_state, run_state, set_state}
use Rattle.sig_graph.proofs.Consistency.{computed_below, computed_here, computing_here, known_holds, live_here}
use Rattle.sig_graph.proofs.ReachedSeats.{named_holder, seated_at, seated_is, HasSeated}
use Rattle.sig_graph.proofs.Walks.{clear_end}
use Rattle.sig_graph.proofs.Searches.{calm_run}
use Rattle.sig_graph.specs.Places.{AreLinked, IsGraph, KeepsMarks, KeepsStanding, LinksAnew, NodesAgree}
use Rattle.sig_graph.specs.StateMarks.{AreStateMarks}
use Rattle.sig_graph.proofs.MarkedStates.{begin_law, cell_law, computed_law, dispose_law, keep_law, onward_law, rewire_law, set_law, stop_law, turned, unmark_law}

-- ---- what stands at a place

cell_stands : (xs : List Node) (n : ℕ) → is_cell_body (body_at xs n) ≡ true → (c : Cell) × (standing (signals_of xs) n ≡ IsCell c)
cell_stands xs n h = go (body_at xs n) h (stands xs n)
  where
    go : (b : Body) → is_cell_body b ≡ true → standing (signals_of xs) n ≡ stands_of n b → (c : Cell) × (standing (signals_of xs) n ≡ IsCell c)
    go Gone q e = cc
    go (CellBody v r) q e = (record { name = n; value = v; rule = r }, e)
    go (ComputedBody c) q e = cc

computed_stands : (xs : List Node) (n : ℕ) → is_computed_body (body_at xs n) ≡ true → (c : Computed) × (standing (signals_of xs) n ≡ IsComputed c)
computed_stands xs n h = go (body_at xs n) h (stands xs n)
  where
    go : (b : Body) → is_computed_body b ≡ true → standing (signals_of xs) n ≡ stands_of n b → (c : Computed) × (standing (signals_of xs) n ≡ IsComputed c)
    go Gone q e = cc
    go (CellBody v r) q e = cc
    go (ComputedBody c) q e = (record { name = n; recipe = c.recipe }, e)

entry_stands : (xs : List Node) (n : ℕ) → is_computed_body (body_at xs n) ≡ true → (e : Entry) × (entry_at n (entries_of xs) ≡ Some e)
entry_stands xs n h = go (body_at xs n) h (entry_found xs n)
  where
    go : (b : Body) → is_computed_body b ≡ true → entry_at n (entries_of xs) ≡ entry_of n (change_at xs n) b → (e : Entry) × (entry_at n (entries_of xs) ≡ Some e)
    go Gone q e = cc
    go (CellBody v r) q e = cc
    go (ComputedBody c) q e = (record { name = n; number = change_at xs n; memo = c.memo }, e)

computing_at : (xs : List Node) (gen n : ℕ) → is_some (known_body (body_at xs n)) ≡ true → is_computing (state_of xs gen 0 0) n ≡ true
computing_at xs gen n h = ap is_some (progress_found xs n) ∙ h

-- the sources that a place keeps
abbrev pub kept_names : List Node → ℕ → List ℕ
kept_names xs n = source_names (sources_in (memo_body (body_at xs n)))

keeps_is : (xs : List Node) (gen n m : ℕ) → keeps (memos_of gen xs) n m ≡ is_in m (kept_names xs n)
keeps_is xs gen n m = ap (λ (o : Option Memo). is_in m (source_names (sources_in o))) (memo_found xs gen n)

-- ---- dependants and marks that are the same

same_links : (w : Signals) (k : Memos) (l l' : ℕ → ℕ → Bool) (t busy : ℕ → Bool) → ((m d : ℕ) → is_there (standing w m) ≡ true → l' m d ≡ l m d) →
    AreMarked w k l t busy → AreMarked w k l' t busy
same_links w k l l' t busy same marks = record { links = λ m d s. same m d s ∙ marks.links m d s; clean = marks.clean; running = marks.running; owners = marks.owners }

same_marks : (w : Signals) (k : Memos) (l : ℕ → ℕ → Bool) (t u busy : ℕ → Bool) → ((n : ℕ) → u n ≡ t n) → AreMarked w k l t busy → AreMarked w k l u busy
same_marks w k l t u busy same marks = record {
  links = marks.links;
  clean = λ n kind off. by n (marks.clean n kind (sym (same n) ∙ off));
  running = λ n b. same n ∙ marks.running n b;
  owners = marks.owners;
}
  where
    by : (n : ℕ) → IsUnmarked w k t n → IsUnmarked w k u n
    by n x = record { memo = x.memo; at = x.at; fine = x.fine; wired = x.wired; current = x.current; sources = λ m q c. same m ∙ x.sources m q c }

-- a mark more on what isn't a computed
more_marks : (w : Signals) (k : Memos) (l : ℕ → ℕ → Bool) (t u busy : ℕ → Bool) → ((n : ℕ) → t n ≡ true → u n ≡ true) → ((n : ℕ) → is_computed (standing w n) ≡ true → u n ≡ t n) →
    AreMarked w k l t busy → AreMarked w k l u busy
more_marks w k l t u busy more same marks = record {
  links = marks.links;
  clean = λ n kind off. by n (marks.clean n kind (sym (same n kind) ∙ off));
  running = λ n b. more n (marks.running n b);
  owners = marks.owners;
}
  where
    by : (n : ℕ) → IsUnmarked w k t n → IsUnmarked w k u n
    by n x = record { memo = x.memo; at = x.at; fine = x.fine; wired = x.wired; current = x.current; sources = λ m q c. same m c ∙ x.sources m q c }

-- ---- marks that are pushed

spread_is : (w : Signals) (dss : List (List ℕ)) (t u : List Bool) (n : ℕ) → Spreads dss t u n → HasSpread w (depends dss) (marked_at t) (marked_at u) n
spread_is w dss t u n s = record { more = s.more; start = s.start; on = λ m d kind off on q. s.on m d off on q }

-- from a computed that is marked first
record IsPushed (w : Signals) (dss : List (List ℕ)) (t us : List Bool) (n : ℕ) : Type 0 where
  spread : HasSpread w (depends dss) (marked_at t) (marked_at us) n
  here : marked_at us n ≡ true
  len : length us ≡ length t

pushed_is : (xs : List Node) (gen : ℕ) (t : MarkTable) (us : List Bool) (n : ℕ) → is_computed_body (body_at xs n) ≡ true → KeepsMarks xs gen t → Pushes t.dependants t.marked us n →
    IsPushed (signals_of xs) t.dependants t.marked us n
pushed_is xs gen t us n live h (inl (on, e)) = record {
  spread = subst (λ (ts : List Bool). HasSpread (signals_of xs) (depends t.dependants) (marked_at t.marked) (marked_at ts) n) (sym e)
      (marked_spread (signals_of xs) (memos_of gen xs) (depends t.dependants) (marked_at t.marked) (is_computing (state_of xs gen 0 0)) n h.marked
      (let c : (c : Computed) × (standing (signals_of xs) n ≡ IsComputed c) = computed_stands xs n live in ap is_computed c.1) on);
  here = ap (λ (ts : List Bool). marked_at ts n) e ∙ on;
  len = ap length e;
}
pushed_is xs gen t us n live h (inr s) = record {
  spread = record { more = λ m q. s.more m (more m q (tested (n == m))); start = s.start; on = λ m d kind off on q. by m d off on q (tested (n == m)) };
  here = s.more n (mark_set t.marked n n true l ∙ ap (λ b. cond b true (marked_at t.marked n)) (eq-eqb n n refl));
  len = s.len ∙ mark_set_len t.marked n true;
}
  where
    l : n < length t.marked
    l = subst (λ z. n < z) (sym h.flags) (computed_below xs n live)

    set : (m : ℕ) → marked_at (slice_set t.marked n true) m ≡ (if n == m then true else marked_at t.marked m)
    set m = mark_set t.marked n m true l

    more : (m : ℕ) → marked_at t.marked m ≡ true → ((n == m) ≡ true) ⊎ ((n == m) ≡ false) → marked_at (slice_set t.marked n true) m ≡ true
    more m q (inl e) = set m ∙ ap (λ b. cond b true (marked_at t.marked m)) e
    more m q (inr e) = set m ∙ ap (λ b. cond b true (marked_at t.marked m)) e ∙ q

    by : (m d : ℕ) → marked_at t.marked m ≡ false → marked_at us m ≡ true → depends t.dependants m d ≡ true → ((n == m) ≡ true) ⊎ ((n == m) ≡ false) → marked_at us d ≡ true
    by m d off on q (inl e) = s.start d (ap (λ z. depends t.dependants z d) (eqb-true n m e) ∙ q)
    by m d off on q (inr e) = s.on m d (set m ∙ ap (λ b. cond b true (marked_at t.marked m)) e ∙ off) on q

-- ---- what stands among the marks

-- after an edit of a node what lives lived before
kept_standing : (g : Node → Node) (f : Body → Body) (n : ℕ) (xs : List Node) (ss : List Bool) → ((x : Node) → (g x).body ≡ f x.body) → f Gone ≡ Gone → KeepsStanding xs ss → KeepsStanding (changed_at g n xs) ss
kept_standing g f n xs ss same gone h = record {
  size = h.size ∙ sym (changed_length g n xs);
  live = λ m q. h.live m (go m (n == m) (sym (ap is_live_body (body_changed g f n m xs same gone)) ∙ q));
}
  where
    lived : (b : Body) → is_live_body (f b) ≡ true → is_live_body b ≡ true
    lived Gone q = ap is_live_body (sym gone) ∙ q
    lived (CellBody v r) q = refl
    lived (ComputedBody c) q = refl

    go : (m : ℕ) (b : Bool) → is_live_body (if b then f (body_at xs m) else body_at xs m) ≡ true → is_live_body (body_at xs m) ≡ true
    go m true q = lived (body_at xs m) q
    go m false q = q

-- after a disposal it isn't the signal that is gone
gone_standing : (n : ℕ) (xs : List Node) (ss : List Bool) → KeepsStanding xs ss → KeepsStanding (changed_at gone_node n xs) (slice_set ss n false)
gone_standing n xs ss h = record {
  size = mark_set_len ss n false ∙ h.size ∙ sym (changed_length gone_node n xs);
  live = λ m q. go m (tested (n == m)) (sym (ap is_live_body (body_changed gone_node (λ b. Gone) n m xs (λ x. refl) refl)) ∙ q);
}
  where
    go : (m : ℕ) → ((n == m) ≡ true) ⊎ ((n == m) ≡ false) → is_live_body (if n == m then Gone else body_at xs m) ≡ true → stands_at (slice_set ss n false) m ≡ true
    go m (inl e) q = absurd (true≢false (sym q ∙ ap (λ b. is_live_body (if b then Gone else body_at xs m)) e))
    go m (inr e) q = mark_other ss n m false e ∙ h.live m (sym (ap (λ b. is_live_body (if b then Gone else body_at xs m)) e) ∙ q)

-- what is made stands
new_standing : (xs : List Node) (ss : List Bool) (x : Node) → KeepsStanding xs ss → KeepsStanding (xs ++ x ∷ []) (ss ++ true ∷ [])
new_standing xs ss x h = record {
  size = length-append ss (true ∷ []) ∙ ap (λ z. z + 1) h.size ∙ sym (length-append xs (x ∷ []));
  live = λ n q. go xs ss n h.size h.live q;
}
  where
    go : (ys : List Node) (ts : List Bool) (n : ℕ) → length ts ≡ length ys → ((k : ℕ) → is_live_body (body_at ys k) ≡ true → stands_at ts k ≡ true) → is_live_body (body_at (ys ++ x ∷ []) n) ≡ true → stands_at (ts ++ true ∷ []) n ≡ true
    go [] [] zero e l q = refl
    go [] [] (suc n) e l q = absurd (true≢false (sym q))
    go [] (t ∷ ts) n e l q = absurd (omega (arith, e))
    go (y ∷ ys) [] n e l q = absurd (omega (arith, e))
    go (y ∷ ys) (t ∷ ts) zero e l q = l zero q
    go (y ∷ ys) (t ∷ ts) (suc n) e l q = let k : length ts ≡ length ys = omega (arith, e) in go ys ts n k (λ j r. l (suc j) r) q

-- ---- each edit

-- no nodes
pub none_kept : KeepsMarks [] 0 (record { dependants = []; marked = []; stands = []; fresh = [] })
none_kept = record {
  links = refl;
  flags = refl;
  standing = record { size = refl; live = λ n q. absurd (true≢false (sym q)) };
  marked = record {
    links = λ m d s. absurd (true≢false (sym s));
    clean = λ n s off. absurd (true≢false (sym s));
    running = λ n b. absurd (true≢false (sym b));
    owners = λ n x at. absurd (true≢false (sym (ap is_some at)));
  };
}

-- a set
pub set_kept : (v : Value) (n : ℕ) (xs : List Node) (gen : ℕ) (t : MarkTable) (us : List Bool) → is_cell_body (body_at xs n) ≡ true → Spreads t.dependants t.marked us n →
    KeepsMarks xs gen t → KeepsMarks (changed_at (set_node v) n xs) (gen + 1) (record { dependants = t.dependants; marked = us; stands = t.stands; fresh = [] })
set_kept v n xs gen t us cell spread h =
    let c : (c : Cell) × (standing (signals_of xs) n ≡ IsCell c) = cell_stands xs n cell in
    let len : length (changed_at (set_node v) n xs) ≡ length xs = changed_length (set_node v) n xs in
    record {
      links = h.links ∙ sym len;
      flags = spread.len ∙ h.flags ∙ sym len;
      standing = kept_standing (set_node v) (λ b. with_body_value b v) n xs t.stands (λ x. refl) refl h.standing;
      marked = subst (λ (s : State). AreStateMarks s (depends t.dependants) (marked_at us)) (sym (set_state xs n v gen 0 0))
          (set_law (state_of xs gen 0 0) (depends t.dependants) (marked_at t.marked) (marked_at us) n c.0 v c.1 (spread_is (signals_of xs) t.dependants t.marked us n spread) h.marked);
    }

-- a rewiring
pub rewired_kept : (r : Recipe) (n : ℕ) (xs : List Node) (gen : ℕ) (t : MarkTable) (us : List Bool) → is_computed_body (body_at xs n) ≡ true → Pushes t.dependants t.marked us n →
    KeepsMarks xs gen t → KeepsMarks (changed_at (rewired_node r) n xs) (gen + 1) (record { dependants = t.dependants; marked = us; stands = t.stands; fresh = [] })
rewired_kept r n xs gen t us live pushes h =
    let c : (c : Computed) × (standing (signals_of xs) n ≡ IsComputed c) = computed_stands xs n live in
    let len : length (changed_at (rewired_node r) n xs) ≡ length xs = changed_length (rewired_node r) n xs in
    let p : IsPushed (signals_of xs) t.dependants t.marked us n = pushed_is xs gen t us n live h pushes in
    record {
      links = h.links ∙ sym len;
      flags = p.len ∙ h.flags ∙ sym len;
      standing = kept_standing (rewired_node r) (λ b. with_body_recipe b r) n xs t.stands (λ x. refl) refl h.standing;
      marked = subst (λ (s : State). AreStateMarks s (depends t.dependants) (marked_at us)) (sym (rewired_state xs n r gen 0 0))
          (rewire_law (state_of xs gen 0 0) (depends t.dependants) (marked_at t.marked) (marked_at us) n c.0 r c.1 p.spread p.here h.marked);
    }

-- a beginning
pub begun_kept : (n : ℕ) (xs : List Node) (gen : ℕ) (t : MarkTable) (us : List Bool) → is_computed_body (body_at xs n) ≡ true → Pushes t.dependants t.marked us n →
    KeepsMarks xs gen t → KeepsMarks (changed_at (known_node (Some [])) n xs) gen (record { dependants = t.dependants; marked = us; stands = t.stands; fresh = [] })
begun_kept n xs gen t us live pushes h =
    let c : (c : Computed) × (standing (signals_of xs) n ≡ IsComputed c) = computed_stands xs n live in
    let len : length (changed_at (known_node (Some [])) n xs) ≡ length xs = changed_length (known_node (Some [])) n xs in
    let p : IsPushed (signals_of xs) t.dependants t.marked us n = pushed_is xs gen t us n live h pushes in
    record {
      links = h.links ∙ sym len;
      flags = p.len ∙ h.flags ∙ sym len;
      standing = kept_standing (known_node (Some [])) (λ b. with_body_known b (Some [])) n xs t.stands (λ x. refl) refl h.standing;
      marked = subst (λ (s : State). AreStateMarks s (depends t.dependants) (marked_at us)) (sym (known_state xs n (Some []) gen 0 0))
          (begin_law (state_of xs gen 0 0) (depends t.dependants) (marked_at t.marked) (marked_at us) n c.0 c.1 p.spread p.here h.marked);
    }

-- another step of an evaluation
pub known_kept : (k : Option (List Known)) (n : ℕ) (xs : List Node) (gen : ℕ) (t : MarkTable) → is_some (known_body (body_at xs n)) ≡ true →
    KeepsMarks xs gen t → KeepsMarks (changed_at (known_node k) n xs) gen t
known_kept k n xs gen t on h =
    let len : length (changed_at (known_node k) n xs) ≡ length xs = changed_length (known_node k) n xs in
    record {
      links = h.links ∙ sym len;
      flags = h.flags ∙ sym len;
      standing = kept_standing (known_node k) (λ b. with_body_known b k) n xs t.stands (λ x. refl) refl h.standing;
      marked = subst (λ (s : State). AreStateMarks s (depends t.dependants) (marked_at t.marked)) (sym (known_state xs n k gen 0 0))
          (onward_law (state_of xs gen 0 0) (depends t.dependants) (marked_at t.marked) n k (computing_at xs gen n on) h.marked);
    }

-- an end without a run
pub stopped_kept : (n : ℕ) (xs : List Node) (gen : ℕ) (t : MarkTable) (us : List Bool) → is_some (known_body (body_at xs n)) ≡ true → length us ≡ length t.marked →
    ((m : ℕ) → marked_at us m ≡ ended (marked_at t.marked) n (stop_unmarks (signals_of xs) (memos_of gen xs) (marked_at t.marked) n) m) →
    KeepsMarks xs gen t → KeepsMarks (changed_at (known_node None) n xs) gen (record { dependants = t.dependants; marked = us; stands = t.stands; fresh = [] })
stopped_kept n xs gen t us on size marks h =
    let live : is_computed_body (body_at xs n) ≡ true = computing_here (body_at xs n) on in
    let c : (c : Computed) × (standing (signals_of xs) n ≡ IsComputed c) = computed_stands xs n live in
    let len : length (changed_at (known_node None) n xs) ≡ length xs = changed_length (known_node None) n xs in
    let s : State = state_of xs gen 0 0 in
    let after : State = with_progress s n None in
    let f : Bool = stop_unmarks (signals_of xs) (memos_of gen xs) (marked_at t.marked) n in
    record {
      links = h.links ∙ sym len;
      flags = size ∙ h.flags ∙ sym len;
      standing = kept_standing (known_node None) (λ b. with_body_known b None) n xs t.stands (λ x. refl) refl h.standing;
      marked = subst (λ (z : State). AreStateMarks z (depends t.dependants) (marked_at us)) (sym (known_state xs n None gen 0 0))
          (same_marks after.signals after.memos (depends t.dependants) (ended (marked_at t.marked) n f) (marked_at us) (is_computing after) marks
          (stop_law s (depends t.dependants) (marked_at t.marked) n c.0 c.1 (computing_at xs gen n on) h.marked));
    }

-- what lives notes a computed where it is kept
pub linked_here : (n : ℕ) (xs : List Node) (gen : ℕ) (t : MarkTable) → KeepsMarks xs gen t → AreLinked xs t.dependants n
linked_here n xs gen t h m live = h.marked.links m n (live_here xs m ∙ live) ∙ keeps_is xs gen n m

-- sources that are read again
pub links_same : (n : ℕ) (xs : List Node) (dss : List (List ℕ)) (reads : List ℕ) → AreLinked xs dss n → kept_names xs n ≡ reads → LinksAnew xs dss dss n reads
links_same n xs dss reads linked same = record { len = refl; now = λ m d live. by m d live (tested (n == d)) }
  where
    by : (m d : ℕ) → is_live_body (body_at xs m) ≡ true → ((n == d) ≡ true) ⊎ ((n == d) ≡ false) → depends dss m d ≡ relinked (depends dss) n reads m d
    by m d live (inr e) = sym (ap (λ b. if b then is_in m reads else depends dss m d) e)
    by m d live (inl e) =
        ap (depends dss m) (sym (eqb-true n d e)) ∙ linked m live ∙ ap (is_in m) same ∙ sym (ap (λ b. if b then is_in m reads else depends dss m d) e)

-- and others
pub links_others : (n : ℕ) (xs : List Node) (dss dss' : List (List ℕ)) (stands : List Bool) (reads : List ℕ) → KeepsStanding xs stands → AreLinked xs dss n →
    Relinks dss dss' stands (kept_names xs n) reads n → LinksAnew xs dss dss' n reads
links_others n xs dss dss' stands reads standing linked link = record { len = link.len; now = λ m d live. link.now m d (standing.live m live) ∙ by m d live (tested (n == d)) }
  where
    by : (m d : ℕ) → is_live_body (body_at xs m) ≡ true → ((n == d) ≡ true) ⊎ ((n == d) ≡ false) →
        (if n == d && is_in m reads then true else (if n == d && is_in m (kept_names xs n) then false else depends dss m d)) ≡ relinked (depends dss) n reads m d
    by m d live (inr e) = (λ i. if e i && is_in m reads then true else (if e i && is_in m (kept_names xs n) then false else depends dss m d)) ∙ sym (ap (λ b. if b then is_in m reads else depends dss m d) e)
    by m d live (inl e) =
        (λ i. if e i && is_in m reads then true else (if e i && is_in m (kept_names xs n) then false else depends dss m d))
        ∙ here (is_in m reads) (is_in m (kept_names xs n)) (depends dss m d) (ap (depends dss m) (sym (eqb-true n d e)) ∙ linked m live)
        ∙ sym (ap (λ b. if b then is_in m reads else depends dss m d) e)
      where
        here : (a b x : Bool) → x ≡ b → (if a then true else (if b then false else x)) ≡ a
        here true b x q = refl
        here false true x q = refl
        here false false x q = q

-- an end with a run
pub run_kept : (o : Outcome) (reads : List ℕ) (n : ℕ) (xs : List Node) (gen : ℕ) (t : MarkTable) (dss : List (List ℕ)) (us : List Bool) → is_some (known_body (body_at xs n)) ≡ true →
    LinksAnew xs t.dependants dss n reads → length us ≡ length t.marked →
    ((m : ℕ) → marked_at us m ≡ ended (marked_at t.marked) n (run_unmarks (signals_of xs) (marked_at t.marked) o reads) m) →
    KeepsMarks xs gen t → KeepsMarks (changed_at (run_node (memo_made o (map (named_now (memos_of gen xs)) reads) gen)) n xs) gen (record { dependants = dss; marked = us; stands = t.stands; fresh = [] })
run_kept o reads n xs gen t dss us on link size marks h =
    let live : is_computed_body (body_at xs n) ≡ true = computing_here (body_at xs n) on in
    let c : (c : Computed) × (standing (signals_of xs) n ≡ IsComputed c) = computed_stands xs n live in
    let e : (e : Entry) × (entry_at n (entries_of xs) ≡ Some e) = entry_stands xs n live in
    let len : length (changed_at (run_node memo) n xs) ≡ length xs = changed_length (run_node memo) n xs in
    let done : AreMarked (signals_of xs) after.memos (relinked (depends t.dependants) n reads) (ended (marked_at t.marked) n f) (is_computing after) =
    keep_law (state_of xs gen 0 0) (depends t.dependants) (marked_at t.marked) n c.0 o reads e.0 c.1 e.1 (computing_at xs gen n on) h.marked in
    record {
      links = link.len ∙ h.links ∙ sym len;
      flags = size ∙ h.flags ∙ sym len;
      standing = kept_standing (run_node memo) (λ b. with_body_memo b memo) n xs t.stands (λ x. refl) refl h.standing;
      marked = subst (λ (z : State). AreStateMarks z (depends dss) (marked_at us)) (sym (run_state xs n o reads gen 0 0 live))
          (same_links (signals_of xs) after.memos (relinked (depends t.dependants) n reads) (depends dss) (marked_at us) (is_computing after) (λ m d s. link.now m d (sym (live_here xs m) ∙ s))
          (same_marks (signals_of xs) after.memos (relinked (depends t.dependants) n reads) (ended (marked_at t.marked) n f) (marked_at us) (is_computing after) marks done));
    }
  where
    memo : Memo
    memo = memo_made o (map (named_now (memos_of gen xs)) reads) gen

    after : State
    after = with_kept_run (state_of xs gen 0 0) n o reads

    f : Bool
    f = run_unmarks (signals_of xs) (marked_at t.marked) o reads

-- a disposal
pub gone_kept : (n : ℕ) (xs : List Node) (gen : ℕ) (t : MarkTable) (dss : List (List ℕ)) (us : List Bool) → is_live_body (body_at xs n) ≡ true → Spreads t.dependants t.marked us n →
    Drops t.dependants dss (kept_names xs n) n → KeepsMarks xs gen t → KeepsMarks (changed_at gone_node n xs) (gen + 1) (record { dependants = dss; marked = slice_set us n true; stands = slice_set t.stands n false; fresh = [] })
gone_kept n xs gen t dss us live spread drop h =
    let len : length (changed_at gone_node n xs) ≡ length xs = changed_length gone_node n xs in
    let there : is_there (standing (signals_of xs) n) ≡ true = live_here xs n ∙ live in
    record {
      links = drop.len ∙ h.links ∙ sym len;
      flags = mark_set_len us n true ∙ spread.len ∙ h.flags ∙ sym len;
      standing = gone_standing n xs t.stands h.standing;
      marked = subst (λ (z : State). AreStateMarks z (depends dss) (marked_at (slice_set us n true))) (sym (gone_state xs n gen 0 0))
          (more_marks after.signals after.memos (depends dss) (marked_at us) (marked_at (slice_set us n true)) (is_computing after) (λ m on. set_more us n m on) untouched
          (same_links after.signals after.memos (unlinked (depends t.dependants) n) (depends dss) (marked_at us) (is_computing after) same
          (dispose_law (state_of xs gen 0 0) (depends t.dependants) (marked_at t.marked) (marked_at us) n there (spread_is (signals_of xs) t.dependants t.marked us n spread) h.marked)));
    }
  where
    after : State
    after = with_disposal (state_of xs gen 0 0) n

    by : (m d : ℕ) → is_there (standing (signals_of xs) m) ≡ true → ((n == d) ≡ true) ⊎ ((n == d) ≡ false) →
        (if n == d && is_in m (kept_names xs n) then false else depends t.dependants m d) ≡ unlinked (depends t.dependants) n m d
    by m d s (inr e) = (λ i. if e i && is_in m (kept_names xs n) then false else depends t.dependants m d) ∙ sym (ap (λ b. if b then false else depends t.dependants m d) e)
    by m d s (inl e) =
        (λ i. if e i && is_in m (kept_names xs n) then false else depends t.dependants m d)
        ∙ here (is_in m (kept_names xs n)) (depends t.dependants m d) (ap (depends t.dependants m) (sym (eqb-true n d e)) ∙ h.marked.links m n s ∙ keeps_is xs gen n m)
        ∙ sym (ap (λ b. if b then false else depends t.dependants m d) e)
      where
        here : (b x : Bool) → x ≡ b → (if b then false else x) ≡ false
        here true x q = refl
        here false x q = q

    was : (m : ℕ) → is_there (standing after.signals m) ≡ true → ((m == n) ≡ false) × (is_there (standing (signals_of xs) m) ≡ true)
    was m s = go (tested (n == m))
      where
        live_after : is_live_body (body_at (changed_at gone_node n xs) m) ≡ true
        live_after = sym (live_here (changed_at gone_node n xs) m) ∙ ap (λ (z : State). is_there (standing z.signals m)) (gone_state xs n gen 0 0) ∙ s

        at : body_at (changed_at gone_node n xs) m ≡ (if n == m then Gone else body_at xs m)
        at = body_changed gone_node (λ b. Gone) n m xs (λ x. refl) refl

        go : ((n == m) ≡ true) ⊎ ((n == m) ≡ false) → ((m == n) ≡ false) × (is_there (standing (signals_of xs) m) ≡ true)
        go (inl e) = absurd (true≢false (sym live_after ∙ ap is_live_body (at ∙ ap (λ b. if b then Gone else body_at xs m) e)))
        go (inr e) = (turned n m e, live_here xs m ∙ ap is_live_body (sym (at ∙ ap (λ b. if b then Gone else body_at xs m) e)) ∙ live_after)

    -- a computed that is left keeps its mark or lacks it
    untouched : (m : ℕ) → is_computed (standing after.signals m) ≡ true → marked_at (slice_set us n true) m ≡ marked_at us m
    untouched m kind = mark_other us n m true (turned m n (was m (there (standing after.signals m) kind)).0)
      where
        there : (s : Stands) → is_computed s ≡ true → is_there s ≡ true
        there IsGone q = q
        there (IsCell c) q = refl
        there (IsComputed c) q = refl

    same : (m d : ℕ) → is_there (standing after.signals m) ≡ true → depends dss m d ≡ unlinked (depends t.dependants) n m d
    same m d s =
        let old : ((m == n) ≡ false) × (is_there (standing (signals_of xs) m) ≡ true) = was m s in
        drop.now m d old.0 ∙ by m d old.1 (tested (n == d))

-- a signal whose mark goes after a search that came to these seats
record IsThrough (xs : List Node) (ss : List ℕ) (holders : List (Option ℕ)) (m : ℕ) : Type 0 where
  none : some_seated (stays_marked xs) ss holders ≡ false
  has : holder holders (seat_at xs m) ≡ Some m
  listed : is_in (seat_at xs m) ss ≡ true

-- a search that found nothing that must run
pub searched_kept : (xs : List Node) (seats : Seating) (gen w : ℕ) (t : MarkTable) (ss : List ℕ) (us : List Bool) → NodesAgree xs seats gen w →
    Reaches xs t.marked gen ss [] → length us ≡ length t.marked → ((m : ℕ) → marked_at us m ≡ without_marks (marked_at t.marked) (search_unmarks xs ss seats.holders) m) →
    KeepsMarks xs gen t → KeepsMarks xs gen (record { dependants = t.dependants; marked = us; stands = t.stands; fresh = [] })
searched_kept xs seats gen w t ss us holds e size marks h = record {
  links = h.links;
  flags = size ∙ h.flags;
  standing = h.standing;
  marked = same_marks (signals_of xs) (memos_of gen xs) (depends t.dependants) (without_marks (marked_at t.marked) gone) (marked_at us) (is_computing (state_of xs gen 0 0)) marks
      (unmark_law (state_of xs gen 0 0) (depends t.dependants) (marked_at t.marked) gone searched h.marked);
}
  where
    gone : ℕ → Bool
    gone = search_unmarks xs ss seats.holders

    through : (m : ℕ) → gone m ≡ true → IsThrough xs ss seats.holders m
    through m q = go (tested (some_seated (stays_marked xs) ss seats.holders))
      where
        go : (some_seated (stays_marked xs) ss seats.holders ≡ true) ⊎ (some_seated (stays_marked xs) ss seats.holders ≡ false) → IsThrough xs ss seats.holders m
        go (inl on) = absurd (true≢false (sym q ∙ ap (λ b. not b && is_seated ss seats.holders m) on))
        go (inr off) =
            let x : HasSeated (λ k. k == m) ss seats.holders = seated_at (λ k. k == m) ss seats.holders (sym (ap (λ b. not b && is_seated ss seats.holders m) off) ∙ q) in
            let at : seat_at xs m ≡ x.seat = (holds.living x.seat m (named_holder (holder seats.holders x.seat) m x.passes)).1 in
            record { none = off; has = ap (holder seats.holders) at ∙ named_holder (holder seats.holders x.seat) m x.passes; listed = ap (λ s. is_in s ss) at ∙ x.listed }

    -- it keeps no mark
    free : (m : ℕ) → gone m ≡ true → stays_marked xs m ≡ false
    free m q = go (tested (stays_marked xs m))
      where
        go : (stays_marked xs m ≡ true) ⊎ (stays_marked xs m ≡ false) → stays_marked xs m ≡ false
        go (inl on) = let x : IsThrough xs ss seats.holders m = through m q in absurd (true≢false (sym (seated_is (stays_marked xs) ss seats.holders (seat_at xs m) m x.listed x.has on) ∙ x.none))
        go (inr off) = off

    neither : (a b : Bool) → (a || b) ≡ false → (a ≡ false) × (b ≡ false)
    neither true b q = cc
    neither false b q = (refl, q)

    searched : IsSearched (signals_of xs) (memos_of gen xs) (marked_at t.marked) (is_computing (state_of xs gen 0 0)) gone
    searched = record {
      idle = λ m q. ap is_some (progress_found xs m) ∙ (neither (is_some (known_body (body_at xs m))) (memo_is_cycle (memo_body (body_at xs m))) (free m q)).0;
      calm = λ m c q. calm_run xs gen m (computed_here xs m c) (e.calm m (computed_here xs m c) (through m q).listed);
      fine = λ m c q. ap memo_is_cycle (memo_found xs gen m) ∙ (neither (is_some (known_body (body_at xs m))) (memo_is_cycle (memo_body (body_at xs m))) (free m q)).1;
      closed = λ m p c q k d on.
          let listed : is_in (seat_at xs p) ss ≡ true = clear_end xs t.marked gen ss m p e (computed_here xs m c) (through m q).listed k (computed_here xs p d) on in
          let has : holder seats.holders (seat_at xs p) ≡ Some p = holds.seated p (computed_live (body_at xs p) (computed_here xs p d)) in
          (λ i. not ((through m q).none i) && seated_is (λ j. j == p) ss seats.holders (seat_at xs p) p listed has (eq-eqb p p refl) i);
    }

-- a making, of what isn't marked if it is a cell, and is if it is a computed
pub new_kept : (xs : List Node) (seat : ℕ) (b : Body) (gen w : ℕ) (seats : Seating) (t : MarkTable) → IsFresh b → NodesAgree xs seats gen w →
    KeepsMarks xs gen t → KeepsMarks (xs ++ new_node seat b ∷ []) gen (with_place t (is_computed_body b))
new_kept xs seat b gen w seats t fresh holds h = record {
  links = length-append t.dependants ([] ∷ []) ∙ ap (λ z. z + 1) h.links ∙ sym (length-append xs (new_node seat b ∷ []));
  flags = length-append t.marked (is_computed_body b ∷ []) ∙ ap (λ z. z + 1) h.flags ∙ sym (length-append xs (new_node seat b ∷ []));
  standing = new_standing xs t.stands (new_node seat b) h.standing;
  marked = subst (λ (z : State). AreStateMarks z (depends (t.dependants ++ [] ∷ [])) (marked_at (t.marked ++ is_computed_body b ∷ []))) (sym (new_state xs seat b gen 0 0 fresh)) (go b fresh);
}
  where
    s : State
    s = state_of xs gen 0 0

    l : ℕ → ℕ → Bool
    l = depends (t.dependants ++ [] ∷ [])

    unused : IsUnused (memos_of gen xs) (length xs)
    unused = record {
      entry = entry_found xs (length xs) ∙ ap (entry_of (length xs) (change_at xs (length xs))) (body_past xs (length xs) (omega arith));
      unread = λ d. off d (tested (is_in (length xs) (kept_names xs d)));
    }
      where
        off : (d : ℕ) → (is_in (length xs) (kept_names xs d) ≡ true) ⊎ (is_in (length xs) (kept_names xs d) ≡ false) → keeps (memos_of gen xs) d (length xs) ≡ false
        off d (inr no') = keeps_is xs gen d (length xs) ∙ no'
        off d (inl on) = let q : length xs < length xs = holds.sources d (length xs) on in absurd (omega (arith, q))

    none : (d : ℕ) → l (length xs) d ≡ false
    none d = depends_end t.dependants (length xs) d ∙ depends_past t.dependants (length xs) d (let e : length t.dependants ≡ length xs = h.links in omega (arith, e))

    before : (u : List Bool) → ((n : ℕ) → marked_at t.marked n ≡ true → marked_at u n ≡ true) → ((n : ℕ) → is_computed (standing (signals_of xs) n) ≡ true → marked_at u n ≡ marked_at t.marked n) → AreStateMarks s l (marked_at u)
    before u more same =
        more_marks s.signals s.memos l (marked_at t.marked) (marked_at u) (is_computing s) more same
        (same_links s.signals s.memos (depends t.dependants) l (marked_at t.marked) (is_computing s) (λ m d q. depends_end t.dependants m d) h.marked)

    -- the new place had no mark
    past : marked_at t.marked (length xs) ≡ false
    past = sym (mark_past t.marked (length xs) (let e : length t.marked ≡ length xs = h.flags in omega (arith, e)))

    at : (b' : Bool) (n : ℕ) → marked_at (t.marked ++ b' ∷ []) n ≡ (if length xs == n then b' else marked_at t.marked n)
    at b' n = mark_end t.marked b' n ∙ ap (λ z. if z == n then b' else marked_at t.marked n) h.flags

    more : (b' : Bool) (n : ℕ) → marked_at t.marked n ≡ true → marked_at (t.marked ++ b' ∷ []) n ≡ true
    more b' n on = by (tested (length xs == n))
      where
        by : ((length xs == n) ≡ true) ⊎ ((length xs == n) ≡ false) → marked_at (t.marked ++ b' ∷ []) n ≡ true
        by (inl e) = absurd (true≢false (sym on ∙ ap (marked_at t.marked) (sym (eqb-true (length xs) n e)) ∙ past))
        by (inr e) = at b' n ∙ ap (λ z. if z then b' else marked_at t.marked n) e ∙ on

    same : (b' : Bool) (n : ℕ) → is_computed (standing (signals_of xs) n) ≡ true → marked_at (t.marked ++ b' ∷ []) n ≡ marked_at t.marked n
    same b' n kind = by (tested (length xs == n))
      where
        gone : is_computed (stands_of (length xs) (body_at xs (length xs))) ≡ false
        gone = ap (λ z. is_computed (stands_of (length xs) z)) (body_past xs (length xs) (omega arith))

        by : ((length xs == n) ≡ true) ⊎ ((length xs == n) ≡ false) → marked_at (t.marked ++ b' ∷ []) n ≡ marked_at t.marked n
        by (inl e) = absurd (true≢false (sym kind ∙ ap (λ z. is_computed (standing (signals_of xs) z)) (sym (eqb-true (length xs) n e)) ∙ ap is_computed (stands xs (length xs)) ∙ gone))
        by (inr e) = at b' n ∙ ap (λ z. if z then b' else marked_at t.marked n) e

    here : marked_at (t.marked ++ true ∷ []) (length xs) ≡ true
    here = at true (length xs) ∙ ap (λ z. if z then true else marked_at t.marked (length xs)) (eq-eqb (length xs) (length xs) refl)

    go : (d : Body) → IsFresh d → AreStateMarks (with_new s (length xs) d) l (marked_at (t.marked ++ is_computed_body d ∷ []))
    go Gone f = absurd f
    go (CellBody v r) f = cell_law s l (marked_at (t.marked ++ false ∷ [])) (record { name = length xs; value = v; rule = r }) unused none (before (t.marked ++ false ∷ []) (more false) (same false))
    go (ComputedBody c) f = computed_law s l (marked_at (t.marked ++ true ∷ [])) (record { name = length xs; recipe = c.recipe }) unused none here (before (t.marked ++ true ∷ []) (more true) (same true))

-- ---- what the code reads

-- a mark that stays or goes
pub end_stays : (t : List Bool) (n : ℕ) (f : Bool) (m : ℕ) → f ≡ false → marked_at t m ≡ ended (marked_at t) n f m
end_stays t n f m e = sym (ap (λ g. if n == m then (if g then false else marked_at t m) else marked_at t m) e ∙ go (n == m))
  where
    go : (b : Bool) → (if b then marked_at t m else marked_at t m) ≡ marked_at t m
    go true = refl
    go false = refl

pub end_goes : (t : List Bool) (n : ℕ) (f : Bool) (m : ℕ) → n < length t → f ≡ true → marked_at (slice_set t n false) m ≡ ended (marked_at t) n f m
end_goes t n f m l e = mark_set t n m false l ∙ sym (ap (λ g. if n == m then (if g then false else marked_at t m) else marked_at t m) e)

-- whether a marked computed stands at one of these
some_is : (xs : List Node) (t : List Bool) (ns : List ℕ) → some_marked_at xs t ns ≡ some_marked (signals_of xs) (marked_at t) ns
some_is xs t [] = refl
some_is xs t (n ∷ ns) = (λ i. (kind i && marked_at t n) || some_is xs t ns i)
  where
    by : (b : Body) → is_computed_body b ≡ is_computed (stands_of n b)
    by Gone = refl
    by (CellBody v r) = refl
    by (ComputedBody c) = refl

    kind : is_computed_body (body_at xs n) ≡ is_computed (standing (signals_of xs) n)
    kind = by (body_at xs n) ∙ ap is_computed (sym (stands xs n))

pub run_is : (xs : List Node) (t : List Bool) (o : Outcome) (reads : List ℕ) → (not (is_cycle o) && not (some_marked_at xs t reads)) ≡ run_unmarks (signals_of xs) (marked_at t) o reads
run_is xs t o reads = ap (λ b. not (is_cycle o) && not b) (some_is xs t reads)

pub stop_is : (xs : List Node) (g : ℕ) (t : List Bool) (n : ℕ) → stop_unmarks_by xs g t (memo_body (body_at xs n)) ≡ stop_unmarks (signals_of xs) (memos_of g xs) (marked_at t) n
stop_is xs g t n =
    ap (stop_unmarks_by xs g t) (sym (memo_found xs g n))
    ∙ ap (λ b. not (must_run (memos_of g xs) n []) && (not (holds_cycle (memos_of g xs) n) && not b)) (some_is xs t (source_names (sources_of (memos_of g xs) n)))

-- the places that a computed keeps are places of the table
pub names_below : (xs : List Node) (seats : Seating) (gen w n : ℕ) (t : MarkTable) → NodesAgree xs seats gen w → KeepsMarks xs gen t → All (λ m. m < length t.marked) (kept_names xs n)
names_below xs seats gen w n t holds h = all_in (kept_names xs n) (length t.marked) (λ m q. subst (λ z. m < z) (sym h.flags) (holds.sources n m q))

-- a table of these dependants, marks and signals that stand, whatever it lists
pub same_table : (xs : List Node) (gen : ℕ) (u : MarkTable) (dss : List (List ℕ)) (us ss : List Bool) → u.dependants ≡ dss → u.marked ≡ us → u.stands ≡ ss →
    KeepsMarks xs gen (record { dependants = dss; marked = us; stands = ss; fresh = [] }) → KeepsMarks xs gen u
same_table xs gen u dss us ss e f g h = record {
  links = ap length e ∙ h.links;
  flags = ap length f ∙ h.flags;
  standing = subst (KeepsStanding xs) (sym g) h.standing;
  marked = subst (λ (ts : List Bool). AreStateMarks (state_of xs gen 0 0) (depends u.dependants) (marked_at ts)) (sym f)
      (subst (λ (ds : List (List ℕ)). AreStateMarks (state_of xs gen 0 0) (depends ds) (marked_at us)) (sym e) h.marked);
}

-- a step of an evaluation that is under way
pub known_graph : (k : Option (List Known)) (n : ℕ) (xs : List Node) (seats : Seating) (gen w : ℕ) (t : MarkTable) (fs : Noted) → is_some (known_body (body_at xs n)) ≡ true →
    IsGraph xs seats gen w t fs → IsGraph (changed_at (known_node k) n xs) seats gen w t fs
known_graph k n xs seats gen w t fs on h = record { fields = known_holds k n xs seats gen w h.fields; marks = known_kept k n xs gen t on h.marks; found = known_found k n xs gen w fs h.found }

pub under_way : (k : Option (List Known)) (known : List Known) → GoesOn k known → is_some k ≡ true
under_way None known h = absurd h
under_way (Some earlier) known h = refl
