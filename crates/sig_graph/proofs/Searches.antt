-- What must run, and the search for it.
use Rattle.sig_marks.specs.Tables.{MarkTable, depends, marked_at}
use Rattle.mark_laws.proofs.Shared.{unmarked_law}
use Rattle.sig_graph.specs.Places.{KeepsMarks, NodesAgree}
use Rattle.sig_graph.specs.States.{is_computing}
use Rattle.sig_graph.specs.Parts.{state_of, memos_of, signals_of}
use Rattle.std.proofs.Common.{◌≡◌, ℕ, zero, suc, ◌+◌, ◌<◌, ◌≤◌, ◌==◌, ◌||◌, ◌&&◌, not, Bool, true, false, List, [], ◌∷◌, length, drop, Option, Some, None, refl, sym, ap, ◌∙◌, subst, arith, if◌then◌else◌, inl, inr, true≢false}
use Rattle.std.specs.Prelude.{slice_get}
use Rattle.signal_model.specs.Signals.{is_computed, standing}
use Rattle.signal_model.specs.Memos.{Source, Memo, differs, is_cycle, is_moved, is_stale_by, keeps, memo_is_cycle, must_run, must_run_by, same_number, some_moved, source_names, sources_in}
use Rattle.signal_model.specs.Marks.{HasBelow, IsMark, Mark, Checked, Clean, Dirty, kept, kept_below, mark_of}
use Rattle.signal_model.specs.Kept.{OnlyComputedsKeep}
use Rattle.signal_model.proofs.Shared.{mark_law}
use Rattle.sig_nodes.specs.declared.node.Node.{Node}
use Rattle.sig_nodes.specs.declared.node.Body.{Body}
use Rattle.sig_nodes.specs.declared.node.Body.TheVariants.{Gone, Cell as CellBody, Computed as ComputedBody}
use Rattle.sig_nodes.specs.Computations.{at_generation}
use Rattle.sig_nodes.specs.Nodes.{body_at, has_differed, is_computed_body, memo_body, seat_at, stands_of}
use Rattle.sig_graph.specs.Looks.{is_clean_mark}
use Rattle.sig_graph.specs.Search.{is_due_at, AreSeated, HasDue}
use Rattle.sig_seats.specs.Seats.{Seating, holder}
use Rattle.sig_base.specs.declared.limits.TheConstants.{MOST_NODES}
use Rattle.sig_graph.proofs.Parts.{memo_found, number_found, stands}
use Rattle.sig_seats.proofs.Shared.{held_inside}
use Rattle.sig_nodes.proofs.Shared.{body_got, computed_live}

-- ---- what must run

-- the sources from a place on, by the one at that place
pub moved_step : (xs : List Node) (ss : List Source) (i : ℕ) → some_moved (memos_of 0 xs) [] (drop i ss) ≡ (has_differed xs (slice_get ss i) || some_moved (memos_of 0 xs) [] (drop (i + 1) ss))
moved_step xs [] zero = refl
moved_step xs [] (suc i) = let e : suc i + 1 ≡ suc (i + 1) = omega arith in rw e refl
moved_step xs (s ∷ ss) zero = ap (λ b. b || some_moved (memos_of 0 xs) [] ss) (plain (differs (memos_of 0 xs) s) ∙ ap (λ m. not (same_number m s.number)) (number_found xs 0 s.name))
  where
    plain : (b : Bool) → (b || false) ≡ b
    plain true = refl
    plain false = refl
moved_step xs (s ∷ ss) (suc i) =
    let e : suc i + 1 ≡ suc (i + 1) = omega arith in
    rw e (moved_step xs ss i)

-- past the last source none has moved
pub moved_end : (xs : List Node) (ss : List Source) (i : ℕ) → length (source_names ss) ≤ i → some_moved (memos_of 0 xs) [] (drop i ss) ≡ false
moved_end xs [] zero h = refl
moved_end xs [] (suc i) h = refl
moved_end xs (s ∷ ss) zero h = absurd (omega arith)
moved_end xs (s ∷ ss) (suc i) h = let l : length (source_names ss) ≤ i = omega arith in moved_end xs ss i l

-- the generation counts only for what holds `cycle`
pub must_by : (xs : List Node) (g : ℕ) (m : Option Memo) → (is_stale_by (at_generation g) m || (not (memo_is_cycle m) && some_moved (memos_of 0 xs) [] (sources_in m))) ≡ must_run_by (memos_of g xs) m []
must_by xs g None = refl
must_by xs g (Some m) = go (is_cycle m.outcome) (m.generation == g) m.rewired
  where
    same : (ss : List Source) → some_moved (memos_of 0 xs) [] ss ≡ some_moved (memos_of g xs) [] ss
    same [] = refl
    same (s ∷ ss) = ap (λ b. is_moved (memos_of g xs) [] s || b) (same ss)

    go : (a b r : Bool) → ((if a then not b else r) || (not a && some_moved (memos_of 0 xs) [] m.sources)) ≡ (if a then not b else (r || some_moved (memos_of g xs) [] m.sources))
    go true true r = refl
    go true false r = refl
    go false b true = refl
    go false b false = same m.sources

-- whether the signal at a place is a computed that must run
pub due_found : (xs : List Node) (g n : ℕ) → is_due_at xs g n ≡ (is_computed_body (body_at xs n) && must_run_by (memos_of g xs) (memo_body (body_at xs n)) [])
due_found xs g n =
    ap (λ b. b && must_run (memos_of g xs) n []) (ap is_computed (stands xs n) ∙ go (body_at xs n))
    ∙ ap (λ m. is_computed_body (body_at xs n) && must_run_by (memos_of g xs) m []) (memo_found xs g n)
  where
    go : (b : Body) → is_computed (stands_of n b) ≡ is_computed_body b
    go Gone = refl
    go (CellBody v r) = refl
    go (ComputedBody c) = refl

-- the same by its node
pub due_got : (xs : List Node) (g n : ℕ) (x : Node) → slice_get xs n ≡ Some x → is_due_at xs g n ≡ (is_computed_body x.body && must_run_by (memos_of g xs) (memo_body x.body) [])
due_got xs g n x got = due_found xs g n ∙ ap (λ (b : Body). is_computed_body b && must_run_by (memos_of g xs) (memo_body b) []) (body_got xs n x got)

-- ---- the mark

-- only computeds have memos
pub only_keep : (xs : List Node) (g : ℕ) → OnlyComputedsKeep (signals_of xs) (memos_of g xs)
only_keep xs g n m e = ap is_computed (stands xs n) ∙ go (body_at xs n) (sym (memo_found xs g n) ∙ e)
  where
    go : (b : Body) → memo_body b ≡ Some m → is_computed (stands_of n b) ≡ true
    go Gone q = cc
    go (CellBody v r) q = cc
    go (ComputedBody c) q = refl

-- what must run is a computed
pub due_computed : (xs : List Node) (g n : ℕ) → is_computed_body (body_at xs n) ≡ false → is_due_at xs g n ≡ false
due_computed xs g n h = due_found xs g n ∙ ap (λ b. b && must_run_by (memos_of g xs) (memo_body (body_at xs n)) []) h

-- what isn't due needn't run
pub calm_run : (xs : List Node) (g n : ℕ) → is_computed_body (body_at xs n) ≡ true → is_due_at xs g n ≡ false → must_run (memos_of g xs) n [] ≡ false
calm_run xs g n c h = ap (λ m. must_run_by (memos_of g xs) m []) (memo_found xs g n) ∙ sym (ap (λ b. b && must_run_by (memos_of g xs) (memo_body (body_at xs n)) []) c) ∙ sym (due_found xs g n) ∙ h

-- the seats of a graph's computeds
pub seats_apart : (xs : List Node) (t : Seating) (g w : ℕ) → NodesAgree xs t g w → AreSeated xs MOST_NODES
seats_apart xs t g w h = record {
  below = λ n c. subst (λ k. seat_at xs n < k) h.size (held_inside t.holders (seat_at xs n) n (h.seated n (computed_live (body_at xs n) c)));
  one = λ n m c d e.
      let a : holder t.holders (seat_at xs n) ≡ Some n = h.seated n (computed_live (body_at xs n) c) in
      let b : holder t.holders (seat_at xs m) ≡ Some m = h.seated m (computed_live (body_at xs m) d) in
      let s : Some n ≡ Some m = sym a ∙ ap (holder t.holders) e ∙ b in
      cc;
}

-- the mark that is found is the one of the definition
pub dirty_mark : (xs : List Node) (g n : ℕ) → is_due_at xs g n ≡ true → Dirty ≡ mark_of (signals_of xs) (memos_of g xs) n
dirty_mark xs g n h = (mark_law (signals_of xs) (memos_of g xs) n Dirty (only_keep xs g)).1 (right (is_computed (standing (signals_of xs) n)) (must_run (memos_of g xs) n []) h)
  where
    right : (a b : Bool) → (a && b) ≡ true → b ≡ true
    right true b q = q
    right false b q = absurd (true≢false (sym q))

pub checked_mark : (xs : List Node) (g n : ℕ) → is_computed_body (body_at xs n) ≡ true → is_due_at xs g n ≡ false → HasBelow (is_due_at xs g) (memos_of g xs) n → Checked ≡ mark_of (signals_of xs) (memos_of g xs) n
checked_mark xs g n c h below = (mark_law (signals_of xs) (memos_of g xs) n Checked (only_keep xs g)).1 (calm_run xs g n c h, below)

-- what must run, or something below which must, isn't clean
pub due_unclean : (xs : List Node) (g n : ℕ) → is_computed_body (body_at xs n) ≡ true → HasDue xs g n → false ≡ is_clean_mark (mark_of (signals_of xs) (memos_of g xs) n)
due_unclean xs g n c (inl h) = ap is_clean_mark (dirty_mark xs g n h)
due_unclean xs g n c (inr below) = go (is_due_at xs g n) refl
  where
    go : (b : Bool) → is_due_at xs g n ≡ b → false ≡ is_clean_mark (mark_of (signals_of xs) (memos_of g xs) n)
    go true h = ap is_clean_mark (dirty_mark xs g n h)
    go false h = ap is_clean_mark (checked_mark xs g n c h below)

-- what needn't run and isn't clean is checked
pub unclean_checked : (xs : List Node) (g n : ℕ) → is_computed_body (body_at xs n) ≡ true → is_due_at xs g n ≡ false → is_clean_mark (mark_of (signals_of xs) (memos_of g xs) n) ≡ false →
    Checked ≡ mark_of (signals_of xs) (memos_of g xs) n
unclean_checked xs g n c h off = go (mark_of (signals_of xs) (memos_of g xs) n) refl
  where
    go : (m : Mark) → mark_of (signals_of xs) (memos_of g xs) n ≡ m → Checked ≡ mark_of (signals_of xs) (memos_of g xs) n
    go Clean e = absurd (true≢false (ap is_clean_mark (sym e) ∙ off))
    go Checked e = sym e
    go Dirty e =
        absurd (true≢false (sym (subst (IsMark (signals_of xs) (memos_of g xs) n) e (mark_law (signals_of xs) (memos_of g xs) n Dirty (only_keep xs g)).0) ∙ calm_run xs g n c h))

-- what isn't marked is clean
pub unmarked_clean : (xs : List Node) (g : ℕ) (table : MarkTable) (n : ℕ) → KeepsMarks xs g table → is_computed_body (body_at xs n) ≡ true → marked_at table.marked n ≡ false → Clean ≡ mark_of (signals_of xs) (memos_of g xs) n
unmarked_clean xs g table n k c off =
    sym (unmarked_law (signals_of xs) (memos_of g xs) (depends table.dependants) (marked_at table.marked) (is_computing (state_of xs g 0 0)) n k.marked (ap is_computed (stands xs n) ∙ go (body_at xs n) c) off)
  where
    go : (b : Body) → is_computed_body b ≡ true → is_computed (stands_of n b) ≡ true
    go Gone q = q
    go (CellBody v r) q = q
    go (ComputedBody d) q = refl

-- ---- what is found

pub due_below : (xs : List Node) (g n s : ℕ) → keeps (memos_of g xs) n s ≡ true → HasDue xs g s → HasBelow (is_due_at xs g) (memos_of g xs) n
due_below xs g n s k (inl h) = record { name = s; below = kept k; passes = h }
due_below xs g n s k (inr b) = record { name = b.name; below = kept_below k b.below; passes = b.passes }
