-- What a look at a kept source finds, by the nodes and by what these stand for.
use Rattle.std.proofs.Common.{◌≡◌, ℕ, zero, suc, ◌&&◌, not, Bool, true, false, List, [], Option, Some, None, refl, sym, ap, ◌∙◌, is_some}
use Rattle.std.specs.Prelude.{slice_get}
use Rattle.signal_model.specs.Signals.{is_computed}
use Rattle.signal_model.specs.Memos.{Memo, Source, holds_cycle, memo_is_cycle, sources_in, sources_of}
use Rattle.sig_marks.specs.Tables.{MarkTable, marked_at}
use Rattle.sig_nodes.specs.declared.node.Node.{Node}
use Rattle.sig_nodes.specs.declared.node.Body.{Body}
use Rattle.sig_nodes.specs.declared.node.Body.TheVariants.{Gone, Cell as CellBody, Computed as ComputedBody}
use Rattle.sig_nodes.specs.Nodes.{body_at, has_moved_body, is_computed_body, known_body, memo_body, stands_of}
use Rattle.sig_graph.specs.declared.source_looks.SourceLook.{SourceLook}
use Rattle.sig_graph.specs.declared.source_looks.SourceLook.TheVariants as look
use Rattle.sig_graph.specs.Looks.{is_clean_mark}
use Rattle.sig_graph.specs.Parts.{memos_of, state_of}
use Rattle.sig_graph.specs.Places.{KeepsMarks}
use Rattle.sig_graph.specs.SourceLooks.{named, IsLookHere, IsOpenHere, IsOpenSource, IsReadyHere, IsReadySource, IsSignalLook, IsSignalLookHere, IsSourceLook}
use Rattle.sig_graph.specs.declared.source_looks.SignalLook.{SignalLook}
use Rattle.sig_graph.specs.declared.source_looks.SignalLook.TheVariants as signal
use Rattle.sig_nodes.specs.declared.answers.Standing.TheVariants.{Computed as ComputedKind}
use Rattle.sig_nodes.specs.Answers.{computed_kind, kind_here}
use Rattle.sig_nodes.proofs.Shared.{body_got}
use Rattle.sig_graph.proofs.Consistency.{computed_here}
use Rattle.sig_graph.proofs.Lookups.{moved_any}
use Rattle.sig_graph.proofs.Parts.{memo_found, progress_found, stands}
use Rattle.sig_graph.proofs.Searches.{due_unclean, unmarked_clean}

-- what is and isn't
pub idle_parts : (a b : Bool) → (a && not b) ≡ true → (a ≡ true) × (b ≡ false)
idle_parts true false h = (refl, refl)
idle_parts true true h = cc
idle_parts false b h = cc

pub marks_parts : (a b : Bool) → (a && b) ≡ true → a ≡ true
marks_parts true b h = refl
marks_parts false b h = h

pub calm_parts : (a b m : Bool) → ((a && not b) && m) ≡ false → a ≡ true → b ≡ false → m ≡ false
calm_parts true false m h p q = h
calm_parts true true m h p q = cc
calm_parts false b m h p q = cc

-- a computed that isn't being evaluated, by its node
pub open_here : (xs : List Node) (n : ℕ) (x : Node) (o : Option Source) → slice_get xs n ≡ Some x → named o ≡ Some n → (is_computed_body x.body && not (is_some (known_body x.body))) ≡ true →
    IsOpenHere xs o n
open_here xs n x o got name h =
    let parts = idle_parts (is_computed_body x.body) (is_some (known_body x.body)) h in
    let body = body_got xs n x got in
    record {
      named = name;
      computed = ap is_computed_body body ∙ parts.0;
      idle = ap (λ (b : Body). is_some (known_body b)) body ∙ parts.1;
    }

-- one that needs no settling, by its node
pub ready_here : (xs : List Node) (marked : List Bool) (m : Option Memo) (n : ℕ) (x : Node) (o : Option Source) (moves : Bool) → slice_get xs n ≡ Some x → named o ≡ Some n →
    ((is_computed_body x.body && not (is_some (known_body x.body))) && marked_at marked n) ≡ false → moves ≡ (not (memo_is_cycle m) && has_moved_body xs o) →
    IsReadyHere xs marked m o moves
ready_here xs marked m n x o moves got name h moved =
    let body = body_got xs n x got in
    record {
      name = n;
      named = name;
      calm = λ live idle. calm_parts (is_computed_body x.body) (is_some (known_body x.body)) (marked_at marked n) h
          (ap is_computed_body (sym body) ∙ live) (ap (λ (b : Body). is_some (known_body b)) (sym body) ∙ idle);
      moved = moved;
    }

-- the same of one that is gone
pub gone_here : (xs : List Node) (marked : List Bool) (m : Option Memo) (n : ℕ) (o : Option Source) (moves : Bool) → body_at xs n ≡ Gone → named o ≡ Some n →
    moves ≡ (not (memo_is_cycle m) && has_moved_body xs o) → IsReadyHere xs marked m o moves
gone_here xs marked m n o moves gone name moved = record {
  name = n;
  named = name;
  calm = λ live idle. no_computed (body_at xs n) gone live;
  moved = moved;
}
  where
    no_computed : (b : Body) → b ≡ Gone → is_computed_body b ≡ true → marked_at marked n ≡ false
    no_computed Gone h live = cc
    no_computed (CellBody v r) h live = cc
    no_computed (ComputedBody c) h live = cc

-- a computed that isn't being evaluated
open_found : (xs : List Node) (g l w n : ℕ) (o : Option Source) → IsOpenHere xs o n → IsOpenSource (state_of xs g l w) o n
open_found xs g l w n o h = record {
  named = h.named;
  computed = ap is_computed (stands xs n) ∙ go (body_at xs n) h.computed;
  idle = ap is_some (progress_found xs n) ∙ h.idle;
}
  where
    go : (b : Body) → is_computed_body b ≡ true → is_computed (stands_of n b) ≡ true
    go Gone q = q
    go (CellBody v r) q = q
    go (ComputedBody c) q = refl

-- a source that needs no settling
ready_found : (xs : List Node) (g l w id : ℕ) (t : MarkTable) (o : Option Source) (moved : Bool) → KeepsMarks xs g t →
    IsReadyHere xs t.marked (memo_body (body_at xs id)) o moved → IsReadySource (state_of xs g l w) id o moved
ready_found xs g l w id t o moved marks h = record {
  name = h.name;
  named = h.named;
  ready = λ live idle.
      let here = computed_here xs h.name live in
      sym (ap is_clean_mark (unmarked_clean xs g t h.name marks here (h.calm here (sym (ap is_some (progress_found xs h.name)) ∙ idle))));
  moved = h.moved
      ∙ ap (λ m. not (memo_is_cycle m) && has_moved_body xs o) (sym (memo_found xs g id))
      ∙ ap (λ b. not (holds_cycle (memos_of g xs) id) && b) (moved_any xs g l w o);
}

-- what a look finds
pub look_found : (xs : List Node) (g l w id : ℕ) (t : MarkTable) (o : Option Source) (r : SourceLook) → KeepsMarks xs g t →
    IsLookHere xs t.marked g (memo_body (body_at xs id)) o r → IsSourceLook (state_of xs g l w) id o r
look_found xs g l w id t o look.Past marks h = h
look_found xs g l w id t o (look.Due n) marks h = (open_found xs g l w n o h.0, sym (due_unclean xs g n h.0.computed h.1))
look_found xs g l w id t o (look.Marked n) marks h = open_found xs g l w n o h
look_found xs g l w id t o (look.Ready moved) marks h = ready_found xs g l w id t o moved marks h

-- what is no computed keeps no source
pub none_kept : (xs : List Node) (g n place : ℕ) → is_computed_body (body_at xs n) ≡ false → slice_get (sources_of (memos_of g xs) n) place ≡ None
none_kept xs g n place h = ap (λ m. slice_get (sources_in m) place) (memo_found xs g n ∙ go (body_at xs n) h) ∙ none_at place
  where
    go : (b : Body) → is_computed_body b ≡ false → memo_body b ≡ None
    go Gone q = refl
    go (CellBody v r) q = refl
    go (ComputedBody c) q = cc

    none_at : (i : ℕ) → slice_get {X = Source} [] i ≡ None
    none_at zero = refl
    none_at (suc i) = refl

-- what a look at a signal finds
pub signal_found : (xs : List Node) (g l w n : ℕ) (r : SignalLook) → IsSignalLookHere xs g n r → IsSignalLook (state_of xs g l w) n r
signal_found xs g l w n signal.Other h = λ k.
    other (body_at xs n) h ((λ i. kind_here (sym (stands xs n) i) (is_some (sym (progress_found xs n) i))) ∙ k)
  where
    other : (b : Body) → (is_computed_body b && not (is_some (known_body b))) ≡ false → kind_here (stands_of n b) (is_some (known_body b)) ≡ ComputedKind → ⊥
    other Gone h k = cc
    other (CellBody v r) h k = cc
    other (ComputedBody c) h k = busy (is_some c.known) h k
      where
        busy : (b : Bool) → not b ≡ false → computed_kind b ≡ ComputedKind → ⊥
        busy true h k = cc
        busy false h k = cc
signal_found xs g l w n (signal.Idle told) h =
    (idle (body_at xs n) h.0 ∙ (λ i. kind_here (sym (stands xs n) i) (is_some (sym (progress_found xs n) i))), h.1)
  where
    idle : (b : Body) → (is_computed_body b && not (is_some (known_body b))) ≡ true → ComputedKind ≡ kind_here (stands_of n b) (is_some (known_body b))
    idle Gone h = cc
    idle (CellBody v r) h = cc
    idle (ComputedBody c) h = free (is_some c.known) h
      where
        free : (b : Bool) → not b ≡ true → ComputedKind ≡ computed_kind b
        free true h = cc
        free false h = refl
