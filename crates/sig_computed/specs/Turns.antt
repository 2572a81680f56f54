-- What a step leaves of each part of a settling.
use Rattle.std.specs.Prelude.{◌≡◌, ℕ, ◌+◌, ◌≤◌, ◌⊎◌, true, false, List, [], ◌∷◌, take, drop, length, slice_index, Some, None, if◌then◌else◌}
use Rattle.std.specs.List.{All}
use Rattle.sig_base.specs.declared.value.Known.{Known}
use Rattle.sig_base.specs.declared.value.Step.{Step}
use Rattle.signal_model.specs.Recipes.{Hosts, IsJudged, IsUnknownSlot}
use Rattle.signal_model.specs.Signals.{Signals, Computed, IsComputed, is_computed, is_in, standing}
use Rattle.signal_model.specs.Values.{Seen, Evaluation, unknown_slots}
use Rattle.signal_model.specs.Asks.{good_reads}
use Rattle.signal_model.specs.Memos.{Memos, holds_cycle, sources_of}
use Rattle.signal_model.specs.Settling.{with_run}
use Rattle.signal_model.specs.Sound.{names_of, standing_outcome}
use Rattle.sig_graph.specs.States as states
use Rattle.sig_graph.specs.States.{Progress, progress_at, is_computing, is_given}
use Rattle.sig_nodes.specs.Answers.{answer_here, slots_here}
use Rattle.sig_computed.specs.Steps.{Phase, Looking, LookedAt, Running, Waiting, Frame, frame_names, new_frame, is_ready, ready_outcome}
use Rattle.sig_computed.specs.Steps.{Move, GoesOn, Needs, Stops, Ends, looked, slot_read, answered}
use Rattle.sig_computed.specs.Skips.{look_steps, passed_over, source_steps}
use Rattle.sig_computed.specs.Notes.{Note}
use Rattle.sig_computed.specs.Views.{or_cycle, progressed}

-- the frames after a move of the innermost one
abbrev pub stack_after : Memos → ℕ → Move → List Frame → List Frame
stack_after k n (GoesOn p) fs = record { name = n; phase = p } ∷ fs
stack_after k n (Needs s p) fs = new_frame k s ∷ record { name = n; phase = p } ∷ fs
stack_after k n Stops fs = fs
stack_after k n (Ends e) fs = fs

-- the names that were visited
abbrev pub visited_after : ℕ → Move → List ℕ → List ℕ
visited_after n (GoesOn p) ns = ns
visited_after n (Needs s p) ns = ns
visited_after n Stops ns = n ∷ ns
visited_after n (Ends e) ns = n ∷ ns

-- what is kept
abbrev pub memos_after : Memos → ℕ → Move → Memos
memos_after k n (GoesOn p) = k
memos_after k n (Needs s p) = k
memos_after k n Stops = k
memos_after k n (Ends e) = with_run k n e

-- the note of an evaluation
abbrev pub evaluation_note : ℕ → Evaluation → Note
evaluation_note n e = record { name = n; reads = names_of e.reads; outcome = e.outcome }

-- the notes of the move
abbrev pub notes_of : ℕ → Move → List Note
notes_of n (GoesOn p) = []
notes_of n (Needs s p) = []
notes_of n Stops = []
notes_of n (Ends e) = evaluation_note n e ∷ []

-- the progress of the computeds
abbrev pub progress_after : ℕ → Move → List Progress → List Progress
progress_after n (GoesOn p) ps = ps
progress_after n (Needs s p) ps = progressed s (Some []) ps
progress_after n Stops ps = progressed n None ps
progress_after n (Ends e) ps = progressed n None ps

-- the computed that is needed has begun
abbrev pub HasBegun : Move → List Progress → Type 0
HasBegun (GoesOn p) ps = Unit {0}
HasBegun (Needs s p) ps = progress_at s ps ≡ Some []
HasBegun Stops ps = Unit {0}
HasBegun (Ends e) ps = Unit {0}

-- how many runs a move keeps
abbrev pub runs_of : Move → ℕ
runs_of (GoesOn p) = 0
runs_of (Needs s p) = 0
runs_of Stops = 0
runs_of (Ends e) = 1

-- how many steps making a move counts: one where another computed begins
abbrev pub move_steps : Move → ℕ
move_steps (GoesOn p) = 0
move_steps (Needs s p) = 1
move_steps Stops = 0
move_steps (Ends e) = 0

-- the graph after a move of the innermost frame
pub record IsMoved (old new : states.Seen) (n : ℕ) (mv : Move) : Type 0 where
  pub signals : new.state.signals ≡ old.state.signals
  pub memos : new.state.memos ≡ memos_after old.state.memos n mv
  pub progress : new.state.progress ≡ progress_after n mv old.state.progress
  pub begun : HasBegun mv new.state.progress
  pub worn : new.state.worn ≡ old.state.worn + runs_of mv
  pub seats : new.seats ≡ old.seats
  pub given : new.given ≡ old.given
  pub steps : new.state.looked ≤ old.state.looked + move_steps mv

-- the graph once a run is kept
pub record IsKept (old new : states.Seen) (n : ℕ) (e : Evaluation) : Type 0 where
  pub signals : new.state.signals ≡ old.state.signals
  pub memos : new.state.memos ≡ with_run old.state.memos n e
  pub progress : new.state.progress ≡ progressed n None old.state.progress
  pub worn : new.state.worn ≡ old.state.worn + 1
  pub seats : new.seats ≡ old.seats
  pub given : new.given ≡ old.given
  pub steps : new.state.looked ≤ old.state.looked

-- ---- the step of a frame

-- the progress after a step in a phase: a frame that runs asks its recipe with what it knows
abbrev pub progress_by : ℕ → Phase → List Progress → List Progress
progress_by n (Looking place) ps = ps
progress_by n (LookedAt place) ps = ps
progress_by n (Running known reads) ps = progressed n (Some known) ps
progress_by n (Waiting slot known reads) ps = ps

-- the same of a frame that comes to this move: a run that ends may have come to its end without asking
abbrev pub IsProgressBy : ℕ → Phase → Move → List Progress → List Progress → Type 0
IsProgressBy n p (GoesOn q) old new = new ≡ progress_by n p old
IsProgressBy n p (Needs s q) old new = new ≡ progress_by n p old
IsProgressBy n p Stops old new = new ≡ progress_by n p old
IsProgressBy n p (Ends e) old new = (new ≡ progress_by n p old) ⊎ (new ≡ old)

-- how many steps a frame counts in a phase, where it comes to this move: a recipe is asked; or a source is looked at, and its number compared
abbrev pub turn_steps : Signals → Memos → List ℕ → List ℕ → ℕ → Phase → Move → ℕ
turn_steps w k evaluating visited n (Looking place) mv = source_steps w evaluating visited (drop place (sources_of k n)) mv
turn_steps w k evaluating visited n (LookedAt place) mv = source_steps w evaluating visited (drop place (sources_of k n)) mv
turn_steps w k evaluating visited n (Running known reads) mv = 1
turn_steps w k evaluating visited n (Waiting slot known reads) mv =
    look_steps (standing w (slice_index (slots_here (standing w n)) slot)) (is_in (slice_index (slots_here (standing w n)) slot) evaluating)
    (is_in (slice_index (slots_here (standing w n)) slot) visited)

-- a slot is waited for, and its source shows `cycle` where it has never run
abbrev pub waits : Signals → Memos → List ℕ → List ℕ → ℕ → ℕ → List Known → List Seen → Move
waits w k evaluating visited slot m known reads =
    if is_ready (standing w m) (is_in m evaluating) (is_in m visited)
    then slot_read slot m (Some (or_cycle (ready_outcome (standing w m) (is_in m evaluating) (standing_outcome w k m)))) known reads
    else Needs m (Waiting slot known reads)

-- a recipe has answered in some way that is judged
pub record IsAnswered (slots : List ℕ) (known : List Known) (reads : List Seen) (mv : Move) : Type 0 where
  pub answer : Step
  pub judged : IsJudged (length slots) known answer
  pub move : mv ≡ answered answer known reads

-- the move of a frame in its phase
abbrev pub move_by : Hosts → Signals → Memos → List ℕ → List ℕ → ℕ → Phase → Move
move_by hosts w k evaluating visited n (Looking place) = looked w k evaluating visited (holds_cycle k n) place (drop place (sources_of k n))
move_by hosts w k evaluating visited n (LookedAt place) = looked w k evaluating visited (holds_cycle k n) place (drop place (sources_of k n))
move_by hosts w k evaluating visited n (Running known reads) = answered (answer_here hosts (standing w n) known) known reads
move_by hosts w k evaluating visited n (Waiting slot known reads) =
    waits w k evaluating visited slot (slice_index (slots_here (standing w n)) slot) known reads

-- the same, where of a recipe's answer is only known that it is judged
abbrev pub IsMove : Signals → Memos → List ℕ → List ℕ → ℕ → Phase → Move → Type 0
IsMove w k evaluating visited n (Looking place) mv = mv ≡ looked w k evaluating visited (holds_cycle k n) place (drop place (sources_of k n))
IsMove w k evaluating visited n (LookedAt place) mv = mv ≡ looked w k evaluating visited (holds_cycle k n) place (drop place (sources_of k n))
IsMove w k evaluating visited n (Running known reads) mv = IsAnswered (slots_here (standing w n)) known reads mv
IsMove w k evaluating visited n (Waiting slot known reads) mv =
    mv ≡ waits w k evaluating visited slot (slice_index (slots_here (standing w n)) slot) known reads

-- ---- what a frame needs of the graph

-- the values that a frame knows
abbrev pub phase_known : Phase → List Known
phase_known (Looking place) = []
phase_known (LookedAt place) = []
phase_known (Running known reads) = known
phase_known (Waiting slot known reads) = known

-- what it has read
abbrev pub phase_reads : Phase → List Seen
phase_reads (Looking place) = []
phase_reads (LookedAt place) = []
phase_reads (Running known reads) = reads
phase_reads (Waiting slot known reads) = reads

-- the same after a move
abbrev pub move_reads : Move → List Seen
move_reads (GoesOn p) = phase_reads p
move_reads (Needs s p) = phase_reads p
move_reads Stops = []
move_reads (Ends e) = e.reads

-- what was read was given
abbrev pub AreReadsGiven : states.Seen → List Seen → Type 0
AreReadsGiven g reads = All (λ (r : Seen). is_given g r.name ≡ true) reads

-- the slot that is waited for is one of so many, and isn't known
abbrev pub HasSlot : ℕ → Phase → Type 0
HasSlot count (Looking place) = Unit {0}
HasSlot count (LookedAt place) = Unit {0}
HasSlot count (Running known reads) = Unit {0}
HasSlot count (Waiting slot known reads) = IsUnknownSlot count slot known

-- A frame of a computed whose evaluation has begun. Its recipe was last asked with some of the values that the frame knows now, and
-- each good read has made one slot more known.
pub record Fits (g : states.Seen) (f : Frame) : Type 0 where
  pub computed : Computed
  pub stands : standing g.state.signals f.name ≡ IsComputed computed
  pub earlier : List Known
  pub begun : progress_at f.name g.state.progress ≡ Some earlier
  pub known : take (length earlier) (phase_known f.phase) ≡ earlier
  pub slot : HasSlot (length computed.recipe.slots) f.phase
  pub few : good_reads (phase_reads f.phase) + unknown_slots (length computed.recipe.slots) (phase_known f.phase) ≤ length computed.recipe.slots
  pub given : AreReadsGiven g (phase_reads f.phase)

-- each frame of a stack fits, and no computed has two
abbrev pub AreFit : states.Seen → List Frame → Type 0
AreFit g [] = Unit {0}
AreFit g (f ∷ fs) = Fits g f × (is_in f.name (frame_names fs) ≡ false) × AreFit g fs

-- what a move needs: the computed that has to be settled first isn't being evaluated, and what a run has read was given
abbrev pub CanMove : states.Seen → Move → Type 0
CanMove g (GoesOn p) = Unit {0}
CanMove g (Needs s p) = (is_computed (standing g.state.signals s) ≡ true) × (is_computing g.state s ≡ false)
CanMove g Stops = Unit {0}
CanMove g (Ends e) = AreReadsGiven g e.reads

-- the stack at the beginning: a clean computed needs none
abbrev pub first_stack : Signals → Memos → ℕ → List Frame
first_stack w k n = if is_ready (standing w n) false (is_in n (passed_over w k [])) then [] else new_frame k n ∷ []

-- the graph with its first frame, if it has one
pub record HasFirst (old new : states.Seen) (n : ℕ) (fs : List Frame) : Type 0 where
  pub signals : new.state.signals ≡ old.state.signals
  pub memos : new.state.memos ≡ old.state.memos
  pub worn : new.state.worn ≡ old.state.worn
  pub seats : new.seats ≡ old.seats
  pub given : new.given ≡ old.given
  pub steps : new.state.looked ≤ old.state.looked + 1 + length fs
  pub fits : AreFit new fs
  pub idle : (m : ℕ) → is_in m (frame_names fs) ≡ false → is_computing new.state m ≡ false
