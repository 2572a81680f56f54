-- Settling step by step, by a stack of frames. A step looks at what stands under a name, at what is kept, and at the answer of a recipe; it
-- never evaluates from scratch.
use Rattle.std.specs.Prelude.{ℕ, ◌+◌, ◌||◌, ◌&&◌, not, Bool, true, false, List, [], ◌∷◌, ◌++◌, map, drop, slice_index, Option, Some, None}
use Rattle.std.specs.Prelude.{if◌then◌else◌}
use Rattle.sig_base.specs.declared.value.Fault.TheVariants.{Cycle}
use Rattle.sig_base.specs.declared.value.Known.{Known}
use Rattle.sig_base.specs.declared.value.Step.{Step}
use Rattle.sig_base.specs.declared.value.Step.TheVariants.{Read, Done, Fail}
use Rattle.sig_base.specs.declared.value.Outcome.{Outcome}
use Rattle.sig_base.specs.declared.value.Outcome.TheVariants.{Good, Bad}
use Rattle.signal_model.specs.Recipes.{Hosts, recipe_answer}
use Rattle.signal_model.specs.Signals.{Signals, Computed, Stands, IsComputed, is_in, standing}
use Rattle.signal_model.specs.Values.{Seen, Evaluation, learnt}
use Rattle.signal_model.specs.Memos.{Source, Memos, sources_of, holds_cycle, is_stale, is_moved}
use Rattle.signal_model.specs.Settling.{Run, with_run}
use Rattle.signal_model.specs.Sound.{standing_outcome}

-- what the frame of a computed is doing
pub data Phase : Type 0 where
  -- it looks at its kept sources, from the one at a place on
  Looking : ℕ → Phase
  -- it waits for the source at that place, and then decides by it
  LookedAt : ℕ → Phase
  -- it runs: the slots that are known, and what was read
  Running : List Known → List Seen → Phase
  -- its recipe has asked for a slot, and it waits for that one
  Waiting : ℕ → List Known → List Seen → Phase

-- a computed that is being evaluated
pub record Frame : Type 0 where
  pub name : ℕ
  pub phase : Phase

-- A settling under way: what is kept and what has run so far, the names that were visited, the last one first, the frames, the innermost
-- one first, and the names that are still asked for.
pub record Underway : Type 0 where
  pub memos : Memos
  pub runs : List Run
  pub visited : List ℕ
  pub stack : List Frame
  pub asked : List ℕ

-- the names that are being evaluated
abbrev pub frame_names : List Frame → List ℕ
frame_names fs = map (λ (f : Frame). f.name) fs

-- nothing is done yet
abbrev pub begun : Memos → List ℕ → Underway
begun k asked = record { memos = k; runs = []; visited = []; stack = []; asked = asked }

-- the frame of a computed that comes to be evaluated: what is stale runs, and all else looks first
abbrev pub new_frame : Memos → ℕ → Frame
new_frame k n = record { name = n; phase = if is_stale k n then Running [] [] else Looking 0 }

-- a source is ready where it is no computed, is being evaluated, or was visited
abbrev pub is_ready : Stands → Bool → Bool → Bool
is_ready (IsComputed c) evaluating was_visited = evaluating || was_visited
is_ready _ evaluating was_visited = true

-- what a ready source is read as: `cycle` where it is being evaluated, and else what it shows
abbrev pub ready_outcome : Stands → Bool → Option Outcome → Option Outcome
ready_outcome (IsComputed c) evaluating shown = if evaluating then Some (Bad Cycle) else shown
ready_outcome _ evaluating shown = shown

-- what one step of a frame comes to
pub data Move : Type 0 where
  -- it goes on in a phase
  GoesOn : Phase → Move
  -- another computed has to be settled first
  Needs : ℕ → Phase → Move
  -- it is done without a run
  Stops : Move
  -- it has run
  Ends : Evaluation → Move

-- a ready source decides: where it has moved the computed runs, but not for a kept `cycle`; else the next source is looked at
abbrev pub decided : Bool → Bool → ℕ → Move
decided cycle moved place = if not cycle && moved then GoesOn (Running [] []) else GoesOn (Looking (place + 1))

-- a look at the sources from a place on
abbrev pub looked : Signals → Memos → List ℕ → List ℕ → Bool → ℕ → List Source → Move
looked w k evaluating visited cycle place [] = Stops
looked w k evaluating visited cycle place (s ∷ ss) =
    if is_ready (standing w s.name) (is_in s.name evaluating) (is_in s.name visited)
    then decided cycle (is_moved k evaluating s) place
    else Needs s.name (LookedAt place)

-- A slot is read as an outcome: a good value is told to the recipe, and a fault ends the run. What was visited has run, so it shows
-- something.
abbrev pub slot_read : ℕ → ℕ → Option Outcome → List Known → List Seen → Move
slot_read slot m None known reads = Stops
slot_read slot m (Some (Good v)) known reads = GoesOn (Running (learnt known slot v) (reads ++ record { name = m; outcome = Good v } ∷ []))
slot_read slot m (Some (Bad e)) known reads = Ends (record { reads = reads ++ record { name = m; outcome = Bad e } ∷ []; outcome = Bad e })

-- a slot is waited for
abbrev pub waited : Signals → Memos → List ℕ → List ℕ → ℕ → ℕ → List Known → List Seen → Move
waited w k evaluating visited slot m known reads =
    if is_ready (standing w m) (is_in m evaluating) (is_in m visited)
    then slot_read slot m (ready_outcome (standing w m) (is_in m evaluating) (standing_outcome w k m)) known reads
    else Needs m (Waiting slot known reads)

-- the recipe has answered
abbrev pub answered : Step → List Known → List Seen → Move
answered (Done v) known reads = Ends (record { reads = reads; outcome = Good v })
answered (Fail e) known reads = Ends (record { reads = reads; outcome = Bad e })
answered (Read s) known reads = GoesOn (Waiting s known reads)

-- what a computed does in a phase; it is the first of those that are being evaluated
abbrev pub move_of : Hosts → Signals → Memos → List ℕ → List ℕ → ℕ → Computed → Phase → Move
move_of hosts w k evaluating visited n c (Looking place) =
    looked w k evaluating visited (holds_cycle k n) place (drop place (sources_of k n))
move_of hosts w k evaluating visited n c (LookedAt place) =
    looked w k evaluating visited (holds_cycle k n) place (drop place (sources_of k n))
move_of hosts w k evaluating visited n c (Running known reads) = answered (recipe_answer hosts c.recipe known) known reads
move_of hosts w k evaluating visited n c (Waiting slot known reads) =
    waited w k evaluating visited slot (slice_index c.recipe.slots slot) known reads

-- what a frame does on the frames below it
abbrev pub frame_move : Hosts → Signals → Memos → List ℕ → List ℕ → Frame → Stands → Move
frame_move hosts w k path visited f (IsComputed c) = move_of hosts w k (f.name ∷ path) visited f.name c f.phase
frame_move hosts w k path visited f _ = Stops

-- a move of the innermost frame is made
abbrev pub after_move : Underway → ℕ → List Frame → Move → Underway
after_move u n fs (GoesOn p) = record u { stack = record { name = n; phase = p } ∷ fs }
after_move u n fs (Needs m p) = record u { stack = new_frame u.memos m ∷ record { name = n; phase = p } ∷ fs }
after_move u n fs Stops = record u { stack = fs; visited = n ∷ u.visited }
after_move u n fs (Ends e) = record u {
  memos = with_run u.memos n e;
  runs = u.runs ++ record { name = n; evaluation = e } ∷ [];
  stack = fs;
  visited = n ∷ u.visited;
}

-- where nothing is being evaluated, the next of the names that are asked for
abbrev pub asked_next : Signals → Underway → List ℕ → Underway
asked_next w u [] = u
asked_next w u (n ∷ ns) =
    if is_ready (standing w n) false (is_in n u.visited)
    then record u { asked = ns }
    else record u { asked = ns; stack = new_frame u.memos n ∷ [] }

-- one step, by the stack
abbrev pub stack_step : Hosts → Signals → Underway → List Frame → Underway
stack_step hosts w u [] = asked_next w u u.asked
stack_step hosts w u (f ∷ fs) = after_move u f.name fs (frame_move hosts w u.memos (frame_names fs) u.visited f (standing w f.name))

-- one step
abbrev pub stepped : Hosts → Signals → Underway → Underway
stepped hosts w u = stack_step hosts w u u.stack
