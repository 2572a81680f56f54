-- How contracts see the frames of the code, and the graph that they stand on.
use Rattle.std.specs.Prelude.{◌≡◌, ℕ, ◌+◌, ◌≤◌, Bool, true, false, List, [], ◌∷◌, ◌++◌, map, reverse, Option, Some, None, if◌then◌else◌}
use Rattle.sig_base.specs.declared.value.Outcome.{Outcome}
use Rattle.sig_base.specs.declared.value.Outcome.TheVariants.{Bad}
use Rattle.sig_base.specs.declared.value.Fault.TheVariants.{Cycle}
use Rattle.sig_base.specs.declared.value.Known.{Known}
use Rattle.signal_model.specs.Signals.{changed}
use Rattle.signal_model.specs.Values.{Seen, Evaluation}
use Rattle.signal_model.specs.Memos.{Source, Memos, is_moved}
use Rattle.sig_graph.specs.States as states
use Rattle.sig_graph.specs.States.{State, Progress, is_computing}
use Rattle.sig_computed.specs.Steps.{Phase, Looking, LookedAt, Running, Waiting, Frame, Move, GoesOn, Needs, Stops, Ends}
use Rattle.sig_computed.specs.Lessons.{Lesson}
use Rattle.sig_computed.specs.declared.frames.Doing.{Doing}
use Rattle.sig_computed.specs.declared.frames.Doing.TheVariants as doing
use Rattle.std.specs.declared.boxed.Box.{Box}
use Rattle.sig_computed.specs.declared.frames.Open.{Open}
use Rattle.sig_computed.specs.declared.frames.Outer.{Outer}
use Rattle.sig_computed.specs.declared.frames.Turn.{Turn}
use Rattle.sig_computed.specs.declared.frames.Turn.TheVariants as turn

-- what a frame is doing, by what it has learnt
abbrev pub phase_of : Doing → Lesson → Phase
phase_of (doing.Looking place) l = Looking place
phase_of (doing.LookedAt place) l = LookedAt place
phase_of doing.Running l = Running l.known l.reads
phase_of (doing.Waiting slot) l = Waiting slot l.known l.reads

-- a frame
abbrev pub frame_of : Open → Frame
frame_of f = record { name = f.id; phase = phase_of f.doing f.learnt }

-- what a computed is doing that has learnt nothing
abbrev pub blank_phase : Doing → Phase
blank_phase (doing.Looking place) = Looking place
blank_phase (doing.LookedAt place) = LookedAt place
blank_phase doing.Running = Running [] []
blank_phase (doing.Waiting slot) = Waiting slot [] []

-- what a computed that waits is doing, by what it has learnt, if anything
abbrev pub outer_phase : {Z : Type 0} → Doing → Option (Box Lesson Z) → Phase
outer_phase d None = blank_phase d
outer_phase d (Some l) = phase_of d l.value

-- the frame of one that waits
abbrev pub outer_of : Outer → Frame
outer_of f = record { name = f.id; phase = outer_phase f.doing f.learnt }

-- a run that has come to its end
abbrev pub evaluation_of : List Seen → Outcome → Evaluation
evaluation_of rs o = record { reads = rs; outcome = o }

-- what was read, and behind it a source that ended the run
abbrev pub reads_until : List Seen → ℕ → Outcome → List Seen
reads_until rs n o = rs ++ record { name = n; outcome = o } ∷ []

-- what a step comes to that leaves a frame as it is
abbrev pub move_of : Turn → Open → Move
move_of turn.GoesOn f = GoesOn (phase_of f.doing f.learnt)
move_of turn.Needs f = Needs f.needed (phase_of f.doing f.learnt)
move_of turn.Stops f = Stops
move_of turn.Ends f = Ends (evaluation_of f.learnt.reads f.outcome)
move_of turn.Falls f = Ends (evaluation_of (reads_until f.learnt.reads f.needed f.outcome) f.outcome)

-- the frames that wait, the innermost first
abbrev pub tops : List Outer → List Frame
tops fs = map outer_of (reverse fs)

-- the frames with the innermost one, where one is left
abbrev pub held : Bool → Open → List Frame → List Frame
held true f fs = frame_of f ∷ fs
held false f fs = []

-- the names that pass a test
abbrev pub passing : (ℕ → Bool) → List ℕ → List ℕ
passing test [] = []
passing test (n ∷ ns) = if test n then n ∷ passing test ns else passing test ns

-- the computeds that are being evaluated
abbrev pub evaluating : State → List ℕ
evaluating s = passing (is_computing s) (map (λ (p : Progress). p.name) s.progress)

-- the progress of one computed changes
abbrev pub progressed : ℕ → Option (List Known) → List Progress → List Progress
progressed n known ps = changed (λ (p : Progress). p.name) n (λ p. record p { known = known }) ps

-- All stays, the progress is this, and at most so many steps are counted.
pub record Stays (old new : states.Seen) (ps : List Progress) (most : ℕ) : Type 0 where
  pub signals : new.state.signals ≡ old.state.signals
  pub memos : new.state.memos ≡ old.state.memos
  pub progress : new.state.progress ≡ ps
  pub worn : new.state.worn ≡ old.state.worn
  pub seats : new.seats ≡ old.seats
  pub given : new.given ≡ old.given
  pub steps : new.state.looked ≤ old.state.looked + most

-- the first name of some sources
abbrev pub first_name : List Source → Option ℕ
first_name [] = None
first_name (s ∷ ss) = Some s.name

-- whether the first of them has moved
abbrev pub first_moved : Memos → List ℕ → List Source → Bool
first_moved k evaluating [] = false
first_moved k evaluating (s ∷ ss) = is_moved k evaluating s

-- an outcome, where a source that has never run would show `cycle`: a source that was visited has run
abbrev pub or_cycle : Option Outcome → Outcome
or_cycle None = Bad Cycle
or_cycle (Some o) = o
