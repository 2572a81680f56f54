-- Settling step by step, where what is clean is passed over, and how many steps are counted: a look at a computed that is neither being
-- evaluated nor visited, a test of a memo, a comparison of a number, and each asking of a recipe.
use Rattle.std.specs.Prelude.{ℕ, ◌+◌, Bool, false, List, [], ◌∷◌, ◌++◌, drop, slice_index, if◌then◌else◌}
use Rattle.signal_model.specs.Recipes.{Hosts}
use Rattle.signal_model.specs.Signals.{Signals, Computed, Stands, IsComputed, is_in, standing}
use Rattle.signal_model.specs.Memos.{Source, Memos, sources_of}
use Rattle.signal_model.specs.Marks.{mark_of}
use Rattle.sig_graph.specs.Looks.{is_clean_mark}
use Rattle.sig_computed.specs.Steps.{Phase, Looking, LookedAt, Running, Waiting, Frame, Underway, Move, GoesOn, Needs}
use Rattle.sig_computed.specs.Steps.{frame_names, new_frame, is_ready, frame_move, after_move, begun}

-- the names of those that are clean
abbrev pub clean_among : Signals → Memos → List Computed → List ℕ
clean_among w k [] = []
clean_among w k (c ∷ cs) = if is_clean_mark (mark_of w k c.name) then c.name ∷ clean_among w k cs else clean_among w k cs

-- what needs no settling: what was visited, and what is clean
abbrev pub passed_over : Signals → Memos → List ℕ → List ℕ
passed_over w k visited = visited ++ clean_among w k w.computeds

-- a settling under way, and the steps that were counted so far
pub record Counted : Type 0 where
  pub underway : Underway
  pub looked : ℕ

-- a computed is looked at where it is neither being evaluated nor visited
abbrev pub look_steps : Stands → Bool → Bool → ℕ
look_steps st evaluating was_visited = if is_ready st evaluating was_visited then 0 else 1

-- a number is compared where the frame goes on
abbrev pub compare_steps : Move → ℕ
compare_steps (GoesOn p) = 1
compare_steps _ = 0

-- the first of some sources
abbrev pub source_steps : Signals → List ℕ → List ℕ → List Source → Move → ℕ
source_steps w evaluating visited [] mv = 0
source_steps w evaluating visited (s ∷ ss) mv = look_steps (standing w s.name) (is_in s.name evaluating) (is_in s.name visited) + compare_steps mv

-- the steps of a phase that comes to a move
abbrev pub phase_steps : Signals → Memos → List ℕ → List ℕ → ℕ → Computed → Phase → Move → ℕ
phase_steps w k evaluating visited n c (Looking place) mv = source_steps w evaluating visited (drop place (sources_of k n)) mv
phase_steps w k evaluating visited n c (LookedAt place) mv = source_steps w evaluating visited (drop place (sources_of k n)) mv
phase_steps w k evaluating visited n c (Running known reads) mv = 1
phase_steps w k evaluating visited n c (Waiting slot known reads) mv =
    look_steps (standing w (slice_index c.recipe.slots slot)) (is_in (slice_index c.recipe.slots slot) evaluating)
    (is_in (slice_index c.recipe.slots slot) visited)

-- those of a frame
abbrev pub frame_steps : Signals → Memos → List ℕ → List ℕ → Frame → Stands → Move → ℕ
frame_steps w k path visited f (IsComputed c) mv = phase_steps w k (f.name ∷ path) visited f.name c f.phase mv
frame_steps w k path visited f _ mv = 0

-- a computed that begins has its memo tested
abbrev pub begin_steps : Move → ℕ
begin_steps (Needs s p) = 1
begin_steps _ = 0

-- the innermost frame has moved
abbrev pub passing_moved : Signals → Counted → Frame → List Frame → Move → Counted
passing_moved w x f fs mv = record {
  underway = after_move x.underway f.name fs mv;
  looked = x.looked + frame_steps w x.underway.memos (frame_names fs) x.underway.visited f (standing w f.name) mv + begin_steps mv;
}

-- the next name is asked for: it is passed over, or it begins
abbrev pub passing_next : Signals → Counted → List ℕ → Counted
passing_next w x [] = x
passing_next w x (n ∷ ns) =
    if is_ready (standing w n) false (is_in n (passed_over w x.underway.memos x.underway.visited))
    then record { underway = record x.underway { asked = ns }; looked = x.looked + look_steps (standing w n) false (is_in n x.underway.visited) }
    else record {
      underway = record x.underway { asked = ns; stack = new_frame x.underway.memos n ∷ [] };
      looked = x.looked + look_steps (standing w n) false (is_in n x.underway.visited) + 1;
    }

-- one step, by the stack
abbrev pub passing_stack : Hosts → Signals → Counted → List Frame → Counted
passing_stack hosts w x [] = passing_next w x x.underway.asked
passing_stack hosts w x (f ∷ fs) =
    passing_moved w x f fs (frame_move hosts w x.underway.memos (frame_names fs)
    (passed_over w x.underway.memos x.underway.visited) f (standing w f.name))

-- one step
abbrev pub passing_step : Hosts → Signals → Counted → Counted
passing_step hosts w x = passing_stack hosts w x x.underway.stack

-- nothing is done yet
abbrev pub passing_begun : Memos → List ℕ → Counted
passing_begun k asked = record { underway = begun k asked; looked = 0 }
