-- What steps come to.
use Rattle.std.specs.Prelude.{◌≡◌, ℕ, zero, suc, ◌+◌, ◌*◌, ◌-◌, ◌<◌, true, List, [], ◌∷◌, ◌++◌, length, Some, ◌⊎◌}
use Rattle.sig_base.specs.declared.value.Value.TheVariants.{Bool as truth}
use Rattle.signal_model.specs.Recipes.{Hosts}
use Rattle.signal_model.specs.Signals.{Signals, Computed, Stands, IsComputed, is_in, standing}
use Rattle.signal_model.specs.Values.{value_of, names_left, unknown_slots, learnt}
use Rattle.signal_model.specs.Memos.{Memos, sources_of}
use Rattle.signal_model.specs.Settling.{settled}
use Rattle.signal_model.specs.Sound.{standing_outcome}
use Rattle.signal_model.specs.Kept.{AreKept}
use Rattle.sig_computed.specs.Steps.{Phase, Looking, LookedAt, Running, Waiting, Frame, Underway, frame_names, begun, stepped}

-- so many steps
abbrev pub stepped_times : ℕ → Hosts → Signals → Underway → Underway
stepped_times zero hosts w u = u
stepped_times (suc turns) hosts w u = stepped_times turns hosts w (stepped hosts w u)

-- nothing is being evaluated, and nothing is asked for any more
pub record IsOver (u : Underway) : Type 0 where
  pub stack : u.stack ≡ []
  pub asked : u.asked ≡ []

-- what is kept and what has run is what settling defines, and each name that was asked for shows its value from scratch
pub record IsSettled (hosts : Hosts) (w : Signals) (k : Memos) (asked : List ℕ) (u : Underway) : Type 0 where
  pub whole : settled hosts w k asked ≡ record { memos = u.memos; runs = u.runs }
  pub kept : AreKept hosts w u.memos
  pub value : (n : ℕ) → is_in n asked ≡ true → standing_outcome w u.memos n ≡ Some (value_of hosts w n [])

-- where the steps are over, all that was asked for is settled
abbrev pub StepsSettleLaw : Type 0
StepsSettleLaw = (hosts : Hosts) (w : Signals) (k : Memos) (asked : List ℕ) (turns : ℕ) → AreKept hosts w k →
    IsOver (stepped_times turns hosts w (begun k asked)) → IsSettled hosts w k asked (stepped_times turns hosts w (begun k asked))

-- ---- the measure, which rests neither on what host formulas mean nor on soundness

-- what a computed still has to do at most in a phase; a frame that waits has one slot fewer to come, whatever its value will be
abbrev pub phase_left : Memos → ℕ → Computed → Phase → ℕ
phase_left k n c (Looking place) = 2 * length c.recipe.slots + 2 + (length (sources_of k n) - place)
phase_left k n c (LookedAt place) = 2 * length c.recipe.slots + 2 + (length (sources_of k n) - place)
phase_left k n c (Running known reads) = 2 * unknown_slots (length c.recipe.slots) known + 1
phase_left k n c (Waiting slot known reads) = 2 * unknown_slots (length c.recipe.slots) (learnt known slot (truth true)) + 2

-- the same of whatever stands under a name
abbrev pub left_here : Memos → ℕ → Phase → Stands → ℕ
left_here k n p (IsComputed c) = phase_left k n c p
left_here k n p _ = 0

-- the same of the innermost frame
abbrev pub top_left : Signals → Memos → List Frame → ℕ
top_left w k [] = 0
top_left w k (f ∷ fs) = left_here k f.name f.phase (standing w f.name)

-- how many computeds are neither visited nor being evaluated
abbrev pub names_free : Signals → Underway → ℕ
names_free w u = names_left w.computeds (frame_names u.stack ++ u.visited)

-- fewer in the first that differs of these four: names that are still asked for, free computeds, frames, and what the innermost has left
abbrev pub IsLower : Signals → Underway → Underway → Type 0
IsLower w a b =
    (length a.asked < length b.asked)
    ⊎ ((length a.asked ≡ length b.asked)
    × ((names_free w a < names_free w b)
    ⊎ ((names_free w a ≡ names_free w b)
    × ((length a.stack < length b.stack) ⊎ ((length a.stack ≡ length b.stack) × (top_left w a.memos a.stack < top_left w b.memos b.stack))))))

-- a step lowers the measure, or all is over
abbrev pub StepsLowerLaw : Type 0
StepsLowerLaw = (hosts : Hosts) (w : Signals) (u : Underway) → IsOver u ⊎ IsLower w (stepped hosts w u) u

-- so the steps come to an end
abbrev pub StepsEndLaw : Type 0
StepsEndLaw = (hosts : Hosts) (w : Signals) (u : Underway) → (turns : ℕ) × IsOver (stepped_times turns hosts w u)
