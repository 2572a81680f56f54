-- Worked examples: journals, and the chains that the definitions give for them.
use Rattle.std.specs.Prelude.{◌≡◌, ℕ, pos, List, [], ◌∷◌, ◌++◌, Some, None}
use Rattle.std.proofs.Common.{refl}
use Rattle.sig_base.specs.declared.value.Value.TheVariants as value
use Rattle.sig_base.specs.declared.value.Fault.TheVariants.{Cycle}
use Rattle.sig_base.specs.declared.value.Outcome.TheVariants.{Good, Bad}
use Rattle.effect_model.specs.declared.how.How.TheVariants.{Set, Rewire, Gone}
use Rattle.why_model.specs.declared.causes.Cause.TheVariants as cause
use Rattle.why_model.specs.Facts.{Fact, was_changed, has_run}
use Rattle.why_model.specs.Chains.{chain}

-- a run that came to a whole number
abbrev pub came_to : ℕ → List ℕ → ℕ → Fact
came_to n reads i = has_run (record { name = n; reads = reads; outcome = Good (value.Int (pos i)) })

-- a run that came to `cycle`
abbrev pub came_round : ℕ → List ℕ → Fact
came_round n reads = has_run (record { name = n; reads = reads; outcome = Bad Cycle })

-- a = 1; b = a + 1; d = b * 2; d is asked for, a is set to 5, and d is asked for again
abbrev pub sums : List Fact
sums = came_to 1 (0 ∷ []) 2 ∷ came_to 2 (1 ∷ []) 4 ∷ was_changed 0 Set ∷ came_to 1 (0 ∷ []) 6 ∷ came_to 2 (1 ∷ []) 12 ∷ []

-- then b is rewired to 3, and d is asked for
abbrev pub sums_rewired : List Fact
sums_rewired = sums ++ was_changed 1 Rewire ∷ came_to 1 [] 3 ∷ came_to 2 (1 ∷ []) 6 ∷ []

-- d ran for b, and b for a
pub sums_chain : chain sums 2 ≡ Some (record { run = 5; cause = cause.Changed 1 4 } ∷ record { run = 4; cause = cause.Changed 0 3 } ∷ [])
sums_chain = refl

pub sums_below : chain sums 1 ≡ Some (record { run = 4; cause = cause.Changed 0 3 } ∷ [])
sums_below = refl

pub rewired_chain : chain sums_rewired 2 ≡ Some (record { run = 8; cause = cause.Changed 1 7 } ∷ record { run = 7; cause = cause.Rewired 6 } ∷ [])
rewired_chain = refl

-- what is no computed has never run
pub cell_chain : chain sums 0 ≡ None
cell_chain = refl

-- a = 1; b = a * 0; c = b + 0; c is asked for, a is set, c is asked for: b ran and came to the same, so c didn't run, and its chain is that of
-- its first run
pub same_chain : chain (came_to 1 (0 ∷ []) 0 ∷ came_to 2 (1 ∷ []) 0 ∷ was_changed 0 Set ∷ came_to 1 (0 ∷ []) 0 ∷ []) 2
    ≡ Some (record { run = 2; cause = cause.First } ∷ [])
same_chain = refl

-- c = 1; b = c; a = b; a is asked for; c is rewired to a, and b is asked for: a meets b, which is being evaluated
abbrev pub entered_cycle : List Fact
entered_cycle = came_to 0 [] 1 ∷ came_to 1 (0 ∷ []) 1 ∷ came_to 2 (1 ∷ []) 1 ∷ was_changed 0 Rewire
    ∷ came_round 2 (1 ∷ []) ∷ came_round 0 (2 ∷ []) ∷ came_round 1 (0 ∷ []) ∷ []

pub entered_chain : (chain entered_cycle 2 ≡ Some (record { run = 5; cause = cause.Evaluating } ∷ []))
    × (chain entered_cycle 0 ≡ Some (record { run = 6; cause = cause.Rewired 4 } ∷ []))
    × (chain entered_cycle 1 ≡ Some (record { run = 7; cause = cause.Changed 0 6 } ∷ record { run = 6; cause = cause.Rewired 4 } ∷ []))
entered_chain = (refl, refl, refl)

-- then something else is set, and a is asked for again
pub cycle_chain : chain (entered_cycle ++ was_changed 9 Set ∷ came_round 0 (2 ∷ []) ∷ came_round 1 (0 ∷ []) ∷ came_round 2 (1 ∷ []) ∷ []) 2
    ≡ Some (record { run = 11; cause = cause.Cycle } ∷ [])
cycle_chain = refl

-- a source that was disposed
pub gone_chain : chain (came_to 1 (0 ∷ []) 1 ∷ was_changed 0 Gone ∷ came_to 1 (0 ∷ []) 7 ∷ []) 1
    ≡ Some (record { run = 3; cause = cause.Changed 0 2 } ∷ [])
gone_chain = refl
