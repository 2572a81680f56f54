-- What a journal notes: how signals were changed, and which computeds ran.
use Rattle.std.specs.Prelude.{ℕ, ◌+◌, ◌==◌, ◌&&◌, not, Bool, true, false, List, [], ◌∷◌, length, Option, Some, None, if◌then◌else◌}
use Rattle.sig_base.specs.declared.value.Outcome.{Outcome}
use Rattle.sig_base.specs.Values.{same_outcome}
use Rattle.effect_model.specs.declared.how.How.{How}
use Rattle.effect_model.specs.declared.how.How.TheVariants.{Set, Rewire, Gone}

-- a run: who ran, what it read in order of first reading, and what it came to
pub record Note : Type 0 where
  pub name : ℕ
  pub reads : List ℕ
  pub outcome : Outcome

-- a signal was changed so, or a computed ran so
pub data Fact : Type 0 where
  was_changed : ℕ → How → Fact
  has_run : Note → Fact

-- ---- Facts are looked at from the last one back: each stands before those that came earlier. The number of a fact is one more than that of
-- how many came earlier.

-- a run among facts, and its number
pub record Found : Type 0 where
  pub number : ℕ
  pub note : Note

-- the last run of a computed
abbrev pub last_run : ℕ → List Fact → Option Found
last_run n [] = None
last_run n (was_changed m how ∷ earlier) = last_run n earlier
last_run n (has_run r ∷ earlier) = if n == r.name then Some (record { number = length earlier + 1; note = r }) else last_run n earlier

-- the number of the last fact that passes a test, which sees what came earlier; 0 where none does
abbrev pub last_number : (Fact → List Fact → Bool) → List Fact → ℕ
last_number test [] = 0
last_number test (f ∷ earlier) = if test f earlier then length earlier + 1 else last_number test earlier

-- whether an outcome is news after a run
abbrev pub is_news : Option Found → Outcome → Bool
is_news None o = true
is_news (Some p) o = not (same_outcome p.note.outcome o)

-- whether a fact moves a signal: each change of it does, and each run with another outcome than the one before it, or with none before it
abbrev pub moves : ℕ → Fact → List Fact → Bool
moves n (was_changed m how) earlier = n == m
moves n (has_run r) earlier = n == r.name && is_news (last_run n earlier) r.outcome

-- whether it is another recipe
abbrev pub is_rewire : How → Bool
is_rewire Rewire = true
is_rewire Set = false
is_rewire Gone = false

-- whether a fact is a rewiring of a computed
abbrev pub rewires : ℕ → Fact → List Fact → Bool
rewires n (was_changed m how) earlier = n == m && is_rewire how
rewires n (has_run r) earlier = false
