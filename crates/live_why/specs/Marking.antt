-- What an index marks of facts.
use Rattle.std.specs.Prelude.{◌≡◌, ℕ, ◌++◌, Bool, List, [], ◌∷◌, nat_eq, reverse, unwrap_or, Option, Some, None, if◌then◌else◌}
use Rattle.std.specs.Map.{lookup}
use Rattle.effect_model.specs.declared.how.How.{How}
use Rattle.why_model.specs.declared.causes.Cause.{Cause}
use Rattle.why_model.specs.declared.causes.Cause.TheVariants as cause
use Rattle.why_model.specs.Facts as plain
use Rattle.why_model.specs.Facts.{was_changed, has_run, Found, last_run, last_number, is_rewire, moves, rewires}
use Rattle.why_model.specs.Chains.{cause_of}
use Rattle.live_why.specs.declared.facts.Fact.{Fact}
use Rattle.live_why.specs.Views.{facts_of}
use Rattle.live_why.specs.declared.index.Marks.{Marks}

-- the marks of a signal in an index; none where it has none
abbrev pub marks_at : List (ℕ × Marks) → ℕ → Marks
marks_at entries n = unwrap_or (lookup (nat_eq n) entries) (record { run = 0; rewired = 0; moved = 0 })

-- all facts, the last one first
unfoldable pub back : List Fact → List plain.Fact
back facts = reverse (facts_of facts)

-- the marks of a signal after a change of it, and after a run
abbrev pub marks_changed : How → ℕ → Marks → Marks
marks_changed how number m = record { run = m.run; rewired = (if is_rewire how then number else m.rewired); moved = number }

abbrev pub marks_run : Bool → ℕ → Marks → Marks
marks_run news number m = record { run = number; rewired = m.rewired; moved = (if news then number else m.moved) }

-- the number of a run, 0 for none
abbrev pub number_of_run : Option Found → ℕ
number_of_run None = 0
number_of_run (Some p) = p.number

-- the marks of a signal by the facts
abbrev pub marks_by : ℕ → List plain.Fact → Marks
marks_by n facts = record {
  run = number_of_run (last_run n facts);
  rewired = last_number (rewires n) facts;
  moved = last_number (moves n) facts;
}

-- the cause of a fact that is a run; of a change it is none that is looked at
abbrev pub cause_at : plain.Fact → List plain.Fact → Cause
cause_at (was_changed n how) earlier = cause.First
cause_at (has_run r) earlier = cause_of r.name earlier

-- those of all facts, in order
abbrev pub causes_by : List plain.Fact → List Cause
causes_by [] = []
causes_by (f ∷ earlier) = causes_by earlier ++ cause_at f earlier ∷ []

-- an index has the marks of each signal, and causes are those of all facts
pub record IsRight (facts : List Fact) (causes : List Cause) (entries : List (ℕ × Marks)) : Type 0 where
  pub marks : (n : ℕ) → marks_at entries n ≡ marks_by n (back facts)
  pub own : causes ≡ causes_by (back facts)
