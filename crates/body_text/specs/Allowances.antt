-- What may stand in a body.
use Rattle.std.specs.Prelude.{Bool, false, true}
use Rattle.body_text.specs.declared.allowance.Allowance.{Allowance}
use Rattle.body_text.specs.declared.allowance.StatementSet.{StatementSet}
use Rattle.body_text.specs.declared.allowance.StatementSet.TheVariants as set

-- whether the statements of the second set are among those of the first
abbrev pub has : StatementSet → StatementSet → Bool
has set.All s = true
has set.Common set.Common = true
has set.Common set.All = false

-- what may stand in the body of an effect: all statements; it has no row, and its formulas may read without tracking, those of
-- rewirings too
abbrev pub effects : Allowance
effects = record { formulas = record { row = false; untrack = true }; statements = set.All }

-- what may stand in the body of an event's handler: `set`, `log` and `when`; it has no row, and there is no `untrack`, since nothing
-- that it reads is tracked
abbrev pub handlers : Allowance
handlers = record { formulas = record { row = false; untrack = false }; statements = set.Common }
