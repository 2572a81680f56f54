-- Worked lines: a handler that runs, one whose body fails, why a computed ran, and what is refused of them.
use Rattle.std.specs.Prelude.{◌≡◌, ℕ, false, true, List, [], ◌++◌, codes}
use Rattle.std.specs.Fmt.{digits}
use Rattle.std.proofs.Common.{refl}
use Rattle.sig_base.specs.declared.value.Fault.TheVariants as fault
use Rattle.live_entries.specs.declared.entry.Entry.TheVariants as entry
use Rattle.live_entries.specs.declared.entry.Reason.{Reason}
use Rattle.live_entries.specs.declared.entry.Reason.TheVariants as reason
use Rattle.live_entries.specs.declared.refusal.LimitWord.TheVariants as limit
use Rattle.live_entries.specs.declared.refusal.Refusal.{Refusal}
use Rattle.live_entries.specs.declared.refusal.Refusal.TheVariants as refusal
use Rattle.live_entries.specs.Printed.{printed}

-- ---- handlers of events

-- that one runs is of a trace
pub fired_traced : printed true (entry.Fired (codes "main") 5) ≡ codes "fired main 5\n"
unfolding digits
fired_traced = refl

-- without one nothing is told of it
pub fired_untraced : (p : List ℕ) (node : ℕ) → printed false (entry.Fired p node) ≡ []
fired_untraced p node = refl

-- that its body failed is told without one too
pub failed_there : printed false (entry.FailAt (codes "main") 12 fault.Zero) ≡ codes "fail main.12 zero\n"
unfolding digits
failed_there = refl

-- ---- why a computed ran

-- the seventh fact of a journal is a run of `total`, for each reason
abbrev pub seventh : Reason → List ℕ
seventh r = printed false (entry.Why (codes "total") 7 r)

-- it had not run before
pub ran_first : seventh reason.First ≡ codes "why total 7 first\n"
unfolding digits
ran_first = refl

-- it held `cycle`
pub ran_in_cycle : seventh reason.Cycle ≡ codes "why total 7 cycle\n"
unfolding digits
ran_in_cycle = refl

-- the sixth fact rewired it
pub ran_rewired : seventh (reason.Rewired 6) ≡ codes "why total 7 rewired 6\n"
unfolding digits
ran_rewired = refl

-- its source `cost` was moved by the fifth fact
pub ran_changed : seventh (reason.Changed (codes "cost") 5) ≡ codes "why total 7 changed cost 5\n"
unfolding digits
ran_changed = refl

-- a source of its last run was being evaluated
pub ran_evaluating : seventh reason.Evaluating ≡ codes "why total 7 evaluating\n"
unfolding digits
ran_evaluating = refl

-- ---- refusals

-- the line of one
abbrev pub refused : Refusal → List ℕ
refused r = printed false (entry.Error r)

-- the page has no such node
pub no_node : refused (refusal.NoNode 9) ≡ codes "error 24 9\n"
unfolding digits
no_node = refl

-- the line of the template begins no element
pub no_line : refused (refusal.NoLine 3) ≡ codes "error 25 3\n"
unfolding digits
no_line = refl

-- a journal was begun too late, or twice
pub late : refused refusal.Late ≡ codes "error 26\n"
late = refl

-- no journal was begun, or the computed has never run
pub no_run : (n : List ℕ) → refused (refusal.NoRun n) ≡ codes "error 27 " ++ n ++ codes "\n"
no_run n = refl

-- there are too many handlers
pub many_handlers : refused (refusal.Limit limit.Handlers) ≡ codes "error 5 handlers\n"
many_handlers = refl

-- a journal has too many facts
pub many_facts : refused (refusal.Limit limit.Facts) ≡ codes "error 5 facts\n"
many_facts = refl
