use Rattle.std.proofs.Common.{[], map}
use Rattle.effect_turns.proofs.Carried.{can_then, runs_heard, spends_heard, spends_then}
use Rattle.effect_turns.proofs.Loops.{due_found, due_passed, visit_found, visit_passed}
use Rattle.effect_turns.proofs.Stills.{quiet_due, quiet_visit}
use Rattle.effect_turns.proofs.turns.visit.Goals as goal

pub hear-requires-clause-tables : goal.hear-requires-clause-tables
hear-requires-clause-tables g c = c.requires.can.agrees.owned.tables

pub hear-requires-clause-heard : goal.hear-requires-clause-heard
hear-requires-clause-heard g c = c.requires.can.agrees.heard

pub hear-requires-clause-quiet : goal.hear-requires-clause-quiet
hear-requires-clause-quiet g c = c.is_quiet.ensures c.if-is_quiet.true

pub is_quiet-requires : goal.is_quiet-requires
is_quiet-requires g c = c.requires.can.agrees.owned.tables

pub returns-then-is_quiet-clause-due : goal.returns-then-is_quiet-clause-due
returns-then-is_quiet-clause-due g c = λ hosts all sound.
    quiet_due (map (λ r. r.slack) c.args.rules.now) hosts _ c.args.world.now c.args.id sound (c.is_quiet.ensures c.if-is_quiet.true)

pub returns-then-is_quiet-clause-done : goal.returns-then-is_quiet-clause-done
returns-then-is_quiet-clause-done g c =
    runs_heard _ _ c.hear.new.world _ _ c.in_ok-hear.ensures.same c.in_ok-hear.ensures.heard
    (quiet_visit _ _ _ c.args.id c.requires.can.agrees (c.is_quiet.ensures c.if-is_quiet.true))

pub returns-then-is_quiet-clause-spent : goal.returns-then-is_quiet-clause-spent
returns-then-is_quiet-clause-spent g c = spends_heard _ c.hear.new.world c.in_ok-hear.ensures.same

pub returns-then-not-due-clause-due : goal.returns-then-not-due-clause-due
returns-then-not-due-clause-due g c = λ hosts all sound. due_passed _ _ c.if-not-due.true (c.in_ok-due.ensures.due hosts (map (λ r. r.slack) c.args.rules.now) all sound)

pub returns-then-not-due-clause-done : goal.returns-then-not-due-clause-done
returns-then-not-due-clause-done g c =
    visit_passed _ _ _ _ _ c.args.id c.in_ok-due.due c.if-not-due.true (λ hosts all sound. c.in_ok-due.ensures.due hosts (map (λ r. r.slack) c.args.rules.now) all sound) (c.in_ok-due.ensures.done _)

pub run_effect-requires-clause-can : goal.run_effect-requires-clause-can
run_effect-requires-clause-can g c = can_then _ _ _ _ _ _ (c.in_ok-due.ensures.done []) c.in_ok-due.ensures.spent c.requires.can

pub run_effect-requires-clause-ruled : goal.run_effect-requires-clause-ruled
run_effect-requires-clause-ruled g c = (c.in_ok-due.ensures.done []).rules _ c.requires.ruled

pub returns-clause-due : goal.returns-clause-due
returns-clause-due g c = λ hosts all sound. due_found _ _ c.if-not-due.false (c.in_ok-due.ensures.due hosts (map (λ r. r.slack) c.args.rules.now) all sound)

pub returns-clause-done : goal.returns-clause-done
returns-clause-done g c =
    visit_found _ _ _ _ _ _ _ c.args.id c.in_ok-due.due c.if-not-due.false (λ hosts all sound. c.in_ok-due.ensures.due hosts (map (λ r. r.slack) c.args.rules.now) all sound) c.requires.can.agrees
    (c.in_ok-due.ensures.done _) c.in_ok-run_effect.ensures.done

pub returns-clause-spent : goal.returns-clause-spent
returns-clause-spent g c = spends_then _ _ _ c.in_ok-due.ensures.spent c.in_ok-run_effect.ensures.spent
