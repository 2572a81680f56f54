-- Worked examples: a list of commands, and what the definitions tell of it.
use Rattle.std.specs.Prelude.{◌≡◌, ℕ, List, [], ◌∷◌, ◌++◌, map, Option, Some, None, true, false, codes}
use Rattle.std.proofs.Common.{refl}
use Rattle.sig_base.specs.declared.value.Value.{Value}
use Rattle.sig_base.specs.declared.value.Value.TheVariants as value
use Rattle.sig_base.specs.declared.value.Fault.{Fault}
use Rattle.sig_base.specs.declared.value.Fault.TheVariants as fault
use Rattle.sig_base.specs.declared.value.Outcome.{Outcome}
use Rattle.sig_base.specs.declared.value.Outcome.TheVariants.{Good}
use Rattle.sig_base.specs.declared.scalar.Scalar.TheVariants as scalar
use Rattle.sig_formula.specs.Evaluation.{answer_of}
use Rattle.sig_formula.specs.declared.formula.BinOp.TheVariants.{Add, Eq, Lt, Gt, Join}
use Rattle.sig_formula.specs.Trees.{Tree, literal, slot, binary, choice, untracked}
use Rattle.signal_model.specs.Recipes.{formula_recipe, host}
use Rattle.signal_model.specs.Signals.{Cell}
use Rattle.signal_model.specs.Sound.{names_of}
use Rattle.signal_model.specs.Examples.{int, number}
use Rattle.effect_model.specs.declared.how.How.TheVariants.{Set, Rewire, Gone}
use Rattle.effect_model.specs.declared.plain.Plain.TheVariants as p
use Rattle.effect_model.specs.Owners.{Thing, the_signal, the_owner, the_effect}
use Rattle.effect_model.specs.Bodies.{Statements, no_more, Body}
use Rattle.effect_model.specs.Bodies as body
use Rattle.effect_model.specs.Worlds.{Environment, Event, ran, notified, frozen, logged, body_ran, failed, cleaned, gone, dropped_host, refused}
use Rattle.effect_model.specs.Worlds.{changed_signal, made_child, noted, Refused, thing_gone, host_taken, still_due, World}
use Rattle.effect_model.specs.Commands.{Command, cell, computed, owner, effect, watcher, watch, set, rewire, ask, dispose, flush_all, new_world}
use Rattle.effect_model.specs.Commands.{after_commands}
use Rattle.effect_model.specs.Labels.{EffectLabel, Labels, label_of, labels_after}

-- ---- what is printed

-- a line of the output, with the labels of effects
pub data Line : Type 0 where
  -- a computed ran: its sources, and its outcome
  run : ℕ → List ℕ → Outcome → Line
  notify : ℕ → Line
  log : Value → Line
  -- a body was evaluated, with its tracked reads
  evaluate : EffectLabel → List ℕ → Line
  fail : EffectLabel → Fault → Line
  clean : EffectLabel → Line
  end : Thing → Line
  end_effect : EffectLabel → Line
  drop : ℕ → ℕ → Line
  error : Refused → Line
  error_frozen : List ℕ → Line

-- whose cleanup it is
abbrev pub clean_line : Labels → Thing → List Line
clean_line ls (the_effect n) = clean (label_of ls n) ∷ []
clean_line ls t = []

-- an effect ends by its label
abbrev pub end_line : Labels → Thing → Line
end_line ls (the_effect n) = end_effect (label_of ls n)
end_line ls t = end t

-- the lines of an event; a change of a signal, the making of a child and the noting of a cleanup have none
abbrev pub event_lines : Labels → Event → List Line
event_lines ls (ran m) = run m.run.name (names_of m.run.evaluation.reads) m.run.evaluation.outcome ∷ []
event_lines ls (notified n) = notify n ∷ []
event_lines ls (frozen ns) = error_frozen ns ∷ []
event_lines ls (logged v) = log v ∷ []
event_lines ls (body_ran e names) = evaluate (label_of ls e) names ∷ []
event_lines ls (failed e f) = fail (label_of ls e) f ∷ []
event_lines ls (cleaned t c) = clean_line ls t
event_lines ls (gone t) = end_line ls t ∷ []
event_lines ls (dropped_host place asks) = drop place asks ∷ []
event_lines ls (refused why) = error why ∷ []
event_lines ls (changed_signal n how) = []
event_lines ls (made_child child parent k) = []
event_lines ls (noted t c) = []

-- the lines of all events
abbrev pub lines_told : Labels → List Event → List Line
lines_told ls [] = []
lines_told ls (e ∷ es) = event_lines ls e ++ lines_told ls es

-- ---- words for the examples

-- the host formula at each place picks its second or third argument by its first, and there are no equality rules
abbrev pub environment : Environment
environment = record { hosts = λ place known. answer_of (choice (slot 0) (slot 1) (slot 2)) None known; slacks = [] }

-- what stands after commands, where there is one host formula
abbrev pub world_after : List Command → World
world_after cs = after_commands environment (new_world 1) cs

-- what commands print
abbrev pub printed_by : List Command → List Line
printed_by cs = let told = (world_after cs).told in lines_told (labels_after [] told) told

-- the values of the cells afterwards
abbrev pub cells_after : List Command → List Value
cells_after cs = map (λ (c : Cell). c.value) (world_after cs).signals.cells

-- a text, and a formula that is one
abbrev pub text : List ℕ → Value
text s = value.Text s

-- that text as a formula
abbrev pub words : List ℕ → Tree
words s = literal (scalar.Text s)

-- a cell outside of any owner
abbrev pub new_cell : Value → Command
new_cell v = cell v None None

-- a statement of one line, before others
abbrev pub line_set : ℕ → Tree → Statements → Statements
line_set n f rest = body.plain (p.Set n f) rest

-- so is one that logs
abbrev pub line_log : Tree → Statements → Statements
line_log f rest = body.plain (p.Log f) rest

-- so is one that notes a set for the cleanup
abbrev pub line_cleanup_set : ℕ → Tree → Statements → Statements
line_cleanup_set n f rest = body.plain (p.CleanupSet n f) rest

-- so is one that notes a log
abbrev pub line_cleanup_log : Tree → Statements → Statements
line_cleanup_log f rest = body.plain (p.CleanupLog f) rest

-- so is one that disposes
abbrev pub line_dispose : Thing → Statements → Statements
line_dispose t rest = body.plain (p.Dispose t) rest

-- an effect with these statements on these names, inside an owner or outside of any
abbrev pub effect_in : Option ℕ → Statements → List ℕ → Command
effect_in inside ss names = effect (record { statements = ss; names = names }) inside

-- an effect that stands at the top
abbrev pub new_effect : Statements → List ℕ → Command
new_effect ss names = effect_in None ss names

-- the label of an effect that a command made
abbrev pub an_effect : ℕ → EffectLabel
an_effect n = record { effect = n; path = [] }

-- the label of the child of an effect
abbrev pub a_child : ℕ → ℕ → EffectLabel
a_child n k = record { effect = n; path = k ∷ [] }

-- ---- owners

-- owner o; cell a = 1 in o; computed b = a in o; effect e in o with these statements on b; flush; dispose o
abbrev pub in_owner : Statements → List Command
in_owner ss = owner None ∷ cell (int 1) None (Some 0) ∷ computed (formula_recipe (slot 0) (0 ∷ [])) (Some 0)
    ∷ effect_in (Some 0) ss (1 ∷ []) ∷ flush_all ∷ dispose (the_owner 0) ∷ []

-- where e logs b
pub owner_ends : printed_by (in_owner (line_log (slot 0) no_more))
    ≡ run 1 (0 ∷ []) (Good (int 1)) ∷ evaluate (an_effect 0) (1 ∷ []) ∷ log (int 1)
    ∷ end_effect (an_effect 0) ∷ end (the_signal 1) ∷ end (the_signal 0) ∷ end (the_owner 0) ∷ []
owner_ends = refl

-- where e notes a cleanup
pub cleanup_at_end : printed_by (in_owner (line_cleanup_log (number 9) no_more))
    ≡ evaluate (an_effect 0) [] ∷ clean (an_effect 0) ∷ log (int 9)
    ∷ end_effect (an_effect 0) ∷ end (the_signal 1) ∷ end (the_signal 0) ∷ end (the_owner 0) ∷ []
cleanup_at_end = refl

-- ---- guards

-- cell a = 1; the effect logs "never", and is guarded by a, which is no truth at first
pub guards : printed_by (new_cell (int 1)
    ∷ new_effect (line_log (words (codes "never")) (body.when (slot 0) (line_log (number 2) no_more) no_more)) (0 ∷ [])
    ∷ flush_all ∷ set 0 (value.Bool true) ∷ flush_all ∷ [])
    ≡ evaluate (an_effect 0) (0 ∷ []) ∷ fail (an_effect 0) fault.Kind
    ∷ evaluate (an_effect 0) (0 ∷ []) ∷ log (text (codes "never")) ∷ log (int 2) ∷ []
guards = refl

-- ---- cleanups and children

-- effect e: cleanup log "first"; effect: cleanup log a; log "child"; end; cleanup log "last"; log a
abbrev pub nested : Command
nested = new_effect
    (line_cleanup_log (words (codes "first")) (body.effect (line_cleanup_log (slot 0) (line_log (words (codes "child")) no_more)) (0 ∷ [])
    (line_cleanup_log (words (codes "last")) (line_log (slot 0) no_more)))) (0 ∷ [])

-- e and its child are evaluated, where a is n
abbrev pub nested_runs : ℕ → List Line
nested_runs n = evaluate (an_effect 0) (0 ∷ []) ∷ log (int n) ∷ evaluate (a_child 0 1) (0 ∷ []) ∷ log (text (codes "child")) ∷ []

-- what e made is taken back, where a was n
abbrev pub nested_back : ℕ → List Line
nested_back n = clean (an_effect 0) ∷ log (text (codes "last")) ∷ clean (a_child 0 1) ∷ log (int n) ∷ end_effect (a_child 0 1)
    ∷ clean (an_effect 0) ∷ log (text (codes "first")) ∷ []

-- a run takes back what was made, the last first, and a disposal does the same; the label of the child comes again
pub children : printed_by (new_cell (int 1) ∷ nested ∷ flush_all ∷ set 0 (int 2) ∷ flush_all ∷ dispose (the_effect 0) ∷ [])
    ≡ nested_runs 1 ++ nested_back 1 ++ nested_runs 2 ++ nested_back 2 ++ end_effect (an_effect 0) ∷ []
children = refl

-- the child is made in the first turn and runs in the second; it disposes its parent, and does none of its later acts
pub child_ends_parent : printed_by (new_cell (int 1)
    ∷ new_effect (body.effect (line_dispose (the_effect 0) (line_log (number 5) no_more)) [] (line_log (slot 0) no_more)) (0 ∷ [])
    ∷ flush_all ∷ flush_all ∷ [])
    ≡ evaluate (an_effect 0) (0 ∷ []) ∷ log (int 1) ∷ evaluate (a_child 0 1) [] ∷ end_effect (a_child 0 1) ∷ end_effect (an_effect 0) ∷ []
child_ends_parent = refl

-- ---- disposals by acts

-- an effect that disposes itself does none of its later acts
pub ends_itself : printed_by (new_effect (line_log (number 1) (line_dispose (the_effect 0) (line_log (number 2) no_more))) [] ∷ flush_all ∷ [])
    ≡ evaluate (an_effect 0) [] ∷ log (int 1) ∷ end_effect (an_effect 0) ∷ []
ends_itself = refl

-- The first effect disposes the owner of the second when a > 0. In the second flush both are due, and the second never runs.
pub ended_in_turn : printed_by (new_cell (int 0) ∷ owner None
    ∷ new_effect (body.when (binary Gt (slot 0) (number 0)) (line_dispose (the_owner 0) no_more) no_more) (0 ∷ [])
    ∷ effect_in (Some 0) (line_log (slot 0) no_more) (0 ∷ []) ∷ flush_all ∷ set 0 (int 1) ∷ flush_all ∷ [])
    ≡ evaluate (an_effect 0) (0 ∷ []) ∷ evaluate (an_effect 1) (0 ∷ []) ∷ log (int 0)
    ∷ evaluate (an_effect 0) (0 ∷ []) ∷ end_effect (an_effect 1) ∷ end (the_owner 0) ∷ []
ended_in_turn = refl

-- a refused act is told, and the later acts go on
pub refused_act : printed_by (new_cell (int 1) ∷ new_cell (int 2)
    ∷ new_effect (line_dispose (the_signal 1) (line_set 1 (number 3) (line_log (slot 0) no_more))) (0 ∷ []) ∷ flush_all ∷ [])
    ≡ evaluate (an_effect 0) (0 ∷ []) ∷ end (the_signal 1) ∷ error (thing_gone (the_signal 1)) ∷ log (int 1) ∷ []
refused_act = refl

-- ---- tracking

-- a = "1"; b = "2"; the effect logs untrack(a) ++ b: a change of a alone runs nothing
pub untracked_reads : printed_by (new_cell (text (codes "1")) ∷ new_cell (text (codes "2"))
    ∷ new_effect (line_log (binary Join (untracked (slot 0)) (slot 1)) no_more) (0 ∷ 1 ∷ [])
    ∷ flush_all ∷ set 0 (text (codes "5")) ∷ flush_all ∷ set 1 (text (codes "3")) ∷ flush_all ∷ [])
    ≡ evaluate (an_effect 0) (1 ∷ []) ∷ log (text (codes "12")) ∷ evaluate (an_effect 0) (1 ∷ []) ∷ log (text (codes "53")) ∷ []
untracked_reads = refl

-- b = a + 1; the effect logs a + b. After a was changed there and back, b runs for the look, and the effect isn't due.
pub due_by_outcomes : printed_by (new_cell (int 1) ∷ computed (formula_recipe (binary Add (slot 0) (number 1)) (0 ∷ [])) None
    ∷ new_effect (line_log (binary Add (slot 0) (slot 1)) no_more) (0 ∷ 1 ∷ []) ∷ flush_all ∷ set 0 (int 2) ∷ set 0 (int 1) ∷ flush_all ∷ [])
    ≡ run 1 (0 ∷ []) (Good (int 2)) ∷ evaluate (an_effect 0) (0 ∷ 1 ∷ []) ∷ log (int 3) ∷ run 1 (0 ∷ []) (Good (int 2)) ∷ []
due_by_outcomes = refl

-- ---- host formulas

-- s = true; p = 1; q = 2; h picks p or q by s
abbrev pub with_host : List Command
with_host = new_cell (value.Bool true) ∷ new_cell (int 1) ∷ new_cell (int 2) ∷ computed
    (record { expression = host 0; slots = 0 ∷ 1 ∷ 2 ∷ [] }) None ∷ []

-- The effect rewires h to 7 when go, and logs h. Its body reads h before its acts rewire it, and the next turn sees 7. That turn rewires it
-- once more, so the look of the turn after it runs h again. The host formula is dropped, and can't be taken again.
pub host_dropped : printed_by (with_host ++ new_cell (value.Bool false)
    ∷ new_effect (body.when (slot 0) (body.rewire 3 (formula_recipe (number 7) []) no_more) (line_log (slot 1) no_more)) (4 ∷ 3 ∷ [])
    ∷ flush_all ∷ set 0 (value.Bool false) ∷ flush_all ∷ set 4 (value.Bool true) ∷ flush_all
    ∷ computed (record { expression = host 0; slots = 0 ∷ [] }) None ∷ [])
    ≡ run 3 (0 ∷ 1 ∷ []) (Good (int 1)) ∷ evaluate (an_effect 0) (4 ∷ 3 ∷ []) ∷ log (int 1)
    ∷ run 3 (0 ∷ 2 ∷ []) (Good (int 2)) ∷ evaluate (an_effect 0) (4 ∷ 3 ∷ []) ∷ log (int 2)
    ∷ evaluate (an_effect 0) (4 ∷ 3 ∷ []) ∷ drop 0 6 ∷ log (int 2)
    ∷ run 3 [] (Good (int 7)) ∷ evaluate (an_effect 0) (4 ∷ 3 ∷ []) ∷ log (int 7) ∷ run 3 [] (Good (int 7)) ∷ error (host_taken 0) ∷ []
host_dropped = refl

-- ---- changes of signals

-- s = true, which a watcher watches; p = 1; q = 2; h picks p or q by s
abbrev pub watched_host : List Command
watched_host = with_host ++ watcher false ∷ watch 0 (0 ∷ []) ∷ []

-- a change is told before the notifications, and a rewiring before the drop; a set to the same value and what is refused change nothing
pub changes_told : (world_after (watched_host ++ set 0 (value.Bool true) ∷ set 0 (value.Bool false) ∷ rewire 3 (formula_recipe (slot 0) (1 ∷ []))
    ∷ dispose (the_signal 1) ∷ dispose (the_signal 1) ∷ set 1 (int 5) ∷ [])).told
    ≡ changed_signal 0 Set ∷ notified 0 ∷ changed_signal 3 Rewire ∷ dropped_host 0 0 ∷ changed_signal 1 Gone ∷ gone (the_signal 1)
    ∷ refused (thing_gone (the_signal 1)) ∷ refused (thing_gone (the_signal 1)) ∷ []
changes_told = refl

-- an end is told as a change behind the drop
pub end_is_change : (world_after (with_host ++ dispose (the_signal 3) ∷ [])).told
    ≡ dropped_host 0 0 ∷ changed_signal 3 Gone ∷ gone (the_signal 3) ∷ []
end_is_change = refl

-- ---- turns

-- an effect sets x to x + 1
abbrev pub endless : Command
endless = new_effect (line_set 0 (binary Add (slot 0) (number 1)) no_more) (0 ∷ [])

-- the same where x is below a bound
abbrev pub bounded : ℕ → Command
bounded n = new_effect (body.when (binary Lt (slot 0) (number n)) (line_set 0 (binary Add (slot 0) (number 1)) no_more) no_more) (0 ∷ [])

-- what is printed but for the evaluations of bodies
abbrev pub but_bodies : List Line → List Line
but_bodies [] = []
but_bodies (evaluate l names ∷ ls) = but_bodies ls
but_bodies (l ∷ ls) = l ∷ but_bodies ls

-- a hundred turns run the effect, which is due after them; and once more after a set
abbrev pub endless_twice : List Command
endless_twice = new_cell (int 0) ∷ endless ∷ flush_all ∷ set 0 (int 7) ∷ flush_all ∷ []

-- each flush is refused, and what the hundred turns set stands
pub endless_refused : (but_bodies (printed_by endless_twice) ≡ error still_due ∷ error still_due ∷ []) × (cells_after endless_twice ≡ int 107 ∷ [])
endless_refused = (refl, refl)

-- the hundredth turn runs the effect without an act, and nothing is due after it
abbrev pub just_ends : List Command
just_ends = new_cell (int 0) ∷ bounded 99 ∷ flush_all ∷ []

-- then the flush is not refused
pub just_ended : (but_bodies (printed_by just_ends) ≡ []) × (cells_after just_ends ≡ int 99 ∷ [])
just_ended = (refl, refl)

-- the hundredth turn runs it with an act
abbrev pub ends_too_late : List Command
ends_too_late = new_cell (int 0) ∷ bounded 100 ∷ flush_all ∷ []

-- then it is
pub ended_too_late : (but_bodies (printed_by ends_too_late) ≡ error still_due ∷ []) × (cells_after ends_too_late ≡ int 100 ∷ [])
ended_too_late = (refl, refl)

-- ---- notifications inside a flush

-- a = 1; b = a + 1. One watcher watches b, one watches a and tries a command, and one watches a computed that never ran. The effect sets a
-- twice: the first two are notified once, and the frozen one is told at the first set.
pub notified_once : printed_by (new_cell (int 1)
    ∷ computed (formula_recipe (binary Add (slot 0) (number 1)) (0 ∷ [])) None ∷ computed (formula_recipe (slot 0) (0 ∷ [])) None
    ∷ watcher false ∷ watcher true ∷ watcher false ∷ watch 0 (1 ∷ []) ∷ watch 1 (0 ∷ []) ∷ watch 2 (2 ∷ []) ∷ ask (1 ∷ [])
    ∷ new_effect (line_set 0 (number 2) (line_set 0 (number 3) no_more)) [] ∷ flush_all ∷ [])
    ≡ run 1 (0 ∷ []) (Good (int 2)) ∷ evaluate (an_effect 0) [] ∷ notify 0 ∷ notify 1 ∷ error_frozen (1 ∷ []) ∷ []
notified_once = refl

-- ---- longer scripts, whose lines an independent program prints too

-- a = 1; b = 10; owner o; owner p in o; computed c = a + b in p; effect e in p: cleanup set b a + 100; a child (cleanup log c; log c; when
-- a > 1 it disposes o and would log "never"); log untrack(b). A watcher of b. Then flush, set a 2, flush, watch, and o and e are disposed
-- once more.
abbrev pub nested_owners : List Command
nested_owners = new_cell (int 1) ∷ new_cell (int 10) ∷ owner None ∷ owner (Some 0)
    ∷ computed (formula_recipe (binary Add (slot 0) (slot 1)) (0 ∷ 1 ∷ [])) (Some 1)
    ∷ effect_in (Some 1) (line_cleanup_set 1 (binary Add (slot 0) (number 100)) (body.effect
    (line_cleanup_log (slot 0) (line_log (slot 0) (body.when (binary Gt (slot 1) (number 1))
    (line_dispose (the_owner 0) (line_log (words (codes "never")) no_more)) no_more)))
    (2 ∷ 0 ∷ []) (line_log (untracked (slot 1)) no_more))) (0 ∷ 1 ∷ [])
    ∷ watcher false ∷ watch 0 (1 ∷ []) ∷ flush_all ∷ set 0 (int 2) ∷ flush_all ∷ watch 0 [] ∷ dispose (the_owner 0) ∷ dispose (the_effect 0) ∷ []

-- what it tells
pub nested_owners_told : (printed_by nested_owners
    ≡ evaluate (an_effect 0) (0 ∷ []) ∷ log (int 10) ∷ run 2 (0 ∷ 1 ∷ []) (Good (int 11)) ∷ evaluate (a_child 0 1) (2 ∷ 0 ∷ []) ∷ log (int 11)
    ∷ clean (a_child 0 1) ∷ log (int 11) ∷ end_effect (a_child 0 1) ∷ clean (an_effect 0) ∷ notify 0
    ∷ evaluate (an_effect 0) (0 ∷ []) ∷ log (int 101) ∷ run 2 (0 ∷ 1 ∷ []) (Good (int 103)) ∷ evaluate (a_child 0 1) (2 ∷ 0 ∷ []) ∷ log (int 103)
    ∷ clean (a_child 0 1) ∷ log (int 103) ∷ end_effect (a_child 0 1) ∷ clean (an_effect 0) ∷ end_effect (an_effect 0)
    ∷ end (the_signal 2) ∷ end (the_owner 1) ∷ end (the_owner 0) ∷ error (thing_gone (the_owner 0)) ∷ error (thing_gone (the_effect 0)) ∷ [])
    × (cells_after nested_owners ≡ int 2 ∷ int 102 ∷ [])
nested_owners_told = (refl, refl)

-- y = 1; owner o; x = 0 in o; effect e in o: cleanup set x y; log y; cleanup set y 7; a child logs x. A watcher of y tries a command. Then
-- flush, set y 2, flush, watch, dispose x, flush, dispose o.
abbrev pub cleanups_set : List Command
cleanups_set = new_cell (int 1) ∷ owner None ∷ cell (int 0) None (Some 0)
    ∷ effect_in (Some 0) (line_cleanup_set 1 (slot 0) (line_log (slot 0) (line_cleanup_set 0 (number 7)
    (body.effect (line_log (slot 0) no_more) (1 ∷ []) no_more)))) (0 ∷ [])
    ∷ watcher true ∷ watch 0 (0 ∷ []) ∷ flush_all ∷ set 0 (int 2) ∷ flush_all
    ∷ watch 0 [] ∷ dispose (the_signal 1) ∷ flush_all ∷ dispose (the_owner 0) ∷ []

-- what it tells
pub cleanups_set_told : (printed_by cleanups_set
    ≡ evaluate (an_effect 0) (0 ∷ []) ∷ log (int 1) ∷ evaluate (a_child 0 1) (1 ∷ []) ∷ log (int 0) ∷ notify 0 ∷ error_frozen (0 ∷ [])
    ∷ end_effect (a_child 0 1) ∷ clean (an_effect 0) ∷ clean (an_effect 0)
    ∷ evaluate (an_effect 0) (0 ∷ []) ∷ log (int 7) ∷ evaluate (a_child 0 1) (1 ∷ []) ∷ log (int 1)
    ∷ end (the_signal 1) ∷ evaluate (a_child 0 1) (1 ∷ []) ∷ fail (a_child 0 1) fault.Gone
    ∷ end_effect (a_child 0 1) ∷ clean (an_effect 0) ∷ clean (an_effect 0) ∷ error (thing_gone (the_signal 1))
    ∷ end_effect (an_effect 0) ∷ end (the_owner 0) ∷ []) × (cells_after cleanups_set ≡ int 7 ∷ [])
cleanups_set_told = (refl, refl)

-- n = 0; owner k. The first effect: log n; a child (when n == 1: dispose k, set n 2, dispose h, set p 8). The second, in k: log h; cleanup
-- log "two". The third: log h; rewire h to the same host formula. Then flush, set n 1, flush.
abbrev pub three_effects : List Command
three_effects = with_host ++ new_cell (int 0) ∷ owner None
    ∷ new_effect (line_log (slot 0) (body.effect (body.when (binary Eq (slot 0) (number 1))
    (line_dispose (the_owner 0) (line_set 4 (number 2) (line_dispose (the_signal 3) (line_set 1 (number 8) no_more)))) no_more)
    (4 ∷ []) no_more)) (4 ∷ [])
    ∷ effect_in (Some 0) (line_log (slot 0) (line_cleanup_log (words (codes "two")) no_more)) (3 ∷ [])
    ∷ new_effect (line_log (slot 0) (body.rewire 3 (record { expression = host 0; slots = 0 ∷ 1 ∷ 2 ∷ [] }) no_more)) (3 ∷ [])
    ∷ flush_all ∷ set 4 (int 1) ∷ flush_all ∷ []

-- what it tells
pub three_effects_told : printed_by three_effects
    ≡ evaluate (an_effect 0) (4 ∷ []) ∷ log (int 0) ∷ run 3 (0 ∷ 1 ∷ []) (Good (int 1)) ∷ evaluate (an_effect 1) (3 ∷ []) ∷ log (int 1)
    ∷ evaluate (an_effect 2) (3 ∷ []) ∷ log (int 1) ∷ error (host_taken 0) ∷ evaluate (a_child 0 1) (4 ∷ [])
    ∷ end_effect (a_child 0 1) ∷ evaluate (an_effect 0) (4 ∷ []) ∷ log (int 1) ∷ evaluate (a_child 0 1) (4 ∷ [])
    ∷ clean (an_effect 1) ∷ log (text (codes "two")) ∷ end_effect (an_effect 1) ∷ end (the_owner 0) ∷ drop 0 3 ∷ end (the_signal 3)
    ∷ end_effect (a_child 0 1) ∷ evaluate (an_effect 0) (4 ∷ []) ∷ log (int 2)
    ∷ evaluate (an_effect 2) (3 ∷ []) ∷ fail (an_effect 2) fault.Gone ∷ evaluate (a_child 0 1) (4 ∷ []) ∷ []
three_effects_told = refl
