-- How effects run: when one is due, one run, one turn, and a flush.
use Rattle.std.specs.Prelude.{ℕ, zero, suc, ◌+◌, Bool, true, false, List, [], ◌∷◌, ◌++◌, Option, Some, None, if◌then◌else◌}
use Rattle.sig_base.specs.declared.value.Outcome.{Outcome}
use Rattle.sig_base.specs.Values.{same_outcome}
use Rattle.signal_model.specs.Signals.{changed}
use Rattle.signal_model.specs.Values.{Seen, value_of}
use Rattle.signal_model.specs.Sound.{names_of}
use Rattle.effect_model.specs.Owners.{the_effect, nothing, cleanup, alone, put_under}
use Rattle.effect_model.specs.Bodies.{Body, Act, to_set, to_log, to_note, to_make, to_dispose, to_rewire, BodyEvaluation, BodyResult, to_do}
use Rattle.effect_model.specs.Bodies.{failed_by, body_evaluation}
use Rattle.effect_model.specs.Worlds.{Environment, Effect, logged, body_ran, failed, made_child, noted, World, tell, effect_at, effect_numbers, lives}
use Rattle.effect_model.specs.Worlds.{settle}
use Rattle.effect_model.specs.Acts.{set_cell, rewire_signal, dispose_thing, take_back}

-- ---- when an effect is due

-- some tracked read has another outcome now
abbrev pub some_differs : (ℕ → Outcome) → List Seen → Bool
some_differs source [] = false
some_differs source (s ∷ ss) = if same_outcome (source s.name) s.outcome then some_differs source ss else true

-- the names up to the first that differs
abbrev pub looked_at : (ℕ → Outcome) → List Seen → List ℕ
looked_at source [] = []
looked_at source (s ∷ ss) = s.name ∷ (if same_outcome (source s.name) s.outcome then looked_at source ss else [])

-- it has never run, or some tracked read of its last run differs now
abbrev pub is_effect_due : (ℕ → Outcome) → Option (List Seen) → Bool
is_effect_due source None = true
is_effect_due source (Some ss) = some_differs source ss

-- the names that a look at an effect settles
abbrev pub looked_names : (ℕ → Outcome) → Option (List Seen) → List ℕ
looked_names source None = []
looked_names source (Some ss) = looked_at source ss

-- the value of each signal at this moment
abbrev pub value_now : Environment → World → ℕ → Outcome
value_now env w m = value_of env.hosts w.signals m []

-- a look at an effect settles its tracked reads up to the first that differs
abbrev pub look : Environment → Effect → World → World
look env x w = settle env (looked_names (value_now env w) x.kept) w

-- ---- acts of a run

-- an effect is made
abbrev pub with_effect : Effect → World → World
with_effect x w = record w { effects = w.effects ++ x ∷ []; made = record (w.made) { effects = w.made.effects + 1 } }

-- A child is made, the last under its parent. It has the number k in its label.
abbrev pub make_child : ℕ → ℕ → Body → World → World
make_child e k b w =
    tell (made_child w.made.effects e k) (with_effect (record { number = w.made.effects; body = b; kept = None })
    (record w { owned = put_under (the_effect e) (alone (the_effect w.made.effects)) w.owned }))

-- one act of effect e, whose next child would have the number k in its label
abbrev pub do_act : Environment → ℕ → ℕ → Act → World → World
do_act env e k (to_set n v) w = set_cell env n v w
do_act env e k (to_log v) w = tell (logged v) w
do_act env e k (to_note c) w =
    tell (noted (the_effect e) c) (record w { owned = put_under (the_effect e) (cleanup c nothing) w.owned })
do_act env e k (to_make b) w = make_child e k b w
do_act env e k (to_dispose t) w = dispose_thing env t w
do_act env e k (to_rewire n r) w = rewire_signal n r w

-- the number in the label of the next child
abbrev pub next_child : Act → ℕ → ℕ
next_child (to_make b) k = suc k
next_child _ k = k

-- the acts are done in order, while the effect lives
abbrev pub do_acts : Environment → ℕ → ℕ → List Act → World → World
do_acts env e k [] w = w
do_acts env e k (a ∷ as') w =
    do_acts env e (next_child a k) as' (if lives (the_effect e) w then do_act env e k a w else w)

-- ---- one run

-- the effect keeps the tracked reads, also where the body failed
abbrev pub keep_reads : ℕ → List Seen → World → World
keep_reads e ss w =
    tell (body_ran e (names_of ss))
    (record w { effects = changed (λ (x : Effect). x.number) e (λ x. record x { kept = Some ss }) w.effects })

-- a fault is told, or the acts are done
abbrev pub do_result : Environment → ℕ → BodyResult → World → World
do_result env e (failed_by f) w = tell (failed e f) w
do_result env e (to_do as') w = do_acts env e 1 as' w

-- a body that was evaluated: what it read is settled, its tracked reads are kept, and then its acts are done
abbrev pub run_body : Environment → ℕ → BodyEvaluation → World → World
run_body env e b w = do_result env e b.result (keep_reads e b.tracked (settle env (names_of b.reads) w))

-- the rest of a run: the body is evaluated on the signals as they now stand
abbrev pub run_taken_back : Environment → Effect → World → World
run_taken_back env x w = run_body env x.number (body_evaluation env.hosts w.signals x.body) w

-- a run: first what the effect made is taken back
abbrev pub run_effect : Environment → Effect → World → World
run_effect env x w = run_taken_back env x (take_back env (the_effect x.number) w)

-- ---- turns

-- a world, and whether an effect has run
pub record Turned : Type 0 where
  pub world : World
  pub ran : Bool

-- after the look, an effect that is due runs
abbrev pub after_look : Environment → Effect → Bool → World → Bool → Turned
after_look env x true w ran = record { world = run_effect env x w; ran = true }
after_look env x false w ran = record { world = w; ran = ran }

-- an effect at its place in a turn: where it still lives it is looked at, and it runs where it is due
abbrev pub at_place : Environment → Option Effect → Turned → Turned
at_place env None t = t
at_place env (Some x) t = after_look env x (is_effect_due (value_now env t.world) x.kept) (look env x t.world) t.ran

-- effects by their numbers, one after the other
abbrev pub turn_over : Environment → List ℕ → Turned → Turned
turn_over env [] t = t
turn_over env (e ∷ es) t = turn_over env es (at_place env (effect_at e t.world.effects) t)

-- a turn takes the effects that live at its start, in the order of making
abbrev pub turn : Environment → World → Turned
turn env w = turn_over env (effect_numbers w.effects) (record { world = w; ran = false })

-- ---- a flush

-- how a flush ends: the world, the turns that ran an effect, and whether it is refused
pub record Flushed : Type 0 where
  pub world : World
  pub turns : ℕ
  pub refused : Bool

-- an effect that is due after the last turn makes the flush refused
abbrev pub after_last : Bool → World → (World → Flushed) → Flushed
after_last true w go = record { world = w; turns = 0; refused = true }
after_last false w go = go w

-- the last look at one effect, where it lives
abbrev pub last_case : Environment → Option Effect → World → (World → Flushed) → Flushed
last_case env None w go = go w
last_case env (Some x) w go = after_last (is_effect_due (value_now env w) x.kept) (look env x w) go

-- the effects are looked at once more, up to the first that is due
abbrev pub last_look : Environment → List ℕ → World → Flushed
last_look env [] w = record { world = w; turns = 0; refused = false }
last_look env (e ∷ es) w = last_case env (effect_at e w.effects) w (last_look env es)

-- a turn that ran an effect counts, and one that ran none ends the flush
abbrev pub after_turn : Bool → World → (World → Flushed) → Flushed
after_turn true w go = let f = go w in record f { turns = f.turns + 1 }
after_turn false w go = record { world = w; turns = 0; refused = false }

-- turns until one runs no effect, at most so many; then comes the last look
abbrev pub flush_within : ℕ → Environment → World → Flushed
flush_within zero env w = last_look env (effect_numbers w.effects) w
flush_within (suc more) env w = let t = turn env w in after_turn t.ran t.world (flush_within more env)

-- a flush makes at most a hundred turns
abbrev pub flush : Environment → World → Flushed
flush env w = flush_within 100 env w
