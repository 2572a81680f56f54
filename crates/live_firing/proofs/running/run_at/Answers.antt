use Rattle.std.proofs.Common.{◌+◌, [], ◌∷◌, map, sym, ap, subst, arith}
use Rattle.effect_model.specs.Bodies.{BodyResult}
use Rattle.effect_acts.specs.Alone.{AreCells}
use Rattle.effect_runs.specs.Evaluations.{result_of}
use Rattle.effect_tables.specs.Bodies.{body_of}
use Rattle.effect_teardown.specs.Sites.{parts_of}
use Rattle.effect_turns.proofs.Shared.{cells_first}
use Rattle.live_entries.specs.declared.entry.Entry.TheVariants as entry
use Rattle.effect_model.specs.Worlds.{Environment}
use Rattle.live_model.specs.Machine.{Machine, Told, ending, reached, running}
use Rattle.sig_effect.specs.Stores.{environment}
use Rattle.live_firing.specs.Stages.{at_stage, heard, stage}
use Rattle.live_firing.proofs.Plays.{both_told, plays_any, plays_as, plays_then, told_plays}
use Rattle.live_firing.proofs.running.run_at.Goals as goal

pub finish-requires-clause-together : goal.finish-requires-clause-together
finish-requires-clause-together g c = record { asked = _; agrees = (c.in_ok-end.ensures.plays []).agrees }

pub finish-requires-clause-ruled : goal.finish-requires-clause-ruled
finish-requires-clause-ruled g c = (c.in_ok-end.ensures.plays []).rules _ c.requires.ruled

pub finish-requires-clause-worn : goal.finish-requires-clause-worn
finish-requires-clause-worn g c =
    let heavy = (c.in_ok-end.ensures.plays []).weight in
    let w = c.requires.can.weight in
    omega (arith, heavy, w)

pub returns-clause-plays : goal.returns-clause-plays
returns-clause-plays g c =
    let slacks = map (λ r. r.slack) c.args.rules.now in
    let script = c.args.script.now in
    let body = body_of 0 script [] in
    let p = parts_of 0 script [] in
    let page = c.args.page.now in
    let node = c.args.node in
    let first = c.in_ok-end.ensures.plays slacks in
    let old = stage c.args.world.now _ c.args.labels.now c.args.journal.now c.args.events.now.items c.args.told.now.items in
    let mid = stage c.hear.new.world _ c.hear.new.labels c.hear.new.journal c.hear.new.events.items c.hear.new.told.items in
    let between = stage c.hear.new.world _ c.hear.new.labels c.hear.new.journal c.hear.new.events.items c.tell_fired.new.told.items in
    let new = stage c.finish.new.world _ c.finish.new.labels c.finish.new.journal c.finish.new.events.items c.finish.new.told.items in
    let fired = entry.Fired page node ∷ [] in
    let ends : BodyResult → Environment → Machine → Told = λ r env m. ending env m page node r in
    let r = result_of p c.in_ok-end.end in
    plays_as slacks old new _ _ (0 + (0 + 64)) 64 (both_told (heard body) (both_told (λ env m. reached m fired) (ends r)))
    (λ env m. running env m page (record { node = node; body = body }))
    (λ hosts all sound m.
    ap (λ (x : BodyResult). both_told (heard body) (both_told (λ env k. reached k fired) (ends x)) (environment hosts slacks) (at_stage m old))
    (c.in_ok-end.ensures.result hosts all sound))
    (omega arith)
    (plays_then slacks old mid new _ _ _ 0 (0 + 64) (heard body) (both_told (λ env m. reached m fired) (ends r)) first
    (plays_then slacks mid between new _ _ _ 0 64 (λ env m. reached m fired) (ends r) (told_plays slacks mid c.tell_fired.new.told.items fired _ 0 c.in_ok-tell_fired.ensures first.agrees)
    (plays_any slacks between new _ 64 (ends r)
    (c.in_ok-finish.ensures _ p first.agrees (subst (AreCells p) (sym c.deref.ensures.value) (cells_first script))))))
