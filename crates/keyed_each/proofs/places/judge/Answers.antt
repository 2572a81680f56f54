use Rattle.std.proofs.Common.{◌≡◌, ◌==◌, true, false, arith, sym, ◌∙◌, eq-eqb}
use Rattle.std.proofs.lemmas.Bool.{ne_eqb}
use Rattle.keyed_each.specs.Queue.{first_waiting}
use Rattle.keyed_each.proofs.Distinct.{apart}
use Rattle.keyed_each.proofs.Keys.{at, none_waits, waits_past, not_there, there}
use Rattle.keyed_each.proofs.places.judge.Goals as goal

pub returns-in_default-clause-step : goal.returns-in_default-clause-step
returns-in_default-clause-step g c ks = not_there g.K.PartialEq.eq g.met.K.RowKey.decides c.args.old.now.keys c.args.i _ c.args.key.now ks (none_waits g.K.PartialEq.eq g.met.K.RowKey.decides c.args.key.now c.args.waiting.now c.args.old.now.keys c.in_default.ensures)

pub returns-then-not-waiting-p-clause-step : goal.returns-then-not-waiting-p-clause-step
returns-then-not-waiting-p-clause-step g c ks =
    let old = c.args.old.now.keys in
    let a = at g.K.PartialEq.eq g.met.K.RowKey.decides c.args.key.now c.in-Some.p c.args.waiting.now old c.requires.marks (apart g.K.PartialEq.eq g.met.K.RowKey.decides old c.requires.distinct) c.in-Some.ensures.there in
    not_there g.K.PartialEq.eq g.met.K.RowKey.decides old c.args.i _ c.args.key.now ks (a.waits ∙ c.if-not-waiting-p.true)

pub returns-then-p-head-clause-before : goal.returns-then-p-head-clause-before
returns-then-p-head-clause-before g c = omega (arith, waits_past c.args.waiting.now c.in-Some.p, c.next_waiting.ensures)

pub returns-then-p-head-clause-step : goal.returns-then-p-head-clause-step
returns-then-p-head-clause-step g c ks =
    let old = c.args.old.now.keys in
    let a = at g.K.PartialEq.eq g.met.K.RowKey.decides c.args.key.now c.in-Some.p c.args.waiting.now old c.requires.marks (apart g.K.PartialEq.eq g.met.K.RowKey.decides old c.requires.distinct) c.in-Some.ensures.there in
    let t : (c.in-Some.p == first_waiting c.args.waiting.now) ≡ true = eq-eqb _ _ (c.if-p-head.true ∙ c.next_waiting.ensures) in
    rw t at (there g.K.PartialEq.eq g.met.K.RowKey.decides old c.args.i c.args.waiting.now c.in-Some.p c.args.key.now ks a c.if-not-waiting-p.false)

pub returns-else-p-head-clause-before : goal.returns-else-p-head-clause-before
returns-else-p-head-clause-before g c = omega (arith, waits_past c.args.waiting.now c.in-Some.p, c.next_waiting.ensures)

pub returns-else-p-head-clause-step : goal.returns-else-p-head-clause-step
returns-else-p-head-clause-step g c ks =
    let old = c.args.old.now.keys in
    let a = at g.K.PartialEq.eq g.met.K.RowKey.decides c.args.key.now c.in-Some.p c.args.waiting.now old c.requires.marks (apart g.K.PartialEq.eq g.met.K.RowKey.decides old c.requires.distinct) c.in-Some.ensures.there in
    let t : (c.in-Some.p == first_waiting c.args.waiting.now) ≡ false = ne_eqb _ _ (λ s. c.if-p-head.false (s ∙ sym c.next_waiting.ensures)) in
    rw t at (there g.K.PartialEq.eq g.met.K.RowKey.decides old c.args.i c.args.waiting.now c.in-Some.p c.args.key.now ks a c.if-not-waiting-p.false)
