use Rattle.std.proofs.Common.{[], refl, ◌∙◌, ◌<◌, ◌≤◌, length, drop, map, arith}
use Rattle.sig_host.specs.Hosts.{hosts_of}
use Rattle.std.proofs.KnownBytes.{Appends-nil}
use Rattle.std.proofs.lemmas.Result.{err_from_is_err_and}
use Rattle.live_run.proofs.Output.{HandedOn, all_written, first_so_far, front_ended, front_more, front_so_far, is_none, next_so_far, no_front}
use Rattle.live_run.proofs.script.run_script.Goals as goal

pub do_next-requires-clause-kept : goal.do_next-requires-clause-kept
do_next-requires-clause-kept g c = rw c.deref_mut.ensures.value c.loop-run.invariant.kept

pub do_next-requires-clause-meant : goal.do_next-requires-clause-meant
do_next-requires-clause-meant g c = rw c.deref_mut.ensures.value (λ _. record {
  hosts = hosts_of (map (λ h. (goal.HostFormula-dyn g (h.vtable, h.value)).step_of h.value) c.args.hosts.items);
  is = (c.loop-run.invariant.answers, c.loop-run.invariant.sound);
})

pub do_next-requires-clause-counted : goal.do_next-requires-clause-counted
do_next-requires-clause-counted g c = rw c.deref_mut.ensures.value c.loop-run.invariant.counted

pub do_next-requires-clause-room : goal.do_next-requires-clause-room
do_next-requires-clause-room g c =
    let d = c.loop-run.invariant.done in
    rw c.deref_mut.ensures.value (omega (arith, d, c.loop-run.invariant.within, c.requires.short))

pub do_next-requires-clause-few : goal.do_next-requires-clause-few
do_next-requires-clause-few g c =
    let l = c.loop-run.invariant.little in
    rw c.deref_mut.ensures.value (omega (arith, l, c.loop-run.invariant.within, c.requires.short))

pub loop-run-init : goal.loop-run-init
loop-run-init g c =
    let e = c.in_ok-run.ensures in
    record {
      told = first_so_far c.live_law.ensures c.follow_law.ensures _ _ (rw c.deref.ensures.value at c.lends_rows.ensures) _ _ _ _ _ _ _ e.prints e.machine e.nothing;
      kept = e.kept;
      counted = λ _. e.counted;
      slacks = e.slacks;
      sound = e.sound _;
      answers = e.answers;
      little = let l = e.little in omega (arith, l);
      done = let d = e.done in omega (arith, d);
      within = omega arith;
      few = omega arith;
      later = omega arith;
    }

pub loop-run-preserved : goal.loop-run-preserved
loop-run-preserved g c =
    let within : (c.loop-run.at < c.in-Some.next) × (c.in-Some.next ≤ length c.args.script.now) = rw c.in-Some.is at c.in_ok-next.ensures.within in
    let count = rw c.in-Some.is at c.in_ok-next.ensures.count in
    let before = c.deref_mut.ensures.value in
    let after = c.deref_mut-in-Some.ensures.value in
    let all = rw c.loop-run.invariant.slacks at (rw before at c.in_ok-next.ensures.did) in
    let did = rw c.in-Some.is at all _ c.loop-run.invariant.answers c.loop-run.invariant.sound in
    let begins = did.0.begins in
    let on = rw after at c.in_ok-hand_on.ensures.ok in
    let handed : HandedOn (g.K.Sink.held c.loop-run.sink) (g.K.Sink.held c.hand_on.new.sink) c.do_next.new.self.out.items c.hand_on.new.out.items = record { written = on.0; appended = on.1; whole = on.2 } in
    let slacks = rw before at c.in_ok-next.ensures.slacks in
    let done = rw before at c.in_ok-next.ensures.done in
    let little = rw before at c.in_ok-next.ensures.little in
    rw after (record {
      told = next_so_far _ _ _ _ _ _ _ c.loop-run.line c.in-Some.after _ (drop c.in-Some.next c.args.script.now) _ _ _ _ did.0.item did.0.did.entries _ _ _ begins.piece begins.front begins.item
          did.0.did.is did.0.did.sized did.0.did.took handed c.loop-run.invariant.told;
      kept = c.in_ok-next.ensures.kept;
      counted = c.in_ok-next.ensures.counted;
      slacks = slacks ∙ c.loop-run.invariant.slacks;
      sound = did.1;
      answers = did.2;
      little = let l = c.loop-run.invariant.little in omega (arith, little, within.0, l);
      done = let d = c.loop-run.invariant.done in omega (arith, done, d, within.0);
      within = within.1;
      few = omega (arith, count, within.0, c.loop-run.invariant.few);
      later = omega (arith, c.loop-run.invariant.later, c.in_ok-hand_on.ensures.cause.later);
    })

pub returns-clause-done : goal.returns-clause-done
returns-clause-done g c =
    let ended = c.in_ok-next.ensures.ended (is_none c.in_ok-next.field-0 c.in_default.not-Some) in
    let same = ended.1 ∙ c.deref_mut.ensures.value in
    let last = rw same at (rw c.deref_mut-2.ensures.value at c.in_ok-end.ensures) in
    let put = rw c.deref-2.ensures at (rw c.deref-3.ensures.value at c.in_ok-put_all.ensures.ok) in
    all_written _ _ _ _ _ _ _ _ _ _ _ _ _ ended.0 last put c.loop-run.invariant.told

pub returns-in_err-run-clause-front : goal.returns-in_err-run-clause-front
returns-in_err-run-clause-front g c =
    let p = err_from_is_err_and c.from_residual.result c.from_residual.ensures.1 in
    rw p.1 (no_front _ c.args.script.now (g.K.Sink.held c.args.sink.now))

pub returns-in_err-next-clause-front : goal.returns-in_err-next-clause-front
returns-in_err-next-clause-front g c =
    let p = err_from_is_err_and c.from_residual-in_err-next.result c.from_residual-in_err-next.ensures.1 in
    rw p.1 (front_so_far _ _ _ _ _ _ _ _ _ _ _ c.loop-run.invariant.told)

pub returns-in_err-hand_on-clause-front : goal.returns-in_err-hand_on-clause-front
returns-in_err-hand_on-clause-front g c =
    let p = err_from_is_err_and c.from_residual-in_err-hand_on.result c.from_residual-in_err-hand_on.ensures.1 in
    let all = rw c.loop-run.invariant.slacks at (rw c.deref_mut.ensures.value at c.in_ok-next.ensures.did) in
    let did = rw c.in-Some.is at all _ c.loop-run.invariant.answers c.loop-run.invariant.sound in
    let begins = did.0.begins in
    let none : HandedOn (g.K.Sink.held c.loop-run.sink) (g.K.Sink.held c.loop-run.sink) c.do_next.new.self.out.items c.do_next.new.self.out.items = record { written = []; appended = Appends-nil _; whole = refl } in
    let told = next_so_far _ _ _ _ _ _ _ c.loop-run.line c.in-Some.after _ (drop c.in-Some.next c.args.script.now) _ _ _ _ did.0.item did.0.did.entries _ _ _ begins.piece begins.front begins.item
    did.0.did.is did.0.did.sized did.0.did.took none c.loop-run.invariant.told in
    rw p.1 (front_more _ _ _ _ _ _ _ _ _ _ _ _ (rw c.deref_mut-in-Some.ensures.value at c.in_err-hand_on.ensures.err) told)

pub returns-in_err-end-clause-front : goal.returns-in_err-end-clause-front
returns-in_err-end-clause-front g c =
    let p = err_from_is_err_and c.from_residual-in_err-end.result c.from_residual-in_err-end.ensures.1 in
    rw p.1 (front_so_far _ _ _ _ _ _ _ _ _ _ _ c.loop-run.invariant.told)

pub returns-in_err-put_all-clause-front : goal.returns-in_err-put_all-clause-front
returns-in_err-put_all-clause-front g c =
    let p = err_from_is_err_and c.from_residual-in_err-put_all.result c.from_residual-in_err-put_all.ensures.1 in
    let ended = c.in_ok-next.ensures.ended (is_none c.in_ok-next.field-0 c.in_default.not-Some) in
    let same = ended.1 ∙ c.deref_mut.ensures.value in
    let last = rw same at (rw c.deref_mut-2.ensures.value at c.in_ok-end.ensures) in
    let put = rw c.deref-2.ensures at (rw c.deref-3.ensures.value at c.in_err-put_all.ensures.err) in
    rw p.1 (front_ended _ _ _ _ _ _ _ _ _ _ _ _ _ ended.0 last put c.loop-run.invariant.told)
