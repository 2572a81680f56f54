use Rattle.std.proofs.Common.{arith, length, map}
use Rattle.live_items.proofs.live.Live.get.Goals as goal

pub try_get-requires : goal.try_get-requires
try_get-requires g c =
    let b = c.if-self.false in
    let k = c.requires.kept in
    let h = k.holds b in
    let w = k.weight b in
    let a = k.most b in
    let few = c.requires.room in
    record { can = record { ready = k.ready b; agrees = h.agrees; counted = c.requires.counted b; weight = omega (arith, w, few); most = omega (arith, a, few) } }

pub returns-clause-step : goal.returns-clause-step
returns-clause-step g c = λ hosts all sound.
    let rules = c.args.self.now.rules.items in
    let d = c.in_ok-entry.ensures.did (map (λ r. r.slack) rules) (length rules) in
    let t = d.did.steps hosts all sound in
    (record { all = d.all; told = d.told; is = t.step }, t.sound, d.did.answers hosts all)

pub returns-clause-meant : goal.returns-clause-meant
returns-clause-meant g c = λ _.
    let rules = c.args.self.now.rules.items in
    let k = c.requires.meant c.if-self.false in
    let d = (c.in_ok-entry.ensures.did (map (λ r. r.slack) rules) (length rules)).did in
    record { hosts = k.hosts; is = (d.answers k.hosts k.is.0, (d.steps k.hosts k.is.0 k.is.1).sound) }

pub returns-clause-counted : goal.returns-clause-counted
returns-clause-counted g c = λ _.
    let rules = c.args.self.now.rules.items in (c.in_ok-entry.ensures.did (map (λ r. r.slack) rules) (length rules)).did.counted

pub returns-clause-kept : goal.returns-clause-kept
returns-clause-kept g c =
    let b = c.if-self.false in
    let rules = c.args.self.now.rules.items in
    let k = c.requires.meant b in
    let old = c.requires.kept in
    let d = (c.in_ok-entry.ensures.did (map (λ r. r.slack) rules) (length rules)).did in
    let left = d.leaves k.hosts k.is.0 k.is.1 in
    record {
      ready = λ _. left.ready;
      holds = λ _. left.holds (old.holds b);
      weight = λ _. let w = left.weight in let v = old.weight b in omega (arith, w, v);
      most = λ _. let w = d.most in let v = old.most b in omega (arith, w, v);
    }
