use Rattle.std.proofs.Common.{◌≡◌, List, arith, is_some, length, map}
use Rattle.sig_host.specs.Hosts.{HostPlace}
use Rattle.sig_effect.specs.Stores.{environment}
use Rattle.live_cmd.specs.declared.command.Command.TheVariants as command
use Rattle.live_cmd.specs.declared.command.Item.TheVariants as item
use Rattle.live_model.specs.Machine.{reached, step}
use Rattle.live_core.specs.Views.{plain_of}
use Rattle.live_items.proofs.live.Live.set.Goals as goal

pub try_set-requires-clause-ready : goal.try_set-requires-clause-ready
try_set-requires-clause-ready g c = c.requires.kept.ready c.if-self.false

pub try_set-requires-clause-owned : goal.try_set-requires-clause-owned
try_set-requires-clause-owned g c = (c.requires.kept.holds c.if-self.false).agrees.owned

pub try_set-requires-clause-weight : goal.try_set-requires-clause-weight
try_set-requires-clause-weight g c = let w = c.requires.kept.weight c.if-self.false in let few = c.requires.room in omega (arith, w, few)

pub try_set-requires-clause-ruled : goal.try_set-requires-clause-ruled
try_set-requires-clause-ruled g c = rw c.deref.ensures.value (c.requires.kept.holds c.if-self.false).ruled

pub returns-clause-step : goal.returns-clause-step
returns-clause-step g c = λ hosts all sound.
    let asked : List HostPlace = map (λ p. record { there = is_some p.host; asks = p.count }) c.args.self.now.shelf.places.items in
    let t = c.in_ok-entries.ensures.steps hosts asked sound in
    let is : reached (plain_of asked c.try_set.new.machine) c.in_ok-entries.entries.items
    ≡ step (environment hosts (map (λ r. r.slack) c.deref.result.now)) (plain_of asked c.args.self.now.machine) (item.Do (command.Set c.args.name c.args.value)) = t.step in
    (rw c.deref.ensures.value at is, t.sound, all)

pub returns-clause-meant : goal.returns-clause-meant
returns-clause-meant g c = λ _.
    let k = c.requires.meant c.if-self.false in record { hosts = k.hosts; is = (k.is.0, (c.in_ok-entries.ensures.steps k.hosts _ k.is.1).sound) }

pub returns-clause-counted : goal.returns-clause-counted
returns-clause-counted g c = λ _. c.requires.counted c.if-self.false

pub returns-clause-kept : goal.returns-clause-kept
returns-clause-kept g c =
    let b = c.if-self.false in
    let k = c.requires.meant b in
    let old = c.requires.kept in
    let left = c.in_ok-entries.ensures.leaves k.hosts _ (length c.args.self.now.rules.items) k.is.1 in
    record {
      ready = λ _. left.ready;
      holds = λ _. left.holds (old.holds b);
      weight = λ _. let w = left.weight in let v = old.weight b in omega (arith, w, v);
      most = λ _. let v = old.most b in omega (arith, v);
    }
