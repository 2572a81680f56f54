use Rattle.std.proofs.Common.{[], ◌∙◌, length, map, sym, ap, subst, arith}
use Rattle.std.specs.List.{AllByRecursion}
use Rattle.effect_tables.specs.Scripts.{IsFitting}
use Rattle.live_pages.proofs.Shared.{all_standing}
use Rattle.live_pages.specs.Views.{template_of}
use Rattle.live_core.proofs.Batched.{roomy_none}
use Rattle.live_core.proofs.Commands.{leaves_acted}
use Rattle.live_core.proofs.Handled.{played_steps}
use Rattle.live_core.proofs.machine.Machine.fire.Goals as goal

pub fired_at-requires : goal.fired_at-requires
fired_at-requires g c = all_standing (map template_of c.args.self.now.templates.items) c.args.self.now.pages.items c.requires.can.ready.shown

pub run_all-requires-clause-can : goal.run_all-requires-clause-can
run_all-requires-clause-can g c =
    let w = c.requires.can.weight in
    let r = c.requires.can.most in
    let few = c.in_ok-fired.fired.small in
    let count = ap length c.deref-2.ensures.value in
    record { agrees = c.requires.can.holds.agrees; weight = omega (arith, w, few, count); room = omega (arith, r) }

pub run_all-requires-clause-fits : goal.run_all-requires-clause-fits
run_all-requires-clause-fits g c = subst (AllByRecursion IsFitting) (sym c.deref.ensures.value) c.requires.can.ready.handled.fits

pub returns-clause-did : goal.returns-clause-did
returns-clause-did g c = λ count. record {
  steps = λ hosts all sound.
      let m = c.args.self.now in
      played_steps hosts (map (λ r. r.slack) c.args.rules.now) _ _ m c.run_all.new.world c.run_all.new.labels c.run_all.new.journal c.in_ok-run_all.ensures.plays.events c.new-told.result.items
      c.run_all.new.told.items c.args.page.now c.deref.result.now c.deref-2.result.now _ c.new-told.ensures.items c.deref.ensures.value
      (c.deref-2.ensures.value ∙ c.in_ok-fired.ensures []) c.requires.can.ready.handled
      (c.in_ok-run_all.ensures.plays.plays.comes hosts all sound);
  leaves = λ hosts all sound.
      let m = c.args.self.now in
      let w = c.run_all.new.world in
      let e = c.in_ok-run_all.ensures.plays in
      let p = e.plays in
      let x = p.comes hosts all sound in
      let heavy = p.weight in
      let few = e.few in
      let many = c.in_ok-fired.fired.small in
      let count_fired = ap length c.deref-2.ensures.value in
      leaves_acted _ _ count m w c.run_all.new.labels c.run_all.new.journal c.requires.can.ready p.names
      (record { given = p.given; watchers = p.made; pages = ap (λ t. t.pages_made) p.tables; kinds = x.kinds }) p.tables
      (roomy_none w.graph.state.signals m.batch c.requires.alone) (λ a. p.agrees) (λ r. p.rules count r) (omega (arith, heavy, few, many, count_fired));
  answers = c.in_ok-run_all.ensures.plays.plays.answers;
  counted = c.in_ok-run_all.ensures.counted;
  most = let most = c.in_ok-run_all.ensures.plays.plays.most in let few = c.in_ok-run_all.ensures.plays.few in omega (arith, most, few);
}
