use Rattle.std.proofs.Common.{◌≡◌, ◌∙◌, length, map, refl, sym, ap, arith}
use Rattle.std.specs.Prelude.{Some, option_map}
use Rattle.std.specs.List.{filter}
use Rattle.signal_model.specs.Signals.{is_in}
use Rattle.effect_model.specs.Acts.{dispose_thing}
use Rattle.effect_laws.proofs.SharedCounts.{all_keep_counts}
use Rattle.sig_effect.proofs.SharedKinds.{all_keep_kinds}
use Rattle.effect_tables.specs.Bodies.{thing_of}
use Rattle.sig_effect.specs.Stores.{environment}
use Rattle.live_model.specs.Names.{meaning_of, thing_named}
use Rattle.live_core.proofs.Batched.{roomy_none}
use Rattle.live_core.proofs.Commands.{acts_steps, disposed_steps, leaves_ended, pages_steps, stays_by, tells_by}
use Rattle.live_core.proofs.machine.Machine.dispose.Goals as goal

pub returns-clause-did : goal.returns-clause-did
returns-clause-did g c = λ count. record {
  steps = λ hosts all sound.
      let m = c.args.self.now in
      let env = environment hosts (map (λ r. r.slack) c.args.rules.now) in
      let t = c.in_ok-told.ensures in
      let thing = thing_of c.in-Some.thing in
      let is : thing_named (meaning_of m.names c.args.name.now) ≡ Some thing = sym c.thing_named.ensures ∙ ap (option_map thing_of) c.in-Some.is in
      let middle = record m { world = c.dispose.new.self; labels = c.tell_all.new.labels; journal = c.tell_all.new.journal } in
      let done = acts_steps hosts _ _ m c.dispose.new.self c.tell_all.new.labels c.tell_all.new.journal c.new-events.result.items c.dispose.new.events.items
      (dispose_thing env thing) (dispose_thing env thing) c.in_ok-told.told.items c.new-events.ensures.items (c.in_ok-dispose.ensures.done.does hosts sound) refl
      (tells_by m.labels c.tell_all.new.labels m.journal c.tell_all.new.journal c.dispose.new.events.items _ c.in_ok-told.told.items c.deref.ensures.value t.entries t.labels t.noted t.names) in
      disposed_steps hosts env _ _ m (record middle { pages = c.keep_live.new.pages }) c.in_ok-told.told.items _ thing is
      (pages_steps hosts _ middle (record middle { pages = c.keep_live.new.pages }) c.in_ok-told.told.items _ done refl
      (c.keep_live.ensures ∙ ap (λ ns. filter (λ p. is_in p.number ns) m.pages.items) c.deref-2.ensures.value));
  leaves = λ hosts all sound.
      let m = c.args.self.now in
      let e = c.in_ok-dispose.ensures.done in
      let env = environment hosts (map (λ r. r.slack) c.args.rules.now) in
      let thing = thing_of c.in-Some.thing in
      let new = record m { world = c.dispose.new.self; labels = c.tell_all.new.labels; journal = c.tell_all.new.journal; pages = c.keep_live.new.pages } in
      leaves_ended _ _ count m new c.requires.can.ready (record { names = refl; templates = refl; handlers = refl; scripts = refl; labels = c.in_ok-told.ensures.names })
      (stays_by _ _ m.world c.dispose.new.self (dispose_thing env thing) (e.does hosts sound).whole (all_keep_counts.disposing env thing) (all_keep_kinds.disposing env thing))
      (c.keep_live.ensures ∙ ap (λ ns. filter (λ p. is_in p.number ns) m.pages.items) c.deref-2.ensures.value)
      (roomy_none c.dispose.new.self.graph.state.signals m.batch c.requires.alone) (λ a. e.agrees) (λ r. e.rules count r)
      (let w = e.worn in let before = ap length c.new-events.ensures.items in let small = c.dispose.new.events.small in omega (arith, w, before, small));
  answers = c.in_ok-dispose.ensures.done.answers;
  counted = c.in_ok-dispose.ensures.counted;
  most = let a = c.in_ok-dispose.ensures.done.most in omega (arith, a);
}
