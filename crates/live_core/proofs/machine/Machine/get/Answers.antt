use Rattle.std.proofs.Common.{◌∙◌, ◌∷◌, [], ℕ, length, sym, ap, subst, arith}
use Rattle.sig_base.specs.declared.value.Outcome.{Outcome}
use Rattle.signal_model.specs.Values.{value_of}
use Rattle.effect_model.specs.Worlds.{settle}
use Rattle.effect_laws.proofs.SharedCounts.{all_keep_counts}
use Rattle.sig_effect.proofs.SharedKinds.{all_keep_kinds}
use Rattle.sig_effect.specs.Stores.{environment, AreRuled}
use Rattle.live_entries.specs.declared.entry.Entry.TheVariants as entry
use Rattle.live_model.specs.Names.{number_of}
use Rattle.live_core.proofs.Batched.{roomy_same}
use Rattle.live_core.proofs.Commands.{acts_steps, leaves_acted, stays_by, tells_by, then_told}
use Rattle.live_core.proofs.machine.Machine.get.Goals as goal

pub returns-clause-did : goal.returns-clause-did
returns-clause-did g c = λ slacks count. record {
  steps = λ hosts all sound.
      let m = c.args.self.now in
      let env = environment hosts slacks in
      let n = c.of-signal.ensures ∙ c.number_of.ensures in
      let t = c.in_ok-told.ensures in
      then_told hosts _ (record m { world = c.ask.new.self; labels = c.tell_all.new.labels; journal = c.tell_all.new.journal }) c.in_ok-told.told.items (entry.Outcome c.args.name c.in_ok-outcome.outcome)
      (entry.Outcome c.args.name (value_of hosts m.world.graph.state.signals (number_of m.names c.args.name) [])) c.push.new.self.items _
      (acts_steps hosts _ _ m c.ask.new.self c.tell_all.new.labels c.tell_all.new.journal c.new-events.result.items c.ask.new.events.items
      (settle env (c.of-signal.result ∷ [])) (settle env (number_of m.names c.args.name ∷ [])) c.in_ok-told.told.items
      c.new-events.ensures.items (c.in_ok-outcome.ensures.settled.does hosts slacks all sound) (λ i. settle env (n i ∷ []))
      (tells_by m.labels c.tell_all.new.labels m.journal c.tell_all.new.journal c.ask.new.events.items _ c.in_ok-told.told.items c.deref.ensures.value t.entries t.labels t.noted t.names))
      (ap (λ (o : Outcome). entry.Outcome c.args.name o) (c.in_ok-outcome.ensures.value hosts all sound ∙ ap (λ (i : ℕ). value_of hosts m.world.graph.state.signals i []) n))
      c.in_ok-push.ensures.items;
  leaves = λ hosts all sound.
      let m = c.args.self.now in
      let tables = c.in_ok-outcome.ensures.tables in
      let e = c.in_ok-outcome.ensures.settled in
      let env = environment hosts [] in
      let before = ap length c.new-events.ensures.items in
      let worn = e.worn in
      let small = c.ask.new.events.small in
      let made = ap (λ t. t.effects_made) tables in
      leaves_acted _ _ count m c.ask.new.self c.tell_all.new.labels c.tell_all.new.journal c.requires.can.ready c.in_ok-told.ensures.names
      (stays_by _ _ m.world c.ask.new.self (settle env (c.of-signal.result ∷ [])) (e.does hosts [] all sound).whole
      (all_keep_counts.settling env (c.of-signal.result ∷ [])) (all_keep_kinds.settling env (c.of-signal.result ∷ [])))
      tables (roomy_same m.world.graph.state.signals c.ask.new.self.graph.state.signals m.batch e.signals c.requires.can.ready.batch) (λ a. e.agrees) (λ r. subst (AreRuled count) (sym e.signals) r) (omega (arith, worn, before, small, made));
  answers = c.in_ok-outcome.ensures.settled.answers;
  counted = c.in_ok-outcome.ensures.counted;
  most = let a = c.in_ok-outcome.ensures.settled.most in let b = ap length c.new-events.ensures.items in let d = c.ask.new.events.small in omega (arith, a, b, d);
}
