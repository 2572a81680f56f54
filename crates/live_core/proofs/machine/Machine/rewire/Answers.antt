use Rattle.std.proofs.Common.{rules, [], Err, ◌≡◌, ◌∙◌, ◌∷◌, ℕ, true, refl, sym, ap, subst, arith}
use Rattle.std.proofs.lemmas.Bool.{true≢false}
use Rattle.std.specs.List.{All}
use Rattle.signal_model.specs.Recipes.{Recipe}
use Rattle.signal_model.specs.Signals.{is_there, standing}
use Rattle.effect_model.specs.Acts.{rewire_signal}
use Rattle.sig_nodes.specs.Answers.{expression_of}
use Rattle.sig_nodes.specs.Computations.{recipe_made}
use Rattle.sig_graph.specs.States.{are_there, is_given}
use Rattle.effect_laws.proofs.SharedCounts.{all_keep_counts}
use Rattle.sig_effect.proofs.SharedKinds.{all_keep_kinds}
use Rattle.live_cmd.specs.declared.command.Command.TheVariants as command
use Rattle.live_model.specs.declared.names.Kind.TheVariants as kind
use Rattle.live_model.specs.declared.names.Need.TheVariants as need
use Rattle.live_model.specs.Links.{recipe_of}
use Rattle.live_model.specs.Names.{number_of}
use Rattle.live_core.specs.Consistency.{is_of_kind}
use Rattle.live_core.proofs.Rightly.{kind_used, neither, refused_at, used_of, uses_fine}
use Rattle.live_core.proofs.Batched.{roomy_none}
use Rattle.live_core.proofs.Commands.{acts_steps, every, few_made, few_slots, free_made, host_fine, leaves_acted, no_cell, only_memory, source_used, stays_by, tells_by}
use Rattle.live_core.proofs.machine.Machine.rewire.Goals as goal

pub rewire-requires-clause-can : goal.rewire-requires-clause-can
rewire-requires-clause-can g c =
    let m = c.args.self.now in
    let made = recipe_made (expression_of c.in_ok-linked.linked.recipe) c.in_ok-linked.linked.slots.items in
    let fine = neither (refused_at m.world m.names c.args.name.now (need.Of kind.Computed)) _ (uses_fine m (command.Rewire c.args.name.now c.args.source) c.requires.fine) in
    let is = kind_used m.world _ m.names c.args.name.now kind.Computed refl c.requires.can.ready.meant (used_of m.world m.names c.args.name.now kind.Computed fine.0) in
    let weight = c.requires.can.weight in
    record {
      kind = no_cell (standing m.world.graph.state.signals c.of-computed.result)
          (ap (λ i. is_of_kind kind.Computed (standing m.world.graph.state.signals i)) (c.of-computed.ensures ∙ c.number_of.ensures) ∙ is.1);
      links = record {
        given = subst (λ (r : Recipe). All (λ (n : ℕ). is_given m.world.graph n ≡ true) r.slots) (sym c.in_ok-linked.ensures)
            (every (λ n. is_given m.world.graph n ≡ true) (recipe_of m.names c.args.source).slots (source_used m.world _ m.names c.args.source c.requires.can.ready.meant fine.1).given);
        few = few_made made (recipe_of m.names c.args.source) c.in_ok-linked.ensures (few_slots m.names c.args.source c.requires.few);
      };
      free = free_made _ made (recipe_of m.names c.args.source) c.in_ok-linked.ensures (host_fine _ m.names c.args.source c.requires.free);
      worn = omega (arith, weight);
    }

pub returns-in_err-rewire-clause-memory : goal.returns-in_err-rewire-clause-memory
returns-in_err-rewire-clause-memory g c =
    let m = c.args.self.now in
    let fine = neither (refused_at m.world m.names c.args.name.now (need.Of kind.Computed)) _ (uses_fine m (command.Rewire c.args.name.now c.args.source) c.requires.fine) in
    let is = kind_used m.world _ m.names c.args.name.now kind.Computed refl c.requires.can.ready.meant (used_of m.world m.names c.args.name.now kind.Computed fine.0) in
    let slots = (source_used m.world _ m.names c.args.source c.requires.can.ready.meant fine.1).there in
    let first = ap (λ i. is_there (standing m.world.graph.state.signals i)) (c.of-computed.ensures ∙ c.number_of.ensures) ∙ is.0.there in
    let rest = ap (λ (r : Recipe). are_there m.world.graph.state.signals r.slots) c.in_ok-linked.ensures ∙ slots in
    let there : are_there m.world.graph.state.signals (c.of-computed.result ∷ c.in_ok-linked.linked.slots.items) ≡ true = rw first rest in
    let f = only_memory _ c.in_err-rewire.ensures.refuses.2 (λ e. true≢false (sym there ∙ (c.in_err-rewire.ensures.refuses.1 (ap (λ x. Err x) e)).0)) in
    search rules

pub returns-clause-did : goal.returns-clause-did
returns-clause-did g c = λ slacks count. record {
  steps = λ hosts all sound.
      let m = c.args.self.now in
      let t = c.in_ok-told.ensures in
      acts_steps hosts _ _ m c.rewire.new.self c.tell_all.new.labels c.tell_all.new.journal c.new-events.result.items c.rewire.new.events.items
      (rewire_signal c.of-computed.result (recipe_made (expression_of c.in_ok-linked.linked.recipe) c.in_ok-linked.linked.slots.items))
      (rewire_signal (number_of m.names c.args.name.now) (recipe_of m.names c.args.source)) c.in_ok-told.told.items
      c.new-events.ensures.items ((c.in_ok-rewire.ensures.done slacks).does hosts sound)
      (λ i. rewire_signal ((c.of-computed.ensures ∙ c.number_of.ensures) i) (c.in_ok-linked.ensures i))
      (tells_by m.labels c.tell_all.new.labels m.journal c.tell_all.new.journal c.rewire.new.events.items _ c.in_ok-told.told.items c.deref.ensures.value t.entries t.labels t.noted t.names);
  leaves = λ hosts all sound.
      let m = c.args.self.now in
      let tables = c.in_ok-rewire.ensures.tables in
      let stays = c.in_ok-rewire.ensures.rewired.stays in
      let e = c.in_ok-rewire.ensures.done [] in
      let r = recipe_made (expression_of c.in_ok-linked.linked.recipe) c.in_ok-linked.linked.slots.items in
      leaves_acted _ _ count m c.rewire.new.self c.tell_all.new.labels c.tell_all.new.journal c.requires.can.ready c.in_ok-told.ensures.names
      (stays_by _ _ m.world c.rewire.new.self (rewire_signal c.of-computed.result r) (e.does hosts sound).whole
      (all_keep_counts.rewiring c.of-computed.result r) (all_keep_kinds.rewiring c.of-computed.result r))
      tables (roomy_none c.rewire.new.self.graph.state.signals m.batch c.requires.alone) (λ a. e.agrees) (λ k. e.rules count k) (let w = stays.worn in let t = ap (λ x. x.effects_made) tables in omega (arith, w, t));
  answers = (c.in_ok-rewire.ensures.done []).answers;
  counted = c.in_ok-rewire.ensures.counted;
  most = let a = (c.in_ok-rewire.ensures.done []).most in omega (arith, a);
}
