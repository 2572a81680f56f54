use Rattle.std.proofs.Common.{◌∙◌, ◌∷◌, ◌++◌, [], ℕ, List, refl, sym, ap, subst, arith}
use Rattle.std.proofs.lemmas.List.{length-map}
use Rattle.sig_base.specs.declared.value.Outcome.{Outcome}
use Rattle.signal_model.specs.Values.{value_of}
use Rattle.sig_effect.specs.declared.events.Event.TheVariants as event
use Rattle.effect_model.specs.Worlds.{settle}
use Rattle.effect_laws.proofs.SharedCounts.{all_keep_counts}
use Rattle.sig_effect.proofs.SharedKinds.{all_keep_kinds}
use Rattle.sig_effect.specs.Stores.{environment, AreRuled}
use Rattle.live_entries.specs.declared.entry.Entry.{Entry}
use Rattle.live_entries.specs.declared.entry.Entry.TheVariants as entry
use Rattle.live_entries.proofs.Shared.{told_behind}
use Rattle.live_model.specs.Names.{number_of}
use Rattle.live_labels.specs.Views.{labels_of}
use Rattle.live_labels.proofs.Shared.{told_by}
use Rattle.live_core.proofs.Batched.{roomy_same}
use Rattle.live_core.proofs.Commands.{acts_steps, leaves_acted, leaves_beside, stays_by, steps_beside, then_told, with_world}
use Rattle.live_core.proofs.LeftOut.{ran, traced_runs, untold_runs}
use Rattle.live_core.proofs.machine.Machine.get_untraced.Goals as goal

pub returns-clause-did : goal.returns-clause-did
returns-clause-did g c = λ slacks count.
    let m = c.args.self.now in
    let notes = c.settled.new.notes.items in
    let front : List Entry = told_by (labels_of m.labels) (ran notes) in
    record {
      all = front ++ entry.Outcome c.args.name c.in_ok-outcome.outcome ∷ [];
      told = told_behind front (entry.Outcome c.args.name c.in_ok-outcome.outcome ∷ []) (traced_runs (labels_of m.labels) notes);
      did = record {
        steps = λ hosts all sound.
            let env = environment hosts slacks in
            let n = c.of-signal.ensures ∙ c.requires.known in
            let beside = record m { world = c.settled.new.world; journal = c.note_runs.new.journal } in
            let told : List Entry = front ++ entry.Outcome c.args.name c.in_ok-outcome.outcome ∷ [] in
            steps_beside hosts _ beside _ told _
            (then_told hosts _ beside front (entry.Outcome c.args.name c.in_ok-outcome.outcome)
            (entry.Outcome c.args.name (value_of hosts m.world.graph.state.signals (number_of m.names c.args.name) [])) told _
            (acts_steps hosts _ _ m c.settled.new.world m.labels c.note_runs.new.journal [] (ran notes)
            (settle env (c.of-signal.result ∷ [])) (settle env (number_of m.names c.args.name ∷ [])) front
            refl (c.in_ok-outcome.ensures.settled.does hosts slacks all sound) (λ i. settle env (n i ∷ []))
            (untold_runs m.labels m.journal c.note_runs.new.journal notes (rw c.deref.ensures.value at c.in_ok-note_runs.ensures)))
            (ap (λ (o : Outcome). entry.Outcome c.args.name o) (c.in_ok-outcome.ensures.value hosts all sound ∙ ap (λ (i : ℕ). value_of hosts m.world.graph.state.signals i []) n))
            refl)
            refl;
        leaves = λ hosts all sound.
            let tables = c.in_ok-outcome.ensures.tables in
            let e = c.in_ok-outcome.ensures.settled in
            let env = environment hosts [] in
            let many = length-map notes event.Run in
            let worn = e.worn in
            let small = c.settled.new.notes.small in
            let made = ap (λ t. t.effects_made) tables in
            leaves_beside _ _ count m (with_world m c.settled.new.world m.labels c.note_runs.new.journal) _
            (leaves_acted _ _ count m c.settled.new.world m.labels c.note_runs.new.journal c.requires.can.ready (record { signals = refl; owners = refl; pages = refl; watchers = refl })
            (stays_by _ _ m.world c.settled.new.world (settle env (c.of-signal.result ∷ [])) (e.does hosts [] all sound).whole
            (all_keep_counts.settling env (c.of-signal.result ∷ [])) (all_keep_kinds.settling env (c.of-signal.result ∷ [])))
            tables (roomy_same m.world.graph.state.signals c.settled.new.world.graph.state.signals m.batch e.signals c.requires.can.ready.batch) (λ a. e.agrees)
            (λ r. subst (AreRuled count) (sym e.signals) r) (omega (arith, worn, many, small, made)))
            refl;
        answers = c.in_ok-outcome.ensures.settled.answers;
        counted = c.in_ok-outcome.ensures.counted;
        most = let a = c.in_ok-outcome.ensures.settled.most in let many = length-map notes event.Run in let d = c.settled.new.notes.small in omega (arith, a, many, d);
      };
    }
