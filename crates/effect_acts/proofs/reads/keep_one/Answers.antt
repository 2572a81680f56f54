use Rattle.std.proofs.Common.{[], ◌∷◌, map, refl, ap, ◌∙◌, sym, subst, arith}
use Rattle.signal_model.specs.Sound.{names_of}
use Rattle.effect_model.specs.Runs.{keep_reads}
use Rattle.effect_model.specs.Worlds.{World, body_ran}
use Rattle.effect_tables.specs.Runs.{with_kept}
use Rattle.effect_tables.specs.Heard.{IsMissed}
use Rattle.effect_tables.specs.Placed.{effect_of}
use Rattle.effect_tables.proofs.Shared.{kept_heard}
use Rattle.sig_effect.specs.Wholes as wholes
use Rattle.effect_world.specs.Wholes.{stores_of}
use Rattle.sig_effect.specs.declared.events.Event.TheVariants as event
use Rattle.effect_world.proofs.Shared.{one_told}
use Rattle.effect_acts.proofs.Tabled.{acted_tabled, owned_kept}
use Rattle.effect_acts.proofs.reads.keep_one.Goals as goal

pub returns-clause-done : goal.returns-clause-done
returns-clause-done c = λ asked slacks a.
    acted_tabled slacks c.args.world.now c.keep_one.new.self c.miss.new.self asked _ _ (event.Body c.args.id c.in_ok-names.names) (body_ran c.args.id (names_of (c.args.read ∷ []))) (λ env. keep_reads c.args.id (c.args.read ∷ []))
    (with_kept c.args.id (c.args.read ∷ []))
    c.in_ok-keep_one.ensures.does
    (λ env. refl) refl (ap (body_ran c.args.id) (sym c.in_ok-names.ensures)) c.in_ok-push.ensures.items
    (let m = c.in_ok-keep_one.ensures.made in omega (arith, m))
    (owned_kept c.args.world.now c.keep_one.new.self c.in_ok-keep_one.ensures.store c.in_ok-keep_one.ensures.owners c.in_ok-keep_one.ensures.holds a.owned)
    (kept_heard c.args.id (c.args.read ∷ []) c.args.world.now.graph.state.signals c.args.world.now.heard c.miss.new.self (map effect_of c.args.world.now.tables.effects.items)
    (map effect_of c.keep_one.new.self.effects.items)
    (subst (λ xs. IsMissed c.args.id (map effect_of xs) c.args.world.now.heard c.miss.new.self) c.deref.ensures.value c.miss.ensures)
    (ap (λ (w : World). w.effects) (c.in_ok-keep_one.ensures.does (wholes.whole_of asked (stores_of c.args.world.now)))) a.heard) a

pub returns-clause-told : goal.returns-clause-told
returns-clause-told c = one_told _ _ _ c.in_ok-push.ensures.items
