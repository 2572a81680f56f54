use Rattle.std.proofs.Common.{◌≡◌, true, map, is_some, refl, sym, ap, subst, ◌∙◌, arith}
use Rattle.signal_model.specs.Signals.{Signals, is_there, standing}
use Rattle.effect_model.specs.Acts.{undo}
use Rattle.effect_model.specs.Owners.{the_signal, ends}
use Rattle.effect_model.specs.Worlds as plain
use Rattle.effect_tables.specs.declared.thing.Thing.TheVariants as thing
use Rattle.sig_graph.specs.States.{Seen, State}
use Rattle.sig_graph.proofs.Shared.{given_same}
use Rattle.sig_watcher.specs.Tables.{Table}
use Rattle.sig_effect.specs.declared.events.Event.TheVariants as event
use Rattle.sig_effect.specs.Results.{drop_events}
use Rattle.sig_effect.specs.Stores.{AreRuled}
use Rattle.sig_effect.specs.Wholes as wholes
use Rattle.sig_effect.proofs.Shared.{dispose_agreed, dispose_done, most_left, named_ended, named_gone, named_still, ruled_left, there_by, uses_by}
use Rattle.effect_world.specs.declared.world.World.{World}
use Rattle.effect_world.specs.Wholes.{stores_of}
use Rattle.effect_world.proofs.Told.{more_told, one_told}
use Rattle.effect_world.proofs.Undone.{end_gone, gone_there, undoes_one, undoes_to, undoes_told}
use Rattle.effect_world.proofs.world.World.end_signal.Goals as goal

pub drop_left-requires-clause-there : goal.drop_left-requires-clause-there
drop_left-requires-clause-there g c = λ place e. c.requires.agrees.there.each place (uses_by _ c.args.id place (sym c.in-Ok.ensures.host ∙ e))

pub returns-in_ok-tell_gone-in-Ok-clause-done : goal.returns-in_ok-tell_gone-in-Ok-clause-done
returns-in_ok-tell_gone-in-Ok-clause-done g c = λ slacks.
    let new : World = record { graph = c.dispose_node.new.self; watchers = c.forget.new.self; tables = c.args.self.now.tables; heard = c.args.self.now.heard } in
    let there : is_there (standing c.args.self.now.graph.state.signals c.args.id) ≡ true = there_by _ _ c.in-Ok.ensures.gone (λ q. cc) in
    let b = c.in-Ok.ensures.after in
    let d = c.in_ok-drop_left-in-Ok.ensures in
    undoes_one slacks c.args.self.now new _ _ _ _ _ _ (λ env. undo env (ends (the_signal c.args.id)))
    (λ hosts sound. dispose_done hosts slacks _ _ (stores_of c.args.self.now) (stores_of new) _ _ _ _ c.args.id c.in-Ok.left there b c.forget.ensures c.requires.agrees
    c.in-Ok.ensures.host d.asked d.events c.in_ok-tell_change-in-Ok.ensures c.in_ok-tell_gone-in-Ok.ensures sound)
    (dispose_agreed _ _ (stores_of c.args.self.now) (stores_of new) c.args.id c.in-Ok.left b c.forget.ensures c.in-Ok.ensures.host d.asked c.requires.agrees)
    d.answers (most_left c.in-Ok.left _ _ d.asked)
    (λ count all. subst (λ (w : Signals). AreRuled count w) (sym (ap (λ (s : State). s.signals) b.state)) (ruled_left count c.args.self.now.graph.state.signals c.args.id all))
    refl (record { given = b.given; made = ap (λ (t : Table). t.made) c.forget.ensures; worn = let w = ap (λ (s : State). s.worn) b.state in omega (arith, w) })

pub returns-in_ok-tell_gone-in-Ok-clause-told : goal.returns-in_ok-tell_gone-in-Ok-clause-told
returns-in_ok-tell_gone-in-Ok-clause-told g c =
    let k = more_told _ _ (drop_events c.in-Ok.left (map (λ p. record { there = is_some p.host; asks = p.count }) c.args.shelf.now.places.items)) c.in_ok-drop_left-in-Ok.ensures.events in
    let m = one_told _ _ _ c.in_ok-tell_change-in-Ok.ensures in
    let n = one_told _ _ _ c.in_ok-tell_gone-in-Ok.ensures in
    omega (arith, k, m, n)

pub returns-in_ok-tell_gone-in-Ok-clause-named : goal.returns-in_ok-tell_gone-in-Ok-clause-named
returns-in_ok-tell_gone-in-Ok-clause-named g c = λ given all.
    named_ended c.args.self.now.graph c.dispose_node.new.self c.args.self.now.watchers.made c.forget.new.self.made c.in-Ok.left _ _ _ _ _ c.args.id
    c.in-Ok.ensures.after.given (ap (λ (t : Table). t.made) c.forget.ensures) given c.in_ok-drop_left-in-Ok.ensures.events c.in_ok-tell_change-in-Ok.ensures
    c.in_ok-tell_gone-in-Ok.ensures all

pub returns-in_ok-tell_gone-in-Err-clause-done : goal.returns-in_ok-tell_gone-in-Err-clause-done
returns-in_ok-tell_gone-in-Err-clause-done g c = λ slacks.
    let new : World = record { graph = c.dispose_node.new.self; watchers = c.args.self.now.watchers; tables = c.args.self.now.tables; heard = c.args.self.now.heard } in
    undoes_to slacks c.args.self.now new _ _ _ _ _ (λ i. record { graph = c.in-Err.ensures.err i; watchers = c.args.self.now.watchers; tables = c.args.self.now.tables; heard = c.args.self.now.heard })
    (undoes_told slacks c.args.self.now _ _ _ (event.Gone (thing.Signal c.args.id)) (plain.gone (the_signal c.args.id)) _ (λ env. undo env (ends (the_signal c.args.id)))
    c.in_ok-tell_gone-in-Err.ensures
    (λ env. end_gone env c.args.id (wholes.whole_of _ (stores_of c.args.self.now)) (gone_there (standing c.args.self.now.graph.state.signals c.args.id) (c.in-Err.ensures.gone.0 refl)))
    refl c.requires.agrees)

pub returns-in_ok-tell_gone-in-Err-clause-told : goal.returns-in_ok-tell_gone-in-Err-clause-told
returns-in_ok-tell_gone-in-Err-clause-told g c = let m = one_told _ _ _ c.in_ok-tell_gone-in-Err.ensures in omega (arith, m)

pub returns-in_ok-tell_gone-in-Err-clause-named : goal.returns-in_ok-tell_gone-in-Err-clause-named
returns-in_ok-tell_gone-in-Err-clause-named g c = λ given all.
    let same = ap (λ (s : Seen). s.given) c.in-Err.ensures.err in
    named_gone c.dispose_node.new.self c.args.self.now.watchers.made _ _ (thing.Signal c.args.id) (given_same c.args.self.now.graph c.dispose_node.new.self c.args.id same ∙ given)
    c.in_ok-tell_gone-in-Err.ensures
    (named_still c.args.self.now.graph c.dispose_node.new.self c.args.self.now.watchers.made c.args.self.now.watchers.made _ same refl all)
