use Rattle.std.proofs.Common.{ap, sym, subst, ◌∙◌}
use Rattle.effect_model.specs.Acts.{undo}
use Rattle.effect_model.specs.Owners.{cleans, ends, the_effect}
use Rattle.effect_tables.specs.Bodies.{thing_of, undoing_of}
use Rattle.sig_owner.specs.Tables.{cleanup_of}
use Rattle.effect_world.specs.Signals.{IsNoted}
use Rattle.effect_world.proofs.Undone.{undoes_as, undoes_lent}
use Rattle.effect_world.proofs.world.World.undo.Goals as goal

pub effect_in-effect-requires : goal.effect_in-effect-requires
effect_in-effect-requires g c = subst IsNoted c.in-Cleanup.is c.requires.noted

pub returns-in_ok-clean-in-Cleanup-clause-done : goal.returns-in_ok-clean-in-Cleanup-clause-done
returns-in_ok-clean-in-Cleanup-clause-done g c =
    undoes_as _ _ _ _ _ 1 (λ env. undo env (cleans (the_effect c.effect_in-effect.result) (cleanup_of c.in-Cleanup.cleanup))) (λ env. undo env (undoing_of c.args.undoing.now))
    (λ env. ap (undo env) ((λ i. cleans (sym c.effect_in-effect.ensures i) (cleanup_of c.in-Cleanup.cleanup)) ∙ sym (ap undoing_of c.in-Cleanup.is)))
    (undoes_lent _ _ _ _ 1 _ (c.in_ok-clean-in-Cleanup.ensures.done _ c.requires.agrees))

pub returns-in_ok-end_thing-in-Gone-clause-done : goal.returns-in_ok-end_thing-in-Gone-clause-done
returns-in_ok-end_thing-in-Gone-clause-done g c =
    undoes_as _ _ _ _ _ 1 (λ env. undo env (ends (thing_of c.in-Gone.thing))) (λ env. undo env (undoing_of c.args.undoing.now)) (λ env. ap (λ u. undo env (undoing_of u)) (sym c.in-Gone.is))
    (c.in_ok-end_thing-in-Gone.ensures.done _)
