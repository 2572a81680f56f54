use Rattle.std.proofs.Common.{[], ap, subst, sym, ◌∙◌, arith, map}
use Rattle.effect_model.specs.Owners.{the_owner, the_signal}
use Rattle.effect_model.specs.Worlds as plain
use Rattle.effect_tables.specs.Placed.{numbering, untouched}
use Rattle.effect_teardown.specs.Trees.{IsFormed}
use Rattle.sig_effect.specs.Wholes as wholes
use Rattle.sig_graph.specs.States.{State}
use Rattle.sig_owner.specs.Renames.{renamed}
use Rattle.sig_owner.specs.Trees.{has_thing}
use Rattle.sig_effect.specs.Stores.{AreRuled}
use Rattle.sig_effect.proofs.Shared.{new_agrees, new_sound, new_whole}
use Rattle.effect_world.proofs.Worlds.{none_ruled}
use Rattle.effect_tables.specs.Placed.{effect_of}
use Rattle.effect_tables.proofs.Shared.{none_heard}
use Rattle.effect_world.proofs.world.World.new.Goals as goal

pub returns-clause-whole : goal.returns-clause-whole
returns-clause-whole c = λ asked new.
    c.in_ok-tables.ensures.placed (wholes.whole_of asked (record { graph = c.in_ok-graph.graph; watchers = c.in_ok-watchers.watchers }))
    ∙ ap untouched (new_whole asked c.in_ok-graph.graph c.in_ok-watchers.watchers c.in_ok-graph.ensures.state c.in_ok-graph.ensures.given c.in_ok-watchers.ensures new)

pub returns-clause-sound : goal.returns-clause-sound
returns-clause-sound c = λ hosts asked new. new_sound hosts asked c.in_ok-graph.graph c.in_ok-watchers.watchers c.in_ok-graph.ensures.state new

pub returns-clause-agrees : goal.returns-clause-agrees
returns-clause-agrees c = λ asked. record {
  signals = new_agrees asked c.in_ok-graph.graph c.in_ok-watchers.watchers c.in_ok-graph.ensures.state c.in_ok-watchers.ensures;
  owned = record {
    tables = c.in_ok-tables.ensures.holds;
    formed = record { formed = subst (IsFormed (the_owner 0)) (sym (ap (renamed (numbering c.in_ok-tables.tables)) c.in_ok-tables.ensures.bare)) tt };
    fresh = λ n l. ap (has_thing (the_signal n)) c.in_ok-tables.ensures.bare;
  };
  heard = none_heard c.in_ok-graph.graph.state.signals c.new-heard.result (map effect_of c.in_ok-tables.tables.effects.items) c.new-heard.ensures;
}

pub returns-clause-light : goal.returns-clause-light
returns-clause-light c =
    let w = ap (λ (s : State). s.worn) c.in_ok-graph.ensures.state in
    let m = ap (λ (w : plain.World). w.made.effects) (c.in_ok-tables.ensures.placed (wholes.whole_of [] (record { graph = c.in_ok-graph.graph; watchers = c.in_ok-watchers.watchers }))) in
    omega (arith, w, m)

pub returns-clause-ruled : goal.returns-clause-ruled
returns-clause-ruled c = λ rules. subst (λ (s : State). AreRuled rules s.signals) (sym c.in_ok-graph.ensures.state) (none_ruled rules)
