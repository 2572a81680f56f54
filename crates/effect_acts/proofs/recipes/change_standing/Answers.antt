use Rattle.std.proofs.Common.{◌≡◌, true, map, is_some, sym, ◌∙◌}
use Rattle.std.proofs.lemmas.List.Elements.{All-from_recursion}
use Rattle.effect_model.specs.Acts.{rewire_signal}
use Rattle.sig_nodes.specs.Answers.{expression_of}
use Rattle.sig_nodes.specs.Computations.{recipe_made}
use Rattle.sig_graph.specs.States.{is_given}
use Rattle.effect_world.specs.Wholes.{whole_of}
use Rattle.effect_acts.proofs.Acts.{acted_still}
use Rattle.effect_acts.proofs.Refusals.{cell_kept, given_slots, none_refused, slots_open}
use Rattle.effect_acts.proofs.recipes.change_standing.Goals as goal

pub returns-then-is_cell-clause-done : goal.returns-then-is_cell-clause-done
returns-then-is_cell-clause-done g c = λ slacks.
    acted_still slacks c.args.world.now _ _ _ 1 (λ env. rewire_signal c.args.id (recipe_made (expression_of c.args.recipe) c.args.slots.items))
    (λ env. cell_kept c.args.id (recipe_made (expression_of c.args.recipe) c.args.slots.items) (whole_of (map (λ p. record { there = is_some p.host; asks = p.count }) c.args.shelf.now.places.items) c.args.world.now) c.requires.open (sym c.is_cell.ensures ∙ c.if-is_cell.true))
    c.requires.agrees

pub change-requires-clause-can : goal.change-requires-clause-can
change-requires-clause-can g c =
    let asked = map (λ p. record { there = is_some p.host; asks = p.count }) c.args.shelf.now.places.items in
    let world = c.args.world.now in
    let r = recipe_made (expression_of c.args.recipe) c.args.slots.items in
    record {
      kind = sym c.is_cell.ensures ∙ c.if-is_cell.false;
      links = record {
        given = All-from_recursion (λ n. is_given world.graph n ≡ true) c.args.slots.items
            (given_slots (is_given world.graph) (whole_of asked world) c.args.slots.items (λ n h. c.made-made.ensures.used.names n h) (slots_open c.args.id r (whole_of asked world) c.requires.open));
        few = c.requires.few;
      };
      free = none_refused c.args.id r (whole_of asked world) c.requires.open;
      worn = c.requires.worn;
    }
