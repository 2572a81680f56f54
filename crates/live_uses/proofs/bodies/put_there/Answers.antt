use Rattle.std.proofs.Common.{◌++◌, ℕ, List, Option, option_to_list, map, sym, ap, ◌∙◌}
use Rattle.std.proofs.lemmas.List.{append-nil}
use Rattle.live_uses.specs.Views.{use_of}
use Rattle.live_uses.proofs.Places.{get_none}
use Rattle.live_uses.proofs.bodies.put_there.Goals as goal

pub returns-in-None : goal.returns-in-None
returns-in-None c =
    let before = map use_of c.args.uses.now.items in
    sym (append-nil before)
    ∙ ap (λ (o : Option (List ℕ)). before ++ map (λ m. (m, c.args.need)) (option_to_list o)) (sym (get_none c.args.names.now c.args.place c.in-None.ensures.lookup.0))
