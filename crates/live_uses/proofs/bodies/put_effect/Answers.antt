use Rattle.std.proofs.Common.{◌++◌, List, [], Option, map, sym, ap, ◌∙◌}
use Rattle.std.specs.Prelude.{unwrap_or}
use Rattle.std.proofs.lemmas.List.{append-nil}
use Rattle.live_model.specs.Names.{Use}
use Rattle.live_uses.specs.Views.{use_of}
use Rattle.live_uses.proofs.Places.{get_none, not_there}
use Rattle.live_uses.proofs.bodies.put_effect.Goals as goal

pub returns-in-None : goal.returns-in-None
returns-in-None c =
    let before = map use_of c.args.uses.now.items in
    sym (append-nil before)
    ∙ ap (λ (o : Option (List Use)). before ++ unwrap_or o []) (sym (not_there (λ v. map use_of v.items) c.args.effects.now c.args.place (get_none c.args.effects.now c.args.place c.in-None.ensures.lookup.0)))
