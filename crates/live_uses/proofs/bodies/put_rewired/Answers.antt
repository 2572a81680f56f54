use Rattle.std.proofs.Common.{◌++◌, List, [], Option, map, sym, ap, ◌∙◌}
use Rattle.std.specs.Prelude.{unwrap_or}
use Rattle.std.proofs.lemmas.List.{append-nil}
use Rattle.sig_untrack.specs.Stated.{rewiring}
use Rattle.live_model.specs.Names.{Use}
use Rattle.live_model.specs.Uses.{uses_of_rewiring}
use Rattle.live_uses.specs.Views.{use_of}
use Rattle.live_uses.proofs.Places.{get_none, get_some, not_there, there}
use Rattle.live_uses.proofs.bodies.put_rewired.Goals as goal

pub returns-in_ok-put_rewiring-in-Some : goal.returns-in_ok-put_rewiring-in-Some
returns-in_ok-put_rewiring-in-Some c =
    let rs = c.args.named.now.rewires.now in
    let r = c.in-Some.rewire.now in
    c.in_ok-put_rewiring-in-Some.ensures
    ∙ ap (λ (o : Option (List Use)). map use_of c.args.uses.now.items ++ unwrap_or o [])
    (sym (there (uses_of_rewiring c.args.named.now.targets.now) (map rewiring rs) c.args.place (rewiring r)
    (there rewiring rs c.args.place r (get_some rs c.args.place r c.in-Some.ensures.lookup.0 c.in-Some.ensures.lookup.1))))

pub returns-in-None : goal.returns-in-None
returns-in-None c =
    let rs = c.args.named.now.rewires.now in
    let before = map use_of c.args.uses.now.items in
    sym (append-nil before)
    ∙ ap (λ (o : Option (List Use)). before ++ unwrap_or o [])
    (sym (not_there (uses_of_rewiring c.args.named.now.targets.now) (map rewiring rs) c.args.place (not_there rewiring rs c.args.place (get_none rs c.args.place c.in-None.ensures.lookup.0))))
