use Rattle.std.proofs.Common.{◌++◌, ℕ, List, [], Option, map, sym, ap, ◌∙◌}
use Rattle.std.specs.Prelude.{unwrap_or}
use Rattle.std.proofs.lemmas.List.{append-nil}
use Rattle.sig_untrack.specs.Stated.{rewiring, Rewiring}
use Rattle.live_model.specs.Uses.{host_in}
use Rattle.live_uses.proofs.Places.{get_none, get_some, not_there, there}
use Rattle.live_uses.proofs.hosts.put_rewired.Goals as goal

pub returns-in_ok-put_rewiring-in-Some : goal.returns-in_ok-put_rewiring-in-Some
returns-in_ok-put_rewiring-in-Some c =
    let rs = c.args.rewires.now in
    let r = c.in-Some.rewire.now in
    c.in_ok-put_rewiring-in-Some.ensures
    ∙ ap (λ (o : Option (List ℕ)). c.args.places.now.items ++ unwrap_or o [])
    (sym (there (λ (x : Rewiring). host_in x.source) (map rewiring rs) c.args.place (rewiring r)
    (there rewiring rs c.args.place r (get_some rs c.args.place r c.in-Some.ensures.lookup.0 c.in-Some.ensures.lookup.1))))

pub returns-in-None : goal.returns-in-None
returns-in-None c =
    let rs = c.args.rewires.now in
    sym (append-nil c.args.places.now.items)
    ∙ ap (λ (o : Option (List ℕ)). c.args.places.now.items ++ unwrap_or o [])
    (sym (not_there (λ (x : Rewiring). host_in x.source) (map rewiring rs) c.args.place (not_there rewiring rs c.args.place (get_none rs c.args.place c.in-None.ensures.lookup.0))))
