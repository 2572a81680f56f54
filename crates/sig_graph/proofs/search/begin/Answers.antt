use Rattle.std.proofs.Common.{ℕ, ◌<◌, [], ◌∷◌, ◌++◌, List, length, ap, sym, ◌∙◌, subst, arith}
use Rattle.signal_model.specs.Signals.{is_in}
use Rattle.sig_base.specs.declared.limits.TheConstants.{MOST_NODES}
use Rattle.sig_graph.proofs.search.begin.Goals as goal

pub go_to-requires-clause-inside : goal.go_to-requires-clause-inside
go_to-requires-clause-inside c = subst (λ s. s < MOST_NODES) (sym c.seat_at.ensures) (c.requires.seats.below c.args.id c.requires.live)

pub go_to-requires-clause-fresh : goal.go_to-requires-clause-fresh
go_to-requires-clause-fresh c = ap (λ (ss : List ℕ). is_in c.seat_at.result ss) c.clear.ensures

pub go_to-requires-clause-room : goal.go_to-requires-clause-room
go_to-requires-clause-room c =
    let reached = ap (λ (ss : List ℕ). length ss) c.clear.ensures in
    let trail = ap (λ (ns : List ℕ). length ns) c.clear-2.ensures in
    omega (arith, reached, trail)

pub returns-clause-reached : goal.returns-clause-reached
returns-clause-reached c = c.go_to.ensures.reached ∙ (λ i. c.clear.ensures i ++ c.seat_at.ensures i ∷ [])

pub returns-clause-trail : goal.returns-clause-trail
returns-clause-trail c = c.go_to.ensures.trail ∙ ap (λ (ns : List ℕ). c.args.id ∷ ns) c.clear-2.ensures
