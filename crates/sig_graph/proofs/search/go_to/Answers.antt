use Rattle.std.proofs.Common.{◌∷◌, [], ℕ, List, length, length-append, ap, ◌∙◌, arith}
use Rattle.sig_graph.proofs.search.go_to.Goals as goal

pub enter-requires : goal.enter-requires
enter-requires c =
    let len = ap (λ (ss : List ℕ). length ss) c.add.ensures.seats ∙ length-append c.args.reached.now (c.args.seat ∷ []) in
    let most = c.add.ensures.room in
    let room = c.requires.room in
    omega (arith, len, most, room)
