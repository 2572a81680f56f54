use Rattle.std.proofs.Common.{◌≡◌, ℕ, length, ap, subst, arith}
use Rattle.tpl_hearing.specs.Heard.{Outcomes}
use Rattle.tpl_hearing.specs.Unseen.{AreCellsBetween}
use Rattle.tpl_hearing.proofs.again.first_other.Goals as goal

pub returns-then-place-count-clause-some : goal.returns-then-place-count-clause-some
returns-then-place-count-clause-some c =
    subst (λ (h : Outcomes). AreCellsBetween c.args.graph.now.state.signals h 0 c.cells_up_to-place.result) c.lists.ensures.pairs c.cells_up_to-place.ensures

pub returns-clause-none : goal.returns-clause-none
returns-clause-none c =
    let high = c.if-place-count.false in
    let most = c.cells_up_to-place.ensures.most in
    let all = ap length c.lists.ensures.pairs in
    let count = c.count-count.ensures.count in
    let end : c.cells_up_to-place.result ≡ length c.args.heard.now = omega (arith, high, most, all, count) in
    subst (λ (to : ℕ). AreCellsBetween c.args.graph.now.state.signals c.args.heard.now 0 to) end
    (subst (λ (h : Outcomes). AreCellsBetween c.args.graph.now.state.signals h 0 c.cells_up_to-place.result) c.lists.ensures.pairs c.cells_up_to-place.ensures)
