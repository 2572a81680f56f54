use Rattle.std.proofs.Common.{ℕ, Bool, true, length, slice_get, take, sym, ap, subst, arith, ◌∙◌}
use Rattle.signal_laws.proofs.Shared.{all_snoc}
use Rattle.tpl_hearing.specs.HeardAgain.{AllCompared, IsCompared}
use Rattle.tpl_hearing.proofs.Fronts.{front_compared}
use Rattle.tpl_hearing.proofs.Paired.{count_paired}
use Rattle.tpl_hearing.proofs.comparisons.Comparisons.front.Goals as goal

pub loop-place-init : goal.loop-place-init
loop-place-init c = rw c.in_ok-noted.ensures.items tt

pub pair_at-id-requires-clause-place : goal.pair_at-id-requires-clause-place
pair_at-id-requires-clause-place c =
    let low = c.loop-place-test.true in
    let most = c.requires in
    let all = ap length c.lists.ensures.pairs in
    let long = count_paired c.lists.result.0.now c.lists.result.1.now c.lists.ensures.within in omega (arith, low, most, all, long)

pub loop-place-preserved : goal.loop-place-preserved
loop-place-preserved c =
    let before = c.args.before.now in
    let heard = take c.args.count before in
    let at = ap (λ ps. slice_get ps c.loop-place.place) (sym c.lists.ensures.pairs) ∙ c.pair_at-id.ensures in
    subst (AllCompared before heard) (sym c.in_ok-put_note.ensures)
    (all_snoc (λ (p : ℕ × Bool). IsCompared before heard p.0 p.1) c.loop-place.noted.items (c.pair_at-id.result.0, true) c.loop-place.invariant
    (front_compared before c.args.count c.loop-place.place c.pair_at-id.result.0 c.pair_at-id.result.1.now c.count-all.ensures.once c.loop-place-test.true at))
