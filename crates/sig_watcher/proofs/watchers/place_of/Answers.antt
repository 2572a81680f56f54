use Rattle.std.proofs.Common.{sym, ◌∙◌, true≢false}
use Rattle.std.proofs.lemmas.Bool.{eqb-true, eq-eqb}
use Rattle.sig_watcher.proofs.Places.{is_first, none_more}
use Rattle.sig_watcher.proofs.watchers.place_of.Goals as goal

pub returns-then-eq-clause-some : goal.returns-then-eq-clause-some
returns-then-eq-clause-some c =
    is_first c.args.watchers.now c.args.w c.loop-place.place c.index-watchers-place.result c.loop-place-test.true c.loop-place.invariant c.index-watchers-place.is
    (eqb-true c.args.w c.id.result (sym c.eq.ensures ∙ c.if-eq.true) ∙ c.id.ensures)

pub loop-place-preserved : goal.loop-place-preserved
loop-place-preserved c =
    none_more c.args.watchers.now c.args.w c.loop-place.place c.index-watchers-place.result c.loop-place-test.true c.loop-place.invariant c.index-watchers-place.is
    (λ e. true≢false (sym (c.eq.ensures ∙ eq-eqb c.args.w c.id.result (e ∙ sym c.id.ensures)) ∙ c.if-eq.false))
