use Rattle.std.proofs.Common.{◌+◌, ◌∷◌, drop, sym, ap, ◌∙◌, subst}
use Rattle.sig_marks.specs.Sets.{Unlinks}
use Rattle.sig_marks.proofs.LinkedSets.{unlinks_none, unlinks_more, drop_at, drop_end}
use Rattle.sig_marks.proofs.links.unlink_all.Goals as goal

pub loop-source-preserved : goal.loop-source-preserved
loop-source-preserved c =
    let x = c.source-item.result in
    let rest = drop (c.loop-source.source-index + 1) c.args.sources.now in
    let cut = drop_at c.args.sources.now c.loop-source.source-index x c.loop-source-test.true ∙ ap (λ z. z ∷ rest) (sym c.source-item.is) in
    λ final u. c.loop-source.invariant final (subst (λ ns. Unlinks c.loop-source.sets.entries final ns c.args.reader) (sym cut)
    (unlinks_more c.loop-source.sets.entries c.unlink_at.new.sets.entries final x rest c.args.reader c.unlink_at.ensures u))

pub returns : goal.returns
returns c =
    let ss = c.loop-source.sets.entries in
    c.loop-source.invariant ss (subst (λ ns. Unlinks ss ss ns c.args.reader) (sym (drop_end c.args.sources.now c.loop-source.source-index c.loop-source-test.false)) (unlinks_none ss c.args.reader))
