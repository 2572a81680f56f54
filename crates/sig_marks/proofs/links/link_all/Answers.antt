use Rattle.std.proofs.Common.{◌+◌, inr, ◌∷◌, drop, sym, ap, ◌∙◌, subst}
use Rattle.std.specs.Prelude.{get_or}
use Rattle.sig_marks.specs.Sets.{HasRoom, Links}
use Rattle.sig_marks.proofs.LinkedSets.{links_none, links_more, drop_at, drop_end}
use Rattle.sig_marks.proofs.links.link_all.Goals as goal

pub loop-read-init : goal.loop-read-init
loop-read-init c = record { onward = λ final u. u; room = λ k d l. inr (c.requires k d l) }

pub link_at-requires : goal.link_at-requires
link_at-requires c = subst (HasRoom c.loop-read.sets.entries c.args.reader) (sym c.read-item.is) (c.loop-read.invariant.room c.loop-read.read-index c.read-item.result c.loop-read-test.true)

pub loop-read-preserved : goal.loop-read-preserved
loop-read-preserved c =
    let inv = c.loop-read.invariant in
    let x = c.read-item.result in
    let rest = drop (c.loop-read.read-index + 1) c.args.reads.now in
    let cut = drop_at c.args.reads.now c.loop-read.read-index x c.loop-read-test.true ∙ ap (λ z. z ∷ rest) (sym c.read-item.is) in
    record {
      onward = λ final u. inv.onward final (subst (λ ns. Links c.loop-read.sets.entries final ns c.args.reader) (sym cut)
          (links_more c.loop-read.sets.entries c.link_at.new.sets.entries final x rest c.args.reader c.link_at.ensures.on u));
      room = λ k d l. c.link_at.ensures.room (get_or c.args.reads.now k d) (inv.room k d l);
    }

pub returns : goal.returns
returns c =
    let ss = c.loop-read.sets.entries in
    c.loop-read.invariant.onward ss (subst (λ ns. Links ss ss ns c.args.reader) (sym (drop_end c.args.reads.now c.loop-read.read-index c.loop-read-test.false)) (links_none ss c.args.reader))
