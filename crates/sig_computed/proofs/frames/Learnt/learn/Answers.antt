use Rattle.std.proofs.Common.{◌++◌, [], ◌∷◌, ap, ◌∙◌}
use Rattle.sig_base.specs.declared.value.Known.{Known}
use Rattle.sig_base.specs.declared.value.Outcome.TheVariants.{Good}
use Rattle.sig_computed.specs.Lessons.{Lesson, good_seen}
use Rattle.sig_computed.proofs.Asides.{seen_all}
use Rattle.sig_computed.proofs.frames.Learnt.learn.Goals as goal

pub returns-clause-reads : goal.returns-clause-reads
returns-clause-reads c =
    let ns = c.self.inside.reads.items in
    let ks = c.self.inside.known.items in
    let one : Known = record { slot = c.args.slot; value = c.args.value } in
    (λ i. good_seen (c.in_ok-push.ensures.items i) ((c.push_reserved.ensures.items ∙ ap (λ l. l ++ one ∷ []) c.in_ok-reserve.ensures.items) i))
    ∙ seen_all ns ks (record { known = one; name = c.args.id } ∷ []) c.self.invariant ∙ ap (λ (l : Lesson). l.reads ++ record { name = c.args.id; outcome = Good c.args.value } ∷ []) c.self.view_is
