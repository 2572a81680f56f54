use Rattle.std.proofs.Common.{ℕ, List, subst}
use Rattle.sig_graph.specs.Search.{AreDue}
use Rattle.sig_graph.proofs.KeptFinds.{noted_kept}
use Rattle.sig_graph.proofs.search.note_all.Goals as goal

pub loop-id-preserved : goal.loop-id-preserved
loop-id-preserved c = λ xs g due kept.
    let inv = c.loop-id.invariant xs g due kept in
    let all = subst (λ (ns : List ℕ). AreDue xs g ns) c.in-Some.ensures.some inv.0 in
    (all.1, noted_kept xs g c.args.worn c.in-Some.id c.loop-id.finds c.note.new.self all.0 c.note.ensures.others inv.1)

pub returns : goal.returns
returns c = λ xs g due kept. (c.loop-id.invariant xs g due kept).1
