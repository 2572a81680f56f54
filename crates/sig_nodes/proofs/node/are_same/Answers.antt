use Rattle.std.proofs.lemmas.Bool.{eqb-true, eq-eqb}
use Rattle.std.proofs.lemmas.Slice.Eq.{slice_eq-Decides}
use Rattle.sig_nodes.proofs.node.are_same.Goals as goal

pub returns : goal.returns
returns c = (slice_eq-Decides (λ a b. (eqb-true a b, eq-eqb a b)) c.args.ids.now c.args.others.now c.eq.result c.eq.ensures).0
