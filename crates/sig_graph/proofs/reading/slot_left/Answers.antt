use Rattle.std.proofs.Common.{sym}
use Rattle.std.proofs.lemmas.Option.{slice_get_within}
use Rattle.sig_graph.proofs.reading.slot_left.Goals as goal

pub returns-clause-reached : goal.returns-clause-reached
returns-clause-reached c = λ known o needed. needed (slice_get_within c.args.computation.now.recipe.slots c.args.slot c.in-Some._id (sym c.in-Some.ensures))
