use Rattle.sig_formula.specs.Trees.{tree}
use Rattle.sig_formula.proofs.Shared.{operations}
use Rattle.sig_graph.proofs.reading.+read_tree.Given as goal

abbrev pub decreases-read_tree : goal.decreases-read_tree
decreases-read_tree l = operations (tree l.part.now)
