use Rattle.std.proofs.Common.{[], sym, subst}
use Rattle.sig_formula.specs.Machines.{Evaluation, IsPaused}
use Rattle.sig_formula.specs.Trees.{tree}
use Rattle.sig_nodes.proofs.node.unread.Goals as goal

pub returns : goal.returns
returns c = λ row. subst (λ (p : Evaluation). IsPaused p (tree c.args.formula.now) row []) (sym c.in_ok-boxed.ensures.ok) (c.in_ok-paused.ensures row)
