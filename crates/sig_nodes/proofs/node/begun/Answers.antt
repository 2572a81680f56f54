use Rattle.std.proofs.Common.{Option, None, List, []}
use Rattle.std.specs.declared.boxed.Box.{Box}
use Rattle.std.specs.Prelude.{IfOk, Result, Ok, Err}
use Rattle.sig_base.specs.declared.value.Known.{Known}
use Rattle.sig_formula.specs.declared.formula.RowRef.{RowRef}
use Rattle.sig_formula.specs.declared.formula.Formula.{Formula}
use Rattle.sig_formula.specs.Machines.{Evaluation, IsPaused}
use Rattle.sig_formula.specs.Trees.{tree}
use Rattle.sig_nodes.specs.Pauses.{IsHeldOf}
use Rattle.sig_nodes.proofs.Pauses.{new_held}
use Rattle.sig_nodes.proofs.node.begun.Goals as goal

begins : {Z E : Type 0} (held : Option (Box Evaluation Z)) (f : Formula) (r : Result (Box Evaluation Z) E) → IfOk r (λ p. (row : Option RowRef) → IsPaused p.value (tree f) row []) →
    IfOk r (λ p. (known : List Known) → IsHeldOf held (tree f) known → IsPaused p.value (tree f) None known)
begins held f (Ok p) h = λ known on. new_held p.value f (h None) known
begins held f (Err e) h = h

pub returns-in-None : goal.returns-in-None
returns-in-None c = begins c.args.held c.args.formula.now c.unread.result c.unread.ensures
