use Rattle.std.proofs.Common.{◌≡◌, ◌++◌, drop}
use Rattle.sig_nodes.proofs.node.note_rest.Given as goal

abbrev pub invariant-loop-one : goal.invariant-loop-one
invariant-loop-one l = l.held.items ++ drop l.one-index l.rest ≡ l.known
