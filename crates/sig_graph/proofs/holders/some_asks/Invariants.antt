use Rattle.std.proofs.Common.{◌≡◌, drop}
use Rattle.sig_nodes.specs.Nodes.{asks_host_here}
use Rattle.sig_graph.specs.Search.{some_holder}
use Rattle.sig_graph.proofs.holders.some_asks.Given as goal

abbrev pub invariant-loop-holder : goal.invariant-loop-holder
invariant-loop-holder l = some_holder (asks_host_here l.place l.nodes.items) (drop l.holder-index l.holders) ≡ some_holder (asks_host_here l.place l.nodes.items) l.holders
