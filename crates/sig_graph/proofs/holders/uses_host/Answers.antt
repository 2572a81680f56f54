use Rattle.std.proofs.Common.{sym, ap, ◌∙◌}
use Rattle.sig_nodes.specs.Nodes.{asks_host_here}
use Rattle.sig_graph.specs.Search.{some_holder}
use Rattle.sig_graph.proofs.Seated.{all_holders}
use Rattle.sig_graph.proofs.holders.uses_host.Goals as goal

pub returns : goal.returns
returns c =
    let asks = asks_host_here c.args.place c.args.nodes.now.items in
    c.some_asks.ensures ∙ sym (all_holders asks c.holders.result.now) ∙ ap (some_holder asks) c.holders.ensures
