-- What the stores answer, as the world answers it.
use Rattle.std.specs.Prelude.{Bool, true, false}
use Rattle.sig_graph.specs.declared.errors.NodeFault.{NodeFault}
use Rattle.sig_graph.specs.declared.errors.NodeFault.TheVariants as node
use Rattle.sig_state.specs.declared.sets.SetDone.{SetDone}
use Rattle.sig_state.specs.declared.sets.SetDone.TheVariants.{Accepted, Same}
use Rattle.sig_watcher.specs.declared.errors.WatchFault.{WatchFault}
use Rattle.sig_watcher.specs.declared.errors.WatchFault.TheVariants as watch
use Rattle.sig_effect.specs.declared.errors.EffectFault.{EffectFault}
use Rattle.sig_effect.specs.declared.errors.EffectFault.TheVariants.{Limit, Gone, NoMemory}

-- a fault of the graph
abbrev pub of_node_fault : NodeFault → EffectFault
of_node_fault node.Limit = Limit
of_node_fault node.Gone = Gone
of_node_fault node.NoMemory = NoMemory

-- a fault of the watchers; who isn't watched can't be let go
abbrev pub of_watch_fault : WatchFault → EffectFault
of_watch_fault watch.Limit = Limit
of_watch_fault watch.Gone = Gone
of_watch_fault watch.NotWatched = Gone
of_watch_fault watch.NoMemory = NoMemory

-- whether a set changed nothing
abbrev pub is_same : SetDone → Bool
is_same Same = true
is_same Accepted = false
