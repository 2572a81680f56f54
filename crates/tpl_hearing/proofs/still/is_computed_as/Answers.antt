use Rattle.signal_model.specs.Signals.{standing}
use Rattle.sig_graph.specs.States.{is_computing}
use Rattle.tpl_hearing.proofs.Unmoved.{computed_kind_is}
use Rattle.tpl_hearing.proofs.still.is_computed_as.Goals as goal

pub keeps_clean-requires : goal.keeps_clean-requires
keeps_clean-requires c =
    computed_kind_is (standing c.args.graph.now.state.signals c.args.id) (is_computing c.args.graph.now.state c.args.id) c.in-Computed.ensures
