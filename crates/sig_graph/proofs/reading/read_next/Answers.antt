use Rattle.std.proofs.Common.{List, subst}
use Rattle.sig_base.specs.declared.value.Known.{Known}
use Rattle.sig_formula.specs.declared.at_once.Told.{Told}
use Rattle.sig_nodes.specs.Reading.{IsNeeded, IsToldOf}
use Rattle.sig_graph.proofs.reading.read_next.Goals as goal

pub read_slot-requires : goal.read_slot-requires
read_slot-requires c =
    let r = c.args.computation.now.recipe in
    subst (λ (ks : List Known). IsNeeded r ks c.in-Slot.slot) c.deref.ensures.value
    (subst (λ (t : Told). IsToldOf r c.deref.result.now t c.told.new.outcome) c.in-Slot.is c.in_ok-slot.ensures)
