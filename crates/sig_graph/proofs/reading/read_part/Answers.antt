use Rattle.std.proofs.Common.{List, subst, sym}
use Rattle.sig_base.specs.declared.value.Known.{Known}
use Rattle.sig_formula.specs.declared.parts.Part.{Part}
use Rattle.sig_formula.specs.declared.parts.Part.TheVariants as part
use Rattle.sig_formula.specs.Operations.{IsPartTold}
use Rattle.sig_formula.specs.Trees.{Tree, slot, tree}
use Rattle.sig_formula.specs.Turns.{IsPartRead}
use Rattle.sig_formula.proofs.Shared.{part_read, slot_asked}
use Rattle.sig_graph.proofs.ReadOn.{asked_now}
use Rattle.sig_graph.proofs.reading.read_part.Goals as goal

pub read_needed-requires-clause-unknown : goal.read_needed-requires-clause-unknown
read_needed-requires-clause-unknown c =
    let t = tree c.args.part.now in
    (subst (λ (ks : List Known). IsPartTold (part.Slot c.in-Slot.slot) t ks) c.deref.ensures.value
    (subst (λ (p : Part). IsPartTold p t c.deref.result.now) c.in-Slot.is c.part_told-told.ensures)).1

pub read_needed-requires-clause-needed : goal.read_needed-requires-clause-needed
read_needed-requires-clause-needed c =
    let t = tree c.args.part.now in
    let told = subst (λ (ks : List Known). IsPartTold (part.Slot c.in-Slot.slot) t ks) c.deref.ensures.value
    (subst (λ (p : Part). IsPartTold p t c.deref.result.now) c.in-Slot.is c.part_told-told.ensures) in
    asked_now c.args.computation.now.recipe t c.args.known.now.items c.in-Slot.slot c.requires
    (slot_asked t c.in-Slot.slot c.args.known.now.items told.0 told.1)

pub returns-in_ok-read-in-Slot-clause-part : goal.returns-in_ok-read-in-Slot-clause-part
returns-in_ok-read-in-Slot-clause-part c =
    let t = tree c.args.part.now in
    let told = subst (λ (ks : List Known). IsPartTold (part.Slot c.in-Slot.slot) t ks) c.deref.ensures.value
    (subst (λ (p : Part). IsPartTold p t c.deref.result.now) c.in-Slot.is c.part_told-told.ensures) in
    let read = c.in_ok-read-in-Slot.read in
    let known = c.read_needed.new.known.items in
    subst (λ (u : Tree). IsPartRead read u known) (sym told.0) (part_read read (slot c.in-Slot.slot) known c.in_ok-read-in-Slot.ensures.part)

pub returns-in_default-clause-part : goal.returns-in_default-clause-part
returns-in_default-clause-part c =
    let t = tree c.args.part.now in
    let told = c.part_told-told.result in
    part_read told t c.args.known.now.items (subst (λ (ks : List Known). IsPartTold told t ks) c.deref.ensures.value c.part_told-told.ensures)
