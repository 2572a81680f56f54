use Rattle.std.proofs.Common.{List, sym, subst}
use Rattle.sig_base.specs.declared.value.Known.{Known}
use Rattle.sig_nodes.specs.Computations.{GoesOn, Computation, known_so_far}
use Rattle.sig_nodes.specs.Pauses.{IsHeld}
use Rattle.sig_nodes.proofs.Sources.{going}
use Rattle.sig_nodes.proofs.Pauses.{held_more}
use Rattle.sig_nodes.proofs.node.Computation.ask.Goals as goal

pub asked-requires : goal.asked-requires
asked-requires c =
    let noted = known_so_far c.self.inside.asked c.self.inside.known.items in
    let on = going c.self.inside.computing noted c.args.known.now (subst (λ (s : Computation). GoesOn s.known c.args.known.now) (sym c.self.view_is) c.requires) in
    let anew = c.forget_earlier.ensures.held c.self.inside.recipe c.self.invariant in
    let taken = subst (λ h. IsHeld h c.self.inside.recipe c.forget_earlier.new.known.items) (sym c.take-held.ensures.value) anew in
    let held = subst (λ (known : List Known). IsHeld c.take-held.result c.self.inside.recipe known) c.forget_earlier.ensures.known taken in
    held_more c.take-held.result c.self.inside.recipe c.in-Formula.formula noted c.args.known.now c.in-Formula.is on.0 held
