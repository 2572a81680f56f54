use Rattle.std.proofs.Common.{subst}
use Rattle.sig_formula.specs.declared.parts.Part.{Part}
use Rattle.sig_formula.specs.Trees.{tree}
use Rattle.sig_formula.specs.Turns.{IsPartRead}
use Rattle.sig_formula.proofs.InTurn.{first_asked}
use Rattle.sig_formula.proofs.turns.part_decided.Goals as goal

pub returns-in-Slot : goal.returns-in-Slot
returns-in-Slot c = λ a known first h.
    first_asked (tree c.args.f.now) a known c.in-Slot.slot first (subst (λ (p : Part). IsPartRead p a known) c.in-Slot.is h)

pub returns-in_default : goal.returns-in_default
returns-in_default c = λ a known first h. tt
