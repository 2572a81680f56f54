use Rattle.std.proofs.Common.{arith, ◌∙◌, ap, List, reverse}
use Rattle.sig_formula.specs.declared.rounds.Round.{Round}
use Rattle.sig_formula.specs.Machines.{Machine, first_of, out}
use Rattle.sig_formula.proofs.Tops.{remaining, taken}
use Rattle.sig_formula.proofs.machine.Machine.leave.Goals as goal

pub returns-clause-round : goal.returns-clause-round
returns-clause-round c =
    taken c.pop.result c.self.inside.rounds.items c.pop.new.self.items _ _ _ (omega arith) (omega arith) c.pop.ensures.items c.pop.ensures.cases
    ∙ ap (λ (m : Machine). first_of m.rounds) c.self.view_is

pub returns-clause-rest : goal.returns-clause-rest
returns-clause-rest c =
    ap (λ (rs : List Round). let m : Machine = record { left = c.self.inside.left; values = reverse c.self.inside.values.items; rounds = rs } in m)
    (remaining c.pop.result c.self.inside.rounds.items c.pop.new.self.items _ _ _ (omega arith) (omega arith) c.pop.ensures.items c.pop.ensures.cases)
    ∙ ap out c.self.view_is
