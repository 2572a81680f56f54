use Rattle.std.proofs.Common.{arith, ◌∙◌, ap, List, reverse}
use Rattle.sig_base.specs.declared.value.Value.{Value}
use Rattle.sig_formula.specs.Machines.{Machine, first_of, popped}
use Rattle.sig_formula.proofs.Tops.{remaining, taken}
use Rattle.sig_formula.proofs.machine.Machine.pop.Goals as goal

pub returns-clause-value : goal.returns-clause-value
returns-clause-value c =
    taken c.pop.result c.self.inside.values.items c.pop.new.self.items _ _ _ (omega arith) (omega arith) c.pop.ensures.items c.pop.ensures.cases
    ∙ ap (λ (m : Machine). first_of m.values) c.self.view_is

pub returns-clause-rest : goal.returns-clause-rest
returns-clause-rest c =
    ap (λ (vs : List Value). let m : Machine = record { left = c.self.inside.left; values = vs; rounds = reverse c.self.inside.rounds.items } in m)
    (remaining c.pop.result c.self.inside.values.items c.pop.new.self.items _ _ _ (omega arith) (omega arith) c.pop.ensures.items c.pop.ensures.cases)
    ∙ ap popped c.self.view_is
