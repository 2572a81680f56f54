use Rattle.std.proofs.Common.{◌∙◌, ◌-◌, ap, length, List}
use Rattle.std.specs.Prelude.{slice_get}
use Rattle.sig_formula.specs.declared.rounds.Round.{Round}
use Rattle.sig_formula.specs.Machines.{Machine, first_of}
use Rattle.sig_formula.proofs.Tops.{last_first}
use Rattle.sig_formula.proofs.machine.Machine.innermost.Goals as goal

pub returns : goal.returns
returns c =
    c.last.ensures.value
    ∙ (ap (λ (rs : List Round). slice_get rs (length rs - 1)) c.deref.ensures.value
    ∙ (last_first c.self.inside.rounds.items ∙ ap (λ (m : Machine). first_of m.rounds) c.self.view_is))
