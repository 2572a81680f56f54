use Rattle.tpl_drawn.specs.Addresses.{number_in}
use Rattle.tpl_drawn.proofs.Numbered.Addresses.{AreLeft}
use Rattle.tpl_drawn.proofs.marks.numbers.Numbers.of.Given as goal

-- as many numbers as addresses are left, and with these all are noted
abbrev pub invariant-loop-address : goal.invariant-loop-address
invariant-loop-address l = AreLeft l.initial.address-iterator.rest.items l.address-iterator.rest.items l.numbers l.at (number_in l.all)
