use Rattle.tpl_drawn.specs.Addresses.{number_in}
use Rattle.tpl_drawn.proofs.Numbered.Addresses.{AreWaiting}
use Rattle.tpl_drawn.proofs.marks.numbers.note_numbers.Given as goal

-- the addresses that are left have the next numbers, and with them all are noted
abbrev pub invariant-loop-address : goal.invariant-loop-address
invariant-loop-address l =
    AreWaiting l.initial.address-iterator.rest.items l.address-iterator.rest.items l.initial.number l.number (number_in l.initial.all) (number_in l.all)
