use Rattle.std.proofs.Common.{ap, ◌∙◌}
use Rattle.std.specs.Option.{option_copied}
use Rattle.tpl_drawn.specs.Addresses.{number_at}
use Rattle.tpl_drawn.proofs.Numbered.Addresses.{address_is}
use Rattle.tpl_drawn.proofs.marks.numbers.Numbers.number_of.Goals as goal

pub returns : goal.returns
returns c =
    c.number_found.ensures ∙ ap (number_at c.args.self.now) (address_is c.in_ok-address.address c.args.line (option_copied c.args.key) c.in_ok-address.ensures)
