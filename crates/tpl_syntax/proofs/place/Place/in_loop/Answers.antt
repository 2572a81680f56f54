use Rattle.std.proofs.Common.{sym, ◌∙◌}
use Rattle.tpl_syntax.proofs.Ends.{any_reverse}
use Rattle.tpl_syntax.specs.Places.{is_loop}
use Rattle.tpl_syntax.proofs.place.Place.in_loop.Goals as goal

pub returns : goal.returns
returns c = (rw c.deref.ensures.value at c.any_loop.ensures) ∙ sym (any_reverse is_loop c.args.self.now.levels.items)
