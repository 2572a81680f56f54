use Rattle.std.proofs.Common.{◌∙◌}
use Rattle.page_wire.proofs.Listed.{any_listed}
use Rattle.page_wire.proofs.told.is_among.Goals as goal

pub returns : goal.returns
returns c = c.has_name-among.ensures ∙ any_listed c.args.name.now c.args.names.now
