use Rattle.std.proofs.Common.{◌∙◌}
use Rattle.page_follow.proofs.Lookups.{any_tree}
use Rattle.page_follow.proofs.page.is_mounted.Goals as goal

pub returns : goal.returns
returns c = c.is_among-among.ensures ∙ any_tree c.args.name.now c.args.pages.now
