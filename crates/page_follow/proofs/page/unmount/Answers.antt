use Rattle.std.proofs.Common.{rules, ap, ◌∙◌}
use Rattle.std.proofs.lemmas.Fn.{filter_same}
use Rattle.page_follow.specs.Views.{pages_of}
use Rattle.page_follow.proofs.Lookups.{others_left}
use Rattle.page_follow.proofs.page.unmount.Goals as goal

pub returns : goal.returns
returns c = ap pages_of (filter_same _ _ _ (λ x b f' k. search rules) _ _ c.retain.ensures.filtered) ∙ others_left c.args.name.now c.args.pages.now.items
