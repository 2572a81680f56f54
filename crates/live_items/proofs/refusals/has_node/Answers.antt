use Rattle.std.proofs.Common.{◌∙◌, is_some, ap}
use Rattle.page_model.specs.Replay.{below_root}
use Rattle.tpl_live.specs.Contents.{standing}
use Rattle.live_items.proofs.Found.{some_tested}
use Rattle.live_items.proofs.refusals.has_node.Goals as goal

pub returns : goal.returns
returns c =
    let tree = (standing c.args.page.now.page).tree in
    c.is_some.ensures ∙ ap is_some c.parent_of.ensures ∙ some_tested (below_root c.args.node tree) _
    ∙ ap (below_root c.args.node) c.requires.stands.keeps.stands
