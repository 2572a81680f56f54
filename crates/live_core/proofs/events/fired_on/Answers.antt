use Rattle.std.proofs.Common.{Err, ◌∙◌, sym, ap}
use Rattle.event_model.specs.Handlers.{awaited_at, fired_at, fired_on}
use Rattle.std.specs.List.{flat_map}
use Rattle.page_model.specs.Replay.{below_root}
use Rattle.tpl_live.specs.Contents.{standing}
use Rattle.tpl_live.specs.Pages.{page_in}
use Rattle.page_events.proofs.Shared.{no_way_at}
use Rattle.live_core.proofs.Handled.{node_told}
use Rattle.live_core.proofs.events.fired_on.Goals as goal

pub returns-in-Ok : goal.returns-in-Ok
returns-in-Ok c = λ lines links st.
    c.in-Ok.ensures.fired lines links st
    ∙ ap (λ t. fired_on c.args.handlers.now (page_in (standing c.args.page.now.page)) t c.args.node c.args.event.now) c.of-template.ensures

pub returns-in-Err-NoNode : goal.returns-in-Err-NoNode
returns-in-Err-NoNode c = λ lines links st.
    let s = standing c.args.page.now.page in
    let e = c.in-Err-NoNode.ensures in
    let off = sym (ap (below_root c.args.node) st.keeps.stands) ∙ e.no_node.0 (ap Err (node_told _ _ _ c.in-Err-NoNode.field-0-is e.fault)) in
    c.new.ensures.items
    ∙ ap (flat_map (λ m. fired_at c.args.handlers.now (awaited_at (page_in s) c.args.page.now.template c.args.event.now m) m)) (sym (no_way_at c.args.node _ off))
