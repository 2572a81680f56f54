use Rattle.std.proofs.Common.{ℕ, List, ◌∙◌}
use Rattle.page_model.specs.Pages.{tree_of}
use Rattle.event_model.specs.Handlers.{awaited_at, fired_at}
use Rattle.event_model.specs.declared.awaited.Awaited.{Awaited}
use Rattle.event_model.specs.declared.fired.Fired.{Fired}
use Rattle.tpl_live.specs.Contents.{standing}
use Rattle.tpl_live.specs.Pages.{page_in}
use Rattle.page_events.proofs.Ways.{all_put}
use Rattle.page_events.proofs.handlers.Handlers.fired.Goals as goal

pub returns-clause-fired : goal.returns-clause-fired
returns-clause-fired c = λ lines links st.
    let s = standing c.args.page.now in
    let at : List Awaited → ℕ → List Fired = λ hs m. fired_at hs (awaited_at (page_in s) c.args.template c.args.event.now m) m in
    all_put at c.deref.result.now c.args.self.now c.args.id s.tree (tree_of (page_in s)) c.new-fired.result.items c.put_way.new.out.items (c.deref.ensures.value ∙ c.self.view_is)
    c.new-fired.ensures.items st.keeps.stands (c.in_ok-put_way.ensures lines links st)
