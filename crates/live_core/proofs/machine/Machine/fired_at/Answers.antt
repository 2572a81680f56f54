use Rattle.std.proofs.Common.{◌∙◌, List, Option, map, sym, ap, subst}
use Rattle.event_model.specs.Handlers.{fired_on}
use Rattle.event_model.specs.declared.awaited.Awaited.{Awaited}
use Rattle.live_model.specs.Handlers.{fired_of}
use Rattle.live_model.specs.Machine.{page_at}
use Rattle.live_model.specs.Pages.{Page}
use Rattle.live_pages.specs.Updates.{AreStanding}
use Rattle.live_pages.specs.Views.{page_of}
use Rattle.tpl_live.specs.Contents.{standing}
use Rattle.tpl_live.specs.Pages.{page_in}
use Rattle.live_core.specs.Views.{handlers_of}
use Rattle.live_core.proofs.Handled.{awaited_same}
use Rattle.live_core.proofs.machine.Machine.fired_at.Goals as goal

pub returns-in_default : goal.returns-in_default
returns-in_default c = λ asked.
    let m = c.args.self.now in
    let hs = handlers_of m.handlers m.scripts.items in
    let number = c.of-number.ensures ∙ c.number_of.ensures in
    c.new.ensures.items
    ∙ ap (λ (o : Option Page). fired_of hs o c.args.node c.args.event.now) (sym c.in_default.ensures.found)
    ∙ (λ i. fired_of hs (page_at (map page_of (c.deref.ensures.value i)) (number i)) c.args.node c.args.event.now)

pub returns : goal.returns
returns c = λ asked.
    let m = c.args.self.now in
    let hs = handlers_of m.handlers m.scripts.items in
    let number = c.of-number.ensures ∙ c.number_of.ensures in
    let p = c.in-Some.shown.now in
    let st = c.in-Some.ensures.stands (subst AreStanding (sym c.deref.ensures.value) c.requires) in
    c.in_ok-fired.ensures st.lines st.links st.stands
    ∙ ap (λ (ws : List Awaited). fired_on ws (page_in (standing p.page)) p.template c.args.node c.args.event.now) (sym (awaited_same m.handlers m.scripts.items))
    ∙ ap (λ (o : Option Page). fired_of hs o c.args.node c.args.event.now) (sym c.in-Some.ensures.found)
    ∙ (λ i. fired_of hs (page_at (map page_of (c.deref.ensures.value i)) (number i)) c.args.node c.args.event.now)
