use Rattle.std.proofs.Common.{◌≡◌, ◌-◌, suc, arith}
use Rattle.page_model.specs.Forest.{parent}
use Rattle.event_model.specs.Handlers.{awaited_at, fired_at}
use Rattle.event_model.specs.Ways.{line_on}
use Rattle.tpl_live.specs.Contents.{standing}
use Rattle.tpl_live.specs.Pages.{page_in}
use Rattle.page_events.proofs.Ways.{no_steps_put, nowhere_put, way_put}
use Rattle.page_events.proofs.way.+put_way.Goals as goal

pub returns-then-steps-eq0 : goal.returns-then-steps-eq0
returns-then-steps-eq0 t c = λ lines links st.
    let s = standing c.args.page.now in
    no_steps_put (λ m. fired_at c.args.all.now (awaited_at (page_in s) c.args.template c.args.event.now m) m) c.args.steps c.args.node s.tree c.args.out.now.items
    c.if-steps-eq0.true

pub returns-in_default : goal.returns-in_default
returns-in_default t c = λ lines links st.
    let s = standing c.args.page.now in
    nowhere_put (λ m. fired_at c.args.all.now (awaited_at (page_in s) c.args.template c.args.event.now m) m) c.args.steps c.args.node (parent c.args.node s.tree) s.tree _
    c.args.out.now.items c.in_default.is c.parent_of.ensures

pub returns-in_default-line_of : goal.returns-in_default-line_of
returns-in_default-line_of t c = λ lines links st.
    let s = standing c.args.page.now in
    nowhere_put (λ m. fired_at c.args.all.now (awaited_at (page_in s) c.args.template c.args.event.now m) m) c.args.steps c.args.node (line_on (page_in s) c.args.node) s.tree _
    c.args.out.now.items c.in_default-line_of.is (c.line_of.ensures lines links st)

pub returns : goal.returns
returns t c = λ lines links st.
    let s = standing c.args.page.now in
    let steps : c.args.steps ≡ suc (c.args.steps - 1) = let some = c.if-steps-eq0.false in omega (arith, some) in
    way_put (λ k m. fired_at c.args.all.now (record { template = c.args.template; line = k; event = c.args.event.now }) m) (line_on (page_in s)) c.args.steps (c.args.steps - 1)
    c.args.node c.in-Some.parent c.in-Some-line_of.line s.tree _ _ c.args.out.now.items c.put_waiting.new.out.items c.put_way.new.out.items steps
    c.in-Some.is c.parent_of.ensures c.in-Some-line_of.is (c.line_of.ensures lines links st) c.in_ok-put_waiting.ensures (c.in_ok-put_way.ensures lines links st)
