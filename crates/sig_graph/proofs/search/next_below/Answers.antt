use Rattle.std.proofs.Common.{◌+◌, Some, drop, if◌then◌else◌, ap, sym, ◌∙◌, arith}
use Rattle.sig_graph.specs.Search.{first_new}
use Rattle.sig_graph.proofs.Walks.{first_end, first_step}
use Rattle.sig_graph.proofs.search.next_below.Goals as goal

pub returns-in-Some-clause-next : goal.returns-in-Some-clause-next
returns-in-Some-clause-next c =
    let xs = c.args.nodes.now.items in
    let t = c.args.marks.now.marked in
    let ss = c.args.reached.now in
    let items = c.sources_at-source-items.result.now in
    let i = c.loop-source.source-index in
    let n = c.source-item.result in
    let step = first_step xs t ss items i n c.loop-source-test.true c.source-item.is in
    sym (step ∙ ap (λ b. if b then Some n else first_new xs t ss (drop (i + 1) items)) (sym c.in-Some.ensures.new))
    ∙ c.loop-source.invariant ∙ ap (first_new xs t ss) c.sources_at-source-items.ensures

pub loop-source-preserved : goal.loop-source-preserved
loop-source-preserved c =
    let xs = c.args.nodes.now.items in
    let t = c.args.marks.now.marked in
    let ss = c.args.reached.now in
    let items = c.sources_at-source-items.result.now in
    let i = c.loop-source.source-index in
    let n = c.source-item.result in
    let step = first_step xs t ss items i n c.loop-source-test.true c.source-item.is in
    sym (step ∙ ap (λ b. if b then Some n else first_new xs t ss (drop (i + 1) items)) (sym c.in_default.ensures.new))
    ∙ c.loop-source.invariant

pub returns-clause-next : goal.returns-clause-next
returns-clause-next c =
    let xs = c.args.nodes.now.items in
    let t = c.args.marks.now.marked in
    let ss = c.args.reached.now in
    let items = c.sources_at-source-items.result.now in
    sym (first_end xs t ss items c.loop-source.source-index (omega arith)) ∙ c.loop-source.invariant ∙ ap (first_new xs t ss) c.sources_at-source-items.ensures
