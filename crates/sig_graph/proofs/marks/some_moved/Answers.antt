use Rattle.std.proofs.Common.{◌+◌, ◌||◌, [], drop, sym, ap, ◌∙◌}
use Rattle.signal_model.specs.Memos.{some_moved, sources_in}
use Rattle.sig_graph.specs.Parts.{memos_of}
use Rattle.sig_graph.proofs.Searches.{moved_step}
use Rattle.sig_graph.proofs.marks.some_moved.Goals as goal

pub returns-then-has_moved : goal.returns-then-has_moved
returns-then-has_moved c =
    let ss = sources_in c.args.computation.now.memo in
    let rest = some_moved (memos_of 0 c.args.nodes.now.items) [] (drop (c.loop-place.place + 1) ss) in
    sym (moved_step c.args.nodes.now.items ss c.loop-place.place ∙ ap (λ b. b || rest) (sym c.has_moved.ensures ∙ c.if-has_moved.true)) ∙ c.loop-place.invariant

pub loop-place-preserved : goal.loop-place-preserved
loop-place-preserved c =
    let ss = sources_in c.args.computation.now.memo in
    let rest = some_moved (memos_of 0 c.args.nodes.now.items) [] (drop (c.loop-place.place + 1) ss) in
    sym (moved_step c.args.nodes.now.items ss c.loop-place.place ∙ ap (λ b. b || rest) (sym c.has_moved.ensures ∙ c.if-has_moved.false)) ∙ c.loop-place.invariant
