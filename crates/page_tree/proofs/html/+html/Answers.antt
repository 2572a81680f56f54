use Rattle.std.proofs.Common.{◌≡◌, ◌+◌, ◌++◌, ℕ, List, [], ◌∷◌, ap, ◌∙◌, drop, get_or}
use Rattle.std.proofs.lemmas.List.{drop_more, drop_all}
use Rattle.page_model.specs.Html.{html_in}
use Rattle.page_tree.specs.Rows.{build, look}
use Rattle.page_tree.proofs.Lists.{step_out, last_out}
use Rattle.page_tree.proofs.Bytes.{shows_cons, shows_none}
use Rattle.page_tree.proofs.html.+html.Goals as goal

pub write_nodes-loop-id-preserved : goal.write_nodes-loop-id-preserved
write_nodes-loop-id-preserved t c =
    let i = c.loop-id.id-index in
    let ids = c.args.ids.now in
    let shows : List ℕ → List ℕ = λ ns. html_in c.args.raw (build c.args.levels (look c.args.nodes.now) ns) in
    let e : drop i ids ≡ get_or ids i 0 ∷ drop (i + 1) ids = drop_more ids i 0 c.loop-id-test.true in
    let f : shows (drop i ids) ≡ shows (get_or ids i 0 ∷ []) ++ shows (drop (i + 1) ids) = ap shows e ∙ shows_cons c.args.raw c.args.levels (look c.args.nodes.now) (get_or ids i 0) (drop (i + 1) ids) in
    step_out c.loop-id.out.items c.write_node.new.out.items (shows (get_or ids i 0 ∷ [])) (shows (drop (i + 1) ids)) (shows (drop i ids)) (c.args.out.now.items ++ shows ids) c.in_ok-next.ensures f c.loop-id.invariant

pub write_nodes-returns : goal.write_nodes-returns
write_nodes-returns t c =
    let ids = c.args.ids.now in
    let shows : List ℕ → List ℕ = λ ns. html_in c.args.raw (build c.args.levels (look c.args.nodes.now) ns) in
    let e : drop c.loop-id.id-index ids ≡ [] = drop_all c.loop-id.id-index ids c.loop-id-test.false in
    last_out c.loop-id.out.items (shows (drop c.loop-id.id-index ids)) (c.args.out.now.items ++ shows ids) (ap shows e ∙ shows_none c.args.raw c.args.levels (look c.args.nodes.now)) c.loop-id.invariant
