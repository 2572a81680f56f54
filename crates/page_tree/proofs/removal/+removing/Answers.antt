use Rattle.std.proofs.Common.{◌≡◌, ◌+◌, [], ◌∷◌, sym, ap, ◌∙◌, arith, drop, get_or}
use Rattle.std.proofs.lemmas.List.{drop_more, drop_all}
use Rattle.page_tree.specs.Rows.{look, cut, gone, children_of, row_in}
use Rattle.page_tree.proofs.Cuts.{cut_cons, cut_nil, cut_same, gone_is}
use Rattle.page_tree.proofs.removal.+removing.Goals as goal

pub remove_all-loop-id-preserved : goal.remove_all-loop-id-preserved
remove_all-loop-id-preserved t c = λ q. (
    let i = c.loop-id.id-index in
    let ids = c.args.ids.now in
    let rows = look c.loop-id.nodes in
    let e : drop i ids ≡ get_or ids i 0 ∷ drop (i + 1) ids = drop_more ids i 0 c.loop-id-test.true in
    cut_cons c.args.levels (get_or ids i 0) (drop (i + 1) ids) rows (look c.remove_one.new.nodes) (omega arith) c.remove_one.ensures q
    ∙ (ap (λ zs. cut c.args.levels zs rows q) (sym e) ∙ c.loop-id.invariant q))

pub remove_all-returns : goal.remove_all-returns
remove_all-returns t c = λ q. (
    let ids = c.args.ids.now in
    let e : drop c.loop-id.id-index ids ≡ [] = drop_all c.loop-id.id-index ids c.loop-id-test.false in
    sym (ap (λ f. f q) (cut_nil c.args.levels (look c.loop-id.nodes)))
    ∙ (ap (λ zs. cut c.args.levels zs (look c.loop-id.nodes) q) (sym e) ∙ c.loop-id.invariant q))

pub remove_one-returns : goal.remove_one-returns
remove_one-returns t c = λ q. (
    let e : c.deref.result.now ≡ children_of (look c.args.nodes.now c.args.id) = c.deref.ensures.value ∙ ap (λ o. children_of (row_in o)) c.in-Some.ensures.value in
    c.remove_all.ensures q
    ∙ (ap (λ zs. cut c.args.levels zs (look c.swap_remove.new.self) q) e
    ∙ cut_same c.args.levels (children_of (look c.args.nodes.now c.args.id)) (look c.swap_remove.new.self) (gone c.args.id (look c.args.nodes.now)) (λ p. gone_is c.args.id p _ _ (c.swap_remove.ensures.updates.0 p)) q))
