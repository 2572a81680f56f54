use Rattle.std.proofs.Common.{◌≡◌, ◌+◌, ◌++◌, ℕ, List, [], ◌∷◌, ap, sym, ◌∙◌, drop, get_or}
use Rattle.std.proofs.lemmas.List.{drop_more, drop_all}
use Rattle.page_model.specs.Forest.{keys}
use Rattle.page_tree.specs.Rows.{build, look, row_in, row_of}
use Rattle.page_tree.proofs.Lists.{step_out, last_out}
use Rattle.page_tree.proofs.Document.{keys_cons, keys_no_nodes, one_more}
use Rattle.page_tree.proofs.numbers.+numbers.Goals as goal

pub put_number-returns : goal.put_number-returns
put_number-returns t c =
    one_more c.args.levels (look c.args.nodes.now) c.args.id (row_of c.in-Some.node.now) c.args.out.now.items c.push.new.self.items c.put_numbers.new.out.items
    c.deref.result.now c.requires (ap row_in (sym c.in-Some.ensures.value)) c.in_ok-push.ensures.items c.deref.ensures.value c.in_ok-put_numbers.ensures

pub put_numbers-loop-id-preserved : goal.put_numbers-loop-id-preserved
put_numbers-loop-id-preserved t c =
    let i = c.loop-id.id-index in
    let ids = c.args.ids.now in
    let all : List ℕ → List ℕ = λ ns. keys (build c.args.levels (look c.args.nodes.now) ns) in
    let e : drop i ids ≡ get_or ids i 0 ∷ drop (i + 1) ids = drop_more ids i 0 c.loop-id-test.true in
    let f : all (drop i ids) ≡ all (get_or ids i 0 ∷ []) ++ all (drop (i + 1) ids) = ap all e ∙ keys_cons c.args.levels (look c.args.nodes.now) (get_or ids i 0) (drop (i + 1) ids) in
    step_out c.loop-id.out.items c.put_number.new.out.items (all (get_or ids i 0 ∷ [])) (all (drop (i + 1) ids)) (all (drop i ids)) (c.args.out.now.items ++ all ids) c.in_ok-put_number.ensures f c.loop-id.invariant

pub put_numbers-returns : goal.put_numbers-returns
put_numbers-returns t c =
    let ids = c.args.ids.now in
    let all : List ℕ → List ℕ = λ ns. keys (build c.args.levels (look c.args.nodes.now) ns) in
    let e : drop c.loop-id.id-index ids ≡ [] = drop_all c.loop-id.id-index ids c.loop-id-test.false in
    last_out c.loop-id.out.items (all (drop c.loop-id.id-index ids)) (c.args.out.now.items ++ all ids) (ap all e ∙ keys_no_nodes c.args.levels (look c.args.nodes.now)) c.loop-id.invariant
