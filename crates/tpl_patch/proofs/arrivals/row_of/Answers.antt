use Rattle.std.proofs.Common.{◌≡◌, [], ◌∷◌, ◌+◌, refl, sym, ap, ◌∙◌, map, drop}
use Rattle.std.proofs.lemmas.List.{drop_more, drop_all}
use Rattle.page_model.specs.Forest.{none}
use Rattle.tpl_scratch.specs.Pages.{Numbered, nodes_of, with_nodes}
use Rattle.tpl_model.specs.ShownNodes.Shapes.{child_of}
use Rattle.tpl_patch.specs.Moves.{arrivals, next_numbers}
use Rattle.tpl_patch.proofs.Subtrees.{child_came, child_numbered, child_sound, children_came, children_numbered}
use Rattle.tpl_patch.proofs.arrivals.row_of.Goals as goal

pub loop-child-init : goal.loop-child-init
loop-child-init c = record { sound = c.requires; numbers = rw c.in_ok-numbers.ensures.items refl; put = rw c.new-subs.ensures.items refl }

pub put_child-requires : goal.put_child-requires
put_child-requires c =
    let i = c.loop-child.child-index in
    let xs = c.args.children.now in
    let x = c.child-item.result in
    let rest : drop i xs ≡ x ∷ drop (i + 1) xs = drop_more xs i x c.loop-child-test.true ∙ ap (λ z. z ∷ drop (i + 1) xs) (sym c.child-item.is) in
    (child_sound (map child_of (drop i xs)) (map child_of (drop (i + 1) xs)) (child_of x) (ap (map child_of) rest) c.loop-child.invariant.sound).0

pub loop-child-preserved : goal.loop-child-preserved
loop-child-preserved c =
    let i = c.loop-child.child-index in
    let xs = c.args.children.now in
    let x = c.child-item.result in
    let rest : drop i xs ≡ x ∷ drop (i + 1) xs = drop_more xs i x c.loop-child-test.true ∙ ap (λ z. z ∷ drop (i + 1) xs) (sym c.child-item.is) in
    let all = map child_of (drop i xs) in
    let left = map child_of (drop (i + 1) xs) in
    record {
      sound = (child_sound all left (child_of x) (ap (map child_of) rest) c.loop-child.invariant.sound).1;
      numbers = child_numbered all left (child_of x) c.loop-child.coming.next c.put_child.new.coming.next c.loop-child.numbers.items c.put_child.new.numbers.items
          (next_numbers c.args.next (map child_of xs)) (ap (map child_of) rest) c.in_ok-put_child.ensures.numbers
          (ap (λ (n : Numbered). n.next) c.in_ok-put_child.ensures.coming) c.loop-child.invariant.numbers;
      put = child_came all left (child_of x) (nodes_of c.loop-child.coming) (nodes_of c.put_child.new.coming)
          (with_nodes (record { nodes = none; next = c.args.next }) (arrivals (map child_of xs))) (ap (map child_of) rest) c.in_ok-put_child.ensures.coming c.loop-child.invariant.put;
    }

pub returns-clause-numbers : goal.returns-clause-numbers
returns-clause-numbers c =
    let done : drop c.loop-child.child-index c.args.children.now ≡ [] = drop_all c.loop-child.child-index c.args.children.now c.loop-child-test.false in
    children_numbered (map child_of (drop c.loop-child.child-index c.args.children.now)) c.loop-child.coming.next c.loop-child.numbers.items
    (next_numbers c.args.next (map child_of c.args.children.now)) (ap (map child_of) done) c.loop-child.invariant.numbers

pub returns-clause-coming : goal.returns-clause-coming
returns-clause-coming c =
    let done : drop c.loop-child.child-index c.args.children.now ≡ [] = drop_all c.loop-child.child-index c.args.children.now c.loop-child-test.false in
    children_came (map child_of (drop c.loop-child.child-index c.args.children.now)) (nodes_of c.loop-child.coming)
    (with_nodes (record { nodes = none; next = c.args.next }) (arrivals (map child_of c.args.children.now))) (ap (map child_of) done) c.loop-child.invariant.put
