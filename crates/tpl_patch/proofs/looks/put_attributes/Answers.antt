use Rattle.std.proofs.Common.{◌≡◌, ◌∷◌, ◌+◌, ◌++◌, arith, sym, ap, ◌∙◌, map, drop}
use Rattle.std.proofs.lemmas.List.{drop_more, drop_all}
use Rattle.page_model.specs.Forest.{label_in}
use Rattle.page_model.specs.Labels.{Root}
use Rattle.page_ops.specs.Ops.{op_of}
use Rattle.page_tree.specs.Rows.{attributes_of}
use Rattle.tpl_model.specs.NextPage.KeptNodes.{attributes_told}
use Rattle.tpl_patch.proofs.Said.{line_told, lines_told, no_element}
use Rattle.tpl_patch.proofs.looks.put_attributes.Goals as goal

pub returns-in_default : goal.returns-in_default
returns-in_default c = λ name.
    no_element c.args.number (label_in Root c.args.number c.args.tree.now) name c.args.attributes.now (map op_of c.args.ops.now.items) c.in_default.ensures

pub loop-line-preserved : goal.loop-line-preserved
loop-line-preserved c =
    let i = c.loop-line.line-index in
    let xs = c.args.attributes.now in
    let k = label_in Root c.args.number c.args.tree.now in
    let x = c.line-item.result in
    let rest : drop i xs ≡ x ∷ drop (i + 1) xs = drop_more xs i x c.loop-line-test.true ∙ ap (λ z. z ∷ drop (i + 1) xs) (sym c.line-item.is) in
    record {
      within = omega (arith, c.loop-line.invariant.within, c.in_ok-place.ensures.within);
      told = line_told c.args.number k x (drop i xs) (drop (i + 1) xs) c.loop-line.place c.in_ok-place.place
          (map op_of c.args.ops.now.items ++ attributes_told c.args.number (attributes_of k) xs 0) (map op_of c.loop-line.ops.items) (map op_of c.put_line.new.ops.items)
          rest c.in_ok-place.ensures.is c.loop-line.invariant.told;
    }

pub returns : goal.returns
returns c = λ name.
    lines_told c.args.number (label_in Root c.args.number c.args.tree.now) _ name c.args.attributes.now (drop c.loop-line.line-index c.args.attributes.now)
    c.loop-line.place (map op_of c.args.ops.now.items) (map op_of c.loop-line.ops.items) c.in-Some.ensures
    (drop_all c.loop-line.line-index c.args.attributes.now c.loop-line-test.false) c.loop-line.invariant.told
