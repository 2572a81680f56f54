use Rattle.std.proofs.Common.{drop, length, None, ap, ◌∙◌, arith}
use Rattle.std.proofs.lemmas.List.{length-drop}
use Rattle.std.specs.Map.{lookup}
use Rattle.tpl_model.specs.ShownNodes.Addresses.{same_address}
use Rattle.tpl_drawn.specs.Addresses.{noted, number_in}
use Rattle.tpl_drawn.specs.Lines.{lined}
use Rattle.page_tree.proofs.Shared.{no_items}
use Rattle.tpl_drawn.proofs.Numbered.Addresses.{all_noted, are_numbers, none_noted, one_noted}
use Rattle.tpl_drawn.proofs.marks.numbers.Numbers.of.Goals as goal

pub loop-address-init : goal.loop-address-init
loop-address-init c =
    let g = ap length c.into_iter-address-iterator.ensures.into_iter_gives.0 in
    let r = c.requires in
    none_noted c.into_iter-address-iterator.result.rest.items c.args.numbers.now (number_in c.in_ok-all.all) (omega (arith, g, r))
    (λ a. ap (lookup (same_address a)) c.in_ok-all.ensures.empty)

pub loop-address-preserved : goal.loop-address-preserved
loop-address-preserved c =
    one_noted c.into_iter-address-iterator.result.rest.items c.next.new.self.rest.items c.loop-address.address-iterator.rest.items c.args.numbers.now c.loop-address.at
    c.in-Some.address (number_in c.loop-address.all) (number_in c.note.new.all) c.in-Some.ensures.steps.0 c.in_ok-note.ensures c.loop-address.invariant

pub returns-clause-numbers : goal.returns-clause-numbers
returns-clause-numbers c = λ nodes root once addresses numbers.
    let rest = c.loop-address.address-iterator.rest in
    are_numbers c.args.addresses.items c.args.numbers.now nodes root (number_in c.loop-address.all)
    (λ a.
    all_noted c.into_iter-address-iterator.result.rest.items rest.items c.args.numbers.now c.loop-address.at (number_in c.loop-address.all)
    (no_items rest.items rest.len rest.ok.0 c.in-None.ensures.steps.0) c.loop-address.invariant a
    ∙ ap (λ z. noted z (drop 1 c.args.numbers.now) (λ b. None) a) c.into_iter-address-iterator.ensures.into_iter_gives.0)
    once addresses numbers

pub returns-clause-lines : goal.returns-clause-lines
returns-clause-lines c = λ k. c.in_ok-lines.ensures k ∙ (λ i. lined (c.deref.ensures.value i) (c.split_at.ensures.back i) (λ j. None) k)

pub lines_under-requires : goal.lines_under-requires
lines_under-requires c =
    let all = ap length c.deref.ensures.value in
    let below = ap length c.split_at.ensures.back in
    let cut = length-drop 1 c.args.numbers.now in
    let r = c.requires in
    omega (arith, all, below, cut, r)
