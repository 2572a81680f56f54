use Rattle.std.proofs.Common.{ap, ◌∙◌}
use Rattle.tpl_drawn.specs.Addresses.{noted_from, number_in}
use Rattle.page_tree.proofs.Shared.{no_items}
use Rattle.tpl_drawn.proofs.Numbered.Addresses.{all_waiting, none_waiting, one_less}
use Rattle.tpl_drawn.proofs.marks.numbers.note_numbers.Goals as goal

pub loop-address-init : goal.loop-address-init
loop-address-init c = all_waiting c.into_iter-address-iterator.result.rest.items c.args.from (number_in c.args.all.now)

pub loop-address-preserved : goal.loop-address-preserved
loop-address-preserved c =
    one_less c.into_iter-address-iterator.result.rest.items c.next.new.self.rest.items c.loop-address.address-iterator.rest.items c.args.from c.loop-address.number
    c.in-Some.address (number_in c.args.all.now) (number_in c.loop-address.all) _ c.in-Some.ensures.steps.0 c.in_ok-note.ensures c.loop-address.invariant

pub returns : goal.returns
returns c =
    let rest = c.loop-address.address-iterator.rest in
    λ a.
    none_waiting c.into_iter-address-iterator.result.rest.items rest.items c.args.from c.loop-address.number (number_in c.args.all.now)
    (number_in c.loop-address.all) (no_items rest.items rest.len rest.ok.0 c.in-None.ensures.steps.0) c.loop-address.invariant a
    ∙ ap (λ z. noted_from z c.args.from (number_in c.args.all.now) a) c.into_iter-address-iterator.ensures.into_iter_gives.0
