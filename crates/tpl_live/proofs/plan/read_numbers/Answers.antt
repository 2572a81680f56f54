use Rattle.std.proofs.Common.{◌≡◌, ◌++◌, length, map, sym, ap, ◌∙◌, arith}
use Rattle.std.proofs.lemmas.List.{length-map}
use Rattle.page_model.specs.Forest.{keys}
use Rattle.tpl_drawn.specs.Addresses.{number_at}
use Rattle.tpl_model.specs.ShownNodes.Addresses.{address_of}
use Rattle.tpl_model.specs.ShownNodes.Shapes.{all_shown}
use Rattle.tpl_drawn.specs.Lines.{line_at}
use Rattle.tpl_live.proofs.Followed.{known_numbers}
use Rattle.tpl_live.proofs.Lined.{lined_so}
use Rattle.tpl_live.proofs.Numbered.{known_so}
use Rattle.tpl_live.proofs.plan.read_numbers.Goals as goal

pub of-requires : goal.of-requires
of-requires c =
    let below = all_shown c.args.nodes.items in
    let a : map address_of c.put_addresses.new.out.items ≡ keys below =
    c.in_ok-put_addresses.ensures ∙ ap (λ z. map address_of z ++ keys below) c.new-addresses.ensures.items in
    let n : c.put_numbers.new.out.items ≡ keys c.args.tree.now =
    c.in_ok-put_numbers.ensures ∙ ap (λ z. z ++ keys c.args.tree.now) c.new-all.ensures.items in
    let many = sym (length-map c.put_addresses.new.out.items address_of) ∙ ap length a in
    let count = ap length n in
    let all = c.requires in
    rw c.deref.ensures.value (omega (arith, many, count, all))

pub returns : goal.returns
returns c =
    let below = all_shown c.args.nodes.items in
    let a : map address_of c.put_addresses.new.out.items ≡ keys below =
    c.in_ok-put_addresses.ensures ∙ ap (λ z. map address_of z ++ keys below) c.new-addresses.ensures.items in
    let n : c.put_numbers.new.out.items ≡ keys c.args.tree.now =
    c.in_ok-put_numbers.ensures ∙ ap (λ z. z ++ keys c.args.tree.now) c.new-all.ensures.items in
    record {
      lines = λ p q shape stands. lined_so p below c.args.tree.now (line_at c.in_ok-numbers.numbers) c.put_addresses.new.out.items c.put_numbers.new.out.items
          (rw c.deref.ensures.value at c.in_ok-numbers.ensures.lines) a n q shape stands;
      numbers = λ p q shape stands. known_numbers p c.args.tree.now (number_at c.in_ok-numbers.numbers) q stands
          (known_so p below c.args.tree.now (number_at c.in_ok-numbers.numbers) (map address_of c.put_addresses.new.out.items) c.put_numbers.new.out.items
          (rw c.deref.ensures.value at c.in_ok-numbers.ensures.numbers) a n q shape stands);
    }
