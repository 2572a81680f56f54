use Rattle.std.proofs.Common.{◌≡◌, ◌++◌, ◌||◌, ℕ, ap, ◌∙◌, nat_eq}
use Rattle.indexmap.specs.IndexMap.{get}
use Rattle.page_model.specs.Forest.{keys, on}
use Rattle.page_tree.specs.Subs.{sub_tree}
use Rattle.page_ops.specs.Numbers.{first_of, is_again, mark, often}
use Rattle.page_ops.proofs.Subtrees.{used_is}
use Rattle.page_ops.proofs.numbers.first_used.Goals as goal

pub returns : goal.returns
returns c =
    let numbers = c.put_numbers.new.out.items in
    let e : numbers ≡ keys (sub_tree c.args.sub.now) = c.in_ok-put_numbers.ensures ∙ ap (λ zs. zs ++ keys (sub_tree c.args.sub.now)) c.new-numbers.ensures.items in
    let f : (q : ℕ) → get nat_eq c.in_ok-seen.seen q ≡ mark (often q numbers) = λ q. c.in_ok-seen.ensures q ∙ ap (λ ns. mark (often q ns)) c.deref.ensures.value in
    let g = used_is (sub_tree c.args.sub.now) c.args.tree.now (get nat_eq c.in_ok-seen.seen) numbers e f in
    c.first_number.ensures ∙ (ap (first_of (λ n. on n c.args.tree.now || is_again (get nat_eq c.in_ok-seen.seen n))) c.deref-2.ensures.value ∙ g)
