use Rattle.std.proofs.Common.{map, rules, subst}
use Rattle.std.specs.List.Sorted.{IsPermutation}
use Rattle.std.proofs.lemmas.List.Sorted.{IsNonDecreasingBy-from_sort_by_key, IsPermutation-map}
use Rattle.tpl_model.specs.ShownNodes.Shapes.{mark_of}
use Rattle.tpl_drawn.proofs.comparing.comparer.compared.Goals as goal

pub returns-clause-touched : goal.returns-clause-touched
returns-clause-touched c = λ known k.
    subst (λ z. IsPermutation z (map mark_of c.sort_by_key.new.self.items)) (c.in_ok-out.ensures.touched known k)
    (IsPermutation-map mark_of c.in_ok-out.out.touched.items c.sort_by_key.new.self.items c.sort_by_key.ensures.permutation)

pub returns-clause-restated : goal.returns-clause-restated
returns-clause-restated c = λ known k.
    subst (λ z. IsPermutation z (map mark_of c.sort_by_key-2.new.self.items)) (c.in_ok-out.ensures.restated known k)
    (IsPermutation-map mark_of c.in_ok-out.out.restated.items c.sort_by_key-2.new.self.items c.sort_by_key-2.ensures.permutation)

pub returns-clause-touched_sorted : goal.returns-clause-touched_sorted
returns-clause-touched_sorted c = IsNonDecreasingBy-from_sort_by_key (λ m. m.number) _ c.in_ok-sort_by_key.ensures.sorted (λ a r q k. search rules)

pub returns-clause-restated_sorted : goal.returns-clause-restated_sorted
returns-clause-restated_sorted c = IsNonDecreasingBy-from_sort_by_key (λ m. m.number) _ c.in_ok-sort_by_key-2.ensures.sorted (λ a r q k. search rules)
