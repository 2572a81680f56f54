-- Effects stand in the order of making.
use Rattle.std.proofs.Common.{◌≡◌, ℕ, zero, suc, ◌+◌, ◌<◌, ◌≤◌, ◌++◌, List, [], ◌∷◌, sym, ap, subst, ◌∙◌, arith}
use Rattle.std.specs.List.{AllByRecursion}
use Rattle.effect_tables.specs.declared.effect.Effect.{Effect}
use Rattle.effect_tables.specs.Consistency.{AreOrdered, AreRising}
use Rattle.effect_tables.proofs.Rows.{all_behind, all_weaker}

rising_more : (n : ℕ) (xs : List Effect) (x : Effect) → n ≤ x.id → AllByRecursion (λ (y : Effect). y.id < x.id) xs → AreRising n xs → AreRising n (xs ++ x ∷ [])
rising_more n [] x l below r = (l, tt)
rising_more n (y ∷ ys) x l below r = (r.0, rising_more (suc y.id) ys x (let b : y.id < x.id = below.0 in omega (arith, b)) below.1 r.1)

-- one more, with the number that comes next
pub ordered_more : (made : ℕ) (xs : List Effect) (x : Effect) → x.id ≡ made → AreOrdered made xs → AreOrdered (made + 1) (xs ++ x ∷ [])
ordered_more made xs x is o = record {
  rising = rising_more 0 xs x (omega arith) (subst (λ k. AllByRecursion (λ (y : Effect). y.id < k) xs) (sym is) o.below) o.rising;
  below = all_behind (λ (y : Effect). y.id < made + 1) xs x (all_weaker (λ (y : Effect). y.id < made) (λ (y : Effect). y.id < made + 1) xs (λ y l. omega (arith, l)) o.below) (omega (arith, is));
}
