-- Numbers as keys.
use Rattle.std.specs.Prelude.{◌≡◌, ℕ, nat_eq, Decides}
use Rattle.std.proofs.Common.{eqb-true, eq-eqb}

-- two numbers are equal exactly where they are the same
pub numbers_decide : (x y : ℕ) → Decides (nat_eq x y) (x ≡ y)
numbers_decide x y = (λ e. eqb-true x y e, λ e. eq-eqb x y e)
