-- Numbers by their digits.
use Rattle.std.proofs.Common.{◌≡◌, ◌<◌, ◌+◌, ◌*◌, ◌^◌, ℕ, [], ◌∷◌, ◌++◌, ◌∙◌, arith}
use Rattle.std.specs.Fmt.{decimal}
use Rattle.std.proofs.lemmas.Fmt.{decimal_step}
use Rattle.std.proofs.lemmas.Nat.{div-mul-add, mod-mul-add}

-- one more digit behind those of a number that isn't 0
pub one_more : (n d : ℕ) → 0 < n → d < 10 → n * 10 + d < 2 ^ 64 → decimal (n * 10 + d) ≡ decimal n ++ (48 + d) ∷ []
one_more n d some few small = decimal_step (n * 10 + d) (omega arith) small ∙ (λ i. decimal (div-mul-add n 10 d few i) ++ (48 + mod-mul-add n 10 d few i) ∷ [])
