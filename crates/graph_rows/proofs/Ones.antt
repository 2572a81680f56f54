-- Lists of one.
use Rattle.std.proofs.Common.{◌≡◌, ℕ, zero, suc, Bool, true, List, [], ◌∷◌, sym, subst, arith}
use Rattle.std.specs.List.{All}

-- the one of a list passes
pub one_passes : (test : ℕ → Bool) (n : ℕ) (ns : List ℕ) → ns ≡ n ∷ [] → test n ≡ true → All (λ m. test m ≡ true) ns
one_passes test n ns is h = subst (λ ms. All (λ m. test m ≡ true) ms) (sym is) here
  where
    here : All (λ m. test m ≡ true) (n ∷ [])
    here zero d l = h
    here (suc k) d l = absurd (omega (arith, l))
