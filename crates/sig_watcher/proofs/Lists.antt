-- Lists from which something is taken out, and results.
use Rattle.std.proofs.Common.{◌≡◌, ℕ, ◌==◌, not, Bool, true, false, cond, List, [], ◌∷◌, refl, ap, subst}
use Rattle.std.specs.List.{filter}
use Rattle.std.specs.Prelude.{Result, Err, IsErrAnd}
use Rattle.signal_model.specs.Signals.{without}

-- what doesn't have a name is left
pub without_filter : {A : Type 0} (name : A → ℕ) (n : ℕ) (xs : List A) → filter (λ x. not (n == name x)) xs ≡ without name n xs
without_filter name n [] = refl
without_filter name n (x ∷ xs) = go (n == name x) (without_filter name n xs)
  where
    go : (b : Bool) → filter (λ y. not (n == name y)) xs ≡ without name n xs → cond (not b) (x ∷ filter (λ y. not (n == name y)) xs) (filter (λ y. not (n == name y)) xs) ≡ cond b (without name n xs) (x ∷ without name n xs)
    go true ih = ih
    go false ih = ap (λ ys. x ∷ ys) ih

-- what holds of an error holds of the one that it is
pub err_at : {T E : Type 0} (r : Result T E) (P : E → Type 0) (e : E) → IsErrAnd r P → r ≡ Err e → P e
err_at r P e h is = subst (λ x. IsErrAnd x P) is h
