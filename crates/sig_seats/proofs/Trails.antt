-- The last of a list, which is the first of what it stands for.
use Rattle.std.proofs.Common.{◌≡◌, ℕ, ◌+◌, List, [], ◌∷◌, ◌++◌, length, Option, Some, None, refl, sym, ap, ◌∙◌, arith}
use Rattle.std.specs.Prelude.{reverse, option_to_list, IfNone, IfSome, MatchOption}
use Rattle.std.proofs.lemmas.List.{reverse-append}

nothing : (xs : List ℕ) → length xs ≡ 0 → xs ≡ []
nothing [] e = refl
nothing (x ∷ xs) e = absurd (omega (arith, e))

pub popped_some : (o : Option ℕ) (old xs ys : List ℕ) → reverse xs ≡ old → xs ≡ ys ++ option_to_list o → IfSome o (λ n. old ≡ n ∷ reverse ys)
popped_some None old xs ys v e = tt
popped_some (Some n) old xs ys v e = sym v ∙ ap reverse e ∙ reverse-append ys (n ∷ [])

pub popped_none : (o : Option ℕ) (old xs : List ℕ) (count rest : ℕ) → reverse xs ≡ old → count ≡ length xs → MatchOption o ((count ≡ 0) × (rest ≡ 0)) (λ n. rest + 1 ≡ count) → IfNone o (old ≡ [])
popped_none None old xs count rest v len e = sym v ∙ ap reverse (nothing xs (sym len ∙ e.0))
popped_none (Some n) old xs count rest v len e = tt
