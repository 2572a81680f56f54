-- Numbered lines, those behind others.
use Rattle.std.proofs.Common.{◌≡◌, ℕ, ◌+◌, List, [], ◌∷◌, ◌++◌, length, refl, ap, ◌∙◌, arith}
use Rattle.script_lines.specs.Lines.{NumberedLine, numbered}

pub numbered_one : (n : ℕ) (l : List ℕ) → numbered n (l ∷ []) ≡ (n, l) ∷ []
unfolding numbered
numbered_one n l = refl

-- lines behind others have the numbers behind theirs
pub numbered-append : (n : ℕ) (xs ys : List (List ℕ)) → numbered n (xs ++ ys) ≡ numbered n xs ++ numbered (n + length xs) ys
unfolding numbered
numbered-append n [] ys = let same : n ≡ n + 0 = omega arith in ap (λ (k : ℕ). numbered k ys) same
numbered-append n (x ∷ xs) ys =
    let same : (n + 1) + length xs ≡ n + length (x ∷ xs) = omega arith in
    ap (λ (ls : List NumberedLine). (n, x) ∷ ls) (numbered-append (n + 1) xs ys ∙ ap (λ (k : ℕ). numbered (n + 1) xs ++ numbered k ys) same)
