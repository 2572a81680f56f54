-- Lines that are noted one after the other.
use Rattle.std.proofs.Common.{◌≡◌, ℕ, ◌+◌, ◌==◌, cond, Option, Some, List, [], ◌∷◌, ap}
use Rattle.tpl_model.specs.declared.shown.Address.{Address}
use Rattle.tpl_drawn.specs.Lines.{lined, lined_from}

-- what is noted rests on what was noted
same_lined : (xs : List Address) (ns : List ℕ) (m l : ℕ → Option ℕ) → ((k : ℕ) → m k ≡ l k) → (k : ℕ) → lined xs ns m k ≡ lined xs ns l k
same_lined [] ns m l e k = e k
same_lined (x ∷ xs) [] m l e k = e k
same_lined (x ∷ xs) (n ∷ ns) m l e k =
    same_lined xs ns (λ j. cond (n == j) (Some x.line) (m j)) (λ j. cond (n == j) (Some x.line) (l j)) (λ j. ap (λ z. cond (n == j) (Some x.line) z) (e j)) k

same_from : (xs : List Address) (n : ℕ) (m l : ℕ → Option ℕ) → ((k : ℕ) → m k ≡ l k) → (k : ℕ) → lined_from xs n m k ≡ lined_from xs n l k
same_from [] n m l e k = e k
same_from (x ∷ xs) n m l e k =
    same_from xs (n + 1) (λ j. cond (n == j) (Some x.line) (m j)) (λ j. cond (n == j) (Some x.line) (l j)) (λ j. ap (λ z. cond (n == j) (Some x.line) z) (e j)) k

-- the first, and then the others
pub first_lined : (xs : List Address) (x : Address) (ns : List ℕ) (n : ℕ) (old now : ℕ → Option ℕ) → ((k : ℕ) → now k ≡ cond (n == k) (Some x.line) (old k)) →
    (k : ℕ) → lined xs ns now k ≡ lined (x ∷ xs) (n ∷ ns) old k
first_lined xs x ns n old now e k = same_lined xs ns now (λ j. cond (n == j) (Some x.line) (old j)) e k

pub first_from : (xs : List Address) (x : Address) (n : ℕ) (old now : ℕ → Option ℕ) → ((k : ℕ) → now k ≡ cond (n == k) (Some x.line) (old k)) →
    (k : ℕ) → lined_from xs (n + 1) now k ≡ lined_from (x ∷ xs) n old k
first_from xs x n old now e k = same_from xs (n + 1) now (λ j. cond (n == j) (Some x.line) (old j)) e k
