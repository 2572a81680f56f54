-- A front of the bytes and what follows it.
use Rattle.std.proofs.Common.{◌≡◌, ℕ, ◌-◌, List, ◌++◌, length, take, drop, sym, ◌∙◌, ap, append_assoc}
use Rattle.std.specs.declared.option.Option.{Option}
use Rattle.std.specs.Io.KnownBytes.{Appends}
use Rattle.std.proofs.KnownBytes.{Appends-trans}
use Rattle.std.proofs.lemmas.List.{take-append-drop, take_rest}

-- a list is its front, and then what a slice from there on has
rejoined : (n : ℕ) (xs : List ℕ) → xs ≡ take n xs ++ take (length xs - n) (drop n xs)
rejoined n xs = sym (take-append-drop n xs) ∙ ap (λ ys. take n xs ++ ys) (sym (take_rest xs n))

-- after more of the rest was taken, more of the bytes was
pub front_more : (first now next : Option (List ℕ)) (bytes rest : List ℕ) (n : ℕ) → ((front : List ℕ) × (bytes ≡ front ++ rest) × Appends first now front) → Appends now next (take n rest) → (front : List ℕ) × (bytes ≡ front ++ take (length rest - n) (drop n rest)) × Appends first next front
front_more first now next bytes rest n before more = (
  before.0 ++ take n rest,
  before.1 ∙ ap (λ ys. before.0 ++ ys) (rejoined n rest) ∙ sym (append_assoc before.0 (take n rest) (take (length rest - n) (drop n rest))),
  Appends-trans first now next before.0 (take n rest) before.2 more,
)
