-- Lines that are too long, among those that are held.
use Rattle.std.proofs.Common.{◌≡◌, ◌≤◌, Bool, false, List, [], ◌∷◌, length, map, refl, sym, ◌∙◌, inl, inr, arith}
use Rattle.std.specs.Prelude.{nat_lt, slice_index_or}
use Rattle.std.specs.List.{list_any, All}
use Rattle.std.proofs.lemmas.Bool.{cases_Bool}
use Rattle.std.proofs.lemmas.Bool.Decides.{nat_tests}
use Rattle.std.proofs.lemmas.List.Elements.{All-head, All-tail}
use Rattle.std.proofs.lemmas.List.Folds.{list_any_at}
use Rattle.sig_base.specs.declared.limits.TheConstants.{MOST_LINE}
use Rattle.script_lines.specs.declared.line.NumberedLine as held
use Rattle.script_lines.specs.Views.{line_of}
use Rattle.script_items.specs.Items.{any_long}

any_map : {A B : Type 0} (p : B → Bool) (f : A → B) (xs : List A) → list_any p (map f xs) ≡ list_any (λ x. p (f x)) xs
any_map p f [] = refl
any_map p f (x ∷ xs) = let rest = any_map p f xs in rw rest refl

-- a line that is too long is looked for among the lines that are held
any_long_held : (ls : List held.NumberedLine) → any_long (map line_of ls) ≡ list_any (λ l. nat_lt MOST_LINE (length l.text.now)) ls
any_long_held ls = any_map (λ l. nat_lt MOST_LINE (length l.1)) line_of ls

-- where none is too long, each is short enough
all_short : (ls : List held.NumberedLine) → any_long (map line_of ls) ≡ false → All (λ l. length l.text.now ≤ MOST_LINE) ls
all_short ls e k d h = elim (cases_Bool (nat_lt MOST_LINE (length (slice_index_or ls k d).text.now))) [
  | inl t ↦
      let found = list_any_at (λ l. nat_lt MOST_LINE (length l.text.now)) ls k d h t in
      let none = sym (any_long_held ls) ∙ e in
      absurd cc
  | inr f ↦ grind (arith, nat_tests)
]

-- so is the first line then, and each of those behind it
pub first_short : (l : held.NumberedLine) (ls : List held.NumberedLine) → any_long (line_of l ∷ map line_of ls) ≡ false → length l.text.now ≤ MOST_LINE
first_short l ls e = All-head (λ l. length l.text.now ≤ MOST_LINE) l ls (all_short (l ∷ ls) e)

pub others_short : (l : held.NumberedLine) (ls : List held.NumberedLine) → any_long (line_of l ∷ map line_of ls) ≡ false → All (λ l. length l.text.now ≤ MOST_LINE) ls
others_short l ls e = All-tail (λ l. length l.text.now ≤ MOST_LINE) l ls (all_short (l ∷ ls) e)

-- where the first line is short enough, one of those behind it is too long or none
pub others_long : (l : held.NumberedLine) (ls : List held.NumberedLine) (b : Bool) → length l.text.now ≤ MOST_LINE
    → b ≡ list_any (λ k. nat_lt MOST_LINE (length k.text.now)) ls → b ≡ any_long (line_of l ∷ map line_of ls)
others_long l ls b h e = let f : nat_lt MOST_LINE (length l.text.now) ≡ false = grind (arith, nat_tests) in rw f (e ∙ sym (any_long_held ls))
