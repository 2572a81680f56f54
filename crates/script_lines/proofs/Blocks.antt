-- The lines of a block one after another, and the last of them.
use Rattle.std.proofs.Common.{◌≡◌, ◌<◌, ◌≤◌, ◌+◌, ℕ, zero, suc, ◌-◌, List, [], ◌∷◌, ◌++◌, length, map, get_or, drop, refl, sym, ap, subst, ◌∙◌, append_assoc, arith}
use Rattle.std.specs.List.{All}
use Rattle.std.proofs.lemmas.List.{append-nil, drop_more, map-append}
use Rattle.script_lines.specs.declared.line.NumberedLine as held
use Rattle.script_lines.specs.Lines.{NumberedLine, last_number}
use Rattle.script_lines.specs.Views.{line_of}

-- one line after another
pub next_line : (lines : List held.NumberedLine) (l : held.NumberedLine) (ks ms all : List NumberedLine) → ks ≡ line_of l ∷ ms
    → map line_of lines ++ ks ≡ all → map line_of (lines ++ l ∷ []) ++ ms ≡ all
next_line lines l ks ms all e h =
    ap (λ (ls : List NumberedLine). ls ++ ms) (map-append line_of lines (l ∷ []))
    ∙ append_assoc (map line_of lines) (line_of l ∷ []) ms
    ∙ ap (λ (rs : List NumberedLine). map line_of lines ++ rs) (sym e) ∙ h

-- no more lines
pub no_lines : (lines : List held.NumberedLine) (ks all : List NumberedLine) → ks ≡ [] → map line_of lines ++ ks ≡ all → map line_of lines ≡ all
no_lines lines ks all e h = sym (append-nil (map line_of lines)) ∙ ap (λ (rs : List NumberedLine). map line_of lines ++ rs) (sym e) ∙ h

-- the number of the last line
pub last_is : (ls : List held.NumberedLine) (d : held.NumberedLine) → 0 < length ls → (get_or ls (length ls - 1) d).number ≡ last_number (map line_of ls)
last_is [] d h = absurd (omega arith)
last_is (l ∷ []) d h = refl
last_is (l ∷ m ∷ ls) d h =
    let next : length (l ∷ m ∷ ls) - 1 ≡ suc (length (m ∷ ls) - 1) = omega arith in
    rw next (last_is (m ∷ ls) d (omega arith))

-- the lines from a place on are the one there and those behind it
pub lines_from : (ls : List held.NumberedLine) (i : ℕ) (d : held.NumberedLine) → i < length ls
    → map line_of (drop i ls) ≡ line_of (get_or ls i d) ∷ map line_of (drop (i + 1) ls)
lines_from ls i d h = ap (map line_of) (drop_more ls i d h)

-- lines that are held and have at most so many bytes
pub short_held : (n : ℕ) (ls : List held.NumberedLine) (all : List NumberedLine) → map line_of ls ≡ all → All (λ l. length l.1 ≤ n) all → All (λ l. length l.text.now ≤ n) ls
short_held n ls all e h = held_short ls (subst (λ (ms : List NumberedLine). All (λ l. length l.1 ≤ n) ms) (sym e) h)
  where
    held_short : (ls : List held.NumberedLine) → All (λ l. length l.1 ≤ n) (map line_of ls) → All (λ l. length l.text.now ≤ n) ls
    held_short [] h k d within = absurd (omega arith)
    held_short (l ∷ ls) h zero d within = h 0 (line_of d) (omega arith)
    held_short (l ∷ ls) h (suc k) d within = held_short ls (λ j e w. h (suc j) e (omega arith)) k d (omega arith)
