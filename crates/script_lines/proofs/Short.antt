-- The lines of a short block are short.
use Rattle.std.proofs.Common.{◌≡◌, ◌≤◌, ◌+◌, ℕ, List, [], ◌∷◌, length, inl, inr, arith, suc, zero}
use Rattle.std.specs.Prelude.{◌&&◌, slice_index}
use Rattle.std.specs.List.{All, onto_first}
use Rattle.std.proofs.lemmas.Bool.{cases_Bool}
use Rattle.script_lines.specs.Lines.{NumberedLine, is_line_feed, is_passed, is_return, kept, kept_lines, lines, numbered}

-- each line has at most so many bytes
abbrev AreShort : ℕ → List (List ℕ) → Type 0
AreShort n [] = Unit {0}
AreShort n (l ∷ ls) = (length l ≤ n) × AreShort n ls

shorter : (n : ℕ) (ls : List (List ℕ)) → AreShort n ls → AreShort (n + 1) ls
shorter n [] h = tt
shorter n (l ∷ ls) h = (omega arith, shorter n ls h.1)

longer_first : (n b : ℕ) (ls : List (List ℕ)) → AreShort n ls → AreShort (n + 1) (onto_first b ls)
longer_first n b [] h = (omega arith, tt)
longer_first n b (l ∷ ls) h = (omega arith, shorter n ls h.1)

lines_short : (bs : List ℕ) → AreShort (length bs) (lines bs)
unfolding lines
lines_short [] = tt
lines_short (b ∷ bs) =
    let next : length (b ∷ bs) ≡ length bs + 1 = omega arith in
    elim (cases_Bool (is_line_feed b)) [
      | inl e ↦ rw (next, e) (omega arith, shorter (length bs) (lines bs) (lines_short bs))
      | inr e ↦ elim (cases_Bool (is_return b && is_line_feed (slice_index bs 0))) [
        | inl f ↦ rw (next, e, f) (shorter (length bs) (lines bs) (lines_short bs))
        | inr f ↦ rw (next, e, f) (longer_first (length bs) b (lines bs) (lines_short bs))
      ]
    ]

-- the same of lines with numbers
abbrev AllShort : ℕ → List NumberedLine → Type 0
AllShort n [] = Unit {0}
AllShort n (l ∷ ls) = (length l.1 ≤ n) × AllShort n ls

numbered_short : (n k : ℕ) (ls : List (List ℕ)) → AreShort n ls → AllShort n (numbered k ls)
unfolding numbered
numbered_short n k [] h = tt
numbered_short n k (l ∷ ls) h = (h.0, numbered_short n (k + 1) ls h.1)

kept_short : (n : ℕ) (ls : List NumberedLine) → AllShort n ls → AllShort n (kept ls)
kept_short n [] h = tt
kept_short n (l ∷ ls) h = elim (cases_Bool (is_passed l.1)) [
  | inl e ↦ rw e (kept_short n ls h.1)
  | inr e ↦ rw e (h.0, kept_short n ls h.1)
]

all_short : (n : ℕ) (ls : List NumberedLine) → AllShort n ls → n ≤ 4096 → All (λ l. length l.1 ≤ 4096) ls
all_short n [] h m k d within = absurd (omega arith)
all_short n (l ∷ ls) h m zero d within = omega (arith, h.0)
all_short n (l ∷ ls) h m (suc k) d within = all_short n ls h.1 m k d (omega arith)

-- the lines of a block of at most 4,096 bytes that aren't passed over
pub short_lines : (block : List ℕ) → length block ≤ 4096 → All (λ l. length l.1 ≤ 4096) (kept_lines 0 block)
unfolding kept_lines
short_lines block h =
    all_short (length block) (kept (numbered 0 (lines block)))
    (kept_short (length block) (numbered 0 (lines block)) (numbered_short (length block) 0 (lines block) (lines_short block))) h
