-- The lines of a script, their numbers, and the first word of a line.
use Rattle.std.specs.Prelude.{ℕ, ◌≡◌, ◌+◌, Bool, not, ◌||◌, ◌&&◌, ◌==◌, if◌then◌else◌, List, [], ◌∷◌, drop, length, slice_index}
use Rattle.std.specs.List.{filter, onto_first, prefix_len, take_while}
use Rattle.sig_base.specs.Words.{is_blank, begins_word, in_word}

-- the byte that ends a line
abbrev pub is_line_feed : ℕ → Bool
is_line_feed b = b == 10

-- a CR, of which one is dropped just before an LF
abbrev pub is_return : ℕ → Bool
is_return b = b == 13

-- the lines of a script: an LF ends each and is no part of it, nor is a CR just before it; the last may lack its LF
unfoldable pub lines : List ℕ → List (List ℕ)
lines [] = []
lines (b ∷ bs) =
    if is_line_feed b then [] ∷ lines bs
    else (if is_return b && is_line_feed (slice_index bs 0) then lines bs else onto_first b (lines bs))

-- a line and its number
abbrev pub NumberedLine : Type 0
NumberedLine = ℕ × List ℕ

-- the lines with their numbers, of which the first is n
unfoldable pub numbered : ℕ → List (List ℕ) → List NumberedLine
numbered n [] = []
numbered n (l ∷ ls) = (n, l) ∷ numbered (n + 1) ls

-- nothing, or bytes that end with LF
abbrev pub EndsLine : List ℕ → Type 0
EndsLine [] = Unit {0}
EndsLine (b ∷ []) = b ≡ 10
EndsLine (b ∷ c ∷ bs) = EndsLine (c ∷ bs)

-- what comes after the blanks
abbrev pub behind_blanks : List ℕ → List ℕ
behind_blanks l = drop (prefix_len is_blank l) l

-- whether a line is passed over: nothing but blanks, or `#` behind blanks
unfoldable pub is_passed : List ℕ → Bool
is_passed l = length (behind_blanks l) == 0 || slice_index (behind_blanks l) 0 == 35

-- the lines that aren't passed over
abbrev pub kept : List NumberedLine → List NumberedLine
kept ls = filter (λ l. not (is_passed l.1)) ls

-- the lines of a script that aren't passed over; its first line has the number n
unfoldable pub kept_lines : ℕ → List ℕ → List NumberedLine
kept_lines n script = kept (numbered n (lines script))

-- the number of the last of lines; 0 where there is none
abbrev pub last_number : List NumberedLine → ℕ
last_number [] = 0
last_number (l ∷ []) = l.0
last_number (l ∷ m ∷ ls) = last_number (m ∷ ls)

-- the word that stands at the front; none where another byte does
abbrev pub front_word : List ℕ → List ℕ
front_word [] = []
front_word (b ∷ bs) = if begins_word b then take_while in_word (b ∷ bs) else []

-- the word at a line's beginning, behind blanks
abbrev pub first_word : List ℕ → List ℕ
first_word l = front_word (behind_blanks l)

-- a line's bytes without a CR at their end
abbrev pub without_return : List ℕ → List ℕ
without_return [] = []
without_return (b ∷ bs) = if is_return b && length bs == 0 then [] else b ∷ without_return bs
