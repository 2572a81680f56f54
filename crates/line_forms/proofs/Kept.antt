-- The lines of a text that was printed are the lines that were printed.
use Rattle.std.proofs.Common.{◌≡◌, ℕ, ◌+◌, true, false, List, [], ◌∷◌, ◌++◌, length, map, flat_map, codes, refl, sym, ap, ◌∙◌, append_assoc, arith}
use Rattle.std.specs.Prelude.{◌==◌}
use Rattle.std.specs.List.{AllByRecursion, list_all}
use Rattle.std.proofs.lemmas.Bool.{and_parts, ne_eqb}
use Rattle.std.proofs.lemmas.Bool.Decides.{nat_tests}
use Rattle.std.proofs.lemmas.List.{append-nil}
use Rattle.std.proofs.lemmas.List.Folds.{flat_map-map}
use Rattle.sig_base.specs.Words.{begins_word, in_word, is_blank, is_word}
use Rattle.script_lines.specs.Lines.{NumberedLine, is_passed, kept_lines, lines, numbered}
use Rattle.script_lines.proofs.Shared.{kept_first}
use Rattle.line_forms.specs.Blocks.{Places, Say, Writes, said_all}
use Rattle.line_forms.specs.Printed.{ended, form_text, line_text}
use Rattle.line_forms.specs.Rows.{Language, Said}
use Rattle.line_forms.proofs.Lexer.{rewrites}
use Rattle.line_forms.proofs.OneLine.{in_line, is_line, whole_line}

-- bytes that are one line, which isn't passed over
abbrev pub IsWhole : List ℕ → Type 0
IsWhole bytes = (is_line bytes ≡ true) × (is_passed bytes ≡ false)

-- ---- one line

-- an LF ends the line before it
split_line : (bytes rest : List ℕ) → is_line bytes ≡ true → lines (bytes ++ 10 ∷ rest) ≡ bytes ∷ lines rest
unfolding lines
split_line [] rest h = refl
split_line (b ∷ bs) rest h =
    let both = and_parts (in_line b) (is_line bs) h in
    let feed : (b == 10) ≡ false = grind (arith, nat_tests) in
    let back : (b == 13) ≡ false = grind (arith, nat_tests) in
    rw (feed, back, split_line bs rest both.1) refl

-- what begins with a word isn't passed over
word_first : (b : ℕ) → begins_word b ≡ true → (is_blank b ≡ false) × ((b == 35) ≡ false)
word_first b h = (grind (arith, nat_tests), grind (arith, nat_tests))

not_passed : (w rest : List ℕ) → is_word w ≡ true → is_passed (w ++ rest) ≡ false
unfolding is_passed
not_passed [] rest h = absurd cc
not_passed (b ∷ bs) rest h =
    let first = word_first b (and_parts (begins_word b) (list_all in_word (b ∷ bs)) h).0 in
    let some : (length (b ∷ (bs ++ rest)) == 0) ≡ false = ne_eqb (length (b ∷ (bs ++ rest))) 0 (λ e. omega arith) in
    rw (first.0, some, first.1) refl

-- what is printed of a line is one line, which isn't passed over
pub said_whole : (language : Language) (x : Said language) (bytes : List ℕ) → Writes language x bytes → IsWhole (line_text language x)
said_whole language x bytes w =
    let r = rewrites language bytes w.tokens x w.cut w.spelled in
    let text = form_text (language.row x.0).1 x.1 in
    (whole_line (language.row x.0).0 (language.row x.0).1 x.1 r.first r.parts, not_passed (language.row x.0).0 text r.first)

-- it stands first, and the others behind it
kept_line : (n : ℕ) (bytes more : List ℕ) → IsWhole bytes → kept_lines n (ended bytes ++ more) ≡ (n, bytes) ∷ kept_lines (n + 1) more
kept_line n bytes more w =
    kept_first n (ended bytes ++ more) bytes more (ap lines (append_assoc bytes (codes "\n") more) ∙ split_line bytes more w.0) w.1

-- ---- lines one after the other

-- lines stand first, and the others behind them
pub kept_all : (n : ℕ) (ls : List (List ℕ)) (more : List ℕ) → AllByRecursion IsWhole ls
    → kept_lines n (flat_map ended ls ++ more) ≡ numbered n ls ++ kept_lines (n + length ls) more
unfolding numbered
kept_all n [] more s = let same : n ≡ n + 0 = omega arith in ap (λ (k : ℕ). kept_lines k more) same
kept_all n (l ∷ ls) more s =
    let same : (n + 1) + length ls ≡ n + length (l ∷ ls) = omega arith in
    ap (kept_lines n) (append_assoc (ended l) (flat_map ended ls) more) ∙ kept_line n l (flat_map ended ls ++ more) s.0
    ∙ ap (λ (ms : List NumberedLine). (n, l) ∷ ms)
    (kept_all (n + 1) ls more s.1 ∙ ap (λ (k : ℕ). numbered (n + 1) ls ++ kept_lines k more) same)

no_kept : (n : ℕ) → kept_lines n [] ≡ []
unfolding kept_lines lines numbered
no_kept n = refl

-- each that is printed of what lines say is whole
pub all_whole : {P : Type 0} (language : Language) (at : Places (Said language) P) (p : P) (ls : List NumberedLine) (xs : List (ℕ × Said language))
    → Say language at p ls xs → AllByRecursion IsWhole (map (line_text language) (said_all xs))
all_whole language at p [] [] s = tt
all_whole language at p [] (x ∷ xs) s = absurd s
all_whole language at p (l ∷ ls) [] s = absurd s
all_whole language at p (l ∷ ls) (x ∷ xs) s = (said_whole language x.1 l.1 s.1, all_whole language at (at.moved p x.1) ls xs s.3)

-- the lines of their text are those that were printed
pub kept_said : (language : Language) (n : ℕ) (xs : List (Said language)) → AllByRecursion IsWhole (map (line_text language) xs)
    → kept_lines n (flat_map (λ x. ended (line_text language x)) xs) ≡ numbered n (map (line_text language) xs)
kept_said language n xs s =
    let ls = map (line_text language) xs in
    ap (kept_lines n) (sym (flat_map-map ended (line_text language) xs) ∙ sym (append-nil (flat_map ended ls))) ∙ kept_all n ls [] s
    ∙ ap (λ (ms : List NumberedLine). numbered n ls ++ ms) (no_kept (n + length ls)) ∙ append-nil (numbered n ls)
