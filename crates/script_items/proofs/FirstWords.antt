-- A command by itself begins no block, so it is all of its piece.
use Rattle.std.proofs.Common.{◌≡◌, ℕ, ◌+◌, ◌-◌, suc, true, false, List, [], ◌∷◌, ◌++◌, take, drop, refl, sym, ap, subst, ◌∙◌, arith, inl, inr, codes}
use Rattle.std.specs.Prelude.{◌==◌, ◌||◌, slice_index}
use Rattle.std.specs.List.{list_all, prefix_len, take_while, AllByRecursion}
use Rattle.std.specs.Str.{bytes_eq}
use Rattle.std.proofs.lemmas.Bool.{and_parts, cases_Bool}
use Rattle.std.proofs.lemmas.Bool.Decides.{nat_tests}
use Rattle.std.proofs.lemmas.List.{drop-drop, take-append-drop}
use Rattle.std.proofs.lemmas.List.Sums.{take_while-cons}
use Rattle.sig_base.specs.Words.{begins_word, in_word, is_blank, is_word}
use Rattle.sig_words.specs.declared.token.Token.{Token}
use Rattle.sig_words.specs.declared.token.TokenKind.{TokenKind}
use Rattle.sig_words.specs.declared.token.TokenKind.TheVariants as kind
use Rattle.sig_words.specs.Lexemes.{Lexeme, word, lexeme, lexeme_of, lexemes, text_at}
use Rattle.sig_words.specs.Tokens.{Cuts, Ends, Form}
use Rattle.line_forms.specs.Forms.{Args}
use Rattle.script_lines.specs.Lines.{NumberedLine, behind_blanks, first_word, front_word, kept_lines}
use Rattle.script_lines.specs.Pieces.{Place, outside, inside, begins_block, level_after, pieces, pieces_of}
use Rattle.live_cmd.specs.declared.command.Bare.TheVariants as bares
use Rattle.live_cmd.specs.declared.command.Verb.TheVariants as verbs
use Rattle.live_cmd.specs.Grammar.{Row, row, Said, Writes, bare, effect, on, template, verb, is_alone}
use Rattle.script_items.specs.Items.{IsSingle}

-- ---- the first word of a line is that of its row

behind : (bs rest : List ℕ) → list_all is_blank bs ≡ true → is_blank (slice_index rest 0) ≡ false → behind_blanks (bs ++ rest) ≡ rest
behind [] [] h e = refl
behind [] (b ∷ rest) h e = rw e refl
behind (b ∷ bs) rest h e =
    let both = and_parts (is_blank b) (list_all is_blank bs) h in
    let s : 1 + prefix_len is_blank (bs ++ rest) ≡ suc (prefix_len is_blank (bs ++ rest)) = omega arith in
    rw (both.0, s) (behind bs rest both.1 e)

taken : (w rest : List ℕ) → list_all in_word w ≡ true → in_word (slice_index rest 0) ≡ false → take_while in_word (w ++ rest) ≡ w
taken [] [] h e = refl
taken [] (b ∷ rest) h e = take_while-cons in_word b rest ∙ rw e refl
taken (b ∷ bs) rest h e =
    let both = and_parts (in_word b) (list_all in_word bs) h in
    take_while-cons in_word b (bs ++ rest) ∙ rw both.0 (ap (λ (x : List ℕ). b ∷ x) (taken bs rest both.1 e))

word_at : (bs w next : List ℕ) → list_all is_blank bs ≡ true → is_word w ≡ true → in_word (slice_index next 0) ≡ false
    → first_word (bs ++ (w ++ next)) ≡ w
word_at bs [] next h k e = absurd cc
word_at bs (b ∷ w) next h k e =
    let both = and_parts (begins_word b) (list_all in_word (b ∷ w)) k in
    let some : is_blank b ≡ false = grind (arith, nat_tests) in
    ap front_word (behind bs (b ∷ (w ++ next)) h some) ∙ rw both.0 (taken (b ∷ w) next both.1 e)

of_kind : (k : TokenKind) (text w : List ℕ) → lexeme_of k text ≡ word w → (k ≡ kind.Word) × (text ≡ w)
of_kind kind.Word text w e = let same : text ≡ w = cc in (refl, same)
of_kind kind.Tag text w e = absurd cc
of_kind (kind.Number z) text w e = absurd cc
of_kind kind.Literal text w e = absurd cc
of_kind kind.Symbol text w e = absurd cc

first_of : (line : List ℕ) (ts : List Token) (to : ℕ) (w : List ℕ) (rest : List Lexeme) → Cuts line 0 ts to → lexemes line ts ≡ word w ∷ rest
    → first_word line ≡ w
first_of line [] to w rest c e = absurd cc
first_of line (t ∷ ts) to w rest c e =
    let at = c.0 in
    let text = text_at line t in
    let next = drop t.end line in
    let says : lexeme line t ≡ word w = cc in
    let is = of_kind t.kind text w says in
    let form : is_word text ≡ true = subst (λ (k : TokenKind). Form k text) is.0 at.token.form in
    let ends : in_word (slice_index next 0) ≡ false = subst (λ (k : TokenKind). Ends k text next) is.0 at.token.ends in
    let from_start : t.start - 0 ≡ t.start = omega arith in
    let blanks : list_all is_blank (take t.start line) ≡ true = subst (λ (n : ℕ). list_all is_blank (take n line) ≡ true) from_start at.blanks in
    let some = at.some in
    let size : t.start + (t.end - t.start) ≡ t.end = omega arith in
    let behind_text : drop (t.end - t.start) (drop t.start line) ≡ next = drop-drop (t.end - t.start) t.start line ∙ ap (λ (n : ℕ). drop n line) size in
    let whole : line ≡ take t.start line ++ (text ++ next) =
    sym (ap (λ (x : List ℕ). take t.start line ++ (text ++ x)) (sym behind_text)
    ∙ ap (λ (x : List ℕ). take t.start line ++ x) (take-append-drop (t.end - t.start) (drop t.start line)) ∙ take-append-drop t.start line) in
    ap first_word whole ∙ word_at (take t.start line) text next blanks form ends ∙ is.1

says_word : (bytes : List ℕ) (x : Said) → Writes x bytes → first_word bytes ≡ (row x.0).0
says_word bytes x w = first_of bytes w.tokens w.cut.last (row x.0).0 w.spelled.0 w.cut.cuts w.spelled.1

-- ---- a command by itself begins no block

alone_row : (r : Row) (a : Args (row r).1) → is_alone (r, a) ≡ true → (bytes_eq (row r).0 (codes "effect") || bytes_eq (row r).0 (codes "template") || bytes_eq (row r).0 (codes "on")) ≡ false
alone_row effect a h = absurd cc
alone_row on a h = absurd cc
alone_row template a h = absurd cc
alone_row (verb verbs.Get) a h = refl
alone_row (bare bares.Flush) a h = refl
alone_row _ a h = refl

pub begins_none : (bytes : List ℕ) (x : Said) → Writes x bytes → is_alone x ≡ true → begins_block bytes ≡ false
unfolding begins_block
begins_none bytes x w h =
    ap (λ (v : List ℕ). bytes_eq v (codes "effect") || bytes_eq v (codes "template") || bytes_eq v (codes "on")) (says_word bytes x w) ∙ alone_row x.0 x.1 h

-- ---- it is all of its piece

-- the first line of a block that is open begins it
abbrev IsBegun : Place → Type 0
IsBegun outside = Unit {0}
IsBegun (inside level []) = ⊥
IsBegun (inside level (l ∷ ls)) = begins_block l.1 ≡ true

no_single : (bytes : List ℕ) → begins_block bytes ≡ true → (x : Said) → Writes x bytes → is_alone x ≡ true → ⊥
no_single bytes b x w h =
    let none : begins_block bytes ≡ false = begins_none bytes x w h in
    let bad : true ≡ false = sym b ∙ none in
    cc

each_single : (p : Place) (ls : List NumberedLine) → IsBegun p → AllByRecursion IsSingle (pieces p ls)
unfolding pieces
each_single outside [] b = tt
each_single (inside level []) ls b = absurd b
each_single (inside level (g ∷ got)) [] b = (λ x w h. absurd (no_single g.1 b x w h), tt)
each_single outside (l ∷ ls) b = elim (cases_Bool (begins_block l.1)) [
  | inl e ↦ rw e (each_single (inside 1 (l ∷ [])) ls e)
  | inr e ↦ rw e (λ x w h. refl, each_single outside ls tt)
]
each_single (inside level (g ∷ got)) (l ∷ ls) b = elim (cases_Bool (level_after level l.1 == 0)) [
  | inl e ↦ rw e (λ x w h. absurd (no_single g.1 b x w h), each_single outside ls tt)
  | inr e ↦ rw e (each_single (inside (level_after level l.1) (g ∷ (got ++ l ∷ []))) ls b)
]

pub commands_alone : (n : ℕ) (script : List ℕ) → AllByRecursion IsSingle (pieces_of n script)
commands_alone n script = each_single outside (kept_lines n script) tt
