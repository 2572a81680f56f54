-- What is written of a formula that was read is read back.
use Rattle.std.proofs.Common.{◌≡◌, ℕ, Option, Some, None, zero, suc, ◌+◌, ◌-◌, ◌<◌, Bool, true, false, cond, List, [], ◌∷◌, ◌++◌, length, take, drop, refl, sym, ap, subst, ◌∙◌, arith, inl, inr}
use Rattle.std.specs.Prelude.{◌==◌, ◌&&◌, nat_lt, codes}
use Rattle.std.specs.Char.{is_ascii_digit}
use Rattle.std.specs.Fmt.{signed_decimal}
use Rattle.std.specs.List.{All, list_all}
use Rattle.std.specs.Str.{IsUtf8, IsAscii, bytes_eq, chars}
use Rattle.std.proofs.Math.Seq.{drop-append_seam, drop-length}
use Rattle.std.proofs.lemmas.Bool.{and_parts, and_from, cases_Bool, ltb-true, lt-ltb}
use Rattle.std.proofs.lemmas.Bool.Decides.{nat_tests}
use Rattle.std.proofs.lemmas.List.{append-nil, length-append, length-map, map-append, take_at}
use Rattle.std.proofs.lemmas.List.Elements.{All-drop}
use Rattle.std.proofs.lemmas.Str.{scalars-chars, IsUtf8-append, IsUtf8-from_ascii}
use Rattle.sig_base.specs.Words.{is_name, in_word}
use Rattle.sig_base.specs.declared.scalar.Scalar.TheVariants as scalar
use Rattle.sig_formula.specs.declared.formula.BinOp.{BinOp}
use Rattle.sig_formula.specs.declared.formula.BinOp.TheVariants as op
use Rattle.sig_words.specs.declared.token.Token.{Token}
use Rattle.sig_words.specs.declared.token.TokenKind.{TokenKind}
use Rattle.sig_words.specs.declared.token.TokenKind.TheVariants as kind
use Rattle.sig_words.specs.Lexemes.{Lexeme, lexeme, lexeme_of, lexemes, text_at}
use Rattle.sig_words.specs.Literals.{meaning, plain, text_of, between_quotes}
use Rattle.sig_words.specs.Tokens.{Form, AreTokens, IsTokenOf}
use Rattle.sig_words.proofs.Shared.{each_token, IsNumeric, numeric, literal_utf8}
use Rattle.formula_text.specs.declared.rough.Around.{Around}
use Rattle.formula_text.specs.declared.rough.OverRows.{OverRows}
use Rattle.formula_text.specs.declared.rough.Around.TheVariants as form
use Rattle.formula_text.specs.declared.rough.OverRows.TheVariants as each
use Rattle.formula_text.specs.declared.wired.Allow.{Allow}
use Rattle.formula_text.specs.Signs.{Leaf, Sign, name, constant, operator_or, sign, signs, word_sign, symbol_sign, NoOperator, later_word_sign, last_word_sign, later_symbol_sign}
use Rattle.formula_text.specs.Signs as t
use Rattle.formula_text.specs.Grammar.{IsLongest, Draft, leaf, negation, binary, choice, of_row, one_part, each_row, spelled, meant, level, before, Spells}
use Rattle.formula_text.specs.Grammar.{Written, single, group, it_dot, around, over_rows, negated, chain, pick}
use Rattle.formula_text.specs.Operators.{operator_of}
use Rattle.formula_text.specs.Canonical.{minimal, written, canonical_text, around_text, over_text, operator_text, leaf_text}
use Rattle.formula_text.specs.Lexer.{IsOneToken}
use Rattle.formula_text.specs.Slots.{Wiring, wired, refusal, Reads, IsWired}
use Rattle.formula_text.specs.RoundTrips.{IsPrintableLeaf, IsPrintable, text_of_wiring, StandsAmong, ReadsAmong, ReadsWhole}
use Rattle.formula_text.proofs.Lexer.{HasTokens, cuts_append, cut_written}
use Rattle.formula_text.proofs.Minimal.{minimal_longest}
use Rattle.formula_text.proofs.Places.{name_utf8}
use Rattle.formula_text.proofs.Quotes.{text_token, quoted_utf8}
use Rattle.formula_text.proofs.Slots.{named_back}
use Rattle.formula_text.proofs.Texts.{name_key, name_token, truth_token, number_token}
use lib.Utf8.{scalar as is_scalar, scalars}

-- ---- what tokens say can be printed

abbrev pub Good : Sign → Type 0
Good (t.leaf l) = IsPrintableLeaf l
Good s = Unit {0}

abbrev pub AllGood : List Sign → Type 0
AllGood [] = Unit {0}
AllGood (s ∷ ss) = Good s × AllGood ss

good_if : (b : Bool) (x y : Sign) → Good x → Good y → Good (cond b x y)
good_if true x y h k = h
good_if false x y h k = k

good_name : (w : List ℕ) (b : Bool) → is_name w ≡ b → Good (cond b (t.leaf (name w)) t.other)
good_name w true h = h
good_name w false h = tt

good_operator : (o : Option BinOp) (s : Sign) → Good s → Good (operator_or o s)
good_operator (Some o) s h = tt
good_operator None s h = h

good_later : (w : List ℕ) → Good (later_word_sign w)
unfolding later_word_sign last_word_sign
good_later w =
    good_if (bytes_eq w (codes "not")) _ _ tt
    (good_if (bytes_eq w (codes "if")) _ _ tt
    (good_if (bytes_eq w (codes "then")) _ _ tt
    (good_if (bytes_eq w (codes "else")) _ _ tt
    (good_if (bytes_eq w (codes "untrack")) _ _ tt
    (good_if (bytes_eq w (codes "count")) _ _ tt
    (good_if (bytes_eq w (codes "sum")) _ _ tt
    (good_if (bytes_eq w (codes "keep")) _ _ tt
    (good_if (bytes_eq w (codes "it")) _ _ tt
    (good_if (bytes_eq w (codes "true")) _ _ tt
    (good_if (bytes_eq w (codes "false")) _ _ tt
    (good_name w (is_name w) refl)))))))))))

pub good_word : (w : List ℕ) → Good (word_sign w)
unfolding word_sign
good_word w = good_operator (operator_of w) (later_word_sign w) (good_later w)

good_later_symbol : (s : List ℕ) → Good (later_symbol_sign s)
unfolding later_symbol_sign
good_later_symbol s =
    good_if (bytes_eq s (codes "(")) _ _ tt
    (good_if (bytes_eq s (codes ")")) _ _ tt
    (good_if (bytes_eq s (codes ",")) _ _ tt
    (good_if (bytes_eq s (codes ".")) t.dot t.other tt tt)))

pub good_symbol : (s : List ℕ) → Good (symbol_sign s)
unfolding symbol_sign
good_symbol s = good_operator (operator_of s) (later_symbol_sign s) (good_later_symbol s)

meaning_scalar : (c : ℕ) → is_scalar c ≡ true → is_scalar (meaning c) ≡ true
meaning_scalar c h = elim (cases_Bool (c == 110)) [
  | inl e ↦ rw e refl
  | inr e ↦ elim (cases_Bool (c == 114)) [
    | inl f ↦ rw (e, f) refl
    | inr f ↦ elim (cases_Bool (c == 116)) [ inl g ↦ rw (e, f, g) refl | inr g ↦ rw (e, f, g) h ]
  ]
]

plain_scalars : (behind : Bool) (cs : List ℕ) → scalars cs ≡ true → scalars (plain behind cs) ≡ true
plain_scalars behind [] h = refl
plain_scalars true (c ∷ cs) h =
    let p = and_parts (is_scalar c) (scalars cs) h in
    and_from (is_scalar (meaning c)) (scalars (plain false cs)) (meaning_scalar c p.0) (plain_scalars false cs p.1)
plain_scalars false (c ∷ cs) h =
    let p = and_parts (is_scalar c) (scalars cs) h in
    elim (cases_Bool (c == 92)) [
      | inl e ↦ rw e (plain_scalars true cs p.1)
      | inr e ↦ rw e (and_from (is_scalar c) (scalars (plain false cs)) p.0 (plain_scalars false cs p.1))
    ]

pub text_utf8 : (inner : List ℕ) → IsUtf8 inner → IsUtf8 (text_of inner)
unfolding text_of
text_utf8 inner u = (plain false (chars inner), (plain_scalars false (chars inner) (scalars-chars inner u), refl))

good_token : (k : TokenKind) (text : List ℕ) → (k ≡ kind.Literal → IsUtf8 (between_quotes text)) → Form k text → Good (sign (lexeme_of k text))
good_token kind.Word text u f = good_word text
good_token kind.Tag text u f = tt
good_token (kind.Number z) text u f = f.0
good_token kind.Literal text u f = text_utf8 (between_quotes text) (u refl)
good_token kind.Symbol text u f = good_symbol text

good_tokens : (line : List ℕ) (ts : List Token) → All (IsTokenOf line) ts → AllGood (signs (lexemes line ts))
good_tokens line [] h = tt
good_tokens line (u ∷ ts) h =
    let i : IsTokenOf line u = h 0 u (omega arith) in
    (good_token u.kind (text_at line u) (λ e. literal_utf8 line u i e) i.token.form, good_tokens line ts (λ k d within. h (suc k) d (omega arith)))

good_front : (n : ℕ) (ls : List Lexeme) → AllGood (signs ls) → AllGood (signs (take n ls))
good_front zero ls h = tt
good_front (suc n) [] h = tt
good_front (suc n) (l ∷ ls) h = (h.0, good_front n ls h.1)

good_left : (ss more : List Sign) → AllGood (ss ++ more) → AllGood ss
good_left [] more h = tt
good_left (s ∷ ss) more h = (h.0, good_left ss more h.1)

good_right : (ss more : List Sign) → AllGood (ss ++ more) → AllGood more
good_right [] more h = h
good_right (s ∷ ss) more h = good_right ss more h.1

good_meant : (w : Written) → AllGood (spelled w) → IsPrintable (meant w)
good_meant (single l) h = h.0
good_meant (group w) h = good_meant w (good_left (spelled w) (t.closing ∷ []) h.1)
good_meant (it_dot n) h = h.1.1.0
good_meant (around f w) h = good_meant w (good_left (spelled w) (t.closing ∷ []) h.1.1)
good_meant (over_rows f a b) h =
    let both = good_left (spelled a ++ (t.comma ∷ spelled b)) (t.closing ∷ []) h.1.1 in
    (good_meant a (good_left (spelled a) (t.comma ∷ spelled b) both), good_meant b (good_right (spelled a) (t.comma ∷ spelled b) both).1)
good_meant (negated w) h = good_meant w h.1
good_meant (chain o a b) h =
    (good_meant a (good_left (spelled a) (t.operator o ∷ spelled b) h), good_meant b (good_right (spelled a) (t.operator o ∷ spelled b) h).1)
good_meant (pick w a b) h =
    let from-then = t.then_word ∷ (spelled a ++ (t.else_word ∷ spelled b)) in
    let behind = (good_right (spelled w) from-then h.1).1 in (
      good_meant w (good_left (spelled w) from-then h.1),
      good_meant a (good_left (spelled a) (t.else_word ∷ spelled b) behind),
      good_meant b (good_right (spelled a) (t.else_word ∷ spelled b) behind).1,
    )

pub good_spelled : (ss : List Sign) (x : Draft) → AllGood ss → Spells ss x → IsPrintable x
good_spelled ss x good s = subst IsPrintable s.meaning (good_meant s.form (subst AllGood s.tokens good))

-- a formula that was read can be printed
pub read_printable : (line : List ℕ) (ts : List Token) (from to : ℕ) (x : Draft) → AreTokens line ts → Reads line ts from to x → IsPrintable x
read_printable line ts from to x are reads =
    let each = All-drop (IsTokenOf line) from ts (each_token line ts are) in
    let good = good_front (to - from) (lexemes line (drop from ts)) (good_tokens line (drop from ts) each) in
    good_spelled (signs (take (to - from) (lexemes line (drop from ts)))) x good reads.2.spells

-- ---- its text is cut into its tokens

leaf_has_token : (l : Leaf) → IsPrintableLeaf l → IsOneToken l
leaf_has_token (name n) h = name_token n h
leaf_has_token (constant (scalar.Bool b)) h = truth_token b
leaf_has_token (constant (scalar.Int z)) h = number_token z h
leaf_has_token (constant (scalar.Text s)) h = text_token s h

group_has_tokens : (b : Bool) (w : Written) → HasTokens w → HasTokens (cond b (group w) w)
group_has_tokens true w h = h
group_has_tokens false w h = h

has_tokens : (asked : ℕ) (x : Draft) → IsPrintable x → HasTokens (minimal asked x)
has_tokens asked (leaf l) h = leaf_has_token l h
has_tokens asked (negation x) h = group_has_tokens (nat_lt 3 asked) (negated (minimal 3 x)) (has_tokens 3 x h)
has_tokens asked (binary o x y) h =
    group_has_tokens (nat_lt (level o) asked) (chain o (minimal (before o) x) (minimal (level o + 1) y)) (has_tokens (before o) x h.0, has_tokens (level o + 1) y h.1)
has_tokens asked (choice w x y) h =
    group_has_tokens (nat_lt 0 asked) (pick (minimal 0 w) (minimal 0 x) (minimal 0 y)) (has_tokens 0 w h.0, has_tokens 0 x h.1, has_tokens 0 y h.2)
has_tokens asked (of_row n) h = name_key n h
has_tokens asked (one_part f x) h = has_tokens 0 x h
has_tokens asked (each_row f x y) h = (has_tokens 0 x h.0, has_tokens 0 y h.1)

pub printable_tokens : (x : Draft) → IsPrintable x → HasTokens (minimal 0 x)
printable_tokens x h = has_tokens 0 x h

-- ---- and read between other tokens

some_signs : (w : Written) → 0 < length (spelled w)
some_signs (single l) = omega arith
some_signs (group w) = omega arith
some_signs (it_dot n) = omega arith
some_signs (around f w) = omega arith
some_signs (over_rows f a b) = omega arith
some_signs (negated w) = omega arith
some_signs (chain o a b) = let some = some_signs a in omega (arith, length-append (spelled a) (t.operator o ∷ spelled b))
some_signs (pick w a b) = omega arith

longest_between : (line : List ℕ) (own others : List Token) (x : Draft) → signs (lexemes line own) ≡ spelled (minimal 0 x) → NoOperator (signs (lexemes line others))
    → IsLongest (lexemes line (own ++ others)) (length own) x
longest_between line own others x says stops =
    let cut : lexemes line (own ++ others) ≡ lexemes line own ++ lexemes line others = map-append (lexeme line) own others in
    let size : length (lexemes line own) ≡ length own = length-map own (lexeme line) in
    let front : take (length own) (lexemes line own ++ lexemes line others) ≡ lexemes line own = take_at (lexemes line own) (lexemes line others) (length own) size in
    let rest : drop (length own) (lexemes line own ++ lexemes line others) ≡ lexemes line others =
    ap (λ (n : ℕ). drop n (lexemes line own ++ lexemes line others)) (sym size) ∙ drop-append_seam (lexemes line own) (lexemes line others) in
    rw cut (minimal_longest x (lexemes line own ++ lexemes line others) (length own)
    (omega (arith, length-append (lexemes line own) (lexemes line others)))
    (ap signs front ∙ says) (rw rest stops))

reads_between : (line : List ℕ) (front own others : List Token) (x : Draft) → signs (lexemes line own) ≡ spelled (minimal 0 x) → NoOperator (signs (lexemes line others))
    → Reads line (front ++ (own ++ others)) (length front) (length front + length own) x
reads_between line front own others x says stops =
    let some = some_signs (minimal 0 x) in
    let count : length own ≡ length (spelled (minimal 0 x)) =
    sym (length-map own (lexeme line)) ∙ sym (length-map (lexemes line own) sign) ∙ ap length says in
    let size : (length front + length own) - length front ≡ length own = omega arith in
    let rest : drop (length front) (front ++ (own ++ others)) ≡ own ++ others = drop-append_seam front (own ++ others) in (
      omega arith,
      omega (arith, length-append front (own ++ others), length-append own others),
      rw (size, rest) (longest_between line own others x says stops),
    )

among : (line : List ℕ) (from : ℕ) (front others : List Token) (allow : Allow) (x : Draft) → IsPrintable x → refusal allow x ≡ None
    → StandsAmong line (canonical_text x) from front others → ReadsAmong line front others allow (wired x)
among line from front others allow x good accepted s =
    let own = cut_written (minimal 0 x) line s.last from s.back (s.after, s.blanks) s.text_is s.sign s.ends (printable_tokens x good) in
    record {
      own = own.tokens;
      are = record {
        utf8 = s.utf8;
        last = s.end;
        cuts = cuts_append line 0 s.last s.end front (own.tokens ++ others) s.cuts
            (cuts_append line s.last (from + length (canonical_text x)) s.end own.tokens others own.cuts s.other_cuts);
        blanks = s.other_blanks;
      };
      wired = record { formula = x; reads = reads_between line front own.tokens others x own.says s.stops; accepted = accepted; wired_so = refl };
    }

-- what is written of a formula that was read is read back
pub read_back : (line : List ℕ) (ts : List Token) (from to : ℕ) (allow : Allow) (w : Wiring) → AreTokens line ts → IsWired line ts from to allow w
    → (other : List ℕ) (at : ℕ) (front others : List Token) → StandsAmong other (text_of_wiring w) at front others → ReadsAmong other front others allow w
read_back line ts from to allow w are is other at front others stands =
    let x = is.formula in
    let good = read_printable line ts from to x are is.reads in
    let text : text_of_wiring w ≡ canonical_text x = ap text_of_wiring is.wired_so ∙ ap canonical_text (named_back x) in
    let placed : StandsAmong other (canonical_text x) at front others = subst (λ (l : List ℕ). StandsAmong other l at front others) text stands in
    subst (λ (v : Wiring). ReadsAmong other front others allow v) (sym is.wired_so) (among other at front others allow x good is.accepted placed)

-- ---- alone

abbrev pub are_ascii : List ℕ → Bool
are_ascii [] = true
are_ascii (b ∷ bs) = nat_lt b 128 && are_ascii bs

each_ascii : (bs : List ℕ) → are_ascii bs ≡ true → IsAscii bs
each_ascii [] h i = omega arith
each_ascii (b ∷ bs) h zero = ltb-true b 128 (and_parts (nat_lt b 128) (are_ascii bs) h).0
each_ascii (b ∷ bs) h (suc i) = each_ascii bs (and_parts (nat_lt b 128) (are_ascii bs) h).1 i

pub ascii : (bs : List ℕ) → are_ascii bs ≡ true → IsUtf8 bs
ascii bs h = IsUtf8-from_ascii bs (each_ascii bs h)

word_small : (b : ℕ) → in_word b ≡ true → b < 128
word_small b h = grind (arith, nat_tests)

digit_small : (b : ℕ) → is_ascii_digit b ≡ true → b < 128
digit_small b h = grind (arith, nat_tests)

run_ascii : (bs : List ℕ) → list_all in_word bs ≡ true → are_ascii bs ≡ true
run_ascii [] h = refl
run_ascii (b ∷ bs) h =
    let p = and_parts (in_word b) (list_all in_word bs) h in
    and_from (nat_lt b 128) (are_ascii bs) (lt-ltb b 128 (word_small b p.0)) (run_ascii bs p.1)

pub number_utf8 : (text : List ℕ) → IsNumeric text → IsUtf8 text
number_utf8 text n =
    let small : n.first < 128 = elim n.begins [ inl d ↦ digit_small n.first d | inr e ↦ omega (arith, e) ] in
    let all : are_ascii (n.first ∷ n.rest) ≡ true = and_from (nat_lt n.first 128) (are_ascii n.rest) (lt-ltb n.first 128 small) (run_ascii n.rest n.run) in
    rw n.is (ascii (n.first ∷ n.rest) all)

leaf_utf8 : (l : Leaf) → IsPrintableLeaf l → IsUtf8 (leaf_text l)
leaf_utf8 (name n) h = name_utf8 n h
leaf_utf8 (constant (scalar.Bool true)) h = ascii (codes "true") refl
leaf_utf8 (constant (scalar.Bool false)) h = ascii (codes "false") refl
leaf_utf8 (constant (scalar.Int z)) h = number_utf8 (signed_decimal z) (numeric z h)
leaf_utf8 (constant (scalar.Text s)) h = quoted_utf8 s h

operator_ascii : (o : BinOp) → are_ascii (operator_text o) ≡ true
operator_ascii op.Or = refl
operator_ascii _ = refl

operator_utf8 : (o : BinOp) → IsUtf8 (operator_text o)
operator_utf8 o = ascii (operator_text o) (operator_ascii o)

around_utf8 : (f : Around) → IsUtf8 (around_text f)
around_utf8 form.Count = ascii (codes "count") refl
around_utf8 form.Untrack = ascii (codes "untrack") refl

over_utf8 : (f : OverRows) → IsUtf8 (over_text f)
over_utf8 each.Sum = ascii (codes "sum") refl
over_utf8 each.Keep = ascii (codes "keep") refl

-- something and ASCII before it
behind : (bs rest : List ℕ) → are_ascii bs ≡ true → IsUtf8 rest → IsUtf8 (bs ++ rest)
behind bs rest h u = IsUtf8-append bs rest (ascii bs h) u

group_utf8 : (b : Bool) (w : Written) → IsUtf8 (written w) → IsUtf8 (written (cond b (group w) w))
group_utf8 true w h = behind (codes "(") (written w ++ codes ")") refl (IsUtf8-append (written w) (codes ")") h (ascii (codes ")") refl))
group_utf8 false w h = h

pub written_utf8 : (asked : ℕ) (x : Draft) → IsPrintable x → IsUtf8 (written (minimal asked x))
written_utf8 asked (leaf l) h = leaf_utf8 l h
written_utf8 asked (negation x) h =
    group_utf8 (nat_lt 3 asked) (negated (minimal 3 x)) (behind (codes "not ") (written (minimal 3 x)) refl (written_utf8 3 x h))
written_utf8 asked (binary o x y) h =
    let left = minimal (before o) x in
    let right = minimal (level o + 1) y in
    group_utf8 (nat_lt (level o) asked) (chain o left right)
    (IsUtf8-append (written left) (codes " " ++ (operator_text o ++ (codes " " ++ written right))) (written_utf8 (before o) x h.0)
    (behind (codes " ") (operator_text o ++ (codes " " ++ written right)) refl
    (IsUtf8-append (operator_text o) (codes " " ++ written right) (operator_utf8 o) (behind (codes " ") (written right) refl (written_utf8 (level o + 1) y h.1)))))
written_utf8 asked (choice w x y) h =
    let test = minimal 0 w in
    let held = minimal 0 x in
    let other = minimal 0 y in
    let from-else = codes " else " ++ written other in
    let from-then = codes " then " ++ (written held ++ from-else) in
    group_utf8 (nat_lt 0 asked) (pick test held other)
    (behind (codes "if ") (written test ++ from-then) refl
    (IsUtf8-append (written test) from-then (written_utf8 0 w h.0)
    (behind (codes " then ") (written held ++ from-else) refl
    (IsUtf8-append (written held) from-else (written_utf8 0 x h.1) (behind (codes " else ") (written other) refl (written_utf8 0 y h.2))))))
written_utf8 asked (of_row n) h = behind (codes "it.") n refl (name_utf8 n h)
written_utf8 asked (one_part f x) h =
    let inner = written (minimal 0 x) in
    IsUtf8-append (around_text f) (codes "(" ++ (inner ++ codes ")")) (around_utf8 f)
    (behind (codes "(") (inner ++ codes ")") refl (IsUtf8-append inner (codes ")") (written_utf8 0 x h) (ascii (codes ")") refl)))
written_utf8 asked (each_row f x y) h =
    let rows = written (minimal 0 x) in
    let part = written (minimal 0 y) in
    let both = rows ++ (codes ", " ++ part) in
    IsUtf8-append (over_text f) (codes "(" ++ (both ++ codes ")")) (over_utf8 f)
    (behind (codes "(") (both ++ codes ")") refl
    (IsUtf8-append both (codes ")")
    (IsUtf8-append rows (codes ", " ++ part) (written_utf8 0 x h.0) (behind (codes ", ") part refl (written_utf8 0 y h.1)))
    (ascii (codes ")") refl)))

stands_alone : (x : Draft) → IsPrintable x → StandsAmong (canonical_text x) (canonical_text x) 0 [] []
stands_alone x good =
    let text = canonical_text x in
    let past : drop (length text) text ≡ [] = drop-length text in
    let size : 0 + length text ≡ length text = omega arith in
    record {
      utf8 = written_utf8 0 x good;
      back = [];
      text_is = sym (append-nil text);
      sign = refl;
      ends = refl;
      last = 0;
      cuts = refl;
      after = omega arith;
      blanks = refl;
      end = length text;
      other_cuts = size;
      other_blanks = rw past refl;
      stops = tt;
    }

whole_from : (text : List ℕ) (allow : Allow) (w : Wiring) → ReadsAmong text [] [] allow w → ReadsWhole text allow w
whole_from text allow w r =
    let all : r.own ++ [] ≡ r.own = append-nil r.own in
    let size : 0 + length r.own ≡ length r.own = omega arith in
    let are : AreTokens text (r.own ++ []) = r.are in
    let read : IsWired text (r.own ++ []) 0 (0 + length r.own) allow w = r.wired in
    record { own = r.own; are = rw all at are; wired = rw (all, size) at read }

-- alone it is read whole
pub read_whole : (line : List ℕ) (ts : List Token) (from to : ℕ) (allow : Allow) (w : Wiring) → AreTokens line ts → IsWired line ts from to allow w → ReadsWhole (text_of_wiring w) allow w
read_whole line ts from to allow w are is =
    let x = is.formula in
    let good = read_printable line ts from to x are is.reads in
    let text : text_of_wiring w ≡ canonical_text x = ap text_of_wiring is.wired_so ∙ ap canonical_text (named_back x) in
    let placed : StandsAmong (text_of_wiring w) (text_of_wiring w) 0 [] [] = subst (λ (l : List ℕ). StandsAmong l l 0 [] []) (sym text) (stands_alone x good) in
    whole_from (text_of_wiring w) allow w (read_back line ts from to allow w are is (text_of_wiring w) 0 [] [] placed)
