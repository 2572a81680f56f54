-- The text of a form is cut into its tokens.
use Rattle.std.proofs.Common.{◌≡◌, ℕ, suc, ◌+◌, ◌-◌, ◌<◌, ◌≤◌, Bool, true, false, cond, List, [], ◌∷◌, ◌++◌, length, take, drop, refl, sym, ap, subst, ◌∙◌, append_assoc, arith, inl, inr}
use Rattle.std.specs.Prelude.{◌||◌, ◌&&◌, ◌==◌, codes, slice_index}
use Rattle.std.specs.Char.{is_ascii_digit}
use Rattle.std.specs.List.{list_all}
use Rattle.std.proofs.Math.Seq.{drop-append_seam}
use Rattle.std.proofs.lemmas.Bool.{and_right, cases_Bool}
use Rattle.std.proofs.lemmas.List.{drop-drop, length-append, length-drop, map-append, take_at}
use Rattle.sig_base.specs.Words.{is_blank, in_word, is_word}
use Rattle.sig_formula.specs.declared.formula.BinOp.{BinOp}
use Rattle.sig_formula.specs.declared.formula.BinOp.TheVariants as op
use Rattle.sig_words.specs.declared.token.Token.{Token}
use Rattle.sig_words.specs.declared.token.TokenKind.{TokenKind}
use Rattle.sig_words.specs.declared.token.TokenKind.TheVariants as kind
use Rattle.sig_words.specs.Lexemes.{lexeme, lexeme_of, lexemes}
use Rattle.sig_words.specs.Tokens.{is_two, Form, IsSymbol, IsToken, Cuts, may_sign}
use Rattle.sig_words.proofs.Shared.{index_drop}
use Rattle.formula_text.specs.declared.rough.Around.{Around}
use Rattle.formula_text.specs.declared.rough.OverRows.{OverRows}
use Rattle.formula_text.specs.declared.rough.Around.TheVariants as form
use Rattle.formula_text.specs.declared.rough.OverRows.TheVariants as each
use Rattle.formula_text.specs.Signs.{Leaf, Sign, name, sign, signs, word_sign, symbol_sign, later_word_sign, last_word_sign, later_symbol_sign}
use Rattle.formula_text.specs.Signs as t
use Rattle.formula_text.specs.Grammar.{Written, single, group, it_dot, around, over_rows, negated, chain, pick, spelled}
use Rattle.formula_text.specs.Canonical.{written, around_text, over_text, operator_text, leaf_text}
use Rattle.formula_text.specs.Lexer.{IsPlain, IsOneToken, CutsInto}

-- a word and what it is
pub record IsKey (w : List ℕ) (sg : Sign) : Type 0 where
  pub word : is_word w ≡ true
  pub some : 0 < length w
  pub says : word_sign w ≡ sg

-- the text of each leaf is one token, and what stands behind `it.` is a word
abbrev pub HasTokens : Written → Type 0
HasTokens (single l) = IsOneToken l
HasTokens (group w) = HasTokens w
HasTokens (it_dot n) = IsKey n (t.leaf (name n))
HasTokens (around f w) = HasTokens w
HasTokens (over_rows f a b) = HasTokens a × HasTokens b
HasTokens (negated w) = HasTokens w
HasTokens (chain o a b) = HasTokens a × HasTokens b
HasTokens (pick w a b) = HasTokens w × HasTokens a × HasTokens b

-- blanks alone stand between the places
abbrev pub Gap : List ℕ → ℕ → ℕ → Type 0
Gap line f s = (f ≤ s) × (list_all is_blank (take (s - f) (drop f line)) ≡ true)

pub no_gap : (line : List ℕ) (s : ℕ) → Gap line s s
no_gap line s = let z : s - s ≡ 0 = omega arith in (omega arith, rw z refl)

move : (line p rest : List ℕ) (s : ℕ) → drop s line ≡ p ++ rest → drop (s + length p) line ≡ rest
move line p rest s h = sym (drop-drop (length p) s line) ∙ ap (λ (x : List ℕ). drop (length p) x) h ∙ drop-append_seam p rest

inside : (line p rest : List ℕ) (s : ℕ) → drop s line ≡ p ++ rest → 0 < length p → s + length p ≤ length line
inside line p rest s h some = omega (arith, ap length h, length-drop s line, length-append p rest)

first_at : (line rest : List ℕ) (s b : ℕ) → drop s line ≡ b ∷ rest → slice_index line s ≡ b
first_at line rest s b h = sym (index_drop s line) ∙ ap (λ (x : List ℕ). slice_index x 0) h

-- behind a blank or an opening parenthesis a `-` may be a sign
sign_after : (line : List ℕ) (s b : ℕ) → slice_index line s ≡ b → (is_blank b || b == 40 || b == 44) ≡ true → may_sign line (suc s) ≡ true
sign_after line s b at h = rw at h

-- what stands behind a blank
record Behind (line rest : List ℕ) (s : ℕ) : Type 0 where
  gap : Gap line s (suc s)
  rest_is : drop (suc s) line ≡ rest
  sign_is : may_sign line (suc s) ≡ true

behind_blank : (line rest : List ℕ) (s : ℕ) → drop s line ≡ 32 ∷ rest → Behind line rest s
behind_blank line rest s h =
    let one : suc s - s ≡ 1 = omega arith in
    let next : s + 1 ≡ suc s = omega arith in
    record {
      gap = (omega arith, rw (one, h) refl);
      rest_is = ap (λ (n : ℕ). drop n line) (sym next) ∙ move line (32 ∷ []) rest s h;
      sign_is = sign_after line s 32 (first_at line rest s 32 h) refl;
    }

pub cuts_append : (line : List ℕ) (a b c : ℕ) (ts us : List Token) → Cuts line a ts b → Cuts line b us c → Cuts line a (ts ++ us) c
cuts_append line a b c [] us x y = rw x y
cuts_append line a b c (t ∷ ts) us x y = (x.0, cuts_append line t.end b c ts us x.1 y)

join : (line : List ℕ) (a b c : ℕ) (ss ts : List Sign) → CutsInto line a b ss → CutsInto line b c ts → CutsInto line a c (ss ++ ts)
join line a b c ss ts x y = record {
  tokens = x.tokens ++ y.tokens;
  cuts = cuts_append line a b c x.tokens y.tokens x.cuts y.cuts;
  says = ap signs (map-append (lexeme line) x.tokens y.tokens) ∙ map-append sign (lexemes line x.tokens) (lexemes line y.tokens)
      ∙ ap (λ (u : List Sign). u ++ signs (lexemes line y.tokens)) x.says ∙ ap (λ (u : List Sign). ss ++ u) y.says;
}

up_to : (line : List ℕ) (a b c : ℕ) (ss : List Sign) → b ≡ c → CutsInto line a b ss → CutsInto line a c ss
up_to line a b c ss e x = subst (λ (n : ℕ). CutsInto line a n ss) e x

one : (line : List ℕ) (f s : ℕ) (k : TokenKind) (text back : List ℕ) (sg : Sign) → Gap line f s → drop s line ≡ text ++ back → 0 < length text
    → IsToken (may_sign line s) k text back → sign (lexeme_of k text) ≡ sg → CutsInto line f (s + length text) (sg ∷ [])
one line f s k text back sg gap h some token is =
    let n = length text in
    let size : (s + n) - s ≡ n = omega arith in
    let front : take n (drop s line) ≡ text = ap (λ (x : List ℕ). take n x) h ∙ take_at text back n refl in
    let bytes : take ((s + n) - s) (drop s line) ≡ text = ap (λ (m : ℕ). take m (drop s line)) size ∙ front in
    let behind = move line text back s h in
    record {
      tokens = record { kind = k; start = s; end = s + n } ∷ [];
      cuts = (
        record {
          after = gap.0;
          some = omega arith;
          within = inside line text back s h some;
          blanks = gap.1;
          token = rw (bytes, behind) token;
        },
        refl,
      );
      says = ap (λ (x : List ℕ). sign (lexeme_of k x) ∷ []) bytes ∙ ap (λ (x : Sign). x ∷ []) is;
    }

leaf_token : (k : TokenKind) (text next : List ℕ) (sg : Bool) → IsPlain k → Form k text → sg ≡ true → in_word (slice_index next 0) ≡ false → IsToken sg k text next
leaf_token kind.Word text next sg p f s h = record { form = f; ends = h; signed = tt }
leaf_token kind.Tag text next sg p f s h = absurd p
leaf_token (kind.Number z) text next sg p f s h = record { form = f; ends = h; signed = λ e. s }
leaf_token kind.Literal text next sg p f s h = record { form = f; ends = tt; signed = tt }
leaf_token kind.Symbol text next sg p f s h = absurd p

no_two : (b c : ℕ) → ((b == 61) || (b == 33) || (b == 60) || (b == 62)) ≡ false → (b == 43) ≡ false → is_two b c ≡ false
no_two b c h p = elim (cases_Bool (c == 61)) [ inl e ↦ rw (e, h, p) refl | inr e ↦ rw (e, p) refl ]

opening_token : (next : List ℕ) (sg : Bool) → IsToken sg kind.Symbol (40 ∷ []) next
opening_token next sg = record { form = refl; ends = λ e. no_two 40 (slice_index next 0) refl refl; signed = λ e. absurd cc }

closing_token : (next : List ℕ) (sg : Bool) → IsToken sg kind.Symbol (41 ∷ []) next
closing_token next sg = record { form = refl; ends = λ e. no_two 41 (slice_index next 0) refl refl; signed = λ e. absurd cc }

comma_token : (next : List ℕ) (sg : Bool) → IsToken sg kind.Symbol (44 ∷ []) next
comma_token next sg = record {
  form = refl;
  ends = λ e. no_two 44 (slice_index next 0) refl refl;
  signed = λ e. absurd (omega (arith, ap (λ (l : List ℕ). slice_index l 0) e));
}

dot_token : (next : List ℕ) (sg : Bool) → IsToken sg kind.Symbol (46 ∷ []) next
dot_token next sg = record {
  form = refl;
  ends = λ e. no_two 46 (slice_index next 0) refl refl;
  signed = λ e. absurd (omega (arith, ap (λ (l : List ℕ). slice_index l 0) e));
}

comma_sign : symbol_sign (44 ∷ []) ≡ t.comma
unfolding symbol_sign later_symbol_sign
comma_sign = refl

dot_sign : symbol_sign (46 ∷ []) ≡ t.dot
unfolding symbol_sign later_symbol_sign
dot_sign = refl

opening_sign : symbol_sign (40 ∷ []) ≡ t.opening
unfolding symbol_sign later_symbol_sign
opening_sign = refl

closing_sign : symbol_sign (41 ∷ []) ≡ t.closing
unfolding symbol_sign later_symbol_sign
closing_sign = refl

not_key : IsKey (codes "not") t.not_word
unfolding word_sign later_word_sign last_word_sign
not_key = record { word = refl; some = omega arith; says = refl }

if_key : IsKey (codes "if") t.if_word
unfolding word_sign later_word_sign last_word_sign
if_key = record { word = refl; some = omega arith; says = refl }

then_key : IsKey (codes "then") t.then_word
unfolding word_sign later_word_sign last_word_sign
then_key = record { word = refl; some = omega arith; says = refl }

else_key : IsKey (codes "else") t.else_word
unfolding word_sign later_word_sign last_word_sign
else_key = record { word = refl; some = omega arith; says = refl }

it_key : IsKey (codes "it") t.it_word
unfolding word_sign later_word_sign last_word_sign
it_key = record { word = refl; some = omega arith; says = refl }

around_key : (f : Around) → IsKey (around_text f) (t.around f)
unfolding word_sign later_word_sign last_word_sign
around_key form.Count = record { word = refl; some = omega arith; says = refl }
around_key form.Untrack = record { word = refl; some = omega arith; says = refl }

over_key : (f : OverRows) → IsKey (over_text f) (t.over_rows f)
unfolding word_sign later_word_sign last_word_sign
over_key each.Sum = record { word = refl; some = omega arith; says = refl }
over_key each.Keep = record { word = refl; some = omega arith; says = refl }

key : (line : List ℕ) (f s : ℕ) (w back : List ℕ) (sg : Sign) → IsKey w sg → Gap line f s → drop s line ≡ w ++ back → in_word (slice_index back 0) ≡ false
    → CutsInto line f (s + length w) (sg ∷ [])
key line f s w back sg k gap h ends = one line f s kind.Word w back sg gap h k.some (record { form = k.word; ends = ends; signed = tt }) k.says

-- ---- operators

-- an operator as a token
record IsOperator (o : BinOp) (k : TokenKind) : Type 0 where
  token : (next : List ℕ) (sg : Bool) → slice_index next 0 ≡ 32 → IsToken sg k (operator_text o) next
  some : 0 < length (operator_text o)
  says : sign (lexeme_of k (operator_text o)) ≡ t.operator o

no_sign : (sg : Bool) (b : ℕ) → b ≡ 32 → (sg && is_ascii_digit b) ≡ false
no_sign true b e = rw e refl
no_sign false b e = refl

-- words end before a blank, and so do symbols
word_token : (text next : List ℕ) (sg : Bool) → is_word text ≡ true → slice_index next 0 ≡ 32 → IsToken sg kind.Word text next
word_token text next sg f e = record { form = f; ends = rw e refl; signed = tt }

symbol_token : (text next : List ℕ) (sg : Bool) → IsSymbol text → slice_index next 0 ≡ 32 → IsToken sg kind.Symbol text next
symbol_token text next sg f e = record {
  form = f;
  ends = λ one. rw e (and_right (slice_index text 0 == 43) false refl);
  signed = λ is. no_sign sg (slice_index next 0) e;
}

-- the kind of what is a word, or else a symbol
abbrev kind_of : Bool → TokenKind
kind_of b = cond b kind.Word kind.Symbol

-- how an operator is written is a word or a symbol
operator_form : (o : BinOp) → Form (kind_of (is_word (operator_text o))) (operator_text o)
operator_form op.Or = refl
operator_form _ = refl

-- and says the operator
operator_says : (o : BinOp) → sign (lexeme_of (kind_of (is_word (operator_text o))) (operator_text o)) ≡ t.operator o
unfolding word_sign symbol_sign
operator_says op.Or = refl
operator_says _ = refl

operator_some : (o : BinOp) → 0 < length (operator_text o)
operator_some op.Or = omega arith
operator_some _ = omega arith

either_token : (b : Bool) (text next : List ℕ) (sg : Bool) → Form (kind_of b) text → slice_index next 0 ≡ 32 → IsToken sg (kind_of b) text next
either_token true text next sg f e = word_token text next sg f e
either_token false text next sg f e = symbol_token text next sg f e

operator : (o : BinOp) → IsOperator o (kind_of (is_word (operator_text o)))
operator o = record {
  token = λ next sg e. either_token (is_word (operator_text o)) (operator_text o) next sg (operator_form o) e;
  some = operator_some o;
  says = operator_says o;
}

parentheses : (line : List ℕ) (f s : ℕ) (inner back : List ℕ) (ss : List Sign) → Gap line f s → drop s line ≡ (40 ∷ (inner ++ 41 ∷ [])) ++ back
    → (drop (suc s) line ≡ inner ++ (41 ∷ back) → may_sign line (suc s) ≡ true → CutsInto line (suc s) (suc s + length inner) ss)
    → CutsInto line f (s + length (40 ∷ (inner ++ 41 ∷ []))) (t.opening ∷ (ss ++ t.closing ∷ []))
parentheses line f s inner back ss gap h within =
    let whole : drop s line ≡ 40 ∷ (inner ++ (41 ∷ back)) = h ∙ ap (λ (x : List ℕ). 40 ∷ x) (append_assoc inner (41 ∷ []) back) in
    let next : s + 1 ≡ suc s = omega arith in
    let open-is = one line f s kind.Symbol (40 ∷ []) (inner ++ (41 ∷ back)) t.opening gap whole (omega arith) (opening_token _ _) opening_sign in
    let rest : drop (suc s) line ≡ inner ++ (41 ∷ back) = ap (λ (n : ℕ). drop n line) (sym next) ∙ move line (40 ∷ []) (inner ++ (41 ∷ back)) s whole in
    let mid = within rest (sign_after line s 40 (first_at line _ s 40 whole) refl) in
    let end = suc s + length inner in
    let last : drop end line ≡ 41 ∷ back = move line inner (41 ∷ back) (suc s) rest in
    let shut-is = one line end end kind.Symbol (41 ∷ []) back t.closing (no_gap line end) last (omega arith) (closing_token _ _) closing_sign in
    up_to line f (end + 1) _ _ (omega (arith, length-append inner (41 ∷ [])))
    (join line f (suc s) (end + 1) (t.opening ∷ []) (ss ++ t.closing ∷ []) (up_to line f (s + 1) (suc s) _ next open-is) (join line (suc s) end (end + 1) ss (t.closing ∷ []) mid shut-is))

-- the text of a form, with something behind it that doesn't lengthen a word
pub cut_written : (w : Written) (line : List ℕ) (f s : ℕ) (back : List ℕ) → Gap line f s → drop s line ≡ written w ++ back → may_sign line s ≡ true
    → in_word (slice_index back 0) ≡ false → HasTokens w → CutsInto line f (s + length (written w)) (spelled w)
cut_written (single l) line f s back gap h sg ends good =
    one line f s good.kind_is (leaf_text l) back (t.leaf l) gap h good.some (leaf_token good.kind_is (leaf_text l) back (may_sign line s) good.plain good.form sg ends) good.says
cut_written (group w) line f s back gap h sg ends good =
    parentheses line f s (written w) back (spelled w) gap h (λ rest sign-is. cut_written w line (suc s) (suc s) (41 ∷ back) (no_gap line (suc s)) rest sign-is refl good)
cut_written (it_dot n) line f s back gap h sg ends good =
    let word = key line f s (codes "it") (46 ∷ (n ++ back)) t.it_word it_key gap h refl in
    let p = s + 2 in
    let at-dot : drop p line ≡ 46 ∷ (n ++ back) = move line (codes "it") (46 ∷ (n ++ back)) s h in
    let mid = one line p p kind.Symbol (46 ∷ []) (n ++ back) t.dot (no_gap line p) at-dot (omega arith) (dot_token _ _) dot_sign in
    let q = p + 1 in
    let at-name : drop q line ≡ n ++ back = move line (46 ∷ []) (n ++ back) p at-dot in
    let last = key line q q n back (t.leaf (name n)) good (no_gap line q) at-name ends in
    up_to line f (q + length n) _ _ (omega arith)
    (join line f p (q + length n) (t.it_word ∷ []) (t.dot ∷ t.leaf (name n) ∷ []) word
    (join line p q (q + length n) (t.dot ∷ []) (t.leaf (name n) ∷ []) mid last))
cut_written (around k w) line f s back gap h sg ends good =
    let own = around_text k in
    let p = s + length own in
    let inner = 40 ∷ (written w ++ 41 ∷ []) in
    let whole : drop s line ≡ own ++ (inner ++ back) = h ∙ append_assoc own inner back in
    let rest : drop p line ≡ inner ++ back = move line own (inner ++ back) s whole in
    let word = key line f s own (inner ++ back) (t.around k) (around_key k) gap whole refl in
    up_to line f (p + length inner) _ _ (omega (arith, length-append own inner))
    (join line f p (p + length inner) (t.around k ∷ []) (t.opening ∷ (spelled w ++ t.closing ∷ [])) word
    (parentheses line p p (written w) back (spelled w) (no_gap line p) rest
    (λ more sign-is. cut_written w line (suc p) (suc p) (41 ∷ back) (no_gap line (suc p)) more sign-is refl good)))
cut_written (over_rows k a b) line f s back gap h sg ends good =
    let own = over_text k in
    let p = s + length own in
    let text = written a ++ (44 ∷ (32 ∷ written b)) in
    let inner = 40 ∷ (text ++ 41 ∷ []) in
    let whole : drop s line ≡ own ++ (inner ++ back) = h ∙ append_assoc own inner back in
    let rest : drop p line ≡ inner ++ back = move line own (inner ++ back) s whole in
    let word = key line f s own (inner ++ back) (t.over_rows k) (over_key k) gap whole refl in
    up_to line f (p + length inner) _ _ (omega (arith, length-append own inner))
    (join line f p (p + length inner) (t.over_rows k ∷ []) (t.opening ∷ ((spelled a ++ (t.comma ∷ spelled b)) ++ t.closing ∷ [])) word
    (parentheses line p p text back (spelled a ++ (t.comma ∷ spelled b)) (no_gap line p) rest
    (λ more sign-is.
    let at = suc p in
    let behind = 44 ∷ (32 ∷ (written b ++ (41 ∷ back))) in
    let from-a : drop at line ≡ written a ++ behind = more ∙ append_assoc (written a) (44 ∷ (32 ∷ written b)) (41 ∷ back) in
    let left = cut_written a line at at behind (no_gap line at) from-a sign-is refl good.0 in
    let c = at + length (written a) in
    let at-comma : drop c line ≡ behind = move line (written a) behind at from-a in
    let mid = one line c c kind.Symbol (44 ∷ []) (32 ∷ (written b ++ (41 ∷ back))) t.comma (no_gap line c) at-comma (omega arith) (comma_token _ _) comma_sign in
    let d = c + 1 in
    let m = behind_blank line (written b ++ (41 ∷ back)) d (move line (44 ∷ []) (32 ∷ (written b ++ (41 ∷ back))) c at-comma) in
    let right = cut_written b line d (suc d) (41 ∷ back) m.gap m.rest_is m.sign_is refl good.1 in
    up_to line at (suc d + length (written b)) _ _ (omega (arith, length-append (written a) (44 ∷ (32 ∷ written b))))
    (join line at c (suc d + length (written b)) (spelled a) (t.comma ∷ spelled b) left
    (join line c d (suc d + length (written b)) (t.comma ∷ []) (spelled b) mid right)))))
cut_written (negated w) line f s back gap h sg ends good =
    let p = s + 3 in
    let word = key line f s (codes "not") (32 ∷ (written w ++ back)) t.not_word not_key gap h refl in
    let b = behind_blank line (written w ++ back) p (move line (codes "not") (32 ∷ (written w ++ back)) s h) in
    up_to line f (suc p + length (written w)) _ _ (omega arith)
    (join line f p (suc p + length (written w)) (t.not_word ∷ []) (spelled w) word (cut_written w line p (suc p) back b.gap b.rest_is b.sign_is ends good))
cut_written (chain o a b) line f s back gap h sg ends good =
    let i = operator o in
    let tail = 32 ∷ (operator_text o ++ (32 ∷ (written b ++ back))) in
    let whole : drop s line ≡ written a ++ tail =
    h ∙ append_assoc (written a) (32 ∷ (operator_text o ++ (32 ∷ written b))) back ∙ ap (λ (x : List ℕ). written a ++ (32 ∷ x)) (append_assoc (operator_text o) (32 ∷ written b) back) in
    let p = s + length (written a) in
    let left = cut_written a line f s tail gap whole sg refl good.0 in
    let m = behind_blank line (operator_text o ++ (32 ∷ (written b ++ back))) p (move line (written a) tail s whole) in
    let q = suc p + length (operator_text o) in
    let mid = one line p (suc p) (kind_of (is_word (operator_text o))) (operator_text o) (32 ∷ (written b ++ back)) (t.operator o) m.gap m.rest_is i.some (i.token _ _ refl) i.says in
    let n = behind_blank line (written b ++ back) q (move line (operator_text o) (32 ∷ (written b ++ back)) (suc p) m.rest_is) in
    let right = cut_written b line q (suc q) back n.gap n.rest_is n.sign_is ends good.1 in
    up_to line f (suc q + length (written b)) _ _ (omega (arith, length-append (written a) (32 ∷ (operator_text o ++ (32 ∷ written b))), length-append (operator_text o) (32 ∷ written b)))
    (join line f p (suc q + length (written b)) (spelled a) (t.operator o ∷ spelled b) left (join line p q (suc q + length (written b)) (t.operator o ∷ []) (spelled b) mid right))
cut_written (pick w a b) line f s back gap h sg ends good =
    let last = written b ++ back in
    let from-else = 32 ∷ (codes "else" ++ (32 ∷ last)) in
    let from-then = 32 ∷ (codes "then" ++ (32 ∷ (written a ++ from-else))) in
    let whole : drop s line ≡ codes "if" ++ (32 ∷ (written w ++ from-then)) =
    h ∙ ap (λ (x : List ℕ). codes "if " ++ x) (append_assoc (written w) (codes " then " ++ (written a ++ (codes " else " ++ written b))) back
    ∙ ap (λ (x : List ℕ). written w ++ (codes " then " ++ x)) (append_assoc (written a) (codes " else " ++ written b) back)) in
    let p = s + 2 in
    let if-is = key line f s (codes "if") (32 ∷ (written w ++ from-then)) t.if_word if_key gap whole refl in
    let m = behind_blank line (written w ++ from-then) p (move line (codes "if") (32 ∷ (written w ++ from-then)) s whole) in
    let test = cut_written w line p (suc p) from-then m.gap m.rest_is m.sign_is refl good.0 in
    let q = suc p + length (written w) in
    let n = behind_blank line (codes "then" ++ (32 ∷ (written a ++ from-else))) q (move line (written w) from-then (suc p) m.rest_is) in
    let then-is = key line q (suc q) (codes "then") (32 ∷ (written a ++ from-else)) t.then_word then_key n.gap n.rest_is refl in
    let r = suc q + 4 in
    let k = behind_blank line (written a ++ from-else) r (move line (codes "then") (32 ∷ (written a ++ from-else)) (suc q) n.rest_is) in
    let held = cut_written a line r (suc r) from-else k.gap k.rest_is k.sign_is refl good.1 in
    let u = suc r + length (written a) in
    let j = behind_blank line (codes "else" ++ (32 ∷ last)) u (move line (written a) from-else (suc r) k.rest_is) in
    let else-is = key line u (suc u) (codes "else") (32 ∷ last) t.else_word else_key j.gap j.rest_is refl in
    let v = suc u + 4 in
    let l = behind_blank line last v (move line (codes "else") (32 ∷ last) (suc u) j.rest_is) in
    let other = cut_written b line v (suc v) back l.gap l.rest_is l.sign_is ends good.2 in
    let to = suc v + length (written b) in
    up_to line f to _ _ (omega (arith, length-append (written w) (codes " then " ++ (written a ++ (codes " else " ++ written b))), length-append (written a) (codes " else " ++ written b)))
    (join line f p to (t.if_word ∷ []) (spelled w ++ (t.then_word ∷ (spelled a ++ (t.else_word ∷ spelled b)))) if-is
    (join line p q to (spelled w) (t.then_word ∷ (spelled a ++ (t.else_word ∷ spelled b))) test
    (join line q r to (t.then_word ∷ []) (spelled a ++ (t.else_word ∷ spelled b)) then-is
    (join line r u to (spelled a) (t.else_word ∷ spelled b) held
    (join line u v to (t.else_word ∷ []) (spelled b) else-is other)))))
