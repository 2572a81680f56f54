-- A line that is further indented says the same.
use Rattle.std.proofs.Common.{◌≡◌, ℕ, zero, suc, ◌-◌, true, List, [], ◌∷◌, map, take, drop, refl, sym, ap, subst, ◌∙◌, arith}
use Rattle.std.specs.List.{list_all}
use Rattle.std.proofs.lemmas.Str.{IsUtf8-append}
use Rattle.sig_base.specs.Words.{is_blank}
use Rattle.sig_words.specs.declared.token.Token.{Token}
use Rattle.sig_words.specs.Lexemes.{Lexeme, lexeme, lexeme_of, lexemes, text_at}
use Rattle.sig_words.specs.Tokens.{may_sign, Cuts, StandsAt}
use Rattle.formula_text.proofs.Shared.{ascii}
use Rattle.line_forms.specs.Blocks.{Writes}
use Rattle.line_forms.specs.Rows.{Language, Said, Spells}

-- a token, one byte further on
abbrev further : Token → Token
further t = record { kind = t.kind; start = suc t.start; end = suc t.end }

same_text : (l : List ℕ) (t : Token) → text_at (32 ∷ l) (further t) ≡ text_at l t
same_text l t = let n : suc t.end - suc t.start ≡ t.end - t.start = omega arith in ap (λ (k : ℕ). take k (drop t.start l)) n

same_lexemes : (l : List ℕ) (ts : List Token) → lexemes (32 ∷ l) (map further ts) ≡ lexemes l ts
same_lexemes l [] = refl
same_lexemes l (t ∷ ts) =
    ap (λ (x : Lexeme). x ∷ lexemes (32 ∷ l) (map further ts)) (ap (lexeme_of t.kind) (same_text l t))
    ∙ ap (λ (xs : List Lexeme). lexeme l t ∷ xs) (same_lexemes l ts)

same_sign : (l : List ℕ) (i : ℕ) → may_sign (32 ∷ l) (suc i) ≡ may_sign l i
same_sign l zero = refl
same_sign l (suc i) = refl

-- a token stands one byte further on
stands : (l : List ℕ) (from : ℕ) (t : Token) → StandsAt l from t → StandsAt (32 ∷ l) (suc from) (further t)
stands l from t s =
    let gap : suc t.start - suc from ≡ t.start - from = omega arith in
    record {
      after = omega (arith, s.after);
      some = omega (arith, s.some);
      within = omega (arith, s.within);
      blanks = rw gap s.blanks;
      token = rw (same_text l t, same_sign l t.start) s.token;
    }

-- the first behind one blank more
stands_first : (l : List ℕ) (t : Token) → StandsAt l 0 t → StandsAt (32 ∷ l) 0 (further t)
stands_first l t s =
    let own : t.start - 0 ≡ t.start = omega arith in
    let more : suc t.start - 0 ≡ suc t.start = omega arith in
    record {
      after = omega arith;
      some = omega (arith, s.some);
      within = omega (arith, s.within);
      blanks = rw more (rw own at s.blanks);
      token = rw (same_text l t, same_sign l t.start) s.token;
    }

cut_further : (l : List ℕ) (from : ℕ) (ts : List Token) (to : ℕ) → Cuts l from ts to → Cuts (32 ∷ l) (suc from) (map further ts) (suc to)
cut_further l from [] to c = ap suc c
cut_further l from (t ∷ ts) to c = (stands l from t c.0, cut_further l t.end ts to c.1)

-- the tokens of a line behind one blank more, and the blanks behind them
cut_all : (l : List ℕ) (ts : List Token) (last : ℕ) → Cuts l 0 ts last → list_all is_blank (drop last l) ≡ true →
    (to : ℕ) × Cuts (32 ∷ l) 0 (map further ts) to × (list_all is_blank (drop to (32 ∷ l)) ≡ true)
cut_all l [] last c h = (0, refl, rw (sym c) at h)
cut_all l (t ∷ ts) last c h = (suc last, (stands_first l t c.0, cut_further l t.end ts last c.1), h)

-- bytes write the same behind one blank more
pub indented : (language : Language) (x : Said language) (l : List ℕ) → Writes language x l → Writes language x (32 ∷ l)
indented language x l w =
    let all = cut_all l w.tokens w.cut.last w.cut.cuts w.cut.blanks in
    record {
      tokens = map further w.tokens;
      cut = record { utf8 = IsUtf8-append (32 ∷ []) l (ascii (32 ∷ []) refl) w.cut.utf8; last = all.0; cuts = all.1; blanks = all.2 };
      spelled = subst (Spells language x) (sym (same_lexemes l w.tokens)) w.spelled;
    }
