-- What the tokens of a line say can be printed.
use Rattle.std.proofs.Common.{◌≡◌, ℕ, suc, ◌≤◌, true, List, [], ◌∷◌, ◌++◌, length, Some, None, subst, refl, arith}
use Rattle.std.specs.Int.{w64}
use Rattle.std.specs.Int.RustNames.{FitsSigned}
use Rattle.std.specs.List.{All}
use Rattle.std.specs.Prelude.{IsTrue}
use Rattle.std.specs.Str.{IsUtf8}
use Rattle.sig_base.specs.declared.limits.TheConstants.{MOST_TAG}
use Rattle.sig_base.specs.Words.{is_tag, is_word}
use Rattle.sig_words.specs.declared.token.Token.{Token}
use Rattle.sig_words.specs.declared.token.TokenKind.{TokenKind}
use Rattle.sig_words.specs.declared.token.TokenKind.TheVariants as kind
use Rattle.sig_words.specs.Lexemes.{Lexeme, word, tag, number, literal, symbol, lexeme_of, lexemes, text_at}
use Rattle.sig_words.specs.Literals.{between_quotes}
use Rattle.sig_words.specs.Tokens.{AreTokens, Form, IsSymbol, IsTokenOf}
use Rattle.sig_words.proofs.Shared.{each_token, literal_utf8}
use Rattle.formula_text.specs.RoundTrips.{IsPrintable}
use Rattle.formula_text.specs.Signs.{sign, signs}
use Rattle.formula_text.proofs.Shared.{Good, AllGood, good_word, good_symbol, good_spelled, text_utf8}
use Rattle.line_forms.specs.Forms as forms
use Rattle.line_forms.specs.Forms.{One, Part, one, perhaps, many, listed, arguments, formula, name, fixed, part, Of, Contents, Args, token_of, is_good, are_distinct, Says, SayEach, SayBehind, SayListed, SpellsPart, SpellsForm}

-- a token can say it
abbrev pub IsWritten : Lexeme → Type 0
IsWritten (word w) = is_word w ≡ true
IsWritten (tag n) = (is_tag n ≡ true) × (length n ≤ MOST_TAG)
IsWritten (number z) = FitsSigned w64 z
IsWritten (literal t) = IsUtf8 t
IsWritten (symbol s) = IsSymbol s

-- tokens can say them
abbrev pub AreWritten : List Lexeme → Type 0
AreWritten [] = Unit {0}
AreWritten (l ∷ ls) = IsWritten l × AreWritten ls

-- ---- tokens

token_written : (k : TokenKind) (text : List ℕ) → (k ≡ kind.Literal → IsUtf8 (between_quotes text)) → Form k text → IsWritten (lexeme_of k text)
token_written kind.Word text u f = f
token_written kind.Tag text u f = rw f.1 (f.2, f.3)
token_written (kind.Number z) text u f = f.0
token_written kind.Literal text u f = text_utf8 (between_quotes text) (u refl)
token_written kind.Symbol text u f = f

each_written : (line : List ℕ) (ts : List Token) → All (IsTokenOf line) ts → AreWritten (lexemes line ts)
each_written line [] h = tt
each_written line (u ∷ ts) h =
    let i : IsTokenOf line u = h 0 u (omega arith) in
    (token_written u.kind (text_at line u) (λ e. literal_utf8 line u i e) i.token.form, each_written line ts (λ k d within. h (suc k) d (omega arith)))

-- what the tokens of a line say
pub tokens_written : (line : List ℕ) (ts : List Token) → AreTokens line ts → AreWritten (lexemes line ts)
tokens_written line ts a = each_written line ts (each_token line ts a)

left : (ls ms : List Lexeme) → AreWritten (ls ++ ms) → AreWritten ls
left [] ms h = tt
left (l ∷ ls) ms h = (h.0, left ls ms h.1)

right : (ls ms : List Lexeme) → AreWritten (ls ++ ms) → AreWritten ms
right [] ms h = h
right (l ∷ ls) ms h = right ls ms h.1

lexeme_good : (l : Lexeme) → IsWritten l → Good (sign l)
lexeme_good (word w) h = good_word w
lexeme_good (tag n) h = tt
lexeme_good (number z) h = h
lexeme_good (literal t) h = h
lexeme_good (symbol s) h = good_symbol s

all_good : (ls : List Lexeme) → AreWritten ls → AllGood (signs ls)
all_good [] h = tt
all_good (l ∷ ls) h = (lexeme_good l h.0, all_good ls h.1)

-- ---- what the parts hold

-- each of them is good, and a token can say it
abbrev pub EachPrints : (o : One) → List (Of o) → Type 0
EachPrints o [] = Unit {0}
EachPrints o (v ∷ vs) = IsTrue (is_good o v) × IsWritten (token_of o v) × EachPrints o vs

-- what a part holds can be printed
abbrev pub PrintsPart : (p : Part) → Contents p → Type 0
PrintsPart (one o) v = IsTrue (is_good o v) × IsWritten (token_of o v)
PrintsPart (perhaps w o) None = Unit {0}
PrintsPart (perhaps w o) (Some v) = IsWritten (word w) × IsTrue (is_good o v) × IsWritten (token_of o v)
PrintsPart (many o) vs = EachPrints o vs
PrintsPart (listed o) vs = EachPrints o vs
PrintsPart arguments ns = EachPrints name ns × IsTrue (are_distinct ns)
PrintsPart formula f = IsPrintable f

-- what the parts of a line hold can be printed
abbrev pub PrintsForm : (ps : forms.Form) → Args ps → Type 0
PrintsForm [] a = Unit {0}
PrintsForm (fixed l ∷ ps) a = IsWritten l × PrintsForm ps a
PrintsForm (part p ∷ ps) a = PrintsPart p a.0 × PrintsForm ps a.1

said_written : (o : One) (v : Of o) (l : Lexeme) → Says o v l → IsWritten l → IsWritten (token_of o v)
said_written o v l s h = subst IsWritten s.written h

each_prints : (o : One) (vs : List (Of o)) (ls : List Lexeme) → SayEach o vs ls → AreWritten ls → EachPrints o vs
each_prints o [] ls t h = tt
each_prints o (v ∷ vs) ls t h = let g = subst AreWritten t.2 h in (t.3.good, said_written o v t.0 t.3 g.0, each_prints o vs t.1 t.4 g.1)

behind_prints : (o : One) (vs : List (Of o)) (ls : List Lexeme) → SayBehind o vs ls → AreWritten ls → EachPrints o vs
behind_prints o [] ls t h = tt
behind_prints o (v ∷ vs) ls t h = let g = subst AreWritten t.2 h in (t.3.good, said_written o v t.0 t.3 g.1.0, behind_prints o vs t.1 t.4 g.1.1)

listed_prints : (o : One) (vs : List (Of o)) (ls : List Lexeme) → SayListed o vs ls → AreWritten ls → EachPrints o vs
listed_prints o [] ls t h = tt
listed_prints o (v ∷ vs) ls t h = let g = subst AreWritten t.2 h in (t.3.good, said_written o v t.0 t.3 g.0, behind_prints o vs t.1 t.4 g.1)

part_prints : (p : Part) (v : Contents p) (own : List Lexeme) → SpellsPart p v own → AreWritten own → PrintsPart p v
part_prints (one o) v own t h = let g = subst AreWritten t.1 h in (t.2.good, said_written o v t.0 t.2 g.0)
part_prints (perhaps w o) None own t h = tt
part_prints (perhaps w o) (Some v) own t h = let g = subst AreWritten t.1 h in (g.0, t.2.good, said_written o v t.0 t.2 g.1.0)
part_prints (many o) vs own t h = each_prints o vs own t h
part_prints (listed o) vs own t h = let g = subst AreWritten t.1 h in listed_prints o vs t.0 t.2 g.1
part_prints arguments ns own t h = let g = subst AreWritten t.0.1 h in (listed_prints name ns t.0.0 t.0.2 g.1, t.1)
part_prints formula f own t h = good_spelled (signs own) f (all_good own h) t

-- what was said by tokens can be printed
pub form_prints : (ps : forms.Form) (a : Args ps) (ls : List Lexeme) → SpellsForm ps a ls → AreWritten ls → PrintsForm ps a
form_prints [] a ls t h = tt
form_prints (fixed l ∷ ps) a ls t h = let g = subst AreWritten t.1 h in (g.0, form_prints ps a t.0 t.2 g.1)
form_prints (part p ∷ ps) a ls t h =
    let g = subst AreWritten t.2 h in
    (part_prints p a.0 t.0 t.3 (left t.0 t.1 g), form_prints ps a.1 t.1 t.4 (right t.0 t.1 g))
