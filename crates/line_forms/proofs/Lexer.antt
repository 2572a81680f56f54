-- The text of a line is cut into the tokens that spell it.
use Rattle.std.proofs.Common.{◌≡◌, ℕ, suc, ◌+◌, ◌-◌, true, List, [], ◌∷◌, ◌++◌, length, map, take, drop, Some, None, codes, refl, sym, ap, subst, ◌∙◌, append_assoc, arith}
use Rattle.std.specs.Prelude.{slice_index}
use Rattle.std.specs.Str.{IsUtf8}
use Rattle.std.proofs.Math.Seq.{drop-append_seam, drop-length}
use Rattle.std.proofs.lemmas.List.{drop-drop, length-append, length-drop, map-append, take_at}
use Rattle.std.proofs.lemmas.Str.{IsUtf8-append}
use Rattle.sig_words.specs.declared.token.Token.{Token}
use Rattle.sig_words.specs.declared.token.TokenKind.TheVariants as kind
use Rattle.sig_words.specs.Lexemes.{Lexeme, word, symbol, lexeme, lexeme_of, lexemes}
use Rattle.sig_words.specs.Tokens.{AreTokens, Cuts, may_sign}
use Rattle.sig_words.proofs.Shared.{index_drop}
use Rattle.formula_text.specs.Grammar.{Draft, IsFormula, Spells as FormulaSigns}
use Rattle.formula_text.specs.Signs.{Sign}
use Rattle.formula_text.specs.Canonical.{canonical_text, minimal}
use Rattle.formula_text.specs.RoundTrips.{IsPrintable}
use Rattle.formula_text.proofs.Shared.{cuts_append, Gap, cut_written, minimal_spells, ascii, printable_tokens, written_utf8}
use Rattle.line_forms.specs.Forms.{One, Part, one, perhaps, many, listed, arguments, formula, name, Form, fixed, part, Of, Contents, Args, SayEach, SayBehind, SayListed, SpellsPart, SpellsForm, token_of}
use Rattle.line_forms.specs.Printed.{token_text, spaced, behind_tokens, opened_tokens, part_text, form_text, line_text}
use Rattle.line_forms.specs.Rows.{Language, Said, Spells}
use Rattle.line_forms.proofs.Printable.{IsWritten, AreWritten, EachPrints, PrintsPart, PrintsForm, tokens_written, form_prints}
use Rattle.line_forms.proofs.Tokens.{EndsToken, prints, ends_word, lexeme_utf8, word_some}

-- tokens of the line from one place up to another, which say this
record CutsAs (line : List ℕ) (from to : ℕ) (P : List Lexeme → Type 0) : Type 0 where
  tokens : List Token
  cuts : Cuts line from tokens to
  says : P (lexemes line tokens)

move : (line p rest : List ℕ) (s : ℕ) → drop s line ≡ p ++ rest → drop (s + length p) line ≡ rest
move line p rest s h = sym (drop-drop (length p) s line) ∙ ap (λ (x : List ℕ). drop (length p) x) h ∙ drop-append_seam p rest

first_at : (line rest : List ℕ) (s b : ℕ) → drop s line ≡ b ∷ rest → slice_index line s ≡ b
first_at line rest s b h = sym (index_drop s line) ∙ ap (λ (x : List ℕ). slice_index x 0) h

sign_after : (line : List ℕ) (s : ℕ) → slice_index line s ≡ 32 → may_sign line (suc s) ≡ true
sign_after line s at = rw at refl

-- one token behind a blank
cut_one : (line : List ℕ) (from : ℕ) (l : Lexeme) (rest : List ℕ) → IsWritten l → drop from line ≡ 32 ∷ (token_text l ++ rest) → EndsToken rest
    → CutsAs line from (from + (1 + length (token_text l))) (λ ls. ls ≡ l ∷ [])
cut_one line from l rest p h e =
    let own = prints l p in
    let text = token_text l in
    let n = length text in
    let some = own.some in
    let start = suc from in
    let next : suc from ≡ from + 1 = omega arith in
    let behind : drop start line ≡ text ++ rest = ap (λ (k : ℕ). drop k line) next ∙ move line (32 ∷ []) (text ++ rest) from h in
    let size : (start + n) - start ≡ n = omega arith in
    let bytes : take ((start + n) - start) (drop start line) ≡ text = ap (λ (m : ℕ). take m (drop start line)) size ∙ ap (λ (x : List ℕ). take n x) behind ∙ take_at text rest n refl in
    let after : drop (start + n) line ≡ rest = move line text rest start behind in
    let sign : may_sign line start ≡ true = sign_after line from (first_at line (text ++ rest) from 32 h) in
    let one_blank : start - from ≡ 1 = omega arith in
    let place : start + n ≡ from + (1 + n) = omega arith in
    record {
      tokens = record { kind = own.kind_is; start = start; end = start + n } ∷ [];
      cuts = (
        record {
          after = omega arith;
          some = omega arith;
          within = omega (arith, ap length h, length-drop from line, length-append text rest);
          blanks = rw (one_blank, h) refl;
          token = rw (bytes, after, sign) (own.token rest e);
        },
        place,
      );
      says = ap (λ (x : List ℕ). lexeme_of own.kind_is x ∷ []) bytes ∙ ap (λ (x : Lexeme). x ∷ []) own.says;
    }

join : (line : List ℕ) (a b c : ℕ) (P Q R : List Lexeme → Type 0) → CutsAs line a b P → CutsAs line b c Q → ((ls ms : List Lexeme) → P ls → Q ms → R (ls ++ ms)) → CutsAs line a c R
join line a b c P Q R x y f = record {
  tokens = x.tokens ++ y.tokens;
  cuts = cuts_append line a b c x.tokens y.tokens x.cuts y.cuts;
  says = subst R (sym (map-append (lexeme line) x.tokens y.tokens)) (f (lexemes line x.tokens) (lexemes line y.tokens) x.says y.says);
}

up_to : (line : List ℕ) (a b c : ℕ) (P : List Lexeme → Type 0) → b ≡ c → CutsAs line a b P → CutsAs line a c P
up_to line a b c P e x = subst (λ (n : ℕ). CutsAs line a n P) e x

meaning : (line : List ℕ) (a b : ℕ) (P Q : List Lexeme → Type 0) → CutsAs line a b P → ((ls : List Lexeme) → P ls → Q ls) → CutsAs line a b Q
meaning line a b P Q x f = record { tokens = x.tokens; cuts = x.cuts; says = f (lexemes line x.tokens) x.says }

spaced_ends : (ls : List Lexeme) (rest : List ℕ) → EndsToken rest → EndsToken (spaced ls ++ rest)
spaced_ends [] rest e = e
spaced_ends (l ∷ ls) rest e = refl

cut_spaced : (line : List ℕ) (from : ℕ) (ls : List Lexeme) (rest : List ℕ) → AreWritten ls → drop from line ≡ spaced ls ++ rest → EndsToken rest
    → CutsAs line from (from + length (spaced ls)) (λ ks. ks ≡ ls)
cut_spaced line from [] rest p h e = record { tokens = []; cuts = omega arith; says = refl }
cut_spaced line from (l ∷ ls) rest p h e =
    let text = token_text l in
    let at : drop from line ≡ 32 ∷ (text ++ (spaced ls ++ rest)) = h ∙ ap (λ (x : List ℕ). 32 ∷ x) (append_assoc text (spaced ls) rest) in
    let to = from + length (32 ∷ text) in
    let head : CutsAs line from to (λ ks. ks ≡ l ∷ []) = up_to line from (from + (1 + length text)) to (λ ks. ks ≡ l ∷ []) (omega arith) (cut_one line from l (spaced ls ++ rest) p.0 at (spaced_ends ls rest e)) in
    let back = cut_spaced line to ls rest p.1 (move line (32 ∷ text) (spaced ls ++ rest) from at) e in
    up_to line from (to + length (spaced ls)) (from + length (spaced (l ∷ ls))) (λ ks. ks ≡ l ∷ ls) (omega (arith, length-append text (spaced ls)))
    (join line from to (to + length (spaced ls)) (λ ks. ks ≡ l ∷ []) (λ ks. ks ≡ ls) (λ ks. ks ≡ l ∷ ls) head back (λ ks ms x y. rw (x, y) refl))

-- ---- the tokens of a part spell it

each_says : (o : One) (vs : List (Of o)) → EachPrints o vs → SayEach o vs (map (token_of o) vs)
each_says o [] g = refl
each_says o (v ∷ vs) g = (token_of o v, map (token_of o) vs, refl, record { written = refl; good = g.0 }, each_says o vs g.2)

pub each_written : (o : One) (vs : List (Of o)) → EachPrints o vs → AreWritten (map (token_of o) vs)
each_written o [] g = tt
each_written o (v ∷ vs) g = (g.1, each_written o vs g.2)

behind_says : (o : One) (vs : List (Of o)) → EachPrints o vs → SayBehind o vs (behind_tokens o vs)
behind_says o [] g = refl
behind_says o (v ∷ vs) g = (token_of o v, behind_tokens o vs, refl, record { written = refl; good = g.0 }, behind_says o vs g.2)

opened_says : (o : One) (vs : List (Of o)) → EachPrints o vs → SayListed o vs (opened_tokens o vs)
opened_says o [] g = refl
opened_says o (v ∷ vs) g = (token_of o v, behind_tokens o vs, refl, record { written = refl; good = g.0 }, behind_says o vs g.2)

pub open_written : IsWritten (symbol (codes "("))
open_written = refl

behind_written : (o : One) (vs : List (Of o)) → EachPrints o vs → AreWritten (behind_tokens o vs)
behind_written o [] g = (refl, tt)
behind_written o (v ∷ vs) g = (refl, (g.1, behind_written o vs g.2))

pub opened_written : (o : One) (vs : List (Of o)) → EachPrints o vs → AreWritten (opened_tokens o vs)
opened_written o [] g = (refl, tt)
opened_written o (v ∷ vs) g = (g.1, behind_written o vs g.2)

cut_formula : (f : Draft) (line : List ℕ) (from : ℕ) (rest : List ℕ) → IsPrintable f → drop from line ≡ (32 ∷ canonical_text f) ++ rest → EndsToken rest
    → CutsAs line from (from + length (32 ∷ canonical_text f)) (λ ls. IsFormula ls f)
cut_formula f line from rest p h e =
    let text = canonical_text f in
    let start = suc from in
    let next : suc from ≡ from + 1 = omega arith in
    let behind : drop start line ≡ text ++ rest = ap (λ (k : ℕ). drop k line) next ∙ move line (32 ∷ []) (text ++ rest) from h in
    let one_blank : start - from ≡ 1 = omega arith in
    let gap : Gap line from start = (omega arith, rw (one_blank, h) refl) in
    let own = cut_written (minimal 0 f) line from start rest gap behind (sign_after line from (first_at line (text ++ rest) from 32 h)) (ends_word rest e) (printable_tokens f p) in
    let to : start + length text ≡ from + length (32 ∷ text) = omega arith in
    record {
      tokens = own.tokens;
      cuts = subst (λ (n : ℕ). Cuts line from own.tokens n) to own.cuts;
      says = subst (λ (ss : List Sign). FormulaSigns ss f) (sym own.says) (minimal_spells f);
    }

cut_part : (p : Part) (v : Contents p) (line : List ℕ) (from : ℕ) (rest : List ℕ) → PrintsPart p v → drop from line ≡ part_text p v ++ rest → EndsToken rest
    → CutsAs line from (from + length (part_text p v)) (SpellsPart p v)
cut_part (one o) v line from rest p h e =
    let ls = token_of o v ∷ [] in
    meaning line from (from + length (spaced ls)) (λ ks. ks ≡ ls) (SpellsPart (one o) v) (cut_spaced line from ls rest (p.1, tt) h e) (λ ks is. (token_of o v, is, record { written = refl; good = p.0 }))
cut_part (perhaps w o) None line from rest p h e = cut_spaced line from [] rest tt h e
cut_part (perhaps w o) (Some v) line from rest p h e =
    let ls = word w ∷ token_of o v ∷ [] in
    meaning line from (from + length (spaced ls)) (λ ks. ks ≡ ls) (SpellsPart (perhaps w o) (Some v)) (cut_spaced line from ls rest (p.0, (p.2, tt)) h e) (λ ks is. (token_of o v, is, record { written = refl; good = p.1 }))
cut_part (many o) vs line from rest p h e =
    let ls = map (token_of o) vs in
    meaning line from (from + length (spaced ls)) (λ ks. ks ≡ ls) (SpellsPart (many o) vs) (cut_spaced line from ls rest (each_written o vs p) h e) (λ ks is. subst (SayEach o vs) (sym is) (each_says o vs p))
cut_part (listed o) vs line from rest p h e =
    let ls = symbol (codes "(") ∷ opened_tokens o vs in
    meaning line from (from + length (spaced ls)) (λ ks. ks ≡ ls) (SpellsPart (listed o) vs) (cut_spaced line from ls rest (open_written, opened_written o vs p) h e) (λ ks is. (opened_tokens o vs, is, opened_says o vs p))
cut_part arguments ns line from rest p h e =
    let ls = symbol (codes "(") ∷ opened_tokens name ns in
    meaning line from (from + length (spaced ls)) (λ ks. ks ≡ ls) (SpellsPart arguments ns) (cut_spaced line from ls rest (open_written, opened_written name ns p.0) h e) (λ ks is. ((opened_tokens name ns, is, opened_says name ns p.0), p.1))
cut_part formula f line from rest p h e = cut_formula f line from rest p h e

part_ends : (p : Part) (v : Contents p) (rest : List ℕ) → EndsToken rest → EndsToken (part_text p v ++ rest)
part_ends (one o) v rest e = refl
part_ends (perhaps w o) None rest e = e
part_ends (perhaps w o) (Some v) rest e = refl
part_ends (many o) vs rest e = spaced_ends (map (token_of o) vs) rest e
part_ends (listed o) vs rest e = refl
part_ends arguments ns rest e = refl
part_ends formula f rest e = refl

pub form_ends : (ps : Form) (a : Args ps) → EndsToken (form_text ps a)
form_ends [] a = tt
form_ends (fixed l ∷ ps) a = refl
form_ends (part p ∷ ps) a = part_ends p a.0 (form_text ps a.1) (form_ends ps a.1)

-- what is printed of a line is cut into tokens that spell it
cut_form : (ps : Form) (a : Args ps) (line : List ℕ) (from : ℕ) → PrintsForm ps a → drop from line ≡ form_text ps a → CutsAs line from (from + length (form_text ps a)) (SpellsForm ps a)
cut_form [] a line from p h = record { tokens = []; cuts = omega arith; says = refl }
cut_form (fixed l ∷ ps) a line from p h =
    let text = token_text l in
    let rest = form_text ps a in
    let to = from + length (32 ∷ text) in
    let head : CutsAs line from to (λ ks. ks ≡ l ∷ []) = up_to line from (from + (1 + length text)) to (λ ks. ks ≡ l ∷ []) (omega arith) (cut_one line from l rest p.0 h (form_ends ps a)) in
    let back = cut_form ps a line to p.1 (move line (32 ∷ text) rest from h) in
    up_to line from (to + length rest) (from + length (form_text (fixed l ∷ ps) a)) (SpellsForm (fixed l ∷ ps) a) (omega (arith, length-append text rest))
    (join line from to (to + length rest) (λ ks. ks ≡ l ∷ []) (SpellsForm ps a) (SpellsForm (fixed l ∷ ps) a) head back (λ ks ms x y. (ms, ap (λ (us : List Lexeme). us ++ ms) x, y)))
cut_form (part p ∷ ps) a line from q h =
    let text = part_text p a.0 in
    let rest = form_text ps a.1 in
    let to = from + length text in
    let head = cut_part p a.0 line from rest q.0 h (form_ends ps a.1) in
    let back = cut_form ps a.1 line to q.1 (move line text rest from h) in
    up_to line from (to + length rest) (from + length (form_text (part p ∷ ps) a)) (SpellsForm (part p ∷ ps) a) (omega (arith, length-append text rest))
    (join line from to (to + length rest) (SpellsPart p a.0) (SpellsForm ps a.1) (SpellsForm (part p ∷ ps) a) head back (λ ks ms x y. (ks, ms, refl, x, y)))

-- ---- the text is UTF-8

blank_before : (text : List ℕ) → IsUtf8 text → IsUtf8 (32 ∷ text)
blank_before text u = IsUtf8-append (32 ∷ []) text (ascii (32 ∷ []) refl) u

spaced_utf8 : (ls : List Lexeme) → AreWritten ls → IsUtf8 (spaced ls)
spaced_utf8 [] h = ascii [] refl
spaced_utf8 (l ∷ ls) h = blank_before (token_text l ++ spaced ls) (IsUtf8-append (token_text l) (spaced ls) (lexeme_utf8 l h.0) (spaced_utf8 ls h.1))

part_utf8 : (p : Part) (v : Contents p) → PrintsPart p v → IsUtf8 (part_text p v)
part_utf8 (one o) v p = spaced_utf8 (token_of o v ∷ []) (p.1, tt)
part_utf8 (perhaps w o) None p = spaced_utf8 [] tt
part_utf8 (perhaps w o) (Some v) p = spaced_utf8 (word w ∷ token_of o v ∷ []) (p.0, (p.2, tt))
part_utf8 (many o) vs p = spaced_utf8 (map (token_of o) vs) (each_written o vs p)
part_utf8 (listed o) vs p = spaced_utf8 (symbol (codes "(") ∷ opened_tokens o vs) (open_written, opened_written o vs p)
part_utf8 arguments ns p = spaced_utf8 (symbol (codes "(") ∷ opened_tokens name ns) (open_written, opened_written name ns p.0)
part_utf8 formula f p = blank_before (canonical_text f) (written_utf8 0 f p)

form_utf8 : (ps : Form) (a : Args ps) → PrintsForm ps a → IsUtf8 (form_text ps a)
form_utf8 [] a p = ascii [] refl
form_utf8 (fixed l ∷ ps) a p =
    blank_before (token_text l ++ form_text ps a) (IsUtf8-append (token_text l) (form_text ps a) (lexeme_utf8 l p.0) (form_utf8 ps a p.1))
form_utf8 (part p ∷ ps) a q = IsUtf8-append (part_text p a.0) (form_text ps a.1) (part_utf8 p a.0 q.0) (form_utf8 ps a.1 q.1)

-- ---- whole lines

cut_first : (w : List ℕ) (rest : List ℕ) → IsWritten (word w) → EndsToken rest → CutsAs (w ++ rest) 0 (length w) (λ ls. ls ≡ word w ∷ [])
cut_first w rest h e =
    let some = word_some w h in
    let size : length w - 0 ≡ length w = omega arith in
    let front : take (length w - 0) (drop 0 (w ++ rest)) ≡ w = ap (λ (m : ℕ). take m (w ++ rest)) size ∙ take_at w rest (length w) refl in
    let after : drop (length w) (w ++ rest) ≡ rest = drop-append_seam w rest in
    record {
      tokens = record { kind = kind.Word; start = 0; end = length w } ∷ [];
      cuts = (
        record {
          after = omega arith;
          some = some;
          within = omega (arith, length-append w rest);
          blanks = refl;
          token = rw (front, after) (record { form = h; ends = ends_word rest e; signed = tt });
        },
        refl,
      );
      says = ap (λ (x : List ℕ). word x ∷ []) front;
    }

-- the text of a line has tokens that spell it
pub record Rewrites (language : Language) (x : Said language) : Type 0 where
  pub tokens : List Token
  pub cut : AreTokens (line_text language x) tokens
  pub spelled : Spells language x (lexemes (line_text language x) tokens)
  pub first : IsWritten (word (language.row x.0).0)
  pub parts : PrintsForm (language.row x.0).1 x.1

-- what can be printed of a line is cut into tokens that spell it
pub prints_line : (language : Language) (x : Said language) → IsWritten (word (language.row x.0).0) → PrintsForm (language.row x.0).1 x.1 → Rewrites language x
prints_line language x first own =
    let w = (language.row x.0).0 in
    let ps = (language.row x.0).1 in
    let rest = form_text ps x.1 in
    let head = cut_first w rest first (form_ends ps x.1) in
    let back = cut_form ps x.1 (w ++ rest) (length w) own (drop-append_seam w rest) in
    let end = length w + length rest in
    let all : CutsAs (w ++ rest) 0 end (Spells language x) = join (w ++ rest) 0 (length w) end (λ ls. ls ≡ word w ∷ []) (SpellsForm ps x.1) (Spells language x) head back
    (λ ks ms a b. (ms, ap (λ (us : List Lexeme). us ++ ms) a, b)) in
    let past : drop end (w ++ rest) ≡ [] = ap (λ (n : ℕ). drop n (w ++ rest)) (sym (length-append w rest)) ∙ drop-length (w ++ rest) in
    record {
      tokens = all.tokens;
      cut = record {
        utf8 = IsUtf8-append w rest (lexeme_utf8 (word w) first) (form_utf8 ps x.1 own);
        last = end;
        cuts = all.cuts;
        blanks = rw past refl;
      };
      spelled = all.says;
      first = first;
      parts = own;
    }

-- what a line says is printed as a line that says it
pub rewrites : (language : Language) (line : List ℕ) (ts : List Token) (x : Said language) → AreTokens line ts → Spells language x (lexemes line ts) → Rewrites language x
rewrites language line ts x are t =
    let good : AreWritten (word (language.row x.0).0 ∷ t.0) = subst AreWritten t.1 (tokens_written line ts are) in
    prints_line language x good.0 (form_prints (language.row x.0).1 x.1 t.0 t.2 good.1)
