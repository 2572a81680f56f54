-- The signs from a place on.
use Rattle.std.proofs.Common.{◌≡◌, ℕ, zero, suc, ◌+◌, ◌-◌, ◌<◌, ◌≤◌, get_or, List, [], ◌∷◌, length, drop, Some, None, refl, sym, ap, ◌∙◌, arith}
use Rattle.std.specs.Prelude.{slice_get, nat_le, not, ◌&&◌, true}
use Rattle.std.proofs.lemmas.List.{drop_more, drop-drop, drop-map, length-drop, length-map}
use Rattle.std.proofs.lemmas.Option.{slice_get_within, slice_get-get_or, get_or_from_slice_get}
use Rattle.std.proofs.lemmas.Bool.{and_parts}
use Rattle.std.specs.Str.{IsUtf8}
use Rattle.sig_base.specs.Words.{is_name, is_word, is_reserved}
use Rattle.sig_words.proofs.Shared.{word_utf8}
use Rattle.sig_words.specs.declared.token.TokenKind.TheVariants as kind
use Rattle.sig_formula.specs.declared.formula.BinOp.{BinOp}
use Rattle.formula_text.specs.Grammar.{Draft}
use Rattle.formula_text.specs.Parser.{expr}
use Rattle.formula_text.specs.Slots.{Reads, ReadsNone}
use Rattle.formula_text.proofs.Complete.{Stops}
use Rattle.formula_text.proofs.Laws.{longest, has_none}
use Rattle.sig_words.specs.declared.token.Token.{Token}
use Rattle.sig_words.specs.Lexemes.{lexeme, lexemes}
use Rattle.formula_text.specs.Signs.{Sign, sign, signs}
use Rattle.sig_words.specs.Lexemes.{text_at}
use Rattle.formula_text.specs.declared.sign.Sign.{Sign as Seen}
use Rattle.formula_text.specs.declared.sign.Sign.TheVariants as seen
use Rattle.formula_text.specs.Rough.{IsLiteralAt, bytes_at, sign_of, IsSeen, IsSeenAt, signs_from}

-- the sign of the token at a place stands first
pub from_some : (line : List ℕ) (ts : List Token) (i : ℕ) (t : Token) → slice_get ts i ≡ Some t → signs_from line ts i ≡ sign (lexeme line t) ∷ signs_from line ts (i + 1)
unfolding signs_from
from_some line ts i t e =
    let whole : drop i ts ≡ t ∷ drop (i + 1) ts =
    drop_more ts i t (slice_get_within ts i t e) ∙ ap (λ (x : Token). x ∷ drop (i + 1) ts) (get_or_from_slice_get ts i t t e) in
    ap (λ (us : List Token). signs (lexemes line us)) whole

pub found_at : (line : List ℕ) (ts : List Token) (i : ℕ) (t : Token) (s : Seen) → slice_get ts i ≡ Some t → sign_of (text_at line t) s ≡ sign (lexeme line t)
    → signs_from line ts i ≡ sign_of (bytes_at line ts i) s ∷ signs_from line ts (i + 1)
found_at line ts i t s is e = rw is (from_some line ts i t is ∙ ap (λ (x : Sign). x ∷ signs_from line ts (i + 1)) (sym e))

pub seen_at : (line : List ℕ) (ts : List Token) (i : ℕ) (t : Token) (s : Seen) → slice_get ts i ≡ Some t → IsSeen line t s → IsSeenAt line ts i s
seen_at line ts i t seen.Name is h = rw is h
seen_at line ts i t seen.Text is h = rw is h
seen_at line ts i t _ is h = tt

-- past the last token there is none
pub from_none : (line : List ℕ) (ts : List Token) (i : ℕ) → length ts ≤ i → signs_from line ts i ≡ []
unfolding signs_from
from_none line [] zero h = refl
from_none line [] (suc i) h = refl
from_none line (u ∷ ts) zero h = absurd (omega arith)
from_none line (u ∷ ts) (suc i) h = from_none line ts i (omega arith)

-- there are as many as there are tokens from there on
pub length-from : (line : List ℕ) (ts : List Token) (i : ℕ) → i ≤ length ts → length (signs_from line ts i) + i ≡ length ts
unfolding signs_from
length-from line [] zero h = refl
length-from line [] (suc i) h = absurd (omega arith)
length-from line (u ∷ ts) zero h = let rest = length-from line ts zero (omega arith) in omega arith
length-from line (u ∷ ts) (suc i) h = let rest = length-from line ts i (omega arith) in omega arith

-- a token that isn't an operator ends a part
pub others_stop : (text : List ℕ) (x : Seen) (rest after : List Sign) → rest ≡ sign_of text x ∷ after → ((o : BinOp) → x ≡ seen.Operator o → ⊥) → Stops 0 rest
others_stop text (seen.Operator o) rest after is h = absurd (h o refl)
others_stop text _ rest after is h = rw is tt

-- where nothing is read, no formula begins
pub none_read : (line : List ℕ) (ts : List Token) (from : ℕ) → ((n : ℕ) → length (signs_from line ts from) < n → None ≡ expr n 0 (signs_from line ts from)) → ReadsNone line ts from
unfolding signs_from
none_read line ts from h =
    let ls = lexemes line (drop from ts) in
    has_none (length ls + 1) ls (omega arith) (sym (h (length ls + 1) (omega (arith, length-map ls sign))))

rest_is : (line : List ℕ) (ts : List Token) (from to : ℕ) → from ≤ to → signs_from line ts to ≡ signs (drop (to - from) (lexemes line (drop from ts)))
unfolding signs_from
rest_is line ts from to h =
    let sum : from + (to - from) ≡ to = omega arith in
    let cut : drop to ts ≡ drop (to - from) (drop from ts) = ap (λ (n : ℕ). drop n ts) (sym sum) ∙ sym (drop-drop (to - from) from ts) in
    ap (λ (us : List Token). signs (lexemes line us)) cut ∙ ap signs (sym (drop-map (lexeme line) (to - from) (drop from ts)))

-- what is read is the longest formula
pub some_read : (line : List ℕ) (ts : List Token) (from to own : ℕ) (x : Draft) → to ≤ length ts → length (signs_from line ts to) < length (signs_from line ts from)
    → ((n : ℕ) → length (signs_from line ts from) < n → Some (x, own, signs_from line ts to) ≡ expr n 0 (signs_from line ts from)) → Reads line ts from to x
unfolding signs_from
some_read line ts from to own x inside shorter h =
    let ls = lexemes line (drop from ts) in
    let len = length-map ls sign in
    let len-ls = length-map (drop from ts) (lexeme line) in
    let len-to = length-map (lexemes line (drop to ts)) sign in
    let len-to2 = length-map (drop to ts) (lexeme line) in
    let at-from = length-drop from ts in
    let at-to = length-drop to ts in
    let ahead : from < to = omega arith in
    (ahead, inside, longest (length ls + 1) ls (x, own, signs_from line ts to) (to - from) (omega arith) (sym (h (length ls + 1) (omega arith))) (rest_is line ts from to (omega arith)) (omega arith))

-- the bytes of the token at a place
pub at_place : (line : List ℕ) (ts : List Token) (place : ℕ) (d : Token) → place < length ts → bytes_at line ts place ≡ text_at line (get_or ts place d)
at_place line ts place d h = rw (slice_get-get_or ts place d h) refl

pub literal_place : (ts : List Token) (place : ℕ) (d : Token) → place < length ts → IsLiteralAt ts place → (get_or ts place d).kind ≡ kind.Literal
literal_place ts place d h is = let at = slice_get-get_or ts place d h in rw at at is

-- a name is UTF-8
pub name_utf8 : (w : List ℕ) → is_name w ≡ true → IsUtf8 w
unfolding is_name
name_utf8 w h = word_utf8 w (and_parts (is_word w) (nat_le (length w) 32) (and_parts (is_word w && nat_le (length w) 32) (not (is_reserved w)) h).0).0
