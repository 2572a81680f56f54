-- What a reader finds in a line is what the line's bytes write.
use Rattle.std.proofs.Common.{◌≡◌, ℕ, List, [], ◌∷◌, Option, Some, None, option_map, refl, sym, ap, subst, ◌∙◌, arith}
use Rattle.std.specs.Prelude.{Result, Ok, Err, IfOk, MatchOption, slice_get}
use Rattle.std.specs.Global.{Box}
use Rattle.std.specs.Option.{option_or}
use Rattle.std.specs.Str.{IsUtf8}
use Rattle.std.proofs.lemmas.Option.{same_Some}
use Rattle.sig_words.specs.declared.token.Token.{Token}
use Rattle.sig_words.specs.declared.token.TokenKind.TheVariants as kind
use Rattle.sig_words.specs.Lexemes.{Lexeme, word, lexeme, lexemes, text_at}
use Rattle.sig_words.specs.Tokens.{AreTokens, IsTokenOf}
use Rattle.sig_words.proofs.Shared.{each_token, token_word_utf8, lexeme-Word}
use Rattle.line_forms.specs.declared.unread.Unread.{Unread}
use Rattle.line_forms.specs.declared.unread.Unread.TheVariants as unread
use Rattle.line_forms.specs.Blocks.{Writes}
use Rattle.line_forms.specs.Findings.{found_as, found_first}
use Rattle.line_forms.specs.Forms.{Args}
use Rattle.line_forms.specs.Reader.{read_form, read_word}
use Rattle.line_forms.specs.Reads.{IfRead, optional}
use Rattle.line_forms.specs.Rows.{Language, IsGrammar, Said, first_of, rows_of, said_of}
use Rattle.line_forms.specs.Told.{ahead}
use Rattle.line_forms.proofs.Blocks.{writes, writes_none}

-- ---- the rows of a word

-- the first token's bytes are UTF-8
pub first_utf8 : (line : List ℕ) (ts : List Token) (t : Token) → AreTokens line ts → Some t ≡ slice_get ts 0 → t.kind ≡ kind.Word → IsUtf8 (text_at line t)
first_utf8 line [] t a e k = absurd cc
first_utf8 line (u ∷ us) t a e k =
    let same : u ≡ t = cc in
    let i : IsTokenOf line u = each_token line (u ∷ us) a 0 u (omega arith) in
    token_word_utf8 line t (subst (IsTokenOf line) same i) k

or_none : {A : Type 0} (o : Option A) → option_or o None ≡ o
or_none None = refl
or_none (Some a) = refl

found_one : {S A F : Type 0} (f : S → F) (g : A → S) (o : Option A) (rest : Option S)
    → option_map f (option_or (option_map g o) rest) ≡ option_or (option_map (λ a. f (g a)) o) (option_map f rest)
found_one f g None rest = refl
found_one f g (Some a) rest = refl

-- what the first of the rows finds is what the tokens say
found_said : {F : Type 0} (language : Language) (f : Said language → F) (rs : List language.Row) (ls : List Lexeme)
    → found_first language f rs ls ≡ option_map f (first_of language rs ls)
found_said language f [] ls = refl
found_said language f (r ∷ []) ls =
    sym (found_one f (λ (a : Args (language.row r).1). (r, a)) (read_form (language.row r).1 ls) None ∙ or_none (found_as language f r ls))
found_said language f (r ∷ s ∷ rs) ls =
    ap (option_or (found_as language f r ls)) (found_said language f (s ∷ rs) ls)
    ∙ sym (found_one f (λ (a : Args (language.row r).1). (r, a)) (read_form (language.row r).1 ls) (first_of language (s ∷ rs) ls))

-- the first token is the first word
pub first_says : (line : List ℕ) (ts : List Token) (t : Token) (w : List ℕ) → Some t ≡ slice_get ts 0 → t.kind ≡ kind.Word → w ≡ text_at line t
    → Some (w, ahead line ts 1) ≡ read_word (lexemes line ts)
unfolding ahead
first_says line [] t w e k h = absurd cc
first_says line (u ∷ us) t w e k h =
    let same : t ≡ u = cc in
    let says : lexeme line u ≡ word w = ap (lexeme line) (sym same) ∙ lexeme-Word line t k ∙ ap (λ (v : List ℕ). word v) (sym h) in
    rw says refl

-- what the rows of the first word find is what the line says
pub said_word : {F : Type 0} (language : Language) (f : Said language → F) (w : List ℕ) (rest ls : List Lexeme) → Some (w, rest) ≡ read_word ls
    → option_map f (said_of language ls) ≡ found_first language f (rows_of w language.table) rest
said_word language f w rest (word v ∷ ls) e =
    let mine : List ℕ × List Lexeme = (w, rest) in
    let other : List ℕ × List Lexeme = (v, ls) in
    let p : mine ≡ other = same_Some mine other e in
    rw (ap (λ (q : List ℕ × List Lexeme). q.0) p, ap (λ (q : List ℕ × List Lexeme). q.1) p) (sym (found_said language f (rows_of v language.table) ls))
said_word language f w rest _ e = absurd cc

-- ---- lines of bytes

-- what is found in a line that writes this or nothing
abbrev pub IsFound : {F : Type 0} (language : Language) → (Said language → F) → List ℕ → Option F → Type 0
IsFound language f bytes found =
    MatchOption found ((x : Said language) → Writes language x bytes → ⊥) (λ y. (x : Said language) × Writes language x bytes × (y ≡ f x))

of_found : {F : Type 0} (language : Language) → IsGrammar language → (f : Said language → F) (bytes : List ℕ) (ts : List Token) (found : Option F)
    (o : Option (Said language)) → AreTokens bytes ts → said_of language (lexemes bytes ts) ≡ o → found ≡ option_map f o → IsFound language f bytes found
of_found language g f bytes ts None None a e h = writes_none language g bytes ts a e
of_found language g f bytes ts (Some y) None a e h = absurd cc
of_found language g f bytes ts None (Some x) a e h = absurd cc
of_found language g f bytes ts (Some y) (Some x) a e h = (x, writes language g bytes ts x a e, cc)

-- what is found in the tokens of a line is what its bytes write
pub from_tokens : {F : Type 0} (language : Language) → IsGrammar language → (f : Said language → F) (bytes : List ℕ) (ts : List Token)
    (r : Result F Unread) → AreTokens bytes ts → IfRead r (λ found. found ≡ option_map f (said_of language (lexemes bytes ts)))
    → IfOk (optional r) (λ found. IsFound language f bytes found)
from_tokens language g f bytes ts (Ok found) a e = of_found language g f bytes ts (Some found) (said_of language (lexemes bytes ts)) a refl e
from_tokens language g f bytes ts (Err unread.NotThere) a e = of_found language g f bytes ts None (said_of language (lexemes bytes ts)) a refl e
from_tokens language g f bytes ts (Err (unread.NoMemory e)) a h = h

-- so it is behind a pointer
abbrev pub IsHeld : {F : Type 0} (language : Language) → (Said language → F) → List ℕ → Option (Box F) → Type 0
IsHeld language f bytes held =
    MatchOption held ((x : Said language) → Writes language x bytes → ⊥) (λ b. (x : Said language) × Writes language x bytes × (b.value ≡ f x))

-- and it is what is found behind a pointer
pub held_from_tokens : {F : Type 0} (language : Language) → IsGrammar language → (f : Said language → F) (bytes : List ℕ) (ts : List Token)
    (r : Result (Box F) Unread) → AreTokens bytes ts
    → IfRead r (λ held. option_map (λ b. b.value) held ≡ option_map f (said_of language (lexemes bytes ts)))
    → IfOk (optional r) (λ held. IsHeld language f bytes held)
held_from_tokens language g f bytes ts (Ok held) a e =
    of_found language g f bytes ts (Some held.value) (said_of language (lexemes bytes ts)) a refl e
held_from_tokens language g f bytes ts (Err unread.NotThere) a e = of_found language g f bytes ts None (said_of language (lexemes bytes ts)) a refl e
held_from_tokens language g f bytes ts (Err (unread.NoMemory e)) a h = h
