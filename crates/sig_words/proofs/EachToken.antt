-- What is known of each token of a line.
use Rattle.std.proofs.Common.{◌≡◌, ℕ, zero, suc, ◌+◌, ◌<◌, ◌≤◌, true, List, [], ◌∷◌, length, drop, All, refl, arith}
use Rattle.std.specs.List.{list_all}
use Rattle.std.specs.Str.{IsUtf8, IsAscii}
use Rattle.std.proofs.lemmas.Bool.{and_parts}
use Rattle.std.proofs.lemmas.Bool.Decides.{nat_tests}
use Rattle.std.proofs.lemmas.Str.{IsUtf8-from_ascii}
use Rattle.sig_base.specs.Words.{in_tag, in_word, is_tag, is_word}
use Rattle.sig_words.specs.declared.token.TokenKind.{TokenKind}
use Rattle.sig_words.specs.declared.token.TokenKind.TheVariants.{Word, Tag, Number, Literal, Symbol}
use Rattle.sig_words.specs.declared.token.Token.{Token}
use Rattle.sig_words.specs.Lexemes.{text_at}
use Rattle.sig_words.specs.Tokens.{Form, Cuts, AreTokens, IsTokenOf}
use Rattle.sig_words.proofs.Fronts.{word_all, tag_all}

each_cut : (line : List ℕ) (from to : ℕ) (ts : List Token) → IsUtf8 line → Cuts line from ts to → All (IsTokenOf line) ts
each_cut line from to [] u c k d h = absurd (omega arith)
each_cut line from to (t ∷ ts) u c zero d h = let s = c.0 in record { utf8 = u; some = s.some; within = s.within; token = s.token }
each_cut line from to (t ∷ ts) u c (suc k) d h = each_cut line t.end to ts u c.1 k d (omega arith)

-- each of the tokens of a line is a token of that line
pub each_token : (line : List ℕ) (ts : List Token) → AreTokens line ts → All (IsTokenOf line) ts
each_token line ts a = each_cut line 0 a.last ts a.utf8 a.cuts

count_cut : (line : List ℕ) (from to : ℕ) (ts : List Token) → Cuts line from ts to → from ≤ length line → from + length ts ≤ length line
count_cut line from to [] c h = omega arith
count_cut line from to (t ∷ ts) c h =
    let s = c.0 in let after = s.after in let some = s.some in
    let rest = count_cut line t.end to ts c.1 s.within in
    omega arith

-- a line has no more tokens than bytes
pub length-tokens : (line : List ℕ) (ts : List Token) → AreTokens line ts → length ts ≤ length line
length-tokens line ts a = let h = count_cut line 0 a.last ts a.cuts (omega arith) in omega arith

word_form : (k : TokenKind) (text : List ℕ) → k ≡ Word → Form k text → is_word text ≡ true
word_form Word text e f = f
word_form Tag text e f = absurd cc
word_form (Number z) text e f = absurd cc
word_form Literal text e f = absurd cc
word_form Symbol text e f = absurd cc

-- the bytes of a word token are a word
pub token_word : (line : List ℕ) (t : Token) → IsTokenOf line t → t.kind ≡ Word → is_word (text_at line t) ≡ true
token_word line t i e = word_form t.kind (text_at line t) e i.token.form

word_byte_ascii : (b : ℕ) → in_word b ≡ true → b < 128
word_byte_ascii b h = grind (arith, nat_tests)

word_bytes_ascii : (bs : List ℕ) → list_all in_word bs ≡ true → IsAscii bs
word_bytes_ascii [] h i = omega arith
word_bytes_ascii (b ∷ bs) h zero = word_byte_ascii b (and_parts (in_word b) (list_all in_word bs) h).0
word_bytes_ascii (b ∷ bs) h (suc i) = word_bytes_ascii bs (and_parts (in_word b) (list_all in_word bs) h).1 i

-- a word is ASCII
pub word_ascii : (w : List ℕ) → is_word w ≡ true → IsAscii w
word_ascii w h = word_bytes_ascii w (word_all w h)

-- a word is UTF-8
pub word_utf8 : (w : List ℕ) → is_word w ≡ true → IsUtf8 w
word_utf8 w h = IsUtf8-from_ascii w (word_ascii w h)

-- the bytes of a word token are UTF-8
pub token_word_utf8 : (line : List ℕ) (t : Token) → IsTokenOf line t → t.kind ≡ Word → IsUtf8 (text_at line t)
token_word_utf8 line t i e = word_utf8 (text_at line t) (token_word line t i e)

tag_form : (k : TokenKind) (text : List ℕ) → k ≡ Tag → Form k text → (text ≡ 64 ∷ drop 1 text) × (is_tag (drop 1 text) ≡ true) × (length (drop 1 text) ≤ 32)
tag_form Word text e f = absurd cc
tag_form Tag text e f = rw f.1 (refl, f.2, f.3)
tag_form (Number z) text e f = absurd cc
tag_form Literal text e f = absurd cc
tag_form Symbol text e f = absurd cc

-- a tag token is `@` and the name of a tag, of at most 32 bytes
pub token_tag : (line : List ℕ) (t : Token) → IsTokenOf line t → t.kind ≡ Tag
    → (text_at line t ≡ 64 ∷ drop 1 (text_at line t)) × (is_tag (drop 1 (text_at line t)) ≡ true) × (length (drop 1 (text_at line t)) ≤ 32)
token_tag line t i e = tag_form t.kind (text_at line t) e i.token.form

tag_byte_ascii : (b : ℕ) → in_tag b ≡ true → b < 128
tag_byte_ascii b h = grind (arith, nat_tests)

tag_bytes_ascii : (bs : List ℕ) → list_all in_tag bs ≡ true → IsAscii bs
tag_bytes_ascii [] h i = omega arith
tag_bytes_ascii (b ∷ bs) h zero = tag_byte_ascii b (and_parts (in_tag b) (list_all in_tag bs) h).0
tag_bytes_ascii (b ∷ bs) h (suc i) = tag_bytes_ascii bs (and_parts (in_tag b) (list_all in_tag bs) h).1 i

-- the name of a tag is UTF-8
pub tag_utf8 : (name : List ℕ) → is_tag name ≡ true → IsUtf8 name
tag_utf8 name h = IsUtf8-from_ascii name (tag_bytes_ascii name (tag_all name h))
