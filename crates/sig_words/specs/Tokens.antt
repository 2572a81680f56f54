-- The tokens of a line.
use Rattle.std.specs.Prelude.{◌≡◌, ℕ, zero, suc, ◌-◌, ◌<◌, ◌≤◌, Bool, true, false, ◌||◌, ◌&&◌, not, ◌==◌, if◌then◌else◌, List, [], ◌∷◌, ◌++◌, length, take, drop, slice_index}
use Rattle.std.specs.Char.{is_ascii_digit}
use Rattle.std.specs.List.{list_all}
use Rattle.std.specs.Fmt.{signed_decimal}
use Rattle.std.specs.Int.{w64}
use Rattle.std.specs.Int.RustNames.{FitsSigned}
use Rattle.std.specs.Str.{IsUtf8, IsValidUpTo}
use Rattle.sig_base.specs.declared.limits.TheConstants.{MOST_LINE, MOST_TAG}
use Rattle.sig_base.specs.Words.{in_tag, in_word, is_blank, is_tag, is_word}
use Rattle.sig_words.specs.Lexemes.{text_at}
use Rattle.sig_words.specs.declared.token.TokenKind.{TokenKind}
use Rattle.sig_words.specs.declared.token.TokenKind.TheVariants.{Word, Tag, Number, Literal, Symbol}
use Rattle.sig_words.specs.declared.token.Token.{Token}
use Rattle.sig_words.specs.declared.line.LineFault.{LineFault}
use Rattle.sig_words.specs.declared.line.LineFault.TheVariants.{Bad, TooLong, NoMemory}

-- n, r and t, \ and "
abbrev pub is_escape : ℕ → Bool
is_escape b = b == 92 || b == 34 || b == 110 || b == 114 || b == 116

-- what may stand between quotes, behind a backslash or not
abbrev pub is_inner : Bool → List ℕ → Bool
is_inner behind [] = not behind
is_inner true (b ∷ bs) = is_escape b && is_inner false bs
is_inner false (b ∷ bs) = if b == 92 then is_inner true bs else not (b == 34) && is_inner false bs

-- ( ) , . = < > + - * / %
abbrev pub is_one : ℕ → Bool
is_one b = b == 40 || b == 41 || b == 44 || b == 46 || b == 61 || b == 60 || b == 62 || b == 43 || b == 45 || b == 42 || b == 47 || b == 37

-- == != <= >= ++
abbrev pub is_two : ℕ → ℕ → Bool
is_two b c = (c == 61 && (b == 61 || b == 33 || b == 60 || b == 62)) || (b == 43 && c == 43)

-- a symbol, of one byte or of two
abbrev pub IsSymbol : List ℕ → Type 0
IsSymbol [] = ⊥
IsSymbol (b ∷ []) = is_one b ≡ true
IsSymbol (b ∷ c ∷ []) = is_two b c ≡ true
IsSymbol (b ∷ c ∷ d ∷ bs) = ⊥

-- the bytes are a token of this kind
abbrev pub Form : TokenKind → List ℕ → Type 0
Form Word text = is_word text ≡ true
Form Tag text = (name : List ℕ) × (text ≡ 64 ∷ name) × (is_tag name ≡ true) × (length name ≤ MOST_TAG)
Form (Number z) text = FitsSigned w64 z × (text ≡ signed_decimal z)
Form Literal text = (inner : List ℕ) × (text ≡ 34 ∷ (inner ++ 34 ∷ [])) × (is_inner false inner ≡ true)
Form Symbol text = IsSymbol text

-- the bytes behind it don't lengthen it, and no letter or `_` stands right behind a number
abbrev pub Ends : TokenKind → List ℕ → List ℕ → Type 0
Ends Word text next = in_word (slice_index next 0) ≡ false
Ends Tag text next = in_tag (slice_index next 0) ≡ false
Ends (Number z) text next = in_word (slice_index next 0) ≡ false
Ends Literal text next = Unit {0}
Ends Symbol text next = length text ≡ 1 → is_two (slice_index text 0) (slice_index next 0) ≡ false

-- a `-` right before a digit belongs to the number exactly where it may be a sign
abbrev pub Signed : Bool → TokenKind → List ℕ → List ℕ → Type 0
Signed sign Word text next = Unit {0}
Signed sign Tag text next = Unit {0}
Signed sign (Number z) text next = slice_index text 0 ≡ 45 → sign ≡ true
Signed sign Literal text next = Unit {0}
Signed sign Symbol text next = text ≡ 45 ∷ [] → (sign && is_ascii_digit (slice_index next 0)) ≡ false

-- the bytes are a token of this kind, with those bytes behind it
pub record IsToken (sign : Bool) (kind : TokenKind) (text next : List ℕ) : Type 0 where
  pub form : Form kind text
  pub ends : Ends kind text next
  pub signed : Signed sign kind text next

-- no token begins these bytes
abbrev pub NoToken : Bool → List ℕ → Type 0
NoToken sign bytes = (kind : TokenKind) (text next : List ℕ) → bytes ≡ text ++ next → IsToken sign kind text next → ⊥

-- whether a `-` at this place may be a sign: a blank, `(`, `,` or nothing stands before it
abbrev pub may_sign : List ℕ → ℕ → Bool
may_sign line zero = true
may_sign line (suc i) = is_blank (slice_index line i) || slice_index line i == 40 || slice_index line i == 44

-- a token of the line, from start to end, with blanks alone between a place and it
pub record StandsAt (line : List ℕ) (from : ℕ) (t : Token) : Type 0 where
  pub after : from ≤ t.start
  pub some : t.start < t.end
  pub within : t.end ≤ length line
  pub blanks : list_all is_blank (take (t.start - from) (drop from line)) ≡ true
  pub token : IsToken (may_sign line t.start) t.kind (text_at line t) (drop t.end line)

-- a token of this line, which is UTF-8
pub record IsTokenOf (line : List ℕ) (t : Token) : Type 0 where
  pub utf8 : IsUtf8 line
  pub some : t.start < t.end
  pub within : t.end ≤ length line
  pub token : IsToken (may_sign line t.start) t.kind (text_at line t) (drop t.end line)

-- the tokens from a place on, up to a place where the last one ended
abbrev pub Cuts : List ℕ → ℕ → List Token → ℕ → Type 0
Cuts line from [] to = from ≡ to
Cuts line from (t ∷ ts) to = StandsAt line from t × Cuts line t.end ts to

-- the tokens of the whole line, which is UTF-8
pub record AreTokens (line : List ℕ) (ts : List Token) : Type 0 where
  pub utf8 : IsUtf8 line
  pub last : ℕ
  pub cuts : Cuts line 0 ts last
  pub blanks : list_all is_blank (drop last line) ≡ true

-- after tokens and blanks of the line no token begins at this place
pub record NoneBegins (line : List ℕ) (at : ℕ) : Type 0 where
  pub before : List Token
  pub last : ℕ
  pub cuts : Cuts line 0 before last
  pub after : last ≤ at
  pub within : at < length line
  pub blanks : list_all is_blank (take (at - last) (drop last line)) ≡ true
  pub no_blank : is_blank (slice_index line at) ≡ false
  pub none : NoToken (may_sign line at) (drop at line)

-- where a line stops having tokens: where no token begins, or, in one that isn't UTF-8, where its longest UTF-8 front ends
pub data IsBad (line : List ℕ) (at : ℕ) : Type 0 where
  no_token : IsUtf8 line → NoneBegins line at → IsBad line at
  no_utf8 : ¬ (IsUtf8 line) → IsValidUpTo line at → IsBad line at

-- the cause of a refusal
abbrev pub Refuses : List ℕ → LineFault → Type 0
Refuses line (Bad at) = IsBad line at
Refuses line TooLong = MOST_LINE < length line
Refuses line (NoMemory e) = Unit {0}
