-- Each line has tokens or has none.
use Rattle.std.proofs.Common.{◌≡◌, ℕ, zero, suc, ◌+◌, ◌-◌, ◌<◌, ◌≤◌, ◌^◌, Bool, true, false, List, [], ◌∷◌, ◌++◌, length, take, drop, refl, sym, ap, ◌∙◌, arith, inl, inr, ◌⊎◌, Option, Some, None, rules}
use Rattle.std.specs.Prelude.{◌==◌, ℤ, pos, negsuc, slice_index, option_map, nat_lt, nat_le}
use Rattle.std.specs.List.{list_all, prefix_len}
use Rattle.std.specs.Char.{is_ascii_lowercase}
use Rattle.std.specs.Cmp.Lexicographic.{same_text}
use Rattle.std.specs.Fmt.{signed_decimal}
use Rattle.std.specs.Int.{w64}
use Rattle.std.specs.Int.Signed.{mag}
use Rattle.std.specs.Int.RustNames.{FitsSigned}
use Rattle.std.specs.Str.{is_utf8, bytes_eq}
use Rattle.std.specs.Str.Parse.{signed_digits_value}
use Rattle.std.proofs.lemmas.Bool.{cases_Bool, and_parts, and_from}
use Rattle.std.proofs.lemmas.Bool.Decides.{nat_tests}
use Rattle.std.proofs.lemmas.List.{length-drop, get_or-drop, take_all}
use Rattle.std.proofs.lemmas.Str.{IsUtf8-from_is_utf8, is_utf8-from_IsUtf8}
use Rattle.sig_base.specs.Words.{in_tag, in_word, is_blank, is_tag}
use Rattle.sig_words.specs.declared.token.TokenKind.{TokenKind}
use Rattle.sig_words.specs.declared.token.TokenKind.TheVariants.{Word, Tag, Number, Literal, Symbol}
use Rattle.sig_words.specs.declared.token.Token.{Token}
use Rattle.sig_words.specs.declared.scan.Start.{Start}
use Rattle.sig_words.specs.declared.scan.Start.TheVariants.{Words, Tags, Numbers, Literals, Symbols}
use Rattle.sig_words.specs.Scanner.{closing, is_plain, opens_as}
use Rattle.sig_words.specs.Tokens.{is_escape, is_one, is_two, IsSymbol, Form, IsToken, NoToken, Cuts, AreTokens, NoneBegins, no_token, may_sign}
use Rattle.sig_words.proofs.Numbers.{small, not_plain, not_parsed, parsed}
use Rattle.sig_words.proofs.Fronts.{index_drop, word_token, opens_begins, opens_at, tag_front, tag_size, tag_token, no_tag, number_run, number_token, no_number, literal_token, no_literal, symbol_token, no_symbol, cuts_more, stands}
use Rattle.sig_words.proofs.Uniqueness.{no_cutting}

-- a token stands at the front
pub record Found (sign : Bool) (bytes : List ℕ) : Type 0 where
  pub kind : TokenKind
  pub len : ℕ
  pub some : 0 < len
  pub within : len ≤ length bytes
  pub token : IsToken sign kind (take len bytes) (drop len bytes)

-- ---- runs

-- the run of bytes behind the first
pub record Run (p : ℕ → Bool) (bytes : List ℕ) : Type 0 where
  pub len : ℕ
  pub some : 0 < len
  pub within : len ≤ length bytes
  pub all : list_all p (drop 1 (take len bytes)) ≡ true
  pub ends : p (slice_index bytes len) ≡ false

front_all : (p : ℕ → Bool) (bs : List ℕ) → list_all p (take (prefix_len p bs) bs) ≡ true
front_all p [] = refl
front_all p (b ∷ bs) = let s : 1 + prefix_len p bs ≡ suc (prefix_len p bs) = omega arith in elim (cases_Bool (p b)) [
  | inl e ↦ rw (e, s) (and_from (p b) (list_all p (take (prefix_len p bs) bs)) e (front_all p bs))
  | inr e ↦ rw e refl
]

front_ends : (p : ℕ → Bool) (bs : List ℕ) → p 0 ≡ false → p (slice_index bs (prefix_len p bs)) ≡ false
front_ends p [] z = z
front_ends p (b ∷ bs) z = let s : 1 + prefix_len p bs ≡ suc (prefix_len p bs) = omega arith in elim (cases_Bool (p b)) [ inl e ↦ rw (e, s) (front_ends p bs z) | inr e ↦ rw e e ]

front_within : (p : ℕ → Bool) (bs : List ℕ) → prefix_len p bs ≤ length bs
front_within p [] = omega arith
front_within p (b ∷ bs) = elim (cases_Bool (p b)) [ inl e ↦ rw e (let h = front_within p bs in omega arith) | inr e ↦ rw e (omega arith) ]

run_of : (p : ℕ → Bool) (bytes : List ℕ) → p 0 ≡ false → 0 < length bytes → Run p bytes
run_of p [] z some = absurd (omega arith)
run_of p (b ∷ bs) z some = record {
  len = suc (prefix_len p bs);
  some = omega arith;
  within = let h = front_within p bs in omega arith;
  all = front_all p bs;
  ends = front_ends p bs z;
}

-- ---- each kind of token

word_found : (sign : Bool) (bytes : List ℕ) → 0 < length bytes → opens_as sign (slice_index bytes 0) (slice_index bytes 1) ≡ Words → Found sign bytes
word_found sign bytes some start =
    let r = run_of in_word bytes refl some in
    record {
      kind = Word;
      len = r.len;
      some = r.some;
      within = r.within;
      token = word_token sign r.len bytes (opens_begins sign (slice_index bytes 0) (slice_index bytes 1) start) r.some r.all r.ends;
    }

tag_lower : (name : List ℕ) → is_tag name ≡ true → is_ascii_lowercase (slice_index name 0) ≡ true
tag_lower [] h = absurd cc
tag_lower (b ∷ bs) h = (and_parts (is_ascii_lowercase b) (list_all in_tag bs) h).0

second_of_tag : (name next : List ℕ) → is_tag name ≡ true → slice_index ((64 ∷ name) ++ next) 1 ≡ slice_index name 0
second_of_tag [] next h = absurd cc
second_of_tag (b ∷ bs) next h = refl

form_lower : (text next bytes : List ℕ) → bytes ≡ text ++ next → Form Tag text → is_ascii_lowercase (slice_index bytes 1) ≡ true
form_lower text next bytes e form =
    let whole : bytes ≡ (64 ∷ form.0) ++ next = e ∙ ap (λ (l : List ℕ). l ++ next) form.1 in
    ap (λ (l : List ℕ). is_ascii_lowercase (slice_index l 1)) whole ∙ ap is_ascii_lowercase (second_of_tag form.0 next form.2) ∙ tag_lower form.0 form.2

tag_or_none : (sign : Bool) (bytes : List ℕ) → 0 < length bytes → opens_as sign (slice_index bytes 0) (slice_index bytes 1) ≡ Tags → Found sign bytes ⊎ NoToken sign bytes
tag_or_none sign bytes some start =
    let r = run_of in_tag bytes refl some in
    elim (cases_Bool (is_ascii_lowercase (slice_index bytes 1))) [
      | inr e ↦ inr (no_tag sign bytes start (λ text next is form ends. let h = form_lower text next bytes is form in absurd cc))
      | inl e ↦ elim (cases_Bool (nat_le r.len 33)) [
        | inl f ↦
            let few : r.len ≤ 33 = grind (arith, nat_tests) in
            inl (record {
              kind = Tag;
              len = r.len;
              some = r.some;
              within = r.within;
              token = tag_token sign bytes r.len (tag_front bytes r.len (opens_at sign (slice_index bytes 0) (slice_index bytes 1) start) e r.some r.within few r.all r.ends);
            })
        | inr f ↦
            let many : 33 < r.len = grind (arith, nat_tests) in
            inr (no_tag sign bytes start (λ text next is form ends. let h = tag_size text next bytes r.len is form ends r.some r.within r.all r.ends in absurd (omega arith)))
      ]
    ]

fits_small : (z : ℤ) → mag z < 2 ^ 63 → FitsSigned w64 z
fits_small (pos n) h = omega arith
fits_small (negsuc n) h = omega arith

-- a text is that of a number, or of none
pub number_or_none : (text : List ℕ) → ((z : ℤ) × FitsSigned w64 z × (text ≡ signed_decimal z)) ⊎ ((z : ℤ) → FitsSigned w64 z → text ≡ signed_decimal z → ⊥)
number_or_none text = elim (cases_Bool (is_plain text)) [
  | inr e ↦ inr (not_plain text e)
  | inl e ↦ elim (cases_Bool (nat_lt (mag (signed_digits_value 10 text)) (2 ^ 63))) [
    | inr f ↦ inr (λ z fits is. not_parsed {E = ℕ} text 0 (λ h. let s = small (signed_digits_value 10 text) h.1 in absurd (grind (arith, nat_tests))) z fits is)
    | inl f ↦ elim (cases_Bool (bytes_eq text (signed_decimal (signed_digits_value 10 text)))) [
      | inl g ↦ inl (signed_digits_value 10 text, fits_small (signed_digits_value 10 text) (grind (arith, nat_tests)), same_text text (signed_decimal (signed_digits_value 10 text)) (sym g))
      | inr g ↦ inr (λ z fits is. not_parsed {E = ℕ} text 0 (λ h. no_text text (signed_decimal (signed_digits_value 10 text)) (parsed text (signed_digits_value 10 text) e h refl) g) z fits is)
    ]
  ]
]
  where
    own_bytes : (a : List ℕ) → bytes_eq a a ≡ true
    own_bytes a = search rules

    no_text : (a b : List ℕ) → a ≡ b → bytes_eq a b ≡ false → ⊥
    no_text a b e f = let g : bytes_eq b b ≡ false = rw e at f in let h = own_bytes b in absurd cc

number_or_no : (sign : Bool) (bytes : List ℕ) → 0 < length bytes → opens_as sign (slice_index bytes 0) (slice_index bytes 1) ≡ Numbers → Found sign bytes ⊎ NoToken sign bytes
number_or_no sign bytes some start =
    let r = run_of in_word bytes refl some in
    elim (number_or_none (take r.len bytes)) [
      | inl n ↦
          let stops : in_word (slice_index (drop r.len bytes) 0) ≡ false = ap in_word (index_drop r.len bytes) ∙ r.ends in
          inl (record {
            kind = Number n.0;
            len = r.len;
            some = r.some;
            within = r.within;
            token = number_token sign bytes r.len n.0 r.some start (n.1, n.2) stops;
          })
      | inr none ↦ inr (no_number sign bytes start (λ z text next e form ends. none z form.0 (number_run z text next bytes r.len e form ends r.some r.all r.ends)))
    ]

one_more : (o : Option ℕ) (most n : ℕ) → ((m : ℕ) → o ≡ Some m → m ≤ most) → option_map suc o ≡ Some n → n ≤ suc most
one_more None most n h e = absurd cc
one_more (Some m) most n h e = let is : suc m ≡ n = cc in let k = h m refl in omega arith

closing_within : (behind : Bool) (bs : List ℕ) (n : ℕ) → closing behind bs ≡ Some n → n ≤ length bs
closing_within behind [] n e = absurd cc
closing_within true (b ∷ bs) n e = elim (cases_Bool (is_escape b)) [
  | inl f ↦ one_more (closing false bs) (length bs) n (λ m g. closing_within false bs m g) (rw f at e)
  | inr f ↦ let bad = rw f at e in absurd cc
]
closing_within false (b ∷ bs) n e = elim (cases_Bool (b == 92)) [
  | inl f ↦ one_more (closing true bs) (length bs) n (λ m g. closing_within true bs m g) (rw f at e)
  | inr f ↦ elim (cases_Bool (b == 34)) [
    | inl g ↦ let one = rw (f, g) at e in let is : 1 ≡ n = cc in omega arith
    | inr g ↦ one_more (closing false bs) (length bs) n (λ m k. closing_within false bs m k) (rw (f, g) at e)
  ]
]

literal_or_none : (sign : Bool) (bytes : List ℕ) → 0 < length bytes → opens_as sign (slice_index bytes 0) (slice_index bytes 1) ≡ Literals → Found sign bytes ⊎ NoToken sign bytes
literal_or_none sign bytes some start = by_closing (closing false (drop 1 bytes)) refl
  where
    by_closing : (o : Option ℕ) → closing false (drop 1 bytes) ≡ o → Found sign bytes ⊎ NoToken sign bytes
    by_closing None e = inr (no_literal sign bytes start (sym (ap (option_map (λ (k : ℕ). k + 1)) e)))
    by_closing (Some m) e =
        let size = length-drop 1 bytes in
        let within = closing_within false (drop 1 bytes) m e in
        inl (record {
          kind = Literal;
          len = m + 1;
          some = omega arith;
          within = omega arith;
          token = literal_token sign bytes (m + 1) some start (sym (ap (option_map (λ (k : ℕ). k + 1)) e));
        })

two_long : (b : ℕ) → is_two b 0 ≡ true → ⊥
two_long b h = let f : is_two b 0 ≡ false = grind (arith, nat_tests) in absurd cc

symbol_or_none : (sign : Bool) (bytes : List ℕ) → 0 < length bytes → opens_as sign (slice_index bytes 0) (slice_index bytes 1) ≡ Symbols → Found sign bytes ⊎ NoToken sign bytes
symbol_or_none sign [] some start = absurd (omega arith)
symbol_or_none sign (b ∷ []) some start = elim (cases_Bool (is_one b)) [
  | inl e ↦ inl (record { kind = Symbol; len = 1; some = omega arith; within = omega arith; token = symbol_token sign (b ∷ []) 1 (omega arith) (omega arith) start e (λ k. one_alone b) })
  | inr e ↦ inr (no_symbol sign (b ∷ []) start (λ text next is s. no_alone b e text next is s))
]
  where
    one_alone : (b : ℕ) → is_two b 0 ≡ false
    one_alone b = grind (arith, nat_tests)

    no_alone : (b : ℕ) → is_one b ≡ false → (text next : List ℕ) → b ∷ [] ≡ text ++ next → IsSymbol text → ⊥
    no_alone b e [] next is s = s
    no_alone b e (c ∷ []) next is s = let h = ap (λ (l : List ℕ). slice_index l 0) is in absurd cc
    no_alone b e (c ∷ d ∷ []) next is s = let h = ap length is in absurd (omega arith)
    no_alone b e (c ∷ d ∷ f ∷ text) next is s = s
symbol_or_none sign (b ∷ c ∷ bs) some start = elim (cases_Bool (is_two b c)) [
  | inl e ↦ inl (record { kind = Symbol; len = 2; some = omega arith; within = omega arith; token = symbol_token sign (b ∷ c ∷ bs) 2 (omega arith) (omega arith) start e (λ k. absurd cc) })
  | inr e ↦ elim (cases_Bool (is_one b)) [
    | inl f ↦ inl (record { kind = Symbol; len = 1; some = omega arith; within = omega arith; token = symbol_token sign (b ∷ c ∷ bs) 1 (omega arith) (omega arith) start f (λ k. e) })
    | inr f ↦ inr (no_symbol sign (b ∷ c ∷ bs) start (λ text next is s. neither text next is s e f))
  ]
]
  where
    neither : (text next : List ℕ) → b ∷ c ∷ bs ≡ text ++ next → IsSymbol text → is_two b c ≡ false → is_one b ≡ false → ⊥
    neither [] next is s e f = s
    neither (x ∷ []) next is s e f = let h = ap (λ (l : List ℕ). slice_index l 0) is in absurd cc
    neither (x ∷ y ∷ []) next is s e f = let h = ap (λ (l : List ℕ). slice_index l 0) is in let g = ap (λ (l : List ℕ). slice_index (drop 1 l) 0) is in absurd cc
    neither (x ∷ y ∷ z ∷ text) next is s e f = s

by_start : (sign : Bool) (bytes : List ℕ) (k : Start) → 0 < length bytes → opens_as sign (slice_index bytes 0) (slice_index bytes 1) ≡ k → Found sign bytes ⊎ NoToken sign bytes
by_start sign bytes Words some start = inl (word_found sign bytes some start)
by_start sign bytes Tags some start = tag_or_none sign bytes some start
by_start sign bytes Numbers some start = number_or_no sign bytes some start
by_start sign bytes Literals some start = literal_or_none sign bytes some start
by_start sign bytes Symbols some start = symbol_or_none sign bytes some start

-- a token stands at the front of bytes, or none
pub token_or_none : (sign : Bool) (bytes : List ℕ) → 0 < length bytes → Found sign bytes ⊎ NoToken sign bytes
token_or_none sign bytes some = by_start sign bytes (opens_as sign (slice_index bytes 0) (slice_index bytes 1)) some refl

-- ---- a line

-- the tokens of the whole line
record Whole (line : List ℕ) : Type 0 where
  tokens : List Token
  last : ℕ
  cuts : Cuts line 0 tokens last
  blanks : list_all is_blank (drop last line) ≡ true

-- a place of the line where no token begins
record Stops (line : List ℕ) : Type 0 where
  at : ℕ
  none : NoneBegins line at

-- tokens up to a place behind this one
record Goes (line : List ℕ) (from : ℕ) : Type 0 where
  tokens : List Token
  to : ℕ
  cuts : Cuts line 0 tokens to
  after : from < to
  within : to ≤ length line

all_blank : (bs : List ℕ) → length bs ≤ prefix_len is_blank bs → list_all is_blank bs ≡ true
all_blank bs h = rw (take_all (prefix_len is_blank bs) bs h) at (front_all is_blank bs)

-- past blanks to the next token, if any
next_cut : (line : List ℕ) (before : List Token) (from start : ℕ) → Cuts line 0 before from → from ≤ length line → start ≡ from + prefix_len is_blank (drop from line)
    → Whole line ⊎ (Stops line ⊎ Goes line from)
next_cut line before from start cuts within is =
    let bound = front_within is_blank (drop from line) in
    let size = length-drop from line in
    let gone : start - from ≡ prefix_len is_blank (drop from line) = omega arith in
    let blanks : list_all is_blank (take (start - from) (drop from line)) ≡ true = rw gone (front_all is_blank (drop from line)) in
    elim (cases_Bool (nat_lt start (length line))) [
      | inr e ↦
          let all : length line ≤ start = grind (arith, nat_tests) in
          inl (record { tokens = before; last = from; cuts = cuts; blanks = all_blank (drop from line) (omega arith) })
      | inl e ↦
          let inside : start < length line = grind (arith, nat_tests) in
          let rest = length-drop start line in
          let at : is_blank (slice_index line start) ≡ false = rw (get_or-drop from line (prefix_len is_blank (drop from line)) 0, ← is) at (front_ends is_blank (drop from line) refl) in
          elim (token_or_none (may_sign line start) (drop start line) (omega arith)) [
            | inr none ↦ inr (inl (record {
              at = start;
              none = record { before = before; last = from; cuts = cuts; after = omega arith; within = inside; blanks = blanks; no_blank = at; none = none };
            }))
            | inl f ↦
                let some = f.some in let most = f.within in
                let t : Token = record { kind = f.kind; start = start; end = start + f.len } in
                inr (inr (record {
                  tokens = before ++ t ∷ [];
                  to = start + f.len;
                  cuts = cuts_more line 0 from before t cuts (stands line (drop start line) from start f.len f.kind (may_sign line start) (omega arith) (omega arith) blanks refl refl f.some f.within f.token);
                  after = omega arith;
                  within = omega arith;
                }))
          ]
    ]

cut_or_stop : (fuel : ℕ) (line : List ℕ) (before : List Token) (from : ℕ) → Cuts line 0 before from → from ≤ length line → length line < from + fuel → Whole line ⊎ Stops line
cut_or_stop zero line before from cuts within few = absurd (omega arith)
cut_or_stop (suc fuel) line before from cuts within few = elim (next_cut line before from (from + prefix_len is_blank (drop from line)) cuts within refl) [
  | inl w ↦ inl w
  | inr r ↦ elim r [
    | inl s ↦ inr s
    | inr g ↦ let after = g.after in cut_or_stop fuel line g.tokens g.to g.cuts g.within (omega arith)
  ]
]

-- a line has tokens, or none
pub tokens_or_none : (line : List ℕ) → ((ts : List Token) × AreTokens line ts) ⊎ ((ts : List Token) → AreTokens line ts → ⊥)
tokens_or_none line = elim (cases_Bool (is_utf8 line)) [
  | inr e ↦ inr (λ ts a. let h = is_utf8-from_IsUtf8 line a.utf8 in absurd cc)
  | inl e ↦
      let utf8 = IsUtf8-from_is_utf8 line e in
      elim (cut_or_stop (length line + 1) line [] 0 refl (omega arith) (omega arith)) [
        | inl w ↦ inl (w.tokens, record { utf8 = utf8; last = w.last; cuts = w.cuts; blanks = w.blanks })
        | inr s ↦ inr (λ ts a. no_cutting line s.at ts (no_token utf8 s.none) a)
      ]
]
