-- The token at the front of bytes.
use Rattle.std.proofs.Common.{◌≡◌, ℕ, zero, suc, ◌+◌, ◌-◌, ◌<◌, ◌≤◌, Bool, true, false, cond, List, [], ◌∷◌, ◌++◌, length, take, drop, refl, sym, ap, ◌∙◌, append_assoc, arith, inl, inr, ◌⊎◌, Option, Some, None, leb, ◌^◌}
use Rattle.std.specs.Prelude.{◌==◌, ◌&&◌, ◌||◌, ℤ, pos, negsuc, slice_index, option_map}
use Rattle.std.specs.List.{list_all}
use Rattle.std.specs.Char.{is_ascii_digit, is_ascii_lowercase}
use Rattle.std.specs.Fmt.{decimal, signed_decimal}
use Rattle.std.specs.Int.{w64}
use Rattle.std.specs.Int.RustNames.{FitsSigned}
use Rattle.std.specs.Str.{all_ascii_digits}
use Rattle.std.proofs.lemmas.Bool.{cases_Bool, and_right, eqb-true, and_parts, and_from, leb-true, le-leb}
use Rattle.std.proofs.lemmas.Bool.Decides.{nat_tests}
use Rattle.std.proofs.lemmas.List.{take_at, length-append, length-take, get_or-drop, take-append-drop, length-drop, drop-drop}
use Rattle.std.proofs.lemmas.Fmt.{digits_decimal, signed_decimal_injective}
use Rattle.sig_words.specs.declared.token.TokenKind.{TokenKind}
use Rattle.sig_words.specs.declared.token.Token.{Token}
use Rattle.sig_words.specs.declared.token.TokenKind.TheVariants.{Word, Tag, Number, Literal, Symbol}
use Rattle.sig_words.specs.declared.scan.Start.{Start}
use Rattle.sig_words.specs.declared.scan.Start.TheVariants.{Words, Tags, Numbers, Literals, Symbols}
use Rattle.sig_words.specs.Scanner.{closing, opens_as}
use Rattle.std.proofs.lemmas.Option.{same_Some}
use Rattle.sig_base.specs.Words.{begins_word, in_tag, in_word, is_blank, is_tag, is_word}
use Rattle.sig_words.specs.Scanner.{is_plain}
use Rattle.sig_words.specs.Tokens.{is_escape, is_inner, is_one, is_two, IsSymbol, Form, Ends, IsToken, NoToken, StandsAt, Cuts, may_sign}
use Rattle.sig_words.proofs.Numbers.{small, own, leading, plain_decimal}

or_true : (x : Bool) → (x || true) ≡ true
or_true true = refl
or_true false = refl

begins_in : (b : ℕ) → begins_word b ≡ true → in_word b ≡ true
begins_in b h = grind (arith, nat_tests)

digit_in : (b : ℕ) → is_ascii_digit b ≡ true → in_word b ≡ true
digit_in b h = grind (arith, nat_tests)

digit_not_begins : (b : ℕ) → is_ascii_digit b ≡ true → begins_word b ≡ false
digit_not_begins b h = grind (arith, nat_tests)

digit_not_at : (b : ℕ) → is_ascii_digit b ≡ true → (b == 64) ≡ false
digit_not_at b h = grind (arith, nat_tests)

lower_in_tag : (b : ℕ) → is_ascii_lowercase b ≡ true → in_tag b ≡ true
lower_in_tag b h = grind (arith, nat_tests)

-- a word's first byte begins a word, and its bytes are all a word's
pub word_first : (w : List ℕ) → is_word w ≡ true → begins_word (slice_index w 0) ≡ true
word_first [] h = absurd cc
word_first (b ∷ bs) h = (and_parts (begins_word b) (list_all in_word (b ∷ bs)) h).0

pub word_all : (w : List ℕ) → is_word w ≡ true → list_all in_word w ≡ true
word_all [] h = refl
word_all (b ∷ bs) h = (and_parts (begins_word b) (list_all in_word (b ∷ bs)) h).1

-- the bytes of a tag's name are all a tag's
pub tag_all : (name : List ℕ) → is_tag name ≡ true → list_all in_tag name ≡ true
tag_all [] h = refl
tag_all (b ∷ bs) h = let q = and_parts (is_ascii_lowercase b) (list_all in_tag bs) h in and_from _ _ (lower_in_tag b q.0) q.1

digit_not_one : (b : ℕ) → is_ascii_digit b ≡ true → is_one b ≡ false
digit_not_one b h = grind (arith, nat_tests)

pub index_drop : (n : ℕ) (bs : List ℕ) → slice_index (drop n bs) 0 ≡ slice_index bs n
index_drop zero bs = refl
index_drop (suc n) [] = refl
index_drop (suc n) (b ∷ bs) = index_drop n bs

pub word_token : (sign : Bool) (n : ℕ) (bytes : List ℕ) → begins_word (slice_index bytes 0) ≡ true → 0 < n → list_all in_word (drop 1 (take n bytes)) ≡ true → in_word (slice_index bytes n) ≡ false
    → IsToken sign Word (take n bytes) (drop n bytes)
word_token sign zero bytes first some run ends = absurd (omega arith)
word_token sign (suc n) [] first some run ends = absurd cc
word_token sign (suc n) (b ∷ bs) first some run ends = record {
  form = and_from (begins_word b) (list_all in_word (b ∷ take n bs)) first (and_from (in_word b) (list_all in_word (take n bs)) (begins_in b first) run);
  ends = ap in_word (index_drop n bs) ∙ ends;
  signed = tt;
}

-- a run of a word's bytes is one, however it is cut
pub same_run : (p : ℕ → Bool) (a b x y : List ℕ) → p 0 ≡ false → list_all p a ≡ true → list_all p b ≡ true → p (slice_index x 0) ≡ false → p (slice_index y 0) ≡ false → a ++ x ≡ b ++ y → (a ≡ b) × (x ≡ y)
same_run p [] [] x y zero-not ha hb hx hy e = (refl, e)
same_run p [] (c ∷ b) x y zero-not ha hb hx hy e = let q = and_parts (p c) (list_all p b) hb in let f = ap (λ (l : List ℕ). p (slice_index l 0)) e in absurd cc
same_run p (c ∷ a) [] x y zero-not ha hb hx hy e = let q = and_parts (p c) (list_all p a) ha in let f = ap (λ (l : List ℕ). p (slice_index l 0)) e in absurd cc
same_run p (c ∷ a) (d ∷ b) x y zero-not ha hb hx hy e =
    let q = and_parts (p c) (list_all p a) ha in
    let r = and_parts (p d) (list_all p b) hb in
    let f = ap (λ (l : List ℕ). slice_index l 0) e in
    let g = same_run p a b x y zero-not q.1 r.1 hx hy (ap (λ (l : List ℕ). drop 1 l) e) in
    let h = g.0 in
    (cc, g.1)

all_digits_in : (ds : List ℕ) → all_ascii_digits ds ≡ true → list_all in_word ds ≡ true
all_digits_in [] h = refl
all_digits_in (d ∷ ds) h = let q = and_parts _ _ h in and_from _ _ (digit_in d q.0) (all_digits_in ds q.1)

-- the text of a number: its first byte is a digit or a minus, and digits follow
pub record IsNumeric (text : List ℕ) : Type 0 where
  pub first : ℕ
  pub rest : List ℕ
  pub is : text ≡ first ∷ rest
  pub begins : (is_ascii_digit first ≡ true) ⊎ (first ≡ 45)
  pub run : list_all in_word rest ≡ true

digits_numeric : (ds : List ℕ) → all_ascii_digits ds ≡ true → is_plain ds ≡ true → IsNumeric ds
digits_numeric [] h plain = absurd cc
digits_numeric (d ∷ ds) h plain = let q = and_parts _ _ h in record { first = d; rest = ds; is = refl; begins = inl q.0; run = all_digits_in ds q.1 }

pub numeric : (z : ℤ) → FitsSigned w64 z → IsNumeric (signed_decimal z)
numeric (pos n) fits = let s = small (pos n) fits in digits_numeric (decimal n) (digits_decimal own n (omega arith)) (plain_decimal (pos n) fits)
numeric (negsuc n) fits = let s = small (negsuc n) fits in record { first = 45; rest = decimal (suc n); is = refl; begins = inr refl; run = all_digits_in (decimal (suc n)) (digits_decimal own (suc n) (omega arith)) }

-- ---- the kind by the first two bytes

abbrev pub start_of : TokenKind → Start
start_of Word = Words
start_of Tag = Tags
start_of (Number z) = Numbers
start_of Literal = Literals
start_of Symbol = Symbols

turned : (x : Bool) → (x ≡ true → ⊥) → x ≡ false
turned true h = absurd (h refl)
turned false h = refl

begins_not_one : (b : ℕ) → begins_word b ≡ true → is_one b ≡ false
begins_not_one b h = grind (arith, nat_tests)

begins_not_two : (b c : ℕ) → begins_word b ≡ true → is_two b c ≡ false
begins_not_two b c h = grind (arith, nat_tests)

digit_not_two : (b c : ℕ) → is_ascii_digit b ≡ true → is_two b c ≡ false
digit_not_two b c h = grind (arith, nat_tests)

one_begins : (b : ℕ) → is_one b ≡ true → (begins_word b ≡ false) × (is_ascii_digit b ≡ false) × ((b == 34) ≡ false) × ((b == 64) ≡ false)
one_begins b h = (
  turned (begins_word b) (λ k. let f = begins_not_one b k in absurd cc),
  turned (is_ascii_digit b) (λ k. let f = digit_not_one b k in absurd cc),
  turned (b == 34) (λ k. let f = rw (eqb-true b 34 k) at h in absurd cc),
  turned (b == 64) (λ k. let f = rw (eqb-true b 64 k) at h in absurd cc),
)

two_begins : (b c : ℕ) → is_two b c ≡ true → (begins_word b ≡ false) × (is_ascii_digit b ≡ false) × ((b == 34) ≡ false) × ((b == 64) ≡ false) × ((b == 45) ≡ false)
two_begins b c h = (
  turned (begins_word b) (λ k. let f = begins_not_two b c k in absurd cc),
  turned (is_ascii_digit b) (λ k. let f = digit_not_two b c k in absurd cc),
  turned (b == 34) (λ k. let f = rw (eqb-true b 34 k, and_right (c == 61) false refl) at h in absurd cc),
  turned (b == 64) (λ k. let f = rw (eqb-true b 64 k, and_right (c == 61) false refl) at h in absurd cc),
  turned (b == 45) (λ k. let f = rw (eqb-true b 45 k, and_right (c == 61) false refl) at h in absurd cc),
)

opens_word : (sign : Bool) (text next : List ℕ) → IsToken sign Word text next → opens_as sign (slice_index (text ++ next) 0) (slice_index (text ++ next) 1) ≡ Words
unfolding opens_as
opens_word sign [] next t = let f = t.form in absurd cc
opens_word sign (b ∷ bs) next t = let f = word_first (b ∷ bs) t.form in rw f refl

opens_tag : (sign : Bool) (text next : List ℕ) → IsToken sign Tag text next → opens_as sign (slice_index (text ++ next) 0) (slice_index (text ++ next) 1) ≡ Tags
unfolding opens_as
opens_tag sign text next t = rw t.form.1 refl

opens_literal : (sign : Bool) (text next : List ℕ) → IsToken sign Literal text next → opens_as sign (slice_index (text ++ next) 0) (slice_index (text ++ next) 1) ≡ Literals
unfolding opens_as
opens_literal sign text next t = rw t.form.1 refl

minus_opens : (sign : Bool) (m : ℕ) (next : List ℕ) → suc m < 2 ^ 64 → sign ≡ true → opens_as sign 45 (slice_index (decimal (suc m) ++ next) 0) ≡ Numbers
unfolding opens_as
minus_opens sign m next small-m is =
    let l = leading (suc m) (omega arith) small-m in
    let p = and_parts (leb 49 l.0) (leb l.0 57) l.3 in
    let d : is_ascii_digit l.0 ≡ true = and_from _ _ (le-leb 48 l.0 (let q = leb-true 49 l.0 p.0 in omega arith)) p.1 in
    rw (l.2, is, d) refl

digit_opens : (sign : Bool) (ds next : List ℕ) → all_ascii_digits ds ≡ true → is_plain ds ≡ true → opens_as sign (slice_index (ds ++ next) 0) (slice_index (ds ++ next) 1) ≡ Numbers
unfolding opens_as
digit_opens sign [] next h plain = absurd cc
digit_opens sign (d ∷ ds) next h plain = let q = and_parts (is_ascii_digit d) (all_ascii_digits ds) h in rw (digit_not_begins d q.0, digit_not_at d q.0, q.0) refl

opens_number : (sign : Bool) (z : ℤ) (text next : List ℕ) → IsToken sign (Number z) text next → opens_as sign (slice_index (text ++ next) 0) (slice_index (text ++ next) 1) ≡ Numbers
opens_number sign (pos n) text next t =
    let s = small (pos n) t.form.0 in
    rw t.form.1 (digit_opens sign (decimal n) next (digits_decimal own n (omega arith)) (plain_decimal (pos n) t.form.0))
opens_number sign (negsuc m) text next t =
    let s = small (negsuc m) t.form.0 in
    rw t.form.1 (minus_opens sign m next (omega arith) (t.signed (ap (λ (l : List ℕ). slice_index l 0) t.form.1)))

opens_symbol : (sign : Bool) (text next : List ℕ) → IsToken sign Symbol text next → opens_as sign (slice_index (text ++ next) 0) (slice_index (text ++ next) 1) ≡ Symbols
unfolding opens_as
opens_symbol sign [] next t = absurd t.form
opens_symbol sign (b ∷ []) next t =
    let f = one_begins b t.form in
    elim (cases_Bool (b == 45)) [
      | inl e ↦ let m = t.signed (ap (λ (k : ℕ). k ∷ []) (eqb-true b 45 e)) in rw (f.0, f.3, f.1, e, m, f.2) refl
      | inr e ↦ rw (f.0, f.3, f.1, e, f.2) refl
    ]
opens_symbol sign (b ∷ c ∷ []) next t = let f = two_begins b c t.form in rw (f.0, f.3, f.1, f.4, f.2) refl
opens_symbol sign (b ∷ c ∷ d ∷ bs) next t = absurd t.form

pub opens_so : (sign : Bool) (k : TokenKind) (text next bytes : List ℕ) → bytes ≡ text ++ next → IsToken sign k text next → opens_as sign (slice_index bytes 0) (slice_index bytes 1) ≡ start_of k
opens_so sign Word text next bytes e t = rw e (opens_word sign text next t)
opens_so sign Tag text next bytes e t = rw e (opens_tag sign text next t)
opens_so sign (Number z) text next bytes e t = rw e (opens_number sign z text next t)
opens_so sign Literal text next bytes e t = rw e (opens_literal sign text next t)
opens_so sign Symbol text next bytes e t = rw e (opens_symbol sign text next t)

pub no_number : (sign : Bool) (bytes : List ℕ) → opens_as sign (slice_index bytes 0) (slice_index bytes 1) ≡ Numbers
    → ((z : ℤ) (text next : List ℕ) → bytes ≡ text ++ next → Form (Number z) text → Ends (Number z) text next → ⊥) → NoToken sign bytes
no_number sign bytes start h Word text next e t = let s = opens_so sign Word text next bytes e t in absurd cc
no_number sign bytes start h Tag text next e t = let s = opens_so sign Tag text next bytes e t in absurd cc
no_number sign bytes start h (Number z) text next e t = h z text next e t.form t.ends
no_number sign bytes start h Literal text next e t = let s = opens_so sign Literal text next bytes e t in absurd cc
no_number sign bytes start h Symbol text next e t = let s = opens_so sign Symbol text next bytes e t in absurd cc

pub no_tag : (sign : Bool) (bytes : List ℕ) → opens_as sign (slice_index bytes 0) (slice_index bytes 1) ≡ Tags
    → ((text next : List ℕ) → bytes ≡ text ++ next → Form Tag text → Ends Tag text next → ⊥) → NoToken sign bytes
no_tag sign bytes start h Word text next e t = let s = opens_so sign Word text next bytes e t in absurd cc
no_tag sign bytes start h Tag text next e t = h text next e t.form t.ends
no_tag sign bytes start h (Number z) text next e t = let s = opens_so sign (Number z) text next bytes e t in absurd cc
no_tag sign bytes start h Literal text next e t = let s = opens_so sign Literal text next bytes e t in absurd cc
no_tag sign bytes start h Symbol text next e t = let s = opens_so sign Symbol text next bytes e t in absurd cc

pub no_symbol : (sign : Bool) (bytes : List ℕ) → opens_as sign (slice_index bytes 0) (slice_index bytes 1) ≡ Symbols
    → ((text next : List ℕ) → bytes ≡ text ++ next → IsSymbol text → ⊥) → NoToken sign bytes
no_symbol sign bytes start h Word text next e t = let s = opens_so sign Word text next bytes e t in absurd cc
no_symbol sign bytes start h Tag text next e t = let s = opens_so sign Tag text next bytes e t in absurd cc
no_symbol sign bytes start h (Number z) text next e t = let s = opens_so sign (Number z) text next bytes e t in absurd cc
no_symbol sign bytes start h Literal text next e t = let s = opens_so sign Literal text next bytes e t in absurd cc
no_symbol sign bytes start h Symbol text next e t = h text next e t.form

closing_complete : (behind : Bool) (inner next : List ℕ) → is_inner behind inner ≡ true → closing behind (inner ++ (34 ∷ next)) ≡ Some (suc (length inner))
closing_complete true [] next h = absurd cc
closing_complete false [] next h = refl
closing_complete true (b ∷ bs) next h =
    let q = and_parts (is_escape b) (is_inner false bs) h in
    rw (q.0, closing_complete false bs next q.1) refl
closing_complete false (b ∷ bs) next h = elim (cases_Bool (b == 92)) [
  | inl e ↦ rw (e, closing_complete true bs next (rw e at h)) refl
  | inr e ↦ elim (cases_Bool (b == 34)) [
    | inl f ↦ let bad = rw (e, f) at h in absurd cc
    | inr f ↦ rw (e, f, closing_complete false bs next (rw (e, f) at h)) refl
  ]
]

pub no_literal : (sign : Bool) (bytes : List ℕ) → opens_as sign (slice_index bytes 0) (slice_index bytes 1) ≡ Literals
    → None ≡ option_map (λ (n : ℕ). n + 1) (closing false (drop 1 bytes)) → NoToken sign bytes
no_literal sign bytes start h Word text next e t = let s = opens_so sign Word text next bytes e t in absurd cc
no_literal sign bytes start h Tag text next e t = let s = opens_so sign Tag text next bytes e t in absurd cc
no_literal sign bytes start h (Number z) text next e t = let s = opens_so sign (Number z) text next bytes e t in absurd cc
no_literal sign bytes start h Literal text next e t =
    let form = t.form in
    let whole : bytes ≡ 34 ∷ (form.0 ++ (34 ∷ next)) = e ∙ ap (λ (l : List ℕ). l ++ next) form.1 ∙ ap (λ (l : List ℕ). 34 ∷ l) (append_assoc form.0 (34 ∷ []) next) in
    let some = closing_complete false form.0 next form.2 in
    let bad : None ≡ Some (suc (length form.0) + 1) = h ∙ ap (λ (l : List ℕ). option_map (λ (n : ℕ). n + 1) (closing false (drop 1 l))) whole ∙ ap (option_map (λ (n : ℕ). n + 1)) some in
    absurd cc
no_literal sign bytes start h Symbol text next e t = let s = opens_so sign Symbol text next bytes e t in absurd cc

record Closes (behind : Bool) (bs : List ℕ) (n : ℕ) : Type 0 where
  inner : List ℕ
  text : take n bs ≡ inner ++ 34 ∷ []
  fits : is_inner behind inner ≡ true

closes_more : (x : Bool) (b : ℕ) (bs : List ℕ) (o : Option ℕ) (n : ℕ) → option_map suc o ≡ Some n → ((m : ℕ) → o ≡ Some m → Closes x bs m) → (inner : List ℕ) × (take n (b ∷ bs) ≡ b ∷ (inner ++ 34 ∷ [])) × (is_inner x inner ≡ true)
closes_more x b bs None n e h = absurd cc
closes_more x b bs (Some m) n e h = let c = h m refl in let s = same_Some (suc m) n e in (c.inner, rw (← s) (ap (λ (l : List ℕ). b ∷ l) c.text), c.fits)

chosen : {A : Type 0} (b : Bool) (x y z : A) → cond b x y ≡ z → ((b ≡ true) × (x ≡ z)) ⊎ ((b ≡ false) × (y ≡ z))
chosen true x y z e = inl (refl, e)
chosen false x y z e = inr (refl, e)

closing_sound : (behind : Bool) (bs : List ℕ) (n : ℕ) → closing behind bs ≡ Some n → Closes behind bs n
closing_sound behind [] n e = absurd cc
closing_sound true (b ∷ bs) n e = elim (cases_Bool (is_escape b)) [
  | inl f ↦ let c = closes_more false b bs (closing false bs) n (rw f at e) (λ m k. closing_sound false bs m k) in record { inner = b ∷ c.0; text = c.1; fits = and_from _ _ f c.2 }
  | inr f ↦ let bad = rw f at e in absurd cc
]
closing_sound false (b ∷ bs) n e = elim (cases_Bool (b == 92)) [
  | inl f ↦ let c = closes_more true b bs (closing true bs) n (rw f at e) (λ m k. closing_sound true bs m k) in record { inner = b ∷ c.0; text = c.1; fits = rw f c.2 }
  | inr f ↦ elim (chosen (b == 34) (Some 1) (option_map suc (closing false bs)) (Some n) (rw f at e)) [
    | inl g ↦ let s = same_Some 1 n g.1 in record { inner = []; text = rw (← s) (ap (λ (k : ℕ). k ∷ []) (eqb-true b 34 g.0)); fits = refl }
    | inr g ↦ let c = closes_more false b bs (closing false bs) n g.1 (λ m k. closing_sound false bs m k) in record { inner = b ∷ c.0; text = c.1; fits = rw (f, g.0) c.2 }
  ]
]

plus_one : (o : Option ℕ) (n : ℕ) → Some n ≡ option_map (λ (k : ℕ). k + 1) o → (m : ℕ) × (n ≡ suc m) × (o ≡ Some m)
plus_one None n e = absurd cc
plus_one (Some m) n e = (m, (let s = same_Some n (m + 1) e in omega arith), refl)

-- the tests that failed before a start was told
record Passed (sign : Bool) (b c : ℕ) (k : Start) : Type 0 where
  no_word : begins_word b ≡ false
  no_at : (b == 64) ≡ false
  no_digit : is_ascii_digit b ≡ false
  no_sign : (b == 45 && (sign && is_ascii_digit c)) ≡ false
  rest : cond (b == 34) Literals Symbols ≡ k

passed : (sign : Bool) (b c : ℕ) (k : Start) → opens_as sign b c ≡ k → (k ≡ Words → ⊥) → (k ≡ Tags → ⊥) → (k ≡ Numbers → ⊥) → Passed sign b c k
unfolding opens_as
passed sign b c k h not_words not_tags not_numbers = elim (chosen (begins_word b) Words _ k h) [
  | inl e ↦ absurd (not_words (sym e.1))
  | inr e ↦ elim (chosen (b == 64) Tags _ k e.1) [
    | inl f ↦ absurd (not_tags (sym f.1))
    | inr f ↦ elim (chosen (is_ascii_digit b) Numbers _ k f.1) [
      | inl g ↦ absurd (not_numbers (sym g.1))
      | inr g ↦ elim (chosen (b == 45 && (sign && is_ascii_digit c)) Numbers _ k g.1) [
        | inl m ↦ absurd (not_numbers (sym m.1))
        | inr m ↦ record { no_word = e.0; no_at = f.0; no_digit = g.0; no_sign = m.0; rest = m.1 }
      ]
    ]
  ]
]

opens_quote : (sign : Bool) (b c : ℕ) → opens_as sign b c ≡ Literals → b ≡ 34
opens_quote sign b c h =
    let p = passed sign b c Literals h (λ e. absurd cc) (λ e. absurd cc) (λ e. absurd cc) in
    elim (chosen (b == 34) Literals Symbols Literals p.rest) [ inl m ↦ eqb-true b 34 m.0 | inr m ↦ let g = m.1 in absurd cc ]

literal_at : (bytes : List ℕ) (m : ℕ) → slice_index bytes 0 ≡ 34 → 0 < length bytes → closing false (drop 1 bytes) ≡ Some m → Form Literal (take (suc m) bytes)
literal_at [] m first some e = absurd (omega arith)
literal_at (b ∷ bs) m first some e = let c = closing_sound false bs m e in (c.inner, rw first (ap (λ (l : List ℕ). 34 ∷ l) c.text), c.fits)

pub literal_token : (sign : Bool) (bytes : List ℕ) (n : ℕ) → 0 < length bytes → opens_as sign (slice_index bytes 0) (slice_index bytes 1) ≡ Literals
    → Some n ≡ option_map (λ (k : ℕ). k + 1) (closing false (drop 1 bytes)) → IsToken sign Literal (take n bytes) (drop n bytes)
literal_token sign bytes n some start e =
    let p = plus_one (closing false (drop 1 bytes)) n e in
    rw p.1 (record { form = literal_at bytes p.0 (opens_quote sign (slice_index bytes 0) (slice_index bytes 1) start) some p.2; ends = tt; signed = tt })

-- a number at the front is the whole run
run_parts : (p : ℕ → Bool) (first : ℕ) (rest next bytes : List ℕ) (n : ℕ) → p 0 ≡ false → bytes ≡ (first ∷ rest) ++ next → list_all p rest ≡ true → p (slice_index next 0) ≡ false
    → 0 < n → list_all p (drop 1 (take n bytes)) ≡ true → p (slice_index bytes n) ≡ false → first ∷ rest ≡ take n bytes
run_parts p first rest next bytes zero none e run ends some all stops = absurd (omega arith)
run_parts p first rest next [] (suc n) none e run ends some all stops = absurd cc
run_parts p first rest next (b ∷ bs) (suc n) none e run ends some all stops =
    let tail = ap (λ (l : List ℕ). drop 1 l) e in
    let head = ap (λ (l : List ℕ). slice_index l 0) e in
    let split = take-append-drop n bs in
    let same = same_run p rest (take n bs) next (drop n bs) none run all ends (ap p (index_drop n bs) ∙ stops) (sym tail ∙ sym split) in
    let s = same.0 in
    cc

pub number_run : (z : ℤ) (text next bytes : List ℕ) (n : ℕ) → bytes ≡ text ++ next → Form (Number z) text → Ends (Number z) text next
    → 0 < n → list_all in_word (drop 1 (take n bytes)) ≡ true → in_word (slice_index bytes n) ≡ false → take n bytes ≡ signed_decimal z
number_run z text next bytes n e form ends some run stops =
    let num = numeric z form.0 in
    sym (run_parts in_word num.first num.rest next bytes n refl (e ∙ ap (λ (l : List ℕ). l ++ next) (form.1 ∙ num.is)) num.run ends some run stops) ∙ sym num.is

-- ---- tags

pub tag_size : (text next bytes : List ℕ) (n : ℕ) → bytes ≡ text ++ next → Form Tag text → Ends Tag text next → 0 < n → n ≤ length bytes
    → list_all in_tag (drop 1 (take n bytes)) ≡ true → in_tag (slice_index bytes n) ≡ false → n ≤ 33
tag_size text next bytes n e form ends some within run stops =
    let whole : bytes ≡ (64 ∷ form.0) ++ next = e ∙ ap (λ (l : List ℕ). l ++ next) form.1 in
    let same = run_parts in_tag 64 form.0 next bytes n refl whole (tag_all form.0 form.2) ends some run stops in
    let size = ap length same in
    let short = form.3 in
    omega (arith, length-take n bytes)

pub tag_front : (bytes : List ℕ) (n : ℕ) → slice_index bytes 0 ≡ 64 → is_ascii_lowercase (slice_index bytes 1) ≡ true → 0 < n → n ≤ length bytes → n ≤ 33
    → list_all in_tag (drop 1 (take n bytes)) ≡ true → in_tag (slice_index bytes n) ≡ false → Form Tag (take n bytes) × Ends Tag (take n bytes) (drop n bytes)
tag_front [] n first lower some within small run stops = absurd (omega arith)
tag_front (b ∷ bs) zero first lower some within small run stops = absurd (omega arith)
tag_front (b ∷ bs) (suc zero) first lower some within small run stops = let f = lower_in_tag (slice_index bs 0) lower in absurd cc
tag_front (b ∷ []) (suc (suc n)) first lower some within small run stops = absurd (omega arith)
tag_front (b ∷ c ∷ bs) (suc (suc n)) first lower some within small run stops =
    let q = and_parts (in_tag c) (list_all in_tag (take n bs)) run in
    ((c ∷ take n bs, ap (λ (k : ℕ). k ∷ c ∷ take n bs) first, and_from _ _ lower q.1, omega (arith, length-take n bs)), ap in_tag (index_drop n bs) ∙ stops)

pub tag_token : (sign : Bool) (bytes : List ℕ) (n : ℕ) → Form Tag (take n bytes) × Ends Tag (take n bytes) (drop n bytes) → IsToken sign Tag (take n bytes) (drop n bytes)
tag_token sign bytes n both = record { form = both.0; ends = both.1; signed = tt }

tags_same : (a b x y : List ℕ) → Form Tag a → Form Tag b → Ends Tag a x → Ends Tag b y → a ++ x ≡ b ++ y → a ≡ b
tags_same a b x y fa fb ea eb e =
    let whole : (64 ∷ fa.0) ++ x ≡ (64 ∷ fb.0) ++ y = ap (λ (l : List ℕ). l ++ x) (sym fa.1) ∙ e ∙ ap (λ (l : List ℕ). l ++ y) fb.1 in
    let rest = same_run in_tag fa.0 fb.0 x y refl (tag_all fa.0 fa.2) (tag_all fb.0 fb.2) ea eb (ap (λ (l : List ℕ). drop 1 l) whole) in
    fa.1 ∙ ap (λ (l : List ℕ). 64 ∷ l) rest.0 ∙ sym fb.1

-- ---- what the start tells

symbols_no_words : (b : Bool) → cond b Literals Symbols ≡ Words → ⊥
symbols_no_words true h = absurd cc
symbols_no_words false h = absurd cc

symbols_no_tags : (b : Bool) → cond b Literals Symbols ≡ Tags → ⊥
symbols_no_tags true h = absurd cc
symbols_no_tags false h = absurd cc

numbers_no_words : (x y : Bool) → cond x Numbers (cond y Literals Symbols) ≡ Words → ⊥
numbers_no_words true y h = absurd cc
numbers_no_words false y h = symbols_no_words y h

numbers_no_tags : (x y : Bool) → cond x Numbers (cond y Literals Symbols) ≡ Tags → ⊥
numbers_no_tags true y h = absurd cc
numbers_no_tags false y h = symbols_no_tags y h

pub opens_begins : (sign : Bool) (b c : ℕ) → opens_as sign b c ≡ Words → begins_word b ≡ true
unfolding opens_as
opens_begins sign b c h = elim (chosen (begins_word b) Words _ Words h) [
  | inl e ↦ e.0
  | inr e ↦ elim (chosen (b == 64) Tags _ Words e.1) [
    | inl f ↦ let g = f.1 in absurd cc
    | inr f ↦ elim (chosen (is_ascii_digit b) Numbers _ Words f.1) [ inl g ↦ let k = g.1 in absurd cc | inr g ↦ absurd (numbers_no_words _ _ g.1) ]
  ]
]

pub opens_at : (sign : Bool) (b c : ℕ) → opens_as sign b c ≡ Tags → b ≡ 64
unfolding opens_as
opens_at sign b c h = elim (chosen (begins_word b) Words _ Tags h) [
  | inl e ↦ let g = e.1 in absurd cc
  | inr e ↦ elim (chosen (b == 64) Tags _ Tags e.1) [
    | inl f ↦ eqb-true b 64 f.0
    | inr f ↦ elim (chosen (is_ascii_digit b) Numbers _ Tags f.1) [ inl g ↦ let k = g.1 in absurd cc | inr g ↦ absurd (numbers_no_tags _ _ g.1) ]
  ]
]

minus_sign : (sign : Bool) (c : ℕ) → opens_as sign 45 c ≡ Numbers → sign ≡ true
unfolding opens_as
minus_sign true c h = refl
minus_sign false c h = absurd cc

minus_symbol : (sign : Bool) (c : ℕ) → opens_as sign 45 c ≡ Symbols → (sign && is_ascii_digit c) ≡ false
unfolding opens_as
minus_symbol sign c h = elim (chosen (sign && is_ascii_digit c) Numbers Symbols Symbols h) [ inl e ↦ let g = e.1 in absurd cc | inr e ↦ e.0 ]

pub first_of_take : (n : ℕ) (bytes : List ℕ) → 0 < n → slice_index (take n bytes) 0 ≡ slice_index bytes 0
first_of_take zero bytes h = absurd (omega arith)
first_of_take (suc n) [] h = refl
first_of_take (suc n) (b ∷ bs) h = refl

pub number_token : (sign : Bool) (bytes : List ℕ) (n : ℕ) (z : ℤ) → 0 < n → opens_as sign (slice_index bytes 0) (slice_index bytes 1) ≡ Numbers
    → Form (Number z) (take n bytes) → Ends (Number z) (take n bytes) (drop n bytes) → IsToken sign (Number z) (take n bytes) (drop n bytes)
number_token sign bytes n z some start form ends = record {
  form = form;
  ends = ends;
  signed = λ e. minus_sign sign (slice_index bytes 1) (rw (sym (first_of_take n bytes some) ∙ e) at start);
}

one_of_take : (bytes : List ℕ) (n : ℕ) → take n bytes ≡ 45 ∷ [] → 0 < n → n ≤ length bytes → (slice_index bytes 0 ≡ 45) × (slice_index (drop n bytes) 0 ≡ slice_index bytes 1)
one_of_take [] n e some within = absurd (omega arith)
one_of_take (b ∷ bs) zero e some within = absurd (omega arith)
one_of_take (b ∷ bs) (suc zero) e some within = (ap (λ (l : List ℕ). slice_index l 0) e, index_drop 0 bs)
one_of_take (b ∷ []) (suc (suc n)) e some within = absurd (omega arith)
one_of_take (b ∷ c ∷ bs) (suc (suc n)) e some within = let f = ap length e in absurd (omega arith)

pub symbol_token : (sign : Bool) (bytes : List ℕ) (n : ℕ) → 0 < n → n ≤ length bytes → opens_as sign (slice_index bytes 0) (slice_index bytes 1) ≡ Symbols
    → IsSymbol (take n bytes) → Ends Symbol (take n bytes) (drop n bytes) → IsToken sign Symbol (take n bytes) (drop n bytes)
symbol_token sign bytes n some within start form ends = record {
  form = form;
  ends = ends;
  signed = λ e. let p = one_of_take bytes n e some within in rw p.1 (minus_symbol sign (slice_index bytes 1) (rw p.0 at start));
}

-- ---- the line

pub cuts_more : (line : List ℕ) (from to : ℕ) (ts : List Token) (t : Token) → Cuts line from ts to → StandsAt line to t → Cuts line from (ts ++ t ∷ []) t.end
cuts_more line from to [] t cuts stands = (rw cuts stands, refl)
cuts_more line from to (u ∷ ts) t cuts stands = (cuts.0, cuts_more line u.end to ts t cuts.1 stands)

blanks_step : (k : ℕ) (l : List ℕ) → k < length l → list_all is_blank (take k l) ≡ true → is_blank (slice_index l k) ≡ true → list_all is_blank (take (suc k) l) ≡ true
blanks_step k [] within all one = absurd (omega arith)
blanks_step zero (b ∷ l) within all one = and_from (is_blank b) true one refl
blanks_step (suc k) (b ∷ l) within all one =
    let q = and_parts (is_blank b) (list_all is_blank (take k l)) all in
    and_from (is_blank b) (list_all is_blank (take (suc k) l)) q.0 (blanks_step k l (omega arith) q.1 one)

pub blanks_more : (k n : ℕ) (l : List ℕ) → k < length l → list_all is_blank (take k l) ≡ true → is_blank (slice_index l k) ≡ true → n ≡ suc k → list_all is_blank (take n l) ≡ true
blanks_more k n l within all one is = rw is (blanks_step k l within all one)

pub stands : (line rest : List ℕ) (from start len : ℕ) (kind : TokenKind) (sign : Bool) → from ≤ start → start ≤ length line → list_all is_blank (take (start - from) (drop from line)) ≡ true
    → rest ≡ drop start line → sign ≡ may_sign line start → 0 < len → len ≤ length rest → IsToken sign kind (take len rest) (drop len rest)
    → StandsAt line from (record { kind = kind; start = start; end = start + len })
stands line rest from start len kind sign after inside blanks is same some within token =
    let size : (start + len) - start ≡ len = omega arith in
    record {
      after = after;
      some = omega arith;
      within = omega (arith, ap length is, length-drop start line);
      blanks = blanks;
      token = rw (← same, size, ← drop-drop len start line, ← is) token;
    }

pub blank_at : (line : List ℕ) (from at : ℕ) → from ≤ at → is_blank (slice_index line at) ≡ true → is_blank (slice_index (drop from line) (at - from)) ≡ true
blank_at line from at after h = let i : from + (at - from) ≡ at = omega arith in rw (get_or-drop from line (at - from) 0, i) h

-- ---- one token at a place

symbols_same : (a b x y : List ℕ) → IsSymbol a → IsSymbol b → Ends Symbol a x → Ends Symbol b y → a ++ x ≡ b ++ y → a ≡ b
symbols_same [] b x y sa sb ea eb e = absurd sa
symbols_same (p ∷ []) [] x y sa sb ea eb e = absurd sb
symbols_same (p ∷ q ∷ []) [] x y sa sb ea eb e = absurd sb
symbols_same (p ∷ q ∷ r ∷ a) b x y sa sb ea eb e = absurd sa
symbols_same (p ∷ []) (u ∷ []) x y sa sb ea eb e = let h = ap (λ (l : List ℕ). slice_index l 0) e in cc
symbols_same (p ∷ q ∷ []) (u ∷ v ∷ []) x y sa sb ea eb e = let h = ap (λ (l : List ℕ). slice_index l 0) e in let g = ap (λ (l : List ℕ). slice_index l 1) e in cc
symbols_same (p ∷ []) (u ∷ v ∷ []) x y sa sb ea eb e =
    let h = ap (λ (l : List ℕ). slice_index l 0) e in
    let g = ap (λ (l : List ℕ). slice_index (drop 1 l) 0) e in
    let f = ea refl in
    absurd cc
symbols_same (p ∷ q ∷ []) (u ∷ []) x y sa sb ea eb e =
    let h = ap (λ (l : List ℕ). slice_index l 0) e in
    let g = ap (λ (l : List ℕ). slice_index (drop 1 l) 0) e in
    let f = eb refl in
    absurd cc
symbols_same (p ∷ []) (u ∷ v ∷ w ∷ b) x y sa sb ea eb e = absurd sb
symbols_same (p ∷ q ∷ []) (u ∷ v ∷ w ∷ b) x y sa sb ea eb e = absurd sb

literals_same : (a b x y : List ℕ) → Form Literal a → Form Literal b → a ++ x ≡ b ++ y → a ≡ b
literals_same a b x y fa fb e =
    let ea : a ++ x ≡ 34 ∷ (fa.0 ++ (34 ∷ x)) = ap (λ (l : List ℕ). l ++ x) fa.1 ∙ ap (λ (l : List ℕ). 34 ∷ l) (append_assoc fa.0 (34 ∷ []) x) in
    let eb : b ++ y ≡ 34 ∷ (fb.0 ++ (34 ∷ y)) = ap (λ (l : List ℕ). l ++ y) fb.1 ∙ ap (λ (l : List ℕ). 34 ∷ l) (append_assoc fb.0 (34 ∷ []) y) in
    let whole = sym ea ∙ e ∙ eb in
    let ca = closing_complete false fa.0 x fa.2 in
    let cb = closing_complete false fb.0 y fb.2 in
    let both : Some (suc (length fa.0)) ≡ Some (suc (length fb.0)) = sym ca ∙ ap (λ (l : List ℕ). closing false (drop 1 l)) whole ∙ cb in
    let size = same_Some (suc (length fa.0)) (suc (length fb.0)) both in
    let la : length a ≡ suc (length fa.0 + 1) = ap length fa.1 ∙ ap suc (length-append fa.0 (34 ∷ [])) in
    let lb : length b ≡ suc (length fb.0 + 1) = ap length fb.1 ∙ ap suc (length-append fb.0 (34 ∷ [])) in
    sym (take_at a x (length b) (omega arith)) ∙ ap (take (length b)) e ∙ take_at b y (length b) refl

numbers_same : (z v : ℤ) (a b x y : List ℕ) → Form (Number z) a → Form (Number v) b → Ends (Number z) a x → Ends (Number v) b y → a ++ x ≡ b ++ y → (z ≡ v) × (a ≡ b)
numbers_same z v a b x y fa fb ea eb e =
    let na = numeric z fa.0 in
    let nb = numeric v fb.0 in
    let whole : (na.first ∷ na.rest) ++ x ≡ (nb.first ∷ nb.rest) ++ y = ap (λ (l : List ℕ). l ++ x) (sym (fa.1 ∙ na.is)) ∙ e ∙ ap (λ (l : List ℕ). l ++ y) (fb.1 ∙ nb.is) in
    let head = ap (λ (l : List ℕ). slice_index l 0) whole in
    let rest = same_run in_word na.rest nb.rest x y refl na.run nb.run ea eb (ap (λ (l : List ℕ). drop 1 l) whole) in
    let r = rest.0 in
    let parts : na.first ∷ na.rest ≡ nb.first ∷ nb.rest = cc in
    let texts : a ≡ b = fa.1 ∙ na.is ∙ parts ∙ sym (fb.1 ∙ nb.is) in
    (signed_decimal_injective z v (small z fa.0) (small v fb.0) (sym fa.1 ∙ texts ∙ fb.1), texts)

-- one token begins at a place
pub one_token : (sign : Bool) (k l : TokenKind) (a b x y : List ℕ) → IsToken sign k a x → IsToken sign l b y → a ++ x ≡ b ++ y → start_of k ≡ start_of l → (k ≡ l) × (a ≡ b)
one_token sign Word Word a b x y s t e c = (refl, (same_run in_word a b x y refl (word_all a s.form) (word_all b t.form) s.ends t.ends e).0)
one_token sign Tag Tag a b x y s t e c = (refl, tags_same a b x y s.form t.form s.ends t.ends e)
one_token sign (Number z) (Number v) a b x y s t e c = let r = numbers_same z v a b x y s.form t.form s.ends t.ends e in (ap Number r.0, r.1)
one_token sign Literal Literal a b x y s t e c = (refl, literals_same a b x y s.form t.form e)
one_token sign Symbol Symbol a b x y s t e c = (refl, symbols_same a b x y s.form t.form s.ends t.ends e)
one_token sign Tag Word a b x y s t e c = absurd cc
one_token sign Tag (Number v) a b x y s t e c = absurd cc
one_token sign Tag Literal a b x y s t e c = absurd cc
one_token sign Tag Symbol a b x y s t e c = absurd cc
one_token sign Word Tag a b x y s t e c = absurd cc
one_token sign (Number z) Tag a b x y s t e c = absurd cc
one_token sign Literal Tag a b x y s t e c = absurd cc
one_token sign Symbol Tag a b x y s t e c = absurd cc
one_token sign Word (Number v) a b x y s t e c = absurd cc
one_token sign Word Literal a b x y s t e c = absurd cc
one_token sign Word Symbol a b x y s t e c = absurd cc
one_token sign (Number z) Word a b x y s t e c = absurd cc
one_token sign (Number z) Literal a b x y s t e c = absurd cc
one_token sign (Number z) Symbol a b x y s t e c = absurd cc
one_token sign Literal Word a b x y s t e c = absurd cc
one_token sign Literal (Number v) a b x y s t e c = absurd cc
one_token sign Literal Symbol a b x y s t e c = absurd cc
one_token sign Symbol Word a b x y s t e c = absurd cc
one_token sign Symbol (Number v) a b x y s t e c = absurd cc
one_token sign Symbol Literal a b x y s t e c = absurd cc

pub only_token : (sign : Bool) (k l : TokenKind) (a b x y : List ℕ) → IsToken sign k a x → IsToken sign l b y → a ++ x ≡ b ++ y → (k ≡ l) × (a ≡ b)
only_token sign k l a b x y s t e = one_token sign k l a b x y s t e (sym (opens_so sign k a x (a ++ x) refl s) ∙ opens_so sign l b y (a ++ x) e t)
