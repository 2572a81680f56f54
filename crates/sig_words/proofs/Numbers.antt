-- Texts of numbers.
use Rattle.std.proofs.Common.{◌≡◌, ℕ, zero, suc, ◌+◌, ◌<◌, ◌≤◌, ◌^◌, Bool, true, false, List, [], ◌∷◌, length, get_or, refl, sym, ap, ◌∙◌, arith, inl, inr, leb, Err, rules, ◌⊎◌}
use Rattle.std.specs.Prelude.{◌==◌, ◌||◌, ℤ, pos, negsuc, neg_ℤ}
use Rattle.std.specs.Fmt.{decimal, signed_decimal}
use Rattle.std.specs.Int.{w64}
use Rattle.std.specs.Int.Signed.{mag}
use Rattle.std.specs.Int.RustNames.{FitsSigned}
use Rattle.std.specs.Str.{all_ascii_digits, IsUtf8}
use Rattle.std.specs.Str.Parse.{IsNumeral, digits_value, without_leading_sign, signed_digits_value, ParsesSigned}
use Rattle.std.proofs.lemmas.Bool.{eqb-true, and_parts, and_from, le-leb, leb-true, ne_eqb, or_cases, cases_eq}
use Rattle.std.proofs.lemmas.Fmt.{decimal_nonempty, first_decimal, decimal_digit, decimal-digits_value, parse-signed_decimal, IsAscii-signed, digits_decimal}
use Rattle.std.proofs.lemmas.Str.{IsUtf8-from_ascii}
use Rattle.std.proofs.lemmas.Str.Parse.{IsNumeralModel, numerals_by_value}
use Rattle.sig_words.specs.Scanner.{is_leading, is_plain}

pub own : IsNumeralModel (λ ds. all_ascii_digits ds ≡ true) (digits_value 10)
own = numerals_by_value _ (search rules)

pub small : (z : ℤ) → FitsSigned w64 z → mag z < 2 ^ 63
small z fits = omega arith

first_digit : (b : ℕ) (bs : List ℕ) → all_ascii_digits (b ∷ bs) ≡ true → b ≤ 57
first_digit b bs h = let p = and_parts _ _ h in let q = and_parts _ _ p.0 in leb-true b 57 q.1

leads : (ds : List ℕ) → 0 < length ds → 48 < get_or ds 0 0 → all_ascii_digits ds ≡ true → (b : ℕ) × (bs : List ℕ) × (ds ≡ b ∷ bs) × (is_leading b ≡ true)
leads [] some first digits = absurd (omega arith)
leads (b ∷ bs) some first digits = (b, bs, refl, and_from _ _ (le-leb 49 b (omega arith)) (le-leb b 57 (first_digit b bs digits)))

-- the first digit of a number above 0
pub leading : (n : ℕ) → 0 < n → n < 2 ^ 64 → (b : ℕ) × (bs : List ℕ) × (decimal n ≡ b ∷ bs) × (is_leading b ≡ true)
leading n some fits = leads (decimal n) (decimal_nonempty n fits) (first_decimal n some fits) (digits_decimal own n fits)

or_true : (x : Bool) → (x || true) ≡ true
or_true true = refl
or_true false = refl

plain_leading : (b : ℕ) (bs : List ℕ) → is_leading b ≡ true → is_plain (b ∷ bs) ≡ true
plain_leading b [] h = rw h (or_true (b == 48))
plain_leading b (c ∷ bs) h = let p = and_parts _ _ h in let q = leb-true 49 b p.0 in let z : (b == 45) ≡ false = ne_eqb b 45 (λ k. omega arith) in rw z h

pub plain_decimal : (z : ℤ) → FitsSigned w64 z → is_plain (signed_decimal z) ≡ true
plain_decimal (pos zero) fits = rw (decimal_digit 0 (omega arith)) refl
plain_decimal (pos (suc n)) fits = let h = small (pos (suc n)) fits in let l = leading (suc n) (omega arith) (omega arith) in rw l.2 (plain_leading l.0 l.1 l.3)
plain_decimal (negsuc n) fits = let h = small (negsuc n) fits in let l = leading (suc n) (omega arith) (omega arith) in rw l.2 l.3

pub not_plain : (text : List ℕ) → is_plain text ≡ false → (z : ℤ) → FitsSigned w64 z → text ≡ signed_decimal z → ⊥
not_plain text refused z fits is = let yes_is = plain_decimal z fits in let e = ap is_plain is in absurd cc

pub not_text : (text : List ℕ) → (IsUtf8 text → ⊥) → (z : ℤ) → FitsSigned w64 z → text ≡ signed_decimal z → ⊥
not_text text refused z fits is = refused (rw is (IsUtf8-from_ascii _ (IsAscii-signed z (small z fits))))

pub not_parsed : {E : Type 0} (text : List ℕ) (e : E) → ParsesSigned w64 10 text (Err e) → (z : ℤ) → FitsSigned w64 z → text ≡ signed_decimal z → ⊥
not_parsed text e parses z fits is = let r = parse-signed_decimal w64 z text (Err e) fits (small z fits) is parses in absurd cc

digits_are : (ds : List ℕ) → IsNumeral 10 ds → (get_or ds 0 0 ≡ 48 → length ds ≡ 1) → digits_value 10 ds < 2 ^ 64 → decimal (digits_value 10 ds) ≡ ds
digits_are ds numeral plain fits = decimal-digits_value own ds (own.from ds numeral.1) numeral.0 plain fits

one_leading : (b : ℕ) → is_plain (b ∷ []) ≡ true → 48 ≤ b
one_leading b h = elim (or_cases (b == 48) (is_leading b) h) [
  | inl e ↦ let f = eqb-true b 48 e in omega arith
  | inr e ↦ let p = and_parts _ _ e in let q = leb-true 49 b p.0 in omega arith
]

unsigned_value : (b : ℕ) (bs : List ℕ) → 48 ≤ b → (b ≡ 48 → length (b ∷ bs) ≡ 1) → IsNumeral 10 (without_leading_sign (b ∷ bs)) → FitsSigned w64 (signed_digits_value 10 (b ∷ bs)) → (b ∷ bs) ≡ signed_decimal (signed_digits_value 10 (b ∷ bs))
unsigned_value b bs big plain numeral fits =
    let y : (b == 45) ≡ false = ne_eqb b 45 (λ k. omega arith) in
    let z : (b == 43) ≡ false = ne_eqb b 43 (λ k. omega arith) in
    let n = rw (y, z) at numeral in
    let f = rw (y, z) at fits in
    let g = small _ f in
    rw (y, z) (sym (digits_are (b ∷ bs) n plain (omega arith)))

negative : (v c : ℕ) (bs : List ℕ) → decimal v ≡ c ∷ bs → 49 ≤ c → 45 ∷ c ∷ bs ≡ signed_decimal (neg_ℤ (pos v))
negative zero c bs e big = let d = sym (decimal_digit 0 (omega arith)) ∙ e in let h = ap (λ (l : List ℕ). get_or l 0 0) d in absurd (omega arith)
negative (suc m) c bs e big = ap (λ (l : List ℕ). 45 ∷ l) (sym e)

mag_neg : (v : ℕ) → mag (neg_ℤ (pos v)) + 1 ≡ v + 1 ⊎ mag (neg_ℤ (pos v)) + 1 ≡ v
mag_neg zero = inl refl
mag_neg (suc m) = inr (omega arith)

signed_value : (c : ℕ) (bs : List ℕ) → is_leading c ≡ true → IsNumeral 10 (c ∷ bs) → FitsSigned w64 (neg_ℤ (pos (digits_value 10 (c ∷ bs)))) → 45 ∷ c ∷ bs ≡ signed_decimal (neg_ℤ (pos (digits_value 10 (c ∷ bs))))
signed_value c bs lead numeral fits =
    let p = and_parts (leb 49 c) (leb c 57) lead in
    let q = leb-true 49 c p.0 in
    let g = small _ fits in
    let below : digits_value 10 (c ∷ bs) < 2 ^ 64 = elim (mag_neg (digits_value 10 (c ∷ bs))) [ inl e ↦ omega arith | inr e ↦ omega arith ] in
    negative (digits_value 10 (c ∷ bs)) c bs (digits_are (c ∷ bs) numeral (λ k. absurd (omega arith)) below) q

plain_value : (text : List ℕ) → is_plain text ≡ true → IsNumeral 10 (without_leading_sign text) → FitsSigned w64 (signed_digits_value 10 text) → text ≡ signed_decimal (signed_digits_value 10 text)
plain_value [] plain numeral fits = absurd cc
plain_value (b ∷ []) plain numeral fits =
    let big = one_leading b plain in
    unsigned_value b [] (omega arith) (λ k. refl) numeral fits
plain_value (b ∷ c ∷ bs) plain numeral fits = elim (cases_eq b 45) [
  | inl is ↦ rw is (signed_value c bs (rw is at plain) (rw is at numeral) (rw is at fits))
  | inr other ↦
      let z : (b == 45) ≡ false = ne_eqb b 45 other in
      let p = and_parts (leb 49 b) (leb b 57) (rw z at plain) in
      let q = leb-true 49 b p.0 in
      unsigned_value b (c ∷ bs) (omega arith) (λ k. absurd (omega arith)) numeral fits
]

pub parsed : (text : List ℕ) (z : ℤ) → is_plain text ≡ true → IsNumeral 10 (without_leading_sign text) × FitsSigned w64 (signed_digits_value 10 text) → z ≡ signed_digits_value 10 text → text ≡ signed_decimal z
parsed text z plain numeral is = rw is (plain_value text plain numeral.0 numeral.1)
