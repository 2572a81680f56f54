-- Decimal texts of numbers of rounds.
use Rattle.std.proofs.Common.{◌≡◌, ℕ, zero, suc, ◌<◌, ◌≤◌, ◌^◌, true, false, List, [], ◌∷◌, length, get_or, refl, sym, ap, ◌∙◌, arith, inl, inr, Some, None, Err, rules}
use Rattle.std.specs.Prelude.{◌==◌, nat_le, IfSome}
use Rattle.std.specs.Cmp.Lexicographic.{same_text}
use Rattle.std.specs.Fmt.{decimal}
use Rattle.std.specs.Str.{all_ascii_digits, bytes_eq}
use Rattle.std.specs.Str.Parse.{IsNumeral, ParsesUnsigned, digits_value, without_leading_plus}
use Rattle.std.proofs.lemmas.Bool.{and_parts, and_from, cases_Bool, le-leb, leb-true, ne_eqb}
use Rattle.std.proofs.lemmas.Fmt.{decimal-digits_value, decimal_digit, decimal_nonempty, digits_decimal, digits_value-decimal, first_decimal, parse-decimal}
use Rattle.std.proofs.lemmas.Str.Parse.{IsNumeralModel, numerals_by_value}
use Rattle.live_words.specs.declared.jobs.TheConstants.{MOST_ROUNDS}
use Rattle.live_words.specs.Rounds.{begins_plainly, rounds_of, writes_rounds}

own : IsNumeralModel (λ ds. all_ascii_digits ds ≡ true) (digits_value 10)
own = numerals_by_value _ (search rules)

-- a text is the decimal text of this number from 1 to `MOST_ROUNDS`
pub record Writes (text : List ℕ) (n : ℕ) : Type 0 where
  pub some : 1 ≤ n
  pub few : n ≤ MOST_ROUNDS
  pub is : text ≡ decimal n

small : (n : ℕ) → n ≤ MOST_ROUNDS → n < 2 ^ 32
small n few = omega arith

first_digit : (b : ℕ) (bs : List ℕ) → all_ascii_digits (b ∷ bs) ≡ true → b ≤ 57
first_digit b bs h = let p = and_parts _ _ h in let q = and_parts _ _ p.0 in leb-true b 57 q.1

digits_begin : (ds : List ℕ) → 0 < length ds → 48 < get_or ds 0 0 → all_ascii_digits ds ≡ true → begins_plainly ds ≡ true
digits_begin [] some first digits = absurd (omega arith)
digits_begin (b ∷ bs) some first digits = and_from _ _ (le-leb 49 b (omega arith)) (le-leb b 57 (first_digit b bs digits))

number_begins : (n : ℕ) → 0 < n → n < 2 ^ 64 → begins_plainly (decimal n) ≡ true
number_begins n some fits = digits_begin (decimal n) (decimal_nonempty n fits) (first_decimal n some fits) (digits_decimal own n fits)

value_of : (text : List ℕ) (n : ℕ) → Writes text n → digits_value 10 text ≡ n
value_of text n w = let s = small n w.few in ap (digits_value 10) w.is ∙ digits_value-decimal own n (omega arith)

-- ---- where there is no number

pub not_begun : (text : List ℕ) → begins_plainly text ≡ false → (n : ℕ) → Writes text n → ⊥
not_begun text refused n w =
    let s = small n w.few in
    let some = w.some in
    let begun = number_begins n (omega arith) (omega arith) in
    let e = ap begins_plainly w.is in
    absurd cc

pub not_parsed : {E : Type 0} (text : List ℕ) (e : E) → ParsesUnsigned 32 10 text (Err e) → (n : ℕ) → Writes text n → ⊥
not_parsed text e parses n w =
    let s = small n w.few in
    let r = parse-decimal 32 n text (Err e) s (omega arith) w.is parses in
    absurd cc

-- ---- where there is one

-- a text, behind a plus where one stands first, is a numeral of this value
abbrev pub IsParsed : List ℕ → ℕ → Type 0
IsParsed text n = (IsNumeral 10 (without_leading_plus text) × (digits_value 10 (without_leading_plus text) < 2 ^ 32)) × (n ≡ digits_value 10 (without_leading_plus text))

behind_plus : (text : List ℕ) → begins_plainly text ≡ true → without_leading_plus text ≡ text
behind_plus [] begun = absurd cc
behind_plus (b ∷ bs) begun =
    let p = and_parts _ _ begun in
    let q = leb-true 49 b p.0 in
    let z : (b == 43) ≡ false = ne_eqb b 43 (λ k. omega arith) in
    rw z refl

first_plain : (text : List ℕ) → begins_plainly text ≡ true → get_or text 0 0 ≡ 48 → length text ≡ 1
first_plain [] begun zero_first = absurd cc
first_plain (b ∷ bs) begun zero_first = let p = and_parts _ _ begun in let q = leb-true 49 b p.0 in absurd (omega arith)

some_value : (n : ℕ) (text : List ℕ) → begins_plainly text ≡ true → text ≡ decimal n → 1 ≤ n
some_value zero text begun is =
    let d : text ≡ 48 ∷ [] = is ∙ decimal_digit 0 (omega arith) in
    let e = ap begins_plainly d in
    absurd cc
some_value (suc n) text begun is = omega arith

pub parsed : (text : List ℕ) (n : ℕ) → begins_plainly text ≡ true → IsParsed text n → text ≡ decimal n
parsed text n begun parses =
    let e = behind_plus text begun in
    let h = rw e at parses in
    let v : n ≡ digits_value 10 text = h.1 in
    let fits : digits_value 10 text < 2 ^ 32 = h.0.1 in
    sym (ap decimal v ∙ decimal-digits_value own text (own.from text h.0.0.1) h.0.0.0 (first_plain text begun) (omega arith))

-- ---- what the text's number of rounds is

writes : (text : List ℕ) (n : ℕ) → writes_rounds text n ≡ true → Writes text n
writes text n holds =
    let p = and_parts (bytes_eq text (decimal n)) _ holds in
    let q = and_parts (nat_le 1 n) (nat_le n MOST_ROUNDS) p.1 in
    record { some = leb-true 1 n q.0; few = leb-true n MOST_ROUNDS q.1; is = same_text text (decimal n) (sym p.0) }

own_bytes : (a : List ℕ) → bytes_eq a a ≡ true
own_bytes a = search rules

same_bytes : (a b : List ℕ) → a ≡ b → bytes_eq a b ≡ true
same_bytes a b e = rw e (own_bytes b)

written : (text : List ℕ) (n : ℕ) → Writes text n → writes_rounds text n ≡ true
written text n w =
    and_from (bytes_eq text (decimal n)) _ (same_bytes text (decimal n) w.is)
    (and_from (nat_le 1 n) (nat_le n MOST_ROUNDS) (le-leb 1 n w.some) (le-leb n MOST_ROUNDS w.few))

pub none_of : (text : List ℕ) → ((n : ℕ) → Writes text n → ⊥) → None ≡ rounds_of text
unfolding rounds_of
none_of text none = elim (cases_Bool (writes_rounds text (digits_value 10 text))) [
  | inl e ↦ absurd (none (digits_value 10 text) (writes text (digits_value 10 text) e))
  | inr e ↦ rw e refl
]

pub some_of : (text : List ℕ) (n : ℕ) → Writes text n → Some n ≡ rounds_of text
unfolding rounds_of
some_of text n w = let v = value_of text n w in let t = written text n w in rw (v, t) refl

-- ---- the ways of reading

pub too_many : (text : List ℕ) (n : ℕ) → begins_plainly text ≡ true → IsParsed text n → MOST_ROUNDS < n → None ≡ rounds_of text
too_many text n begun parses many = none_of text (λ m w.
    let v = value_of text m w in
    let f = w.few in
    let e = behind_plus text begun in
    let h = rw e at parses in
    let u : n ≡ digits_value 10 text = h.1 in
    omega arith)

pub read : (text : List ℕ) (n : ℕ) → begins_plainly text ≡ true → IsParsed text n → n ≤ MOST_ROUNDS → Some n ≡ rounds_of text
read text n begun parses few =
    let is = parsed text n begun parses in
    some_of text n (record { some = some_value n text begun is; few = few; is = is })

-- whatever a text writes, the rounds are few
pub few_rounds : (text : List ℕ) → IfSome (rounds_of text) (λ n. n ≤ MOST_ROUNDS)
unfolding rounds_of
few_rounds text = elim (cases_Bool (writes_rounds text (digits_value 10 text))) [
  | inl e ↦ rw e (writes text (digits_value 10 text) e).few
  | inr e ↦ rw e tt
]
