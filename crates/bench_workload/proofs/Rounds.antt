-- The lines of the rounds so far, and how many bytes they have.
use Rattle.std.proofs.Common.{◌≡◌, ℕ, zero, suc, ◌+◌, ◌*◌, ◌/◌, ◌%◌, ◌<◌, ◌≤◌, List, [], ◌∷◌, ◌++◌, length, flat_map, sym, ap, ◌∙◌, arith, codes, inl, inr}
use Rattle.std.specs.Prelude.{◌==◌}
use Rattle.std.specs.Fmt.{decimal}
use Rattle.std.specs.List.{range_with_len}
use Rattle.std.proofs.lemmas.Bool.{cases_Bool}
use Rattle.std.proofs.lemmas.Fmt.{decimal_digit, decimal_step, length-decimal-le}
use Rattle.std.proofs.lemmas.Grind.{flat_map-append}
use Rattle.std.proofs.lemmas.List.{append-nil, append_assoc, length-append}
use Rattle.bench_workload.specs.Workload.{ended, first_lines, flush_lines, line_of_set, lines_of_round, switch_lines, workload_text}

-- ---- a number of one digit or two

pub one_digit : (o p : List ℕ) (n : ℕ) → n < 10 → p ≡ o ++ (48 + n) ∷ [] → p ≡ o ++ decimal n
one_digit o p n small digit = digit ∙ ap (λ x. o ++ x) (sym (decimal_digit n small))

pub two_digits : (o p q : List ℕ) (n : ℕ) → 10 ≤ n → n < 100 → p ≡ o ++ (48 + n / 10) ∷ [] → q ≡ p ++ (48 + n % 10) ∷ [] → q ≡ o ++ decimal n
two_digits o p q n large small first second =
    let both : decimal n ≡ ((48 + n / 10) ∷ []) ++ ((48 + n % 10) ∷ []) =
    decimal_step n large (omega arith) ∙ ap (λ x. x ++ ((48 + n % 10) ∷ [])) (decimal_digit (n / 10) (omega arith)) in
    rw (second, first) (append_assoc o ((48 + n / 10) ∷ []) ((48 + n % 10) ∷ []) ∙ ap (λ x. o ++ x) (sym both))

-- ---- one round

round_text : (i : ℕ) → flat_map ended (lines_of_round i) ≡ ended (line_of_set ((37 * i) % 100)) ++ (flat_map ended (switch_lines i) ++ flat_map ended (flush_lines i))
unfolding lines_of_round
round_text i = ap (λ x. ended (line_of_set ((37 * i) % 100)) ++ x) (flat_map-append ended (switch_lines i) (flush_lines i))

three_on : (o p q r a b c whole : List ℕ) → p ≡ o ++ a → q ≡ p ++ b → r ≡ q ++ c → whole ≡ a ++ (b ++ c) → r ≡ o ++ whole
three_on o p q r a b c whole first second third is = rw (third, second, first, is) (append_assoc (o ++ a) b c ∙ append_assoc o a (b ++ c))

-- the three parts of a round, appended one after the other
pub round_on : (o p q r : List ℕ) (i : ℕ) → p ≡ o ++ ended (line_of_set ((37 * i) % 100)) → q ≡ p ++ flat_map ended (switch_lines i) → r ≡ q ++ flat_map ended (flush_lines i)
    → r ≡ o ++ flat_map ended (lines_of_round i)
round_on o p q r i first second third =
    three_on o p q r (ended (line_of_set ((37 * i) % 100))) (flat_map ended (switch_lines i)) (flat_map ended (flush_lines i)) (flat_map ended (lines_of_round i))
    first second third (round_text i)

-- ---- one more round

-- what is made of numbers one after the other, with one number more
range_more : {A : Type 0} (f : ℕ → List A) (a n : ℕ) → flat_map f (range_with_len a (suc n)) ≡ flat_map f (range_with_len a n) ++ f (a + n)
range_more f a zero = let e : a ≡ a + 0 = omega arith in append-nil (f a) ∙ ap f e
range_more f a (suc n) =
    let e : a + 1 + n ≡ a + suc n = omega arith in
    ap (λ x. f a ++ x) (range_more f (a + 1) n)
    ∙ (sym (append_assoc (f a) (flat_map f (range_with_len (a + 1) n)) (f (a + 1 + n)))
    ∙ ap (λ i. (f a ++ flat_map f (range_with_len (a + 1) n)) ++ f i) e)

-- the lines of the rounds up to one
abbrev pub lines_to : ℕ → List (List ℕ)
lines_to n = first_lines ++ flat_map lines_of_round (range_with_len 1 n)

-- their text
unfoldable pub text_to : ℕ → List ℕ
text_to n = flat_map ended (lines_to n)

lines_more : (n : ℕ) → lines_to (suc n) ≡ lines_to n ++ lines_of_round (n + 1)
lines_more n =
    let e : 1 + n ≡ n + 1 = omega arith in
    ap (λ x. first_lines ++ x) (range_more lines_of_round 1 n ∙ ap (λ i. flat_map lines_of_round (range_with_len 1 n) ++ lines_of_round i) e)
    ∙ sym (append_assoc first_lines (flat_map lines_of_round (range_with_len 1 n)) (lines_of_round (n + 1)))

text_suc : (n : ℕ) → text_to (suc n) ≡ text_to n ++ flat_map ended (lines_of_round (n + 1))
unfolding text_to
text_suc n = ap (flat_map ended) (lines_more n) ∙ flat_map-append ended (lines_to n) (lines_of_round (n + 1))

-- no rounds yet
pub text_none : (o p : List ℕ) → o ≡ [] → p ≡ o ++ flat_map ended first_lines → p ≡ text_to 0
unfolding text_to
text_none o p none first = rw (first, none) (ap (flat_map ended) (sym (append-nil first_lines)))

-- one round more
pub text_more : (n : ℕ) (o p : List ℕ) → o ≡ text_to n → p ≡ o ++ flat_map ended (lines_of_round (n + 1)) → p ≡ text_to (n + 1)
text_more n o p so_far round =
    let e : n + 1 ≡ suc n = omega arith in
    rw (round, so_far) (sym (text_suc n) ∙ ap text_to (sym e))

-- the whole, with the last line
pub text_whole : (n rounds : ℕ) (o p : List ℕ) → n ≡ rounds → o ≡ text_to n → p ≡ o ++ codes "flush\n" → p ≡ workload_text rounds
unfolding text_to
text_whole n rounds o p all so_far last = rw (last, so_far, all) (sym (flat_map-append ended (lines_to rounds) (codes "flush" ∷ [])))

-- ---- how many bytes

set_short : (value : ℕ) → value < 100 → length (ended (line_of_set value)) ≤ 9
set_short value small =
    let digits : length (decimal value) ≤ 2 = length-decimal-le 2 value (omega arith) (omega arith) (omega arith) in
    omega (arith, length-append (codes "set a " ++ decimal value) (codes "\n"), length-append (codes "set a ") (decimal value))

switch_short : (i : ℕ) → length (flat_map ended (switch_lines i)) ≤ 12
switch_short i = elim (cases_Bool (i % 6 == 3)) [
  | inl e ↦ rw e (omega arith)
  | inr e ↦ elim (cases_Bool (i % 6 == 0)) [ inl f ↦ rw (e, f) (omega arith) | inr f ↦ rw (e, f) (omega arith) ]
]

flush_short : (i : ℕ) → length (flat_map ended (flush_lines i)) ≤ 6
flush_short i = elim (cases_Bool (i % 4 == 0)) [ inl e ↦ rw e (omega arith) | inr e ↦ rw e (omega arith) ]

round_short : (i : ℕ) → length (flat_map ended (lines_of_round i)) ≤ 27
round_short i =
    let set = set_short ((37 * i) % 100) (omega arith) in
    let switch = switch_short i in
    let flush = flush_short i in
    rw (round_text i) (omega (
      arith,
      length-append (ended (line_of_set ((37 * i) % 100))) (flat_map ended (switch_lines i) ++ flat_map ended (flush_lines i)),
      length-append (flat_map ended (switch_lines i)) (flat_map ended (flush_lines i)),
    ))

first_short : length (text_to 0) ≤ 142
unfolding text_to first_lines
first_short = omega arith

text_short : (n : ℕ) → length (text_to n) ≤ 142 + 27 * n
text_short zero = first_short
text_short (suc n) =
    let so_far = text_short n in
    let round = round_short (n + 1) in
    rw (text_suc n) (omega (arith, length-append (text_to n) (flat_map ended (lines_of_round (n + 1)))))

-- the whole has few bytes
pub whole_short : (n rounds : ℕ) (o p : List ℕ) → n ≡ rounds → o ≡ text_to n → p ≡ o ++ codes "flush\n" → length p ≤ 148 + 27 * rounds
whole_short n rounds o p all so_far last =
    let short = text_short n in
    rw (last, so_far) (omega (arith, length-append (text_to n) (codes "flush\n")))
