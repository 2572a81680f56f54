-- Words, numbers and names at the front of bytes.
use Rattle.std.proofs.Common.{◌≡◌, ℕ, ◌<◌, ◌≤◌, ◌^◌, Bool, true, false, List, [], ◌∷◌, ◌++◌, length, refl, sym, ap, ◌∙◌, arith, rules}
use Rattle.std.specs.Prelude.{slice_index}
use Rattle.std.specs.Char.{is_ascii_digit, is_ascii_lowercase}
use Rattle.std.specs.Fmt.{decimal}
use Rattle.std.specs.List.{list_all, prefix_len}
use Rattle.std.specs.Str.{all_ascii_digits}
use Rattle.std.specs.Str.Parse.{digits_value}
use Rattle.std.proofs.lemmas.Bool.{and_parts, leb-true}
use Rattle.std.proofs.lemmas.Bool.Decides.{nat_tests}
use Rattle.std.proofs.lemmas.Fmt.{digits_decimal, digits_value-decimal}
use Rattle.std.proofs.lemmas.List.{take_at, drop_at}
use Rattle.std.proofs.lemmas.Str.Parse.{IsNumeralModel, numerals_by_value}
use Rattle.sig_base.specs.Words.{in_tag, is_tag}
use Rattle.sig_words.proofs.Shared.{tag_utf8}
use Rattle.html_out.specs.Html.{good_name}
use Rattle.page_model.specs.Texts.{IsText}
use Rattle.page_ops.specs.Parser.{front, behind_front}

-- a run that ends where other bytes begin
run_length : (p : ℕ → Bool) (w rest : List ℕ) → list_all p w ≡ true → p (slice_index rest 0) ≡ false → prefix_len p (w ++ rest) ≡ length w
run_length p [] [] a e = refl
run_length p [] (b ∷ rest) a e = rw e refl
run_length p (c ∷ w) rest a e = let s = and_parts (p c) (list_all p w) a in let h = run_length p w rest s.1 e in rw s.0 (omega arith)

pub front_is : (w rest : List ℕ) → list_all in_tag w ≡ true → in_tag (slice_index rest 0) ≡ false → front (w ++ rest) ≡ w
front_is w rest a e = take_at w rest (prefix_len in_tag (w ++ rest)) (sym (run_length in_tag w rest a e))

pub behind_is : (w rest : List ℕ) → list_all in_tag w ≡ true → in_tag (slice_index rest 0) ≡ false → behind_front (w ++ rest) ≡ rest
behind_is w rest a e = drop_at w rest (prefix_len in_tag (w ++ rest)) (sym (run_length in_tag w rest a e))

lower_in : (b : ℕ) → is_ascii_lowercase b ≡ true → in_tag b ≡ true
lower_in b h = rw h refl

digit_in : (b : ℕ) → is_ascii_digit b ≡ true → in_tag b ≡ true
digit_in b h = grind (arith, nat_tests)

tag_run : (w : List ℕ) → is_tag w ≡ true → list_all in_tag w ≡ true
tag_run [] h = absurd cc
tag_run (b ∷ w) h = let s = and_parts (is_ascii_lowercase b) (list_all in_tag w) h in rw (lower_in b s.0) s.1

pub name_tag : (n : List ℕ) → good_name n ≡ true → (is_tag n ≡ true) × (length n ≤ 32)
unfolding good_name
name_tag n h = let s = and_parts (is_tag n) _ h in (s.0, leb-true (length n) 32 s.1)

pub name_run : (n : List ℕ) → good_name n ≡ true → list_all in_tag n ≡ true
name_run n h = tag_run n (name_tag n h).0

pub name_text : (n : List ℕ) → good_name n ≡ true → IsText n
name_text n h = let s = name_tag n h in let short = s.1 in (tag_utf8 n s.0, omega arith)

-- a name begins with a letter
pub name_first : (n : List ℕ) → good_name n ≡ true → (b : ℕ) × (bs : List ℕ) × (n ≡ b ∷ bs) × (is_ascii_lowercase b ≡ true)
name_first n h = first n (name_tag n h).0
  where
    first : (n : List ℕ) → is_tag n ≡ true → (b : ℕ) × (bs : List ℕ) × (n ≡ b ∷ bs) × (is_ascii_lowercase b ≡ true)
    first [] h = absurd cc
    first (b ∷ bs) h = (b, bs, refl, (and_parts (is_ascii_lowercase b) (list_all in_tag bs) h).0)

pub good_a : good_name (97 ∷ []) ≡ true
unfolding good_name
good_a = refl

own : IsNumeralModel (λ ds. all_ascii_digits ds ≡ true) (digits_value 10)
own = numerals_by_value _ (search rules)

digits_run : (ds : List ℕ) → all_ascii_digits ds ≡ true → list_all in_tag ds ≡ true
digits_run [] h = refl
digits_run (d ∷ ds) h = let s = and_parts (is_ascii_digit d) (all_ascii_digits ds) h in rw (digit_in d s.0) (digits_run ds s.1)

pub number_run : (n : ℕ) → n < 2 ^ 64 → list_all in_tag (decimal n) ≡ true
number_run n fits = digits_run (decimal n) (digits_decimal own n fits)

-- numbers of one text are one number
pub one_number : (n m : ℕ) → n < 2 ^ 64 → m < 2 ^ 64 → decimal n ≡ decimal m → n ≡ m
one_number n m f g e = sym (digits_value-decimal own n f) ∙ (ap (digits_value 10) e ∙ digits_value-decimal own m g)
