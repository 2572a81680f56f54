-- What is written as it is, is its own escaped form.
use Rattle.std.proofs.Common.{◌≡◌, ◌<◌, ℕ, true, List, [], ◌∷◌, ◌++◌, ap, ◌∙◌, refl, arith}
use Rattle.std.specs.List.{flat_map, list_all}
use Rattle.std.specs.Prelude.{IsAscii, encode_utf8}
use Rattle.std.proofs.lemmas.Bool.{and_parts}
use Rattle.std.proofs.lemmas.Bool.Decides.{nat_tests}
use Rattle.std.proofs.lemmas.Str.{chars-IsAscii, encode_ascii}
use Rattle.std.proofs.lemmas.Str.Ascii.{IsAscii-nil, IsAscii-cons}
use Rattle.html_out.specs.Html.{escaped, escaped_value, in_text, in_value, is_plain}

plain_small : (b : ℕ) → is_plain b ≡ true → b < 128
plain_small b h = grind (arith, nat_tests)

plain_ascii : (bs : List ℕ) → list_all is_plain bs ≡ true → IsAscii bs
plain_ascii [] h = IsAscii-nil
plain_ascii (b ∷ bs) h =
    let both = and_parts (is_plain b) (list_all is_plain bs) h in
    IsAscii-cons b bs (plain_small b both.0) (plain_ascii bs both.1)

text_byte : (b : ℕ) → is_plain b ≡ true → in_text b ≡ b ∷ []
text_byte b h = let e : encode_utf8 b ≡ b ∷ [] = encode_ascii b (plain_small b h) in grind (arith, nat_tests)

value_byte : (b : ℕ) → is_plain b ≡ true → in_value b ≡ b ∷ []
value_byte b h = let e : in_text b ≡ b ∷ [] = text_byte b h in grind (arith, nat_tests)

each_byte : (f : ℕ → List ℕ) → ((b : ℕ) → is_plain b ≡ true → f b ≡ b ∷ []) → (bs : List ℕ) → list_all is_plain bs ≡ true → flat_map f bs ≡ bs
each_byte f one [] h = refl
each_byte f one (b ∷ bs) h =
    let both = and_parts (is_plain b) (list_all is_plain bs) h in
    ap (λ xs. xs ++ flat_map f bs) (one b both.0) ∙ ap (λ xs. b ∷ xs) (each_byte f one bs both.1)

pub plain_text : (bs : List ℕ) → list_all is_plain bs ≡ true → escaped bs ≡ bs
unfolding escaped
plain_text bs h = ap (flat_map in_text) (chars-IsAscii bs (plain_ascii bs h)) ∙ each_byte in_text text_byte bs h

pub plain_value : (bs : List ℕ) → list_all is_plain bs ≡ true → escaped_value bs ≡ bs
unfolding escaped_value
plain_value bs h = ap (flat_map in_value) (chars-IsAscii bs (plain_ascii bs h)) ∙ each_byte in_value value_byte bs h
