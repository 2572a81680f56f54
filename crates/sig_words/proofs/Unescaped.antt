-- Texts between quotes in which no backslash stands.
use Rattle.std.proofs.Common.{◌≡◌, ℕ, Bool, true, false, List, [], ◌∷◌, refl, sym, ap, ◌∙◌, inl, inr}
use Rattle.std.specs.Prelude.{◌==◌, ◌||◌, encode_utf8_all}
use Rattle.std.specs.Str.{chars, IsUtf8}
use Rattle.std.proofs.lemmas.Bool.{cases_Bool, eqb-true}
use Rattle.std.proofs.lemmas.List.Folds.{list_any-append}
use Rattle.std.proofs.lemmas.Str.{chars-encodes, encodes-append}
use Rattle.sig_words.specs.Literals.{has_backslash, plain, text_of}

second : (a b : Bool) → (a || b) ≡ false → b ≡ false
second true b h = absurd cc
second false b h = h

-- where no backslash stands in the bytes of characters, they stand for themselves
plain_same : (cs : List ℕ) → has_backslash (encode_utf8_all cs) ≡ false → plain false cs ≡ cs
unfolding lib.Utf8.encode
plain_same [] h = refl
plain_same (c ∷ cs) h = elim (cases_Bool (c == 92)) [
  | inl e ↦ let none : true ≡ false = rw (eqb-true c 92 e) at h in absurd cc
  | inr e ↦
      let parts : has_backslash (encode_utf8_all (c ∷ [])) || has_backslash (encode_utf8_all cs) ≡ false =
      sym (ap has_backslash (encodes-append (c ∷ []) cs) ∙ list_any-append (λ (b : ℕ). b == 92) (encode_utf8_all (c ∷ [])) (encode_utf8_all cs)) ∙ h in
      rw e (ap (λ (xs : List ℕ). c ∷ xs) (plain_same cs (second (has_backslash (encode_utf8_all (c ∷ []))) (has_backslash (encode_utf8_all cs)) parts)))
]

-- where no backslash stands in a text, it stands for itself
pub as_it_is : (bs : List ℕ) → IsUtf8 bs → has_backslash bs ≡ false → bs ≡ text_of bs
unfolding text_of
as_it_is bs u h =
    let are : chars bs ≡ u.0 = ap chars (sym u.1.1) ∙ chars-encodes u.0 u.1.0 in
    let none : has_backslash (encode_utf8_all u.0) ≡ false = ap has_backslash u.1.1 ∙ h in
    sym (ap (λ (cs : List ℕ). encode_utf8_all (plain false cs)) are ∙ ap encode_utf8_all (plain_same u.0 none) ∙ u.1.1)
