-- Names and values behind blanks and behind commas, one after the other.
use Rattle.std.proofs.Common.{◌≡◌, ℕ, true, false, List, [], ◌∷◌, ◌++◌, map, flat_map, codes, refl, sym, ap, ◌∙◌, append_assoc}
use Rattle.sig_base.specs.Printer.{printed_scalar}
use Rattle.sig_base.specs.declared.scalar.Scalar.{Scalar}
use Rattle.sig_base.specs.declared.scalar.Scalar.TheVariants as scalar
use Rattle.line_forms.specs.Forms.{name, value, scalar_token, token_of}
use Rattle.line_forms.specs.Printed.{behind_tokens, spaced, token_text}

-- a name behind a blank
abbrev pub behind_blank : List ℕ → List ℕ
behind_blank n = 32 ∷ n

-- a name behind a comma
abbrev pub behind_comma : List ℕ → List ℕ
behind_comma n = codes " , " ++ n

pub each_spaced : (ns : List (List ℕ)) → flat_map behind_blank ns ≡ spaced (map (token_of name) ns)
each_spaced [] = refl
each_spaced (n ∷ ns) = ap (λ (bs : List ℕ). 32 ∷ (n ++ bs)) (each_spaced ns)

pub behind_spaced : (ns : List (List ℕ)) → flat_map behind_comma ns ++ codes " )" ≡ spaced (behind_tokens name ns)
behind_spaced [] = refl
behind_spaced (n ∷ ns) = append_assoc (behind_comma n) (flat_map behind_comma ns) (codes " )") ∙ ap (λ (bs : List ℕ). codes " , " ++ (n ++ bs)) (behind_spaced ns)

-- a value behind a comma
abbrev pub value_behind_comma : Scalar → List ℕ
value_behind_comma v = codes " , " ++ printed_scalar v

-- the token of a value is written as the value is printed
value_text : (v : Scalar) → token_text (scalar_token v) ≡ printed_scalar v
value_text (scalar.Bool true) = refl
value_text (scalar.Bool false) = refl
value_text (scalar.Int z) = refl
value_text (scalar.Text t) = refl

pub values_spaced : (vs : List Scalar) → flat_map value_behind_comma vs ++ codes " )" ≡ spaced (behind_tokens value vs)
values_spaced [] = refl
values_spaced (v ∷ vs) =
    append_assoc (value_behind_comma v) (flat_map value_behind_comma vs) (codes " )")
    ∙ ap (λ (bs : List ℕ). codes " , " ++ (printed_scalar v ++ bs)) (values_spaced vs)
    ∙ ap (λ (bs : List ℕ). codes " , " ++ (bs ++ spaced (behind_tokens value vs))) (sym (value_text v))
