-- Texts in double quotes at the front of bytes.
use Rattle.std.proofs.Common.{◌≡◌, ℕ, ◌≤◌, Bool, true, false, List, [], ◌∷◌, ◌++◌, length, drop, refl, ap, ◌∙◌, arith, inl, inr, append_assoc}
use Rattle.std.specs.Prelude.{◌==◌}
use Rattle.std.specs.List.{flat_map}
use Rattle.std.proofs.lemmas.Bool.{cases_Bool, eqb-true}
use Rattle.sig_base.specs.Printer.{in_quotes, quoted}
use Rattle.page_ops.specs.Parser.{unquoted, behind_quote}

step : (c : ℕ) (rest : List ℕ) → (unquoted false (in_quotes c ++ rest) ≡ c ∷ unquoted false rest) × (behind_quote false (in_quotes c ++ rest) ≡ behind_quote false rest)
step c rest = elim (cases_Bool (c == 92)) [
  | inl e ↦ rw (eqb-true c 92 e) (refl, refl)
  | inr e ↦ elim (cases_Bool (c == 34)) [
    | inl f ↦ rw (eqb-true c 34 f) (refl, refl)
    | inr f ↦ elim (cases_Bool (c == 10)) [
      | inl g ↦ rw (eqb-true c 10 g) (refl, refl)
      | inr g ↦ elim (cases_Bool (c == 13)) [
        | inl h ↦ rw (eqb-true c 13 h) (refl, refl)
        | inr h ↦ elim (cases_Bool (c == 9)) [ inl k ↦ rw (eqb-true c 9 k) (refl, refl) | inr k ↦ rw (e, f, g, h, k) (bare c rest e f) ]
      ]
    ]
  ]
]
  where
    -- a byte that needs no backslash
    bare : (c : ℕ) (rest : List ℕ) → (c == 92) ≡ false → (c == 34) ≡ false → (unquoted false (c ∷ rest) ≡ c ∷ unquoted false rest) × (behind_quote false (c ∷ rest) ≡ behind_quote false rest)
    bare c rest e f = rw (f, e) (refl, refl)

content : (t rest : List ℕ) → unquoted false (flat_map in_quotes t ++ 34 ∷ rest) ≡ t
content [] rest = refl
content (c ∷ t) rest =
    ap (unquoted false) (append_assoc (in_quotes c) (flat_map in_quotes t) (34 ∷ rest))
    ∙ ((step c (flat_map in_quotes t ++ 34 ∷ rest)).0 ∙ ap (λ zs. c ∷ zs) (content t rest))

after_content : (t rest : List ℕ) → behind_quote false (flat_map in_quotes t ++ 34 ∷ rest) ≡ rest
after_content [] rest = refl
after_content (c ∷ t) rest =
    ap (behind_quote false) (append_assoc (in_quotes c) (flat_map in_quotes t) (34 ∷ rest))
    ∙ ((step c (flat_map in_quotes t ++ 34 ∷ rest)).1 ∙ after_content t rest)

pub quoted_opens : (t rest : List ℕ) → quoted t ++ rest ≡ 34 ∷ (flat_map in_quotes t ++ 34 ∷ rest)
unfolding quoted
quoted_opens t rest = ap (λ zs. 34 ∷ zs) (append_assoc (flat_map in_quotes t) (34 ∷ []) rest)

-- what a text in quotes stands for, and what stands behind it
pub quoted_is : (t rest : List ℕ) → unquoted false (drop 1 (quoted t ++ rest)) ≡ t
quoted_is t rest = ap (λ zs. unquoted false (drop 1 zs)) (quoted_opens t rest) ∙ content t rest

pub behind_quoted : (t rest : List ℕ) → behind_quote false (drop 1 (quoted t ++ rest)) ≡ rest
behind_quoted t rest = ap (λ zs. behind_quote false (drop 1 zs)) (quoted_opens t rest) ∙ after_content t rest

pub behind_shorter : (escaped : Bool) (bytes : List ℕ) → length (behind_quote escaped bytes) ≤ length bytes
behind_shorter escaped [] = omega arith
behind_shorter true (c ∷ bytes) = let h = behind_shorter false bytes in omega arith
behind_shorter false (c ∷ bytes) = elim (cases_Bool (c == 34)) [
  | inl e ↦ rw e (omega arith)
  | inr e ↦ let h = behind_shorter (c == 92) bytes in rw e (omega arith)
]
