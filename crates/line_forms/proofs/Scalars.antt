-- Values of which a text may be too long.
use Rattle.std.proofs.Common.{◌≡◌, ◌<◌, ℕ, List, [], ◌∷◌, ◌++◌, length, Option, Some, None, refl, ap, ◌∙◌}
use Rattle.std.specs.Option.{option_or}
use Rattle.std.proofs.lemmas.Bool.{lt-ltb}
use Rattle.sig_base.specs.declared.limits.TheConstants.{MOST_TEXT}
use Rattle.sig_base.specs.declared.scalar.Scalar.{Scalar}
use Rattle.formula_text.specs.declared.wired.FormulaFault.{FormulaFault}
use Rattle.formula_text.specs.declared.wired.FormulaFault.TheVariants as fault
use Rattle.line_forms.specs.Forms.{key}
use Rattle.line_forms.specs.Told.{fault_of_one, fault_of_scalar, first_long}

-- a text that is too long
pub long_text : (t : List ℕ) → MOST_TEXT < length t → fault_of_one key t ≡ Some fault.TextLong
long_text t long = rw (lt-ltb MOST_TEXT (length t) long) refl

-- ---- one value more

or_none : (o : Option FormulaFault) → option_or o None ≡ o
or_none None = refl
or_none (Some f) = refl

grouped : (o p q : Option FormulaFault) → option_or o (option_or p q) ≡ option_or (option_or o p) q
grouped None p q = refl
grouped (Some f) p q = refl

-- the first value of more that is too long
longer_first : (vs : List Scalar) (v : Scalar) → first_long (vs ++ v ∷ []) ≡ option_or (first_long vs) (fault_of_scalar v)
longer_first [] v = or_none (fault_of_scalar v)
longer_first (u ∷ us) v = ap (option_or (fault_of_scalar u)) (longer_first us v) ∙ grouped (fault_of_scalar u) (first_long us) (fault_of_scalar v)

-- where one was too long, it is
pub longer_long : (vs : List Scalar) (v : Scalar) (f : FormulaFault) → first_long vs ≡ Some f → first_long (vs ++ v ∷ []) ≡ Some f
longer_long vs v f e = longer_first vs v ∙ rw e refl

-- where none was, it is the new one, if that is
pub longer_sound : (vs : List Scalar) (v : Scalar) (o : Option FormulaFault) → first_long vs ≡ None → fault_of_scalar v ≡ o → first_long (vs ++ v ∷ []) ≡ o
longer_sound vs v o e h = longer_first vs v ∙ rw e h
