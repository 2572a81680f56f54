-- How a value of one piece is shown, and which two are one.
use Rattle.std.specs.Prelude.{◌≡◌, ℕ, Bool, List, true, false, codes, refl}
use Rattle.std.specs.Bool.{beq, Decides}
use Rattle.std.specs.Cmp.{booleans_Decides, signed_Decides}
use Rattle.std.specs.Fmt.{signed_decimal}
use Rattle.std.specs.Ordering.{int_eq}
use Rattle.std.specs.Str.{bytes_eq}
use Rattle.std.proofs.Common.{ap}
use Rattle.std.proofs.lemmas.Slice.Eq.{bytes_eq-Decides}
use Rattle.sig_base.specs.declared.scalar.Scalar.{Scalar}
use Rattle.sig_base.specs.declared.scalar.Scalar.TheVariants as scalar

-- `true` or `false`, the decimal digits, the text itself
abbrev pub shown_text : Scalar → List ℕ
shown_text (scalar.Bool true) = codes "true"
shown_text (scalar.Bool false) = codes "false"
shown_text (scalar.Int n) = signed_decimal n
shown_text (scalar.Text t) = t

-- whether the two are one value
abbrev pub same_scalar : Scalar → Scalar → Bool
same_scalar (scalar.Bool p) (scalar.Bool q) = beq p q
same_scalar (scalar.Int m) (scalar.Int n) = int_eq m n
same_scalar (scalar.Text s) (scalar.Text t) = bytes_eq s t
same_scalar _ _ = false

-- the same scalars are equal
pub same_scalar-true : (a b : Scalar) → same_scalar a b ≡ true → a ≡ b
same_scalar-true (scalar.Bool p) (scalar.Bool q) h = ap scalar.Bool ((booleans_Decides p q).0 h)
same_scalar-true (scalar.Int m) (scalar.Int n) h = ap scalar.Int ((signed_Decides m n).0 h)
same_scalar-true (scalar.Text s) (scalar.Text t) h = ap scalar.Text ((bytes_eq-Decides s t).0 h)
same_scalar-true _ _ h = cc

-- a scalar is the same as itself
pub same_scalar-refl : (a : Scalar) → same_scalar a a ≡ true
same_scalar-refl (scalar.Bool p) = (booleans_Decides p p).1 refl
same_scalar-refl (scalar.Int n) = (signed_Decides n n).1 refl
same_scalar-refl (scalar.Text t) = (bytes_eq-Decides t t).1 refl

-- the same scalars are equal, and the others are not
pub same_scalar-Decides : (a b : Scalar) → Decides (same_scalar a b) (a ≡ b)
same_scalar-Decides a b = (same_scalar-true a b, λ (e : a ≡ b). rw (← e) (same_scalar-refl a))
