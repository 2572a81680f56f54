-- Values and scalars, which values are one, and which count as alike.
use Rattle.std.specs.Prelude.{◌≡◌, ℕ, Bool, true, false, nat_le, unsigned_abs, ◌-ℤ◌, ◌==◌, ◌↔◌, IsTrue, List, Option, Some, None, option_map, refl}
use Rattle.std.specs.Bool.{beq, Decides}
use Rattle.std.specs.Cmp.{booleans_Decides, signed_Decides, unsigned_Decides}
use Rattle.std.proofs.Common.{ap, sym, ◌∙◌}
use Rattle.std.proofs.lemmas.Slice.Eq.{bytes_eq-Decides}
use Rattle.std.specs.Ordering.{int_eq}
use Rattle.std.specs.Str.{bytes_eq}
use Rattle.sig_base.specs.declared.scalar.Scalar.{Scalar}
use Rattle.sig_base.specs.declared.scalar.Scalar.TheVariants as scalar
use Rattle.sig_base.specs.Scalars.{shown_text}
use Rattle.sig_base.specs.declared.value.Value.{Value}
use Rattle.sig_base.specs.declared.value.Value.TheVariants as value
use Rattle.sig_base.specs.declared.value.Fault.{Fault}
use Rattle.sig_base.specs.declared.value.Fault.TheVariants as fault
use Rattle.sig_base.specs.declared.value.Outcome.{Outcome}
use Rattle.sig_base.specs.declared.value.Outcome.TheVariants as outcome
use Rattle.sig_base.specs.Tables.{same_table, same_table-Decides}

-- a scalar as a value
abbrev pub scalar_value : Scalar → Value
scalar_value (scalar.Bool b) = value.Bool b
scalar_value (scalar.Int n) = value.Int n
scalar_value (scalar.Text t) = value.Text t

-- a value as a scalar, which rows are not
abbrev pub scalar_of : Value → Option Scalar
scalar_of (value.Bool b) = Some (scalar.Bool b)
scalar_of (value.Int n) = Some (scalar.Int n)
scalar_of (value.Text t) = Some (scalar.Text t)
scalar_of (value.Rows t) = None

-- the shown text of a value that is a scalar
abbrev pub shown : Value → Option (List ℕ)
shown v = option_map shown_text (scalar_of v)

-- whether the two are one value
abbrev pub same_value : Value → Value → Bool
same_value (value.Bool p) (value.Bool q) = beq p q
same_value (value.Int m) (value.Int n) = int_eq m n
same_value (value.Text s) (value.Text t) = bytes_eq s t
same_value (value.Rows t) (value.Rows u) = same_table t u
same_value _ _ = false

-- two whole numbers at most `slack` apart, otherwise the same value
abbrev pub is_alike : ℕ → Value → Value → Bool
is_alike slack (value.Int m) (value.Int n) = nat_le (unsigned_abs (m -ℤ n)) slack
is_alike slack a b = same_value a b

-- whether the two are one fault
abbrev pub same_fault : Fault → Fault → Bool
same_fault fault.Overflow fault.Overflow = true
same_fault fault.Zero fault.Zero = true
same_fault fault.Kind fault.Kind = true
same_fault fault.Long fault.Long = true
same_fault fault.Gone fault.Gone = true
same_fault fault.Absent fault.Absent = true
same_fault fault.Cycle fault.Cycle = true
same_fault (fault.Host m) (fault.Host n) = m == n
same_fault fault.Slot fault.Slot = true
same_fault fault.Twice fault.Twice = true
same_fault _ _ = false

-- whether the two are one outcome
abbrev pub same_outcome : Outcome → Outcome → Bool
same_outcome (outcome.Good a) (outcome.Good b) = same_value a b
same_outcome (outcome.Bad e) (outcome.Bad f) = same_fault e f
same_outcome _ _ = false

-- the same values are equal
same_value-true : (a b : Value) → same_value a b ≡ true → a ≡ b
same_value-true (value.Bool p) (value.Bool q) h = ap value.Bool ((booleans_Decides p q).0 h)
same_value-true (value.Int m) (value.Int n) h = ap value.Int ((signed_Decides m n).0 h)
same_value-true (value.Text s) (value.Text t) h = ap value.Text ((bytes_eq-Decides s t).0 h)
same_value-true (value.Rows t) (value.Rows u) h = ap value.Rows ((same_table-Decides t u).0 h)
same_value-true _ _ h = cc

-- a value is the same as itself
same_value-refl : (a : Value) → same_value a a ≡ true
same_value-refl (value.Bool p) = (booleans_Decides p p).1 refl
same_value-refl (value.Int n) = (signed_Decides n n).1 refl
same_value-refl (value.Text t) = (bytes_eq-Decides t t).1 refl
same_value-refl (value.Rows t) = (same_table-Decides t t).1 refl

-- the same values are equal, and the others are not
pub same_value-Decides : (a b : Value) → Decides (same_value a b) (a ≡ b)
same_value-Decides a b = (same_value-true a b, λ (e : a ≡ b). rw (← e) (same_value-refl a))

-- an answer of that test says whether the values are equal
pub same_value-told : (r : Bool) (a b : Value) → r ≡ same_value a b → IsTrue r ↔ (a ≡ b)
same_value-told r a b h = (λ k. (same_value-Decides a b).0 (sym h ∙ k), λ k. h ∙ (same_value-Decides a b).1 k)

-- the same faults are equal
same_fault-true : (e f : Fault) → same_fault e f ≡ true → e ≡ f
same_fault-true fault.Overflow fault.Overflow h = refl
same_fault-true fault.Zero fault.Zero h = refl
same_fault-true fault.Kind fault.Kind h = refl
same_fault-true fault.Long fault.Long h = refl
same_fault-true fault.Gone fault.Gone h = refl
same_fault-true fault.Absent fault.Absent h = refl
same_fault-true fault.Cycle fault.Cycle h = refl
same_fault-true (fault.Host m) (fault.Host n) h = ap fault.Host ((unsigned_Decides m n).0 h)
same_fault-true fault.Slot fault.Slot h = refl
same_fault-true fault.Twice fault.Twice h = refl
same_fault-true _ _ h = cc

-- a fault is the same as itself
same_fault-refl : (e : Fault) → same_fault e e ≡ true
same_fault-refl (fault.Host n) = (unsigned_Decides n n).1 refl
same_fault-refl fault.Overflow = refl
same_fault-refl fault.Zero = refl
same_fault-refl fault.Kind = refl
same_fault-refl fault.Long = refl
same_fault-refl fault.Gone = refl
same_fault-refl fault.Absent = refl
same_fault-refl fault.Cycle = refl
same_fault-refl fault.Slot = refl
same_fault-refl fault.Twice = refl

-- the same outcomes are equal
same_outcome-true : (a b : Outcome) → same_outcome a b ≡ true → a ≡ b
same_outcome-true (outcome.Good a) (outcome.Good b) h = ap outcome.Good (same_value-true a b h)
same_outcome-true (outcome.Bad e) (outcome.Bad f) h = ap outcome.Bad (same_fault-true e f h)
same_outcome-true _ _ h = cc

-- an outcome is the same as itself
same_outcome-refl : (a : Outcome) → same_outcome a a ≡ true
same_outcome-refl (outcome.Good a) = same_value-refl a
same_outcome-refl (outcome.Bad e) = same_fault-refl e

-- the same outcomes are equal, and the others are not
pub same_outcome-Decides : (a b : Outcome) → Decides (same_outcome a b) (a ≡ b)
same_outcome-Decides a b = (same_outcome-true a b, λ (e : a ≡ b). rw (← e) (same_outcome-refl a))

-- an answer of that test says whether the outcomes are equal
pub same_outcome-told : (r : Bool) (a b : Outcome) → r ≡ same_outcome a b → IsTrue r ↔ (a ≡ b)
same_outcome-told r a b h = (λ k. (same_outcome-Decides a b).0 (sym h ∙ k), λ k. h ∙ (same_outcome-Decides a b).1 k)
