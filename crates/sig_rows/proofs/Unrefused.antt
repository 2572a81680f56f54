-- What holds where an edit isn't refused.
use Rattle.std.proofs.Common.{◌≡◌, ℕ, ◌<◌, ◌≤◌, ◌==◌, false, Option, None, Some, List, length, refl, arith, inl, inr}
use Rattle.std.specs.Prelude.{nat_le, nat_lt}
use Rattle.std.specs.List.{list_any}
use Rattle.std.proofs.lemmas.Bool.{cases_Bool}
use Rattle.std.proofs.lemmas.Bool.Decides.{nat_tests}
use Rattle.sig_base.specs.declared.limits.TheConstants.{MOST_ROWS}
use Rattle.sig_base.specs.Tables.{Table}
use Rattle.sig_rows.specs.declared.fault.RowFault.TheVariants.{KeyTaken, Place, Field, Limit}
use Rattle.sig_rows.specs.Edits.{has_key}
use Rattle.sig_rows.specs.Faults.{insert_fault}

-- nothing that isn't there
pub none_if : {A : Type 0} (o : Option A) → ((x : A) → o ≡ Some x → ⊥) → o ≡ None
none_if None h = refl
none_if (Some x) h = absurd (h x refl)

-- a row may be put at a place
pub record Insertable (t : Table) (place : ℕ) (key : List ℕ) (count : ℕ) : Type 0 where
  pub new_key : list_any (has_key key) t.rows ≡ false
  pub within : place ≤ length t.rows
  pub one_each : count ≡ length t.fields
  pub room : length t.rows < MOST_ROWS

pub free_to_insert : (t : Table) (place : ℕ) (key : List ℕ) (count : ℕ) → insert_fault t place key count ≡ None → Insertable t place key count
free_to_insert t place key count h = elim (cases_Bool (list_any (has_key key) t.rows)) [
  | inl e ↦ absurd (let k : Some KeyTaken ≡ None = rw e at h in cc)
  | inr e ↦ elim (cases_Bool (nat_lt (length t.rows) place)) [
    | inl f ↦ absurd (let k : Some Place ≡ None = rw (e, f) at h in cc)
    | inr f ↦ elim (cases_Bool (count == length t.fields)) [
      | inr g ↦ absurd (let k : Some Field ≡ None = rw (e, f, g) at h in cc)
      | inl g ↦ elim (cases_Bool (nat_le MOST_ROWS (length t.rows))) [
        | inl i ↦ absurd (let k : Some Limit ≡ None = rw (e, f, g, i) at h in cc)
        | inr i ↦ record { new_key = e; within = grind (arith, nat_tests); one_each = grind (arith, nat_tests); room = grind (arith, nat_tests) }
      ]
    ]
  ]
]
