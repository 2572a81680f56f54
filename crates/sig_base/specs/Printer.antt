-- How values and faults are printed.
use Rattle.std.specs.Prelude.{ℕ, List, [], ◌∷◌, ◌++◌, ◌==◌, if◌then◌else◌, codes}
use Rattle.std.specs.Fmt.{decimal, signed_decimal}
use Rattle.std.specs.List.{flat_map, join_by}
use Rattle.sig_base.specs.declared.scalar.Scalar.{Scalar}
use Rattle.sig_base.specs.declared.scalar.Scalar.TheVariants as scalar
use Rattle.sig_base.specs.declared.rows.Row.{Row}
use Rattle.sig_base.specs.declared.value.Value.{Value}
use Rattle.sig_base.specs.declared.value.Value.TheVariants as value
use Rattle.sig_base.specs.declared.value.Fault.{Fault}
use Rattle.sig_base.specs.declared.value.Fault.TheVariants as fault
use Rattle.sig_base.specs.Scalars.{shown_text}

-- a character of a text between double quotes, or a byte of one: `\\`, `\"`, `\n`, `\r`, `\t`, or as it is
abbrev pub in_quotes : ℕ → List ℕ
in_quotes b =
    if b == 92 then 92 ∷ 92 ∷ []
    else if b == 34 then 92 ∷ 34 ∷ []
    else if b == 10 then 92 ∷ 110 ∷ []
    else if b == 13 then 92 ∷ 114 ∷ []
    else if b == 9 then 92 ∷ 116 ∷ []
    else b ∷ []

-- a text in double quotes
unfoldable pub quoted : List ℕ → List ℕ
quoted text = 34 ∷ (flat_map in_quotes text ++ 34 ∷ [])

-- a text in double quotes, every other scalar as it is shown
abbrev pub printed_scalar : Scalar → List ℕ
printed_scalar (scalar.Text t) = quoted t
printed_scalar s = shown_text s

-- a row: its key, and its values in parentheses
unfoldable pub printed_row : Row → List ℕ
printed_row r = quoted r.key ++ codes " (" ++ join_by printed_scalar (codes ", ") r.values ++ codes ")"

-- rows in brackets, without the names of their fields
unfoldable pub printed_rows : List Row → List ℕ
printed_rows rows = codes "[" ++ join_by printed_row (codes ", ") rows ++ codes "]"

-- the printed form of a value
abbrev pub printed : Value → List ℕ
printed (value.Bool b) = shown_text (scalar.Bool b)
printed (value.Int n) = signed_decimal n
printed (value.Text t) = quoted t
printed (value.Rows t) = printed_rows t.rows

-- the name of a fault
abbrev pub fault_name : Fault → List ℕ
fault_name fault.Overflow = codes "overflow"
fault_name fault.Zero = codes "zero"
fault_name fault.Kind = codes "kind"
fault_name fault.Long = codes "long"
fault_name fault.Gone = codes "gone"
fault_name fault.Absent = codes "absent"
fault_name fault.Cycle = codes "cycle"
fault_name (fault.Host n) = codes "host " ++ decimal n
fault_name fault.Slot = codes "slot"
fault_name fault.Twice = codes "twice"
