-- What edits make of rows.
use Rattle.std.specs.Prelude.{ℕ, suc, Bool, not, List, ◌∷◌, ◌++◌, map, take, drop, slice_set, if◌then◌else◌}
use Rattle.std.specs.List.{filter, position_or_len}
use Rattle.std.specs.Str.{bytes_eq}
use Rattle.sig_base.specs.declared.rows.Row.{Row}
use Rattle.sig_base.specs.declared.scalar.Scalar.{Scalar}

-- whether a row has this key
abbrev pub has_key : List ℕ → Row → Bool
has_key key r = bytes_eq r.key key

-- the row with a key, in a list of its own; none where no row has it
abbrev pub row_of : List ℕ → List Row → List Row
row_of key rows = filter (has_key key) rows

-- the rows without the one with a key
abbrev pub without : List ℕ → List Row → List Row
without key rows = filter (λ r. not (has_key key r)) rows

-- the rows without the one at a place
abbrev pub cut : ℕ → List Row → List Row
cut place rows = take place rows ++ drop (suc place) rows

-- the rows with one more, which stands at a place
abbrev pub with_row : ℕ → Row → List Row → List Row
with_row place row rows = take place rows ++ row ∷ drop place rows

-- the rows with the one with a key taken out and put so that it stands at a place
abbrev pub moved : List ℕ → ℕ → List Row → List Row
moved key place rows = take place (without key rows) ++ (row_of key rows ++ drop place (without key rows))

-- the place of a field among the fields
abbrev pub field_place : List ℕ → List (List ℕ) → ℕ
field_place name fields = position_or_len (λ f. bytes_eq f name) fields

-- a row with another scalar in the field at a place
abbrev pub with_value : ℕ → Scalar → Row → Row
with_value at v r = record { key = r.key; values = slice_set r.values at v }

-- the rows with another scalar in a field of the row with a key
abbrev pub changed : List ℕ → ℕ → Scalar → List Row → List Row
changed key at v rows = map (λ r. if has_key key r then with_value at v r else r) rows
