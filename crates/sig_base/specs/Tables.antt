-- Rows under distinct keys, with one value for each field.
use Rattle.std.specs.Prelude.{◌≡◌, ℕ, ◌≤◌, Bool, true, false, List, [], ◌∷◌, length, map, codes, ◌&&◌, refl}
use Rattle.std.specs.Bool.{Decides}
use Rattle.std.proofs.Common.{ap, ◌∙◌}
use Rattle.std.proofs.lemmas.Bool.Decides.{Decides-and}
use Rattle.std.proofs.lemmas.Slice.Eq.{bytes_eq-Decides, slice_eq-Decides}
use Rattle.std.specs.List.{All, IsDistinct, list_any}
use Rattle.std.specs.Str.{bytes_eq}
use lib.Pointwise.{pointwise}
use Rattle.sig_base.specs.declared.limits.TheConstants.{MOST_FIELDS, MOST_ROWS}
use Rattle.sig_base.specs.declared.rows.Row.{Row}
use Rattle.sig_base.specs.declared.scalar.Scalar.{Scalar}
use Rattle.sig_base.specs.Scalars.{same_scalar, same_scalar-Decides}

-- the names of the fields, and the rows in order
pub record Table : Type 0 where
  pub fields : List (List ℕ)
  pub rows : List Row

-- the keys of the rows, in order
abbrev pub keys_of : List Row → List (List ℕ)
keys_of rows = map (λ (r : Row). r.key) rows

-- what holds of fields and rows that stand together
pub record AreRows (fields : List (List ℕ)) (rows : List Row) : Type 0 where
  pub few_fields : length fields ≤ MOST_FIELDS
  pub distinct_fields : IsDistinct bytes_eq fields
  pub no_key_field : list_any (bytes_eq (codes "key")) fields ≡ false
  pub few_rows : length rows ≤ MOST_ROWS
  pub distinct_keys : IsDistinct bytes_eq (keys_of rows)
  pub one_value_each : All (λ (r : Row). length r.values ≡ length fields) rows

-- the elements whose mark is true, in order
abbrev pub marked : {A : Type 0} → List Bool → List A → List A
marked [] xs = []
marked (m ∷ ms) [] = []
marked (true ∷ ms) (x ∷ xs) = x ∷ marked ms xs
marked (false ∷ ms) (x ∷ xs) = marked ms xs

-- whether two rows have one key and the same values
abbrev pub same_row : Row → Row → Bool
same_row r s = bytes_eq r.key s.key && pointwise same_scalar r.values s.values

-- whether two tables have the same fields and the same rows, in one order
abbrev pub same_table : Table → Table → Bool
same_table t u = pointwise bytes_eq t.fields u.fields && pointwise same_row t.rows u.rows

-- rows of one key and the same values are equal
same_rowed : (r s : Row) → (r.key ≡ s.key) × (r.values ≡ s.values) → r ≡ s
same_rowed r s h =
    ap {A = List ℕ} {B = Row} (λ k. record { key = k; values = r.values }) h.0
    ∙ ap {A = List Scalar} {B = Row} (λ v. record { key = s.key; values = v }) h.1

-- the same rows are equal, and the others are not
pub same_row-Decides : (r s : Row) → Decides (same_row r s) (r ≡ s)
same_row-Decides r s =
    let d = Decides-and (bytes_eq r.key s.key) (pointwise same_scalar r.values s.values) (bytes_eq-Decides r.key s.key)
    (slice_eq-Decides same_scalar-Decides r.values s.values _ refl) in
    (λ h. same_rowed r s (d.0 h), λ (e : r ≡ s). d.1 (ap (λ (x : Row). x.key) e, ap (λ (x : Row). x.values) e))

-- tables of the same fields and rows are equal
same_tabled : (t u : Table) → (t.fields ≡ u.fields) × (t.rows ≡ u.rows) → t ≡ u
same_tabled t u h =
    ap {A = List (List ℕ)} {B = Table} (λ f. record { fields = f; rows = t.rows }) h.0
    ∙ ap {A = List Row} {B = Table} (λ r. record { fields = u.fields; rows = r }) h.1

-- the same tables are equal, and the others are not
pub same_table-Decides : (t u : Table) → Decides (same_table t u) (t ≡ u)
same_table-Decides t u =
    let d = Decides-and (pointwise bytes_eq t.fields u.fields) (pointwise same_row t.rows u.rows)
    (slice_eq-Decides bytes_eq-Decides t.fields u.fields _ refl) (slice_eq-Decides same_row-Decides t.rows u.rows _ refl) in
    (λ h. same_tabled t u (d.0 h), λ (e : t ≡ u). d.1 (ap (λ (x : Table). x.fields) e, ap (λ (x : Table). x.rows) e))
