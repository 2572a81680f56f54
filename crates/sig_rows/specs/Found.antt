-- What was looked up in rows, and what an edit made of them.
use Rattle.std.specs.Prelude.{◌≡◌, ℕ, ◌<◌, Bool, true, List, [], ◌∷◌, length, Option, MatchOption}
use Rattle.std.specs.List.{list_any, position_or_len}
use Rattle.std.specs.Str.{bytes_eq}
use Rattle.sig_base.specs.declared.rows.Row.{Row}
use Rattle.sig_base.specs.Tables.{Table}
use Rattle.sig_rows.specs.Edits.{has_key, row_of}

-- the row is the one with the key
pub record IsRowOf (key : List ℕ) (rows : List Row) (row : Row) : Type 0 where
  pub there : list_any (has_key key) rows ≡ true
  pub has : has_key key row ≡ true
  pub only : row_of key rows ≡ row ∷ []

-- the place is that of the first element for which the test holds
pub record IsFirstPlace {A : Type 0} (test : A → Bool) (xs : List A) (at : ℕ) : Type 0 where
  pub there : list_any test xs ≡ true
  pub within : at < length xs
  pub is : at ≡ position_or_len test xs

-- the place is that of the field
abbrev pub IsFieldPlace : List ℕ → List (List ℕ) → ℕ → Type 0
IsFieldPlace name fields = IsFirstPlace (λ f. bytes_eq f name) fields

-- the place is that of the row with the key
abbrev pub IsRowPlace : List ℕ → List Row → ℕ → Type 0
IsRowPlace key rows = IsFirstPlace (has_key key) rows

-- the table stands with these rows in place of its own, which were others
pub record IsChanged (t : Table) (rows : List Row) (now : Table) : Type 0 where
  pub is : now ≡ record { fields = t.fields; rows = rows }
  pub others : rows ≡ t.rows → ⊥

-- what an edit made that leaves these rows: nothing where they are the table's own
abbrev pub IsMade : Table → List Row → Option Table → Type 0
IsMade t rows made = MatchOption made (rows ≡ t.rows) (IsChanged t rows)
