-- Worked examples with lists and the edits of their rows.
use Rattle.std.specs.Prelude.{◌≡◌, ℕ, List, [], ◌∷◌, None, codes}
use Rattle.std.proofs.Common.{refl}
use Rattle.sig_base.specs.declared.rows.Row.{Row}
use Rattle.sig_base.specs.declared.scalar.Scalar.{Scalar}
use Rattle.sig_base.specs.declared.scalar.Scalar.TheVariants as scalar
use Rattle.sig_base.specs.declared.value.Outcome.TheVariants.{Good, Bad}
use Rattle.sig_base.specs.declared.value.Value.TheVariants as value
use Rattle.sig_base.specs.declared.value.Fault.TheVariants as fault
use Rattle.sig_formula.specs.declared.formula.BinOp.TheVariants.{Eq}
use Rattle.sig_formula.specs.Trees.{literal, slot, row_field, row_key, binary, count_of, sum_of, rows_where}
use Rattle.live_cmd.specs.declared.command.Command.TheVariants as command
use Rattle.live_cmd.specs.declared.command.RowEdit.TheVariants as edit
use Rattle.live_cmd.specs.declared.command.Item.{Item}
use Rattle.live_cmd.specs.declared.command.Item.TheVariants as item
use Rattle.live_entries.specs.declared.entry.Entry.{Entry}
use Rattle.live_entries.specs.declared.entry.Entry.TheVariants as entry
use Rattle.live_entries.specs.declared.refusal.FieldDetail.TheVariants as detail
use Rattle.live_entries.specs.declared.refusal.Refusal.TheVariants as refusal
use Rattle.live_model.specs.Examples.{told_by, a_cell, a_computed, a_set, a_get, a_watcher, a_watch, comes_to, error, int, ran_to}

-- ---- words for the examples

-- a list of these fields
abbrev pub a_list : List ℕ → List (List ℕ) → Item
a_list n fields = item.Do (command.List n fields None)

-- a row is put at a place
abbrev pub an_insert : List ℕ → ℕ → List ℕ → List Scalar → Item
an_insert n place key values = item.Do (command.Edit n (edit.Insert place key values))

-- a row is taken out
abbrev pub a_remove : List ℕ → List ℕ → Item
a_remove n key = item.Do (command.Edit n (edit.Remove key))

-- a row is moved to a place
abbrev pub a_move : List ℕ → List ℕ → ℕ → Item
a_move n key place = item.Do (command.Edit n (edit.Move key place))

-- a row is given a value in a field
abbrev pub a_put : List ℕ → List ℕ → List ℕ → Scalar → Item
a_put n key field v = item.Do (command.Edit n (edit.Put key field v))

-- a text
abbrev pub words : List ℕ → Scalar
words t = scalar.Text t

-- a row of one value
abbrev pub a_row : List ℕ → Scalar → Row
a_row key v = record { key = key; values = v ∷ [] }

-- a name comes to rows of one field
abbrev pub comes_to_rows : List ℕ → List ℕ → List Row → Entry
comes_to_rows n field rows = entry.Outcome n (Good (value.Rows (record { fields = field ∷ []; rows = rows })))

-- ---- sums and rows

-- a list with the greatest number and 1; their sum, and how many rows have the key b. Then b is moved to its own place and to one past the
-- end, and the great number becomes 4.
abbrev pub sums : List Item
sums = a_list (codes "l") (codes "n" ∷ []) ∷ an_insert (codes "l") 0 (codes "a") (int 9223372036854775807 ∷ [])
    ∷ an_insert (codes "l") 1 (codes "b") (int 1 ∷ []) ∷ a_computed (codes "s") (sum_of (slot 0) (row_field (codes "n"))) (codes "l" ∷ [])
    ∷ a_computed (codes "k") (count_of (rows_where (slot 0) (binary Eq row_key (literal (words (codes "b")))))) (codes "l" ∷ [])
    ∷ a_get (codes "s") ∷ a_get (codes "k") ∷ a_move (codes "l") (codes "b") 1 ∷ a_get (codes "k") ∷ a_move (codes "l") (codes "b") 2
    ∷ a_put (codes "l") (codes "a") (codes "n") (int 4) ∷ a_get (codes "s") ∷ a_get (codes "l") ∷ []

-- what it tells: a move to the row's own place changes nothing, so k doesn't run again
pub sums_told : told_by 0 sums
    ≡ entry.Run (codes "s") (codes "l" ∷ []) (Bad fault.Overflow) ∷ entry.Outcome (codes "s") (Bad fault.Overflow)
    ∷ ran_to (codes "k") (codes "l" ∷ []) 1 ∷ comes_to (codes "k") 1 ∷ comes_to (codes "k") 1 ∷ error (refusal.Place 2)
    ∷ ran_to (codes "s") (codes "l" ∷ []) 5 ∷ comes_to (codes "s") 5
    ∷ comes_to_rows (codes "l") (codes "n") (a_row (codes "a") (int 4) ∷ a_row (codes "b") (int 1) ∷ []) ∷ []
sums_told = refl

-- ---- refusals

-- a list is set; a row is put past the end, with two values, as it should be, and again; a row that isn't there, and a field
abbrev pub refused_edits : List Item
refused_edits = a_list (codes "l") (codes "t" ∷ []) ∷ a_set (codes "l") (int 1) ∷ an_insert (codes "l") 1 (codes "k") (words (codes "x") ∷ [])
    ∷ an_insert (codes "l") 0 (codes "k") (words (codes "x") ∷ words (codes "y") ∷ []) ∷ an_insert (codes "l") 0 (codes "k") (words (codes "x") ∷ [])
    ∷ an_insert (codes "l") 0 (codes "k") (words (codes "y") ∷ []) ∷ a_remove (codes "l") (codes "m")
    ∷ a_put (codes "l") (codes "k") (codes "u") (int 1) ∷ a_get (codes "l") ∷ []

-- what it tells
pub refused_edits_told : told_by 0 refused_edits
    ≡ error (refusal.Kind (codes "l")) ∷ error (refusal.Place 1) ∷ error (refusal.Field (detail.Count 2)) ∷ error (refusal.KeyTaken (codes "k"))
    ∷ error (refusal.KeyMissing (codes "m")) ∷ error (refusal.Field (detail.Field (codes "u")))
    ∷ comes_to_rows (codes "l") (codes "t") (a_row (codes "k") (words (codes "x")) ∷ []) ∷ []
refused_edits_told = refl

-- a row edit of what is no list, and of what wasn't made
pub other_kinds_told : told_by 0 (a_cell (codes "a") (int 1) ∷ a_remove (codes "a") (codes "k") ∷ a_remove (codes "l") (codes "k") ∷ [])
    ≡ error (refusal.Kind (codes "a")) ∷ error (refusal.Unknown (codes "l")) ∷ []
other_kinds_told = refl

-- ---- notifications

-- a watcher of a list, armed each time: it is told of a row that comes, is moved, changes and goes, and of nothing that stays the same
abbrev pub watched_rows : List Item
watched_rows = a_list (codes "l") (codes "t" ∷ []) ∷ a_watcher (codes "w") ∷ a_watch (codes "w") (codes "l" ∷ [])
    ∷ an_insert (codes "l") 0 (codes "j") (int 1 ∷ []) ∷ a_watch (codes "w") [] ∷ an_insert (codes "l") 1 (codes "k") (int 2 ∷ [])
    ∷ a_watch (codes "w") [] ∷ a_move (codes "l") (codes "k") 1 ∷ a_put (codes "l") (codes "k") (codes "t") (int 2)
    ∷ a_move (codes "l") (codes "k") 0 ∷ a_watch (codes "w") [] ∷ a_put (codes "l") (codes "k") (codes "t") (int 3)
    ∷ a_watch (codes "w") [] ∷ a_remove (codes "l") (codes "j") ∷ []

-- what it tells
pub watched_rows_told : told_by 0 watched_rows
    ≡ entry.Notify (codes "w") ∷ entry.Notify (codes "w") ∷ entry.Notify (codes "w") ∷ entry.Notify (codes "w") ∷ entry.Notify (codes "w") ∷ []
watched_rows_told = refl

-- ---- fields

-- a field that the rows don't have
pub absent_told : told_by 0 (a_list (codes "l") (codes "x" ∷ []) ∷ an_insert (codes "l") 0 (codes "k") (int 1 ∷ [])
    ∷ a_computed (codes "m") (count_of (rows_where (slot 0) (row_field (codes "y")))) (codes "l" ∷ []) ∷ a_get (codes "m") ∷ [])
    ≡ entry.Run (codes "m") (codes "l" ∷ []) (Bad fault.Absent) ∷ entry.Outcome (codes "m") (Bad fault.Absent) ∷ []
absent_told = refl
