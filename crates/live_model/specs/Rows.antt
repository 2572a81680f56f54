-- What edits make of the rows of a list, and why they are refused.
use Rattle.std.specs.Prelude.{ℕ, Bool, true, false, List, [], length, Option, option_map}
use Rattle.sig_base.specs.Tables.{Table}
use Rattle.sig_base.specs.declared.value.Value.{Value}
use Rattle.sig_base.specs.declared.value.Value.TheVariants as value
use Rattle.sig_rows.specs.declared.fault.RowFault.{RowFault}
use Rattle.sig_rows.specs.declared.fault.RowFault.TheVariants as fault
use Rattle.sig_rows.specs.Edits.{changed, field_place, moved, with_row, without}
use Rattle.sig_rows.specs.Faults.{insert_fault, move_fault, put_fault, remove_fault}
use Rattle.signal_model.specs.Signals.{Signals, Stands, IsCell, standing}
use Rattle.live_cmd.specs.declared.command.RowEdit.{RowEdit}
use Rattle.live_cmd.specs.declared.command.RowEdit.TheVariants as edit
use Rattle.live_entries.specs.declared.refusal.FieldDetail.{FieldDetail}
use Rattle.live_entries.specs.declared.refusal.FieldDetail.TheVariants as detail
use Rattle.live_entries.specs.declared.refusal.LimitWord.TheVariants as limit
use Rattle.live_entries.specs.declared.refusal.Refusal.{Refusal}
use Rattle.live_entries.specs.declared.refusal.Refusal.TheVariants as refusal

-- rows of these fields that are still to come
abbrev pub no_rows : List (List ℕ) → Table
no_rows fields = record { fields = fields; rows = [] }

-- the rows of a value
abbrev pub rows_in : Value → Table
rows_in (value.Rows t) = t
rows_in _ = no_rows []

-- the rows of what stands there, if it is a list
abbrev pub rows_there : Stands → Table
rows_there (IsCell c) = rows_in c.value
rows_there _ = no_rows []

-- the rows of the list of a number
abbrev pub rows_at : Signals → ℕ → Table
rows_at w n = rows_there (standing w n)

-- what an edit makes of rows
abbrev pub edited : RowEdit → Table → Table
edited (edit.Insert place key values) t = record t { rows = with_row place (record { key = key; values = values }) t.rows }
edited (edit.Remove key) t = record t { rows = without key t.rows }
edited (edit.Move key place) t = record t { rows = moved key place t.rows }
edited (edit.Put key field v) t = record t { rows = changed key (field_place field t.fields) v t.rows }

-- why it can't be made, the first cause
abbrev pub edit_fault : RowEdit → Table → Option RowFault
edit_fault (edit.Insert place key values) t = insert_fault t place key (length values)
edit_fault (edit.Remove key) t = remove_fault t key
edit_fault (edit.Move key place) t = move_fault t key place
edit_fault (edit.Put key field v) t = put_fault t key field

-- the key that an edit names
abbrev pub key_of : RowEdit → List ℕ
key_of (edit.Insert place key values) = key
key_of (edit.Remove key) = key
key_of (edit.Move key place) = key
key_of (edit.Put key field v) = key

-- the place that it names, if it does
abbrev pub place_of : RowEdit → ℕ
place_of (edit.Insert place key values) = place
place_of (edit.Move key place) = place
place_of _ = 0

-- its field, or how many values it has
abbrev pub field_of : RowEdit → FieldDetail
field_of (edit.Insert place key values) = detail.Count (length values)
field_of (edit.Put key field v) = detail.Field field
field_of _ = detail.Count 0

-- a cause as it is told; memory never is one
abbrev pub fault_told : RowEdit → RowFault → Refusal
fault_told e fault.KeyTaken = refusal.KeyTaken (key_of e)
fault_told e fault.KeyMissing = refusal.KeyMissing (key_of e)
fault_told e fault.Place = refusal.Place (place_of e)
fault_told e fault.Field = refusal.Field (field_of e)
fault_told e fault.Limit = refusal.Limit limit.Rows
fault_told e (fault.NoMemory x) = refusal.Limit limit.Rows

-- whether memory is the cause
abbrev pub is_memory : RowFault → Bool
is_memory (fault.NoMemory x) = true
is_memory _ = false

-- why an edit of these rows is refused
abbrev pub edit_refusal : RowEdit → Table → Option Refusal
edit_refusal e t = option_map (fault_told e) (edit_fault e t)
