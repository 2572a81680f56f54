-- Why an edit is refused: of several causes the first that is named.
use Rattle.std.specs.Prelude.{◌≡◌, ℕ, not, nat_le, nat_lt, ◌==◌, List, length, Option, Some, None, if◌then◌else◌}
use Rattle.std.specs.List.{list_any}
use Rattle.std.specs.Str.{bytes_eq}
use Rattle.sig_base.specs.declared.limits.TheConstants.{MOST_ROWS}
use Rattle.sig_base.specs.Tables.{Table}
use Rattle.sig_rows.specs.declared.fault.RowFault.{RowFault}
use Rattle.sig_rows.specs.declared.fault.RowFault.TheVariants.{KeyTaken, KeyMissing, Place, Field, Limit, NoMemory}
use Rattle.sig_rows.specs.Edits.{has_key}

-- of an insertion: the key is there, the place is past the end, there are more or fewer values than fields, or no more rows may be
abbrev pub insert_fault : Table → ℕ → List ℕ → ℕ → Option RowFault
insert_fault t place key count =
    if list_any (has_key key) t.rows then Some KeyTaken
    else if nat_lt (length t.rows) place then Some Place
    else if not (count == length t.fields) then Some Field
    else if nat_le MOST_ROWS (length t.rows) then Some Limit
    else None

-- of a removal: the key isn't there
abbrev pub remove_fault : Table → List ℕ → Option RowFault
remove_fault t key = if list_any (has_key key) t.rows then None else Some KeyMissing

-- of a move: the key isn't there, or no row stands at the place
abbrev pub move_fault : Table → List ℕ → ℕ → Option RowFault
move_fault t key place =
    if not (list_any (has_key key) t.rows) then Some KeyMissing
    else if nat_le (length t.rows) place then Some Place
    else None

-- of a new value: the key isn't there, or there is no such field
abbrev pub put_fault : Table → List ℕ → List ℕ → Option RowFault
put_fault t key field =
    if not (list_any (has_key key) t.rows) then Some KeyMissing
    else if list_any (λ f. bytes_eq f field) t.fields then None
    else Some Field

-- what a refusal has for its cause
abbrev pub IsCause : Option RowFault → RowFault → Type 0
IsCause fault (NoMemory e) = Unit {0}
IsCause fault why = fault ≡ Some why
