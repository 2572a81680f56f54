-- The notes that entries give.
use Rattle.std.specs.Prelude.{ℕ, ◌==◌, ◌&&◌, Bool, true, false, List, [], ◌∷◌, ◌++◌, length, flat_map, if◌then◌else◌}
use Rattle.std.specs.Str.{bytes_eq}
use Rattle.live_entries.specs.declared.label.Label.{Label}
use Rattle.live_entries.specs.declared.entry.Entry.{Entry}
use Rattle.live_entries.specs.declared.entry.Entry.TheVariants as entry
use Rattle.live_entries.specs.Printed.{line_of_entry}
use Rattle.wire_model.specs.Notes.{Note, mount, op, ready, gone}

-- whether a name is among these
abbrev pub is_listed : List ℕ → List (List ℕ) → Bool
is_listed n [] = false
is_listed n (m ∷ ms) = if bytes_eq n m then true else is_listed n ms

-- the names but for one
abbrev pub unlisted : List ℕ → List (List ℕ) → List (List ℕ)
unlisted n [] = []
unlisted n (m ∷ ms) = if bytes_eq n m then unlisted n ms else m ∷ unlisted n ms

-- of which pages an operation or a page came already, and which of them aren't gone
pub record Wires : Type 0 where
  pub seen : List (List ℕ)
  pub here : List (List ℕ)

-- none
abbrev pub no_wires : Wires
no_wires = record { seen = []; here = [] }

-- the first of a page mounts it
abbrev pub mounting : Wires → List ℕ → List Note
mounting w n = if is_listed n w.seen then [] else mount n ∷ []

-- an operation or a page of this name came
abbrev pub with_name : List ℕ → Wires → Wires
with_name n w = if is_listed n w.seen then w else record { seen = n ∷ w.seen; here = n ∷ w.here }

-- a label without a path, under the name of a page that is mounted
abbrev pub is_page_label : Wires → Label → Bool
is_page_label w l = length l.path == 0 && is_listed l.name w.here

-- the notes of an entry
abbrev pub notes_of : Wires → Entry → List Note
notes_of w (entry.Op n o) = mounting w n ++ op n o ∷ []
notes_of w (entry.Page n html) = mounting w n ++ ready n ∷ []
notes_of w (entry.Gone l) = if is_page_label w l then gone l.name ∷ [] else []
notes_of w _ = []

-- what came, behind it
abbrev pub wires_after : Wires → Entry → Wires
wires_after w (entry.Op n o) = with_name n w
wires_after w (entry.Page n html) = with_name n w
wires_after w (entry.Gone l) = if is_page_label w l then record w { here = unlisted l.name w.here } else w
wires_after w _ = w

-- the notes of entries, from a moment on
abbrev pub wired_from : Wires → List Entry → List Note
wired_from w [] = []
wired_from w (e ∷ es) = notes_of w e ++ wired_from (wires_after w e) es

-- those of all entries that were told
abbrev pub wired : List Entry → List Note
wired es = wired_from no_wires es

-- the line of an entry, if it is a page's
abbrev pub page_line_of : Entry → List ℕ
page_line_of (entry.Page n html) = line_of_entry (entry.Page n html)
page_line_of _ = []

-- those of entries
abbrev pub page_lines : List Entry → List ℕ
page_lines es = flat_map page_line_of es
