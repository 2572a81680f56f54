-- What was told of pages behind entries.
use Rattle.std.specs.Prelude.{List, [], ◌∷◌, if◌then◌else◌}
use Rattle.live_entries.specs.declared.label.Label.{Label}
use Rattle.live_entries.specs.declared.entry.Entry.{Entry}
use Rattle.wire_model.specs.Notes.{Note, gone}
use Rattle.wire_model.specs.Wired.{Wires, is_page_label, unlisted, wires_after}

-- the notes of what is gone
abbrev pub gone_notes : Wires → Label → List Note
gone_notes w l = if is_page_label w l then gone l.name ∷ [] else []

-- what was told behind it
abbrev pub gone_wires : Wires → Label → Wires
gone_wires w l = if is_page_label w l then record w { here = unlisted l.name w.here } else w

-- what was told behind entries
abbrev pub wires_behind : Wires → List Entry → Wires
wires_behind w [] = w
wires_behind w (e ∷ es) = wires_behind (wires_after w e) es
