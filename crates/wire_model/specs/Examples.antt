-- A page of one text is mounted, and gone.
use Rattle.std.specs.Prelude.{◌≡◌, false, List, [], ◌∷◌, ◌++◌, codes}
use Rattle.std.proofs.Common.{refl}
use Rattle.std.specs.Fmt.{digits}
use Rattle.std.specs.Str.{chars}
use lib.Utf8.{encode}
use Rattle.sig_base.specs.Printer.{quoted}
use Rattle.html_out.specs.Html.{escaped}
use Rattle.page_model.specs.Forest.{none}
use Rattle.page_model.specs.Labels.{Text}
use Rattle.page_model.specs.Replay.{OpInsert}
use Rattle.live_entries.specs.declared.entry.Entry.{Entry}
use Rattle.live_entries.specs.declared.entry.Entry.TheVariants as entry
use Rattle.wire_model.specs.Notes.{Note, mount, op, ready, gone, frames}
use Rattle.wire_model.specs.Following.{follow}
use Rattle.wire_model.specs.Wired.{wired}

-- what the mount of a page of one text tells
abbrev pub told : List Entry
told = entry.Op (codes "p") (OpInsert 0 0 1 (Text (codes "1")) none) ∷ entry.Page (codes "p") (codes "1") ∷ []

-- the notes of it
abbrev pub notes : List Note
notes = mount (codes "p") ∷ op (codes "p") (OpInsert 0 0 1 (Text (codes "1")) none) ∷ ready (codes "p") ∷ []

-- so the first entry of a page mounts it
pub notes_are : wired told ≡ notes
notes_are = refl

-- no mount comes again
pub once : wired (told ++ told) ≡ notes ++ op (codes "p") (OpInsert 0 0 1 (Text (codes "1")) none) ∷ ready (codes "p") ∷ []
once = refl

-- the end of a page that is mounted is told
pub gone_is : wired (told ++ entry.Gone (record { name = codes "p"; path = [] }) ∷ []) ≡ notes ++ gone (codes "p") ∷ []
gone_is = refl

-- what isn't mounted tells no end, nor do the children of an effect
pub others_silent : wired (entry.Gone (record { name = codes "p"; path = [] }) ∷ told ++ entry.Gone (record { name = codes "p"; path = 1 ∷ [] }) ∷ [])
    ≡ notes
others_silent = refl

-- the bytes of their frames
pub spelt : frames notes ≡ (0 ∷ 0 ∷ 0 ∷ 0 ∷ 0 ∷ 0 ∷ 0 ∷ 3 ∷ 1 ∷ 1 ∷ 112 ∷ [])
    ++ (0 ∷ 0 ∷ 0 ∷ 0 ∷ 0 ∷ 0 ∷ 0 ∷ 21 ∷ 2 ∷ 1 ∷ 112 ∷ codes "insert 0 0 (1 \"1\")")
    ++ (0 ∷ 0 ∷ 0 ∷ 0 ∷ 0 ∷ 0 ∷ 0 ∷ 3 ∷ 3 ∷ 1 ∷ 112 ∷ [])
unfolding digits quoted
spelt = refl

-- what a follower prints of them
pub printed : (follow notes []).out ≡ codes "page p 1\n1\n"
unfolding digits escaped chars encode
printed = refl

-- and it refuses none
pub fine : (follow notes []).refused ≡ false
fine = refl
