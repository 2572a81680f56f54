-- Notes of pages, and their frames.
use Rattle.std.specs.Prelude.{◌≡◌, ℕ, true, List, [], ◌∷◌, ◌++◌, length, flat_map}
use Rattle.std.specs.Int.{to_be_bytes, w64}
use Rattle.sig_base.specs.Words.{is_name}
use Rattle.page_model.specs.Replay.{Op}
use Rattle.page_model.specs.Texts.{op_text}
use Rattle.page_ops.specs.Ops.{HasText}

-- what is told of the page of a name: that it is there, an operation on it, that it is as it shall be seen, or that it is gone
pub data Note : Type 0 where
  mount : List ℕ → Note
  op : List ℕ → Op → Note
  ready : List ℕ → Note
  gone : List ℕ → Note

-- the byte of a note's kind
abbrev pub kind_byte : Note → ℕ
kind_byte (mount n) = 1
kind_byte (op n o) = 2
kind_byte (ready n) = 3
kind_byte (gone n) = 4

-- the name of the page
abbrev pub name_in : Note → List ℕ
name_in (mount n) = n
name_in (op n o) = n
name_in (ready n) = n
name_in (gone n) = n

-- what stands behind the name
abbrev pub rest_of : Note → List ℕ
rest_of (op n o) = op_text o
rest_of _ = []

-- the kind, the length of the name, the name and the rest
abbrev pub body_of : Note → List ℕ
body_of note = kind_byte note ∷ length (name_in note) ∷ (name_in note ++ rest_of note)

-- a frame: the length of the body in eight bytes, the greatest first, and the body
abbrev pub frame_of_body : List ℕ → List ℕ
frame_of_body body = to_be_bytes w64 (length body) ++ body

-- that of a note
abbrev pub frame : Note → List ℕ
frame note = frame_of_body (body_of note)

-- the frames of notes
abbrev pub frames : List Note → List ℕ
frames notes = flat_map frame notes

-- a note's operation, if it has one, has a text
abbrev pub HasOp : Note → Type 0
HasOp (op n o) = HasText o
HasOp _ = Unit {0}

-- a note that has a frame
abbrev pub IsNote : Note → Type 0
IsNote note = (is_name (name_in note) ≡ true) × HasOp note
