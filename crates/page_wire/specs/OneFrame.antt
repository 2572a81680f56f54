-- Frames can be told apart, and a stream of them is read one way, however it is cut.
use Rattle.std.specs.Prelude.{◌≡◌, ℕ, ◌+◌, ◌<◌, ◌^◌, List, ◌++◌, length}
use Rattle.wire_model.specs.Notes.{IsNote, Note, body_of, frame, frames}
use Rattle.wire_model.specs.Streams.{Spells, SpellsUpTo}

-- no note's frame is another's, nor begins it
abbrev pub OneFrame : Type 0
OneFrame = (x y : Note) (more rest : List ℕ) → IsNote x → IsNote y → length (body_of x) < 2 ^ 64 → length (body_of y) < 2 ^ 64 →
    frame x ++ more ≡ frame y ++ rest → (x ≡ y) × (more ≡ rest)

-- a stream of fewer than 2^64 bytes is spelled one way
abbrev pub OneStream : Type 0
OneStream = (stream : List ℕ) (notes others : List Note) (rest left : List ℕ) → length stream < 2 ^ 64 → Spells stream notes rest →
    Spells stream others left → (notes ≡ others) × (rest ≡ left)

-- one that stops to spell notes does so behind one list of notes, and so at one place
abbrev pub OneStop : Type 0
OneStop = (stream : List ℕ) (notes others : List Note) (at place : ℕ) → length stream < 2 ^ 64 → SpellsUpTo stream notes at →
    SpellsUpTo stream others place → (notes ≡ others) × (at ≡ place)

-- and it is not spelled to its end
abbrev pub NoEnd : Type 0
NoEnd = (stream : List ℕ) (notes others : List Note) (rest : List ℕ) (at : ℕ) → length stream < 2 ^ 64 → Spells stream notes rest →
    SpellsUpTo stream others at → ⊥

-- where a front of a stream spells notes, those of the whole begin with them
abbrev pub FrontSpells : Type 0
FrontSpells = (front more : List ℕ) (notes others : List Note) (rest left : List ℕ) → length (front ++ more) < 2 ^ 64 → Spells front notes rest →
    Spells (front ++ more) others left → (later : List Note) × (others ≡ notes ++ later)

-- and no front stops to spell notes of a stream that is spelled to its end
abbrev pub FrontStops : Type 0
FrontStops = (front more : List ℕ) (notes others : List Note) (at : ℕ) (rest : List ℕ) → length (front ++ more) < 2 ^ 64 → SpellsUpTo front notes at →
    Spells (front ++ more) others rest → ⊥

-- what is left of a stream and the next piece of it go on with the notes of both
abbrev pub GoesOn : Type 0
GoesOn = (stream piece : List ℕ) (notes more : List Note) (rest left : List ℕ) → Spells stream notes rest → Spells (rest ++ piece) more left →
    Spells (stream ++ piece) (notes ++ more) left

-- or stop to, so many bytes further on
abbrev pub StopsLater : Type 0
StopsLater = (stream piece : List ℕ) (notes more : List Note) (rest : List ℕ) (at : ℕ) → Spells stream notes rest →
    SpellsUpTo (rest ++ piece) more at → SpellsUpTo (stream ++ piece) (notes ++ more) (length (frames notes) + at)
