-- What a decoder keeps of a stream, and what it makes of the next piece of it.
use Rattle.std.specs.Prelude.{◌≡◌, ◌+◌, ℕ, Bool, true, false, List, [], ◌++◌, length}
use Rattle.std.specs.List.{AllByRecursion}
use Rattle.wire_model.specs.Notes.{IsNote, Note, frames}
use Rattle.wire_model.specs.Streams.{Spells, SpellsUpTo}
use Rattle.page_wire.specs.declared.decoder.WireFault.{WireFault}
use Rattle.page_wire.specs.declared.decoder.WireFault.TheVariants as fault

-- how many bytes the whole frames have that came, what came of the next frame, and whether that one came whole and spells no note
pub record Decoding : Type 0 where
  pub at : ℕ
  pub rest : List ℕ
  pub stopped : Bool

-- nothing came
abbrev pub fresh : Decoding
fresh = record { at = 0; rest = []; stopped = false }

-- What was left of the stream and the piece spell notes, which are told behind those before, and less than a whole frame is left.
pub record Goes (old : Decoding) (piece : List ℕ) (before after : List Note) (new : Decoding) : Type 0 where
  pub notes : List Note
  pub told : after ≡ before ++ notes
  pub spelt : Spells (old.rest ++ piece) notes new.rest
  pub place : new.at ≡ old.at + length (frames notes)
  pub going : new.stopped ≡ false

-- They spell notes, which are told behind those before, and then a whole frame begins that spells none.
pub record Stops (old : Decoding) (piece : List ℕ) (before after : List Note) (new : Decoding) : Type 0 where
  pub notes : List Note
  pub told : after ≡ before ++ notes
  pub spelt : SpellsUpTo (old.rest ++ piece) notes (length (frames notes))
  pub now : new ≡ record { at = old.at + length (frames notes); rest = []; stopped = true }

-- why a piece is refused: at the place at which the decoder stops now
abbrev pub Fails : WireFault → Decoding → List ℕ → List Note → List Note → Decoding → Type 0
Fails (fault.Bad at) old piece before after new = (at ≡ new.at) × Stops old piece before after new
Fails fault.NoMemory old piece before after new = Unit {0}

-- the first bytes are the frames of notes that are told behind those before
pub record Took (bytes : List ℕ) (before after : List Note) (left : List ℕ) : Type 0 where
  pub notes : List Note
  pub told : after ≡ before ++ notes
  pub each : AllByRecursion IsNote notes
  pub whole : bytes ≡ frames notes ++ left
