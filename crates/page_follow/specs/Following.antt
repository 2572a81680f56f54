-- What a follower makes of a stream of frames that comes in pieces.
use Rattle.std.specs.Prelude.{◌≡◌, ◌≤◌, ◌<◌, ◌+◌, ◌⊎◌, ℕ, true, false, List, [], ◌++◌, Option, length}
use Rattle.std.specs.Io.KnownBytes.{Appends}
use Rattle.sig_io.specs.Counts.{AppendsFront, raised}
use Rattle.wire_model.specs.Notes.{Note, frames}
use Rattle.wire_model.specs.Following.{Mounted, follow}
use Rattle.wire_model.specs.Streams.{Spells, SpellsUpTo}
use Rattle.page_wire.specs.Decoding.{Decoding}
use Rattle.page_follow.specs.declared.follower.FollowFault.{FollowFault}
use Rattle.page_follow.specs.declared.follower.FollowFault.TheVariants as fault
use Rattle.page_follow.specs.declared.input.TheConstants.{MOST_FRAMES}
use Rattle.page_follow.specs.declared.input.FollowEnd.{FollowEnd}
use Rattle.page_follow.specs.declared.input.FollowEnd.TheVariants as end

-- ---- notes

-- Notes are taken, and none is refused: these are the pages then, and that is printed.
pub record TakesAll (notes : List Note) (old new : List Mounted) (before after : List ℕ) : Type 0 where
  pub fine : (follow notes old).refused ≡ false
  pub pages : new ≡ (follow notes old).pages
  pub printed : after ≡ before ++ (follow notes old).out

-- One of them is refused, and what those before it print is printed. Want of memory is a cause of its own.
abbrev pub Halts : FollowFault → List Note → List Mounted → List ℕ → List ℕ → Type 0
Halts fault.Refused notes old before after = ((follow notes old).refused ≡ true) × (after ≡ before ++ (follow notes old).out)
Halts fault.NoMemory notes old before after = Unit {0}

-- ---- pieces

-- what is kept of a stream, and the pages
pub record Streaming : Type 0 where
  pub decoding : Decoding
  pub pages : List Mounted

-- nothing came
abbrev pub unbegun : Decoding → Streaming
unbegun d = record { decoding = d; pages = [] }

-- These notes of a stream have a fault, or it comes behind them: one is refused, or the next frame is whole and no note's.
abbrev pub HasFault : List ℕ → List Note → List Mounted → Type 0
HasFault stream notes pages =
    SpellsUpTo stream notes (length (frames notes)) ⊎ ((rest : List ℕ) × Spells stream notes rest × ((follow notes pages).refused ≡ true))

-- What was left of the stream and the piece spell notes, which are taken, and less than a whole frame is left.
pub record Passes (old : Streaming) (piece before after : List ℕ) (new : Streaming) : Type 0 where
  pub notes : List Note
  pub spelt : Spells (old.decoding.rest ++ piece) notes new.decoding.rest
  pub taken : TakesAll notes old.pages new.pages before after
  pub going : new.decoding.stopped ≡ false

-- They have a fault, and what the notes before it print is printed.
pub record Falls (old : Streaming) (piece before after : List ℕ) : Type 0 where
  pub notes : List Note
  pub bad : HasFault (old.decoding.rest ++ piece) notes old.pages
  pub printed : after ≡ before ++ (follow notes old.pages).out

-- ---- what a sink holds then

-- the notes of a stream, as far as it spells some
abbrev pub HasNotes : List ℕ → List Note → Type 0
HasNotes stream notes = SpellsUpTo stream notes (length (frames notes)) ⊎ ((rest : List ℕ) × Spells stream notes rest)

-- what was left of the stream and the piece spell notes, which are taken, and what they print is written
pub record Writes (old : Streaming) (piece : List ℕ) (held now : Option (List ℕ)) (new : Streaming) : Type 0 where
  pub notes : List Note
  pub spelt : Spells (old.decoding.rest ++ piece) notes new.decoding.rest
  pub fine : (follow notes old.pages).refused ≡ false
  pub pages : new.pages ≡ (follow notes old.pages).pages
  pub written : Appends held now (follow notes old.pages).out
  pub going : new.decoding.stopped ≡ false

-- they have a fault, and what the notes before it print is written
pub record WritesUpTo (old : Streaming) (piece : List ℕ) (held now : Option (List ℕ)) : Type 0 where
  pub notes : List Note
  pub bad : HasFault (old.decoding.rest ++ piece) notes old.pages
  pub written : Appends held now (follow notes old.pages).out

-- a front of what they print is written
pub record WritesFront (old : Streaming) (piece : List ℕ) (held now : Option (List ℕ)) : Type 0 where
  pub notes : List Note
  pub spelt : HasNotes (old.decoding.rest ++ piece) notes
  pub written : AppendsFront held now (follow notes old.pages).out

-- why a piece ends all, by what was written then
abbrev pub EndsAt : FollowEnd → Streaming → List ℕ → Option (List ℕ) → Option (List ℕ) → Type 0
EndsAt end.BadFrames old piece held now = WritesUpTo old piece held now
EndsAt end.Write old piece held now = WritesFront old piece held now
EndsAt end.Memory old piece held now = now ≡ held
EndsAt _ old piece held now = ⊥

-- the same where no more than so many bytes of it are followed, and there may be more
abbrev pub EndsWithin : FollowEnd → Streaming → List ℕ → List ℕ → ℕ → Option (List ℕ) → Option (List ℕ) → Type 0
EndsWithin end.TooLong old front more most held now = (length front ≡ most) × (0 < length more) × ((new : Streaming) × Writes old front held now new)
EndsWithin e old front more most held now = EndsAt e old front held now

-- a front of the piece, no longer than that, ends all
pub record EndsIn (e : FollowEnd) (old : Streaming) (piece : List ℕ) (most : ℕ) (held now : Option (List ℕ)) : Type 0 where
  pub front : List ℕ
  pub more : List ℕ
  pub whole : piece ≡ front ++ more
  pub few : length front ≤ most
  pub ends : EndsWithin e old front more most held now

-- ---- whole streams

-- more bytes were given than are followed at most, or the count stands at its last value
abbrev pub GaveTooMany : ℕ → ℕ → Type 0
GaveTooMany before now = raised before (MOST_FRAMES + 1) ≤ now

-- A front of the frames, no longer than what is followed at most, has a fault.
pub record HasBadFrame (input : List ℕ) (notes : List Note) : Type 0 where
  pub front : List ℕ
  pub more : List ℕ
  pub whole : input ≡ front ++ more
  pub few : length front ≤ MOST_FRAMES
  pub bad : HasFault front notes []

-- The frames are no longer than that, and end inside a frame.
pub record EndsInside (input : List ℕ) (notes : List Note) : Type 0 where
  pub rest : List ℕ
  pub few : length input ≤ MOST_FRAMES
  pub spelt : Spells input notes rest
  pub some : 0 < length rest

-- a fault of frames, behind these notes or with the last of them
abbrev pub IsAtFault : List ℕ → List Note → Type 0
IsAtFault input notes = HasBadFrame input notes ⊎ EndsInside input notes

-- there is none
abbrev pub NoFault : List ℕ → Type 0
NoFault input = (notes : List Note) → IsAtFault input notes → ⊥

-- The frames are followed to their end, and all that their notes print is written.
pub record IsFollowed (input : List ℕ) (held now : Option (List ℕ)) : Type 0 where
  pub notes : List Note
  pub few : length input ≤ MOST_FRAMES
  pub spelt : Spells input notes []
  pub fine : (follow notes []).refused ≡ false
  pub written : Appends held now (follow notes []).out

-- They are followed up to a fault, and all that the notes before it print is written.
pub record IsFollowedUpTo (input : List ℕ) (held now : Option (List ℕ)) : Type 0 where
  pub notes : List Note
  pub bad : IsAtFault input notes
  pub written : Appends held now (follow notes []).out

-- A front of what the notes of a front of the frames print is written.
pub record IsFollowedInPart (input : List ℕ) (held now : Option (List ℕ)) : Type 0 where
  pub front : List ℕ
  pub more : List ℕ
  pub notes : List Note
  pub whole : input ≡ front ++ more
  pub spelt : HasNotes front notes
  pub written : AppendsFront held now (follow notes []).out

-- why following ends early, by what was written then
abbrev pub Ended : FollowEnd → List ℕ → Option (List ℕ) → Option (List ℕ) → Type 0
Ended end.BadFrames input held now = IsFollowedUpTo input held now
Ended end.TooLong input held now = NoFault input × (MOST_FRAMES < length input) × IsFollowedInPart input held now
Ended _ input held now = IsFollowedInPart input held now
