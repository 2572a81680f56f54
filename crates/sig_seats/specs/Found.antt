-- What searches found, by the id of the signal.
use Rattle.std.specs.Prelude.{ℕ, zero, suc, ◌+◌, ◌*◌, ◌^◌, ◌%◌, ◌==◌, List, [], ◌∷◌, if◌then◌else◌, slice_index_or}
use Rattle.sig_base.specs.declared.limits.TheConstants.{MOST_NODES}
use Rattle.sig_seats.specs.declared.finds.Found.{Found}

-- the notes at all places, and the upper words of their counts, which are 0 past the last
pub record Noted : Type 0 where
  pub at : List Found
  pub highs : List ℕ

-- the place of a signal, which it shares with those whose numbers have the same remainder
unfoldable pub place_of : ℕ → ℕ
place_of id = id % MOST_NODES

-- the count of an upper and a lower word
unfoldable pub count_of : ℕ → ℕ → ℕ
count_of high low = high * 2 ^ 64 + low

-- the count of changes of this upper word that a note holds for a signal; 0 where it is of another
abbrev pub count_for : ℕ → Found → ℕ → ℕ
count_for high f id = if f.id == id then count_of high f.low else 0

-- the count of this upper word that the note at a place holds for a signal; 0 past the last place
abbrev pub held_at : List Found → ℕ → ℕ → ℕ → ℕ
held_at [] place high id = 0
held_at (f ∷ fs) zero high id = count_for high f id
held_at (f ∷ fs) (suc place) high id = held_at fs place high id

-- at which count of changes a search found that a signal, or something below it, must run; 0 where none did, or where it is forgotten
unfoldable pub found_at : Noted → ℕ → ℕ
found_at t id = held_at t.at (place_of id) (slice_index_or t.highs (place_of id) 0) id
