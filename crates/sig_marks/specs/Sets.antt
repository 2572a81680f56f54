-- Sets of dependants and marks of the signals that stand, and what pushing marks does to them, step by step.
use Rattle.std.specs.Prelude.{◌≡◌, ℕ, ◌+◌, ◌<◌, ◌≤◌, ◌==◌, ◌&&◌, ◌⊎◌, Bool, true, false, List, [], ◌∷◌, length, map, if◌then◌else◌, slice_set, Option, Some, None, is_some}
use Rattle.indexmap.specs.IndexSet.{spare}
use Rattle.signal_model.specs.Signals.{is_in}
use Rattle.sig_store.specs.Stored.{entry}
use Rattle.sig_marks.specs.Tables.{MarkTable, depends, marked_at}
use Rattle.sig_marks.specs.declared.readers.Readers.{Readers}
use Rattle.sig_marks.specs.declared.readers.Readers.TheVariants.{Nobody, One, Few, Many}

-- the readers of a signal, in their order
abbrev pub keys_held : Readers → List ℕ
keys_held Nobody = []
keys_held (One d) = d ∷ []
keys_held (Few l) = l.keys
keys_held (Many s) = s.value.keys

-- how many more surely fit without memory, once this reader is none of them
abbrev pub room_for : ℕ → Readers → ℕ
room_for reader Nobody = 1
room_for reader (One d) = if reader == d then 1 else 0
room_for reader (Few l) = l.room
room_for reader (Many s) = spare s.value

-- which entries stand
abbrev pub stands_of : {A : Type 0} → List (Option A) → List Bool
stands_of {A} es = map (λ (e : Option A). is_some e) es

-- how many do
abbrev pub standing_count : List Bool → ℕ
standing_count [] = 0
standing_count (b ∷ bs) = (if b then 1 else 0) + standing_count bs

-- the members of a set; what is gone has none
abbrev pub keys_in : Option Readers → List ℕ
keys_in None = []
keys_in (Some s) = keys_held s

-- the members of each set
abbrev pub keys_of : List (Option Readers) → List (List ℕ)
keys_of ss = map (λ (s : Option Readers). keys_in s) ss

-- whether d is in the set of m
abbrev pub depends_in : List (Option Readers) → ℕ → ℕ → Bool
depends_in ss m d = depends (keys_of ss) m d

-- the same of what may be gone, which needs no room for one more
abbrev pub spare_in : ℕ → Option Readers → ℕ
spare_in reader None = 1
spare_in reader (Some s) = room_for reader s

-- the same of the readers of m
abbrev pub spare_at : List (Option Readers) → ℕ → ℕ → ℕ
spare_at ss reader m = spare_in reader (entry ss m)

-- a reader is in the set of m, or it fits
abbrev pub HasRoom : List (Option Readers) → ℕ → ℕ → Type 0
HasRoom ss reader m = (depends_in ss m reader ≡ true) ⊎ (0 < spare_at ss reader m)

-- a reader is taken out of the sets of these
pub record Unlinks (old new : List (Option Readers)) (names : List ℕ) (reader : ℕ) : Type 0 where
  pub stands : stands_of new ≡ stands_of old
  pub off : (m d : ℕ) → depends_in new m d ≡ (if reader == d && is_in m names then false else depends_in old m d)
  pub room : (m : ℕ) → spare_at old reader m ≤ spare_at new reader m

-- it is put into the sets of those of these that stand
pub record Links (old new : List (Option Readers)) (names : List ℕ) (reader : ℕ) : Type 0 where
  pub stands : stands_of new ≡ stands_of old
  pub on : (m d : ℕ) → is_some (entry old m) ≡ true → depends_in new m d ≡ (if reader == d && is_in m names then true else depends_in old m d)
  pub few : (m d : ℕ) → depends_in new m d ≡ true → (reader ≡ d) ⊎ (depends_in old m d ≡ true)

-- nothing but room is made for a reader
pub record Makes (old new : List (Option Readers)) (reader : ℕ) : Type 0 where
  pub keys : keys_of new ≡ keys_of old
  pub stands : stands_of new ≡ stands_of old
  pub room : (m : ℕ) → spare_at old reader m ≤ spare_at new reader m

-- a mark; what is gone counts as marked
abbrev pub mark_in : Option Bool → Bool
mark_in None = true
mark_in (Some b) = b

-- the marks
abbrev pub marks_of : List (Option Bool) → List Bool
marks_of ms = map mark_in ms

-- marks once each of these is marked
abbrev pub with_marks : List ℕ → List Bool → List Bool
with_marks [] t = t
with_marks (d ∷ ds) t = with_marks ds (slice_set t d true)

-- those of them that weren't marked, each once
abbrev pub newly_marked : List ℕ → List Bool → List ℕ
newly_marked [] t = []
newly_marked (d ∷ ds) t = if marked_at t d then newly_marked ds t else d ∷ newly_marked ds (slice_set t d true)

-- how many places aren't marked
abbrev pub unmarked_count : List Bool → ℕ
unmarked_count [] = 0
unmarked_count (t ∷ ts) = (if t then 0 else 1) + unmarked_count ts

-- the table that sets and marks make, with what was marked newly
abbrev pub table_of : List (Option Readers) → List (Option Bool) → List ℕ → MarkTable
table_of ss ms fresh = record { dependants = keys_of ss; marked = marks_of ms; stands = stands_of ms; fresh = fresh }

-- What holds of sets and marks, of the count of signals that stand, and of the room of the list by which marks are pushed: a signal that
-- stands has both, dependants were given, and the list has room for all that stand.
pub record IsMarkTable (ss : List (Option Readers)) (ms : List (Option Bool)) (live capacity : ℕ) : Type 0 where
  pub alike : stands_of ss ≡ stands_of ms
  pub within : (m d : ℕ) → depends_in ss m d ≡ true → d < length ms
  pub count : standing_count (stands_of ms) ≡ live
  pub room : live ≤ capacity
