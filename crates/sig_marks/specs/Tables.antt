-- The dependants of signals and their pushed marks, by the signals' places.
use Rattle.std.specs.Prelude.{◌≡◌, ℕ, zero, suc, ◌==◌, ◌&&◌, Bool, true, false, List, [], ◌∷◌, ◌++◌, length, ◌⊎◌, if◌then◌else◌, slice_set}
use Rattle.signal_model.specs.Signals.{is_in}

-- The dependants of each signal by its number, whether it is marked, and whether it still stands. What is gone has no dependants, and counts
-- as marked: no marking goes on from it. Beside them stands what was marked newly by the last marking, in its order.
pub record MarkTable : Type 0 where
  pub dependants : List (List ℕ)
  pub marked : List Bool
  pub stands : List Bool
  pub fresh : List ℕ

-- the dependants at a place; past the end there are none
abbrev pub dependants_at : List (List ℕ) → ℕ → List ℕ
dependants_at [] n = []
dependants_at (ds ∷ dss) zero = ds
dependants_at (ds ∷ dss) (suc n) = dependants_at dss n

-- whether d is a dependant of m
abbrev pub depends : List (List ℕ) → ℕ → ℕ → Bool
depends dss m d = is_in d (dependants_at dss m)

-- whether a place is marked; past the end none is
abbrev pub marked_at : List Bool → ℕ → Bool
marked_at [] n = false
marked_at (t ∷ ts) zero = t
marked_at (t ∷ ts) (suc n) = marked_at ts n

-- whether a signal stands at a place; past the end none does
abbrev pub stands_at : List Bool → ℕ → Bool
stands_at ss n = marked_at ss n

-- a signal more, with its mark and without dependants
abbrev pub with_place : MarkTable → Bool → MarkTable
with_place t b = record t { dependants = t.dependants ++ [] ∷ []; marked = t.marked ++ b ∷ []; stands = t.stands ++ true ∷ [] }

-- a place is marked, or isn't any more
abbrev pub with_mark : MarkTable → ℕ → Bool → MarkTable
with_mark t n b = record t { marked = slice_set t.marked n b }

-- the mark of a signal that stands is taken
abbrev pub without_mark : MarkTable → ℕ → MarkTable
without_mark t n = if stands_at t.stands n then with_mark t n false else t

-- a reader has these sources in place of the earlier ones, of which those that stand know of it
pub record Relinks (old new : List (List ℕ)) (stands : List Bool) (sources reads : List ℕ) (reader : ℕ) : Type 0 where
  pub len : length new ≡ length old
  pub now : (m d : ℕ) → stands_at stands m ≡ true → depends new m d
      ≡ (if reader == d && is_in m reads then true else (if reader == d && is_in m sources then false else depends old m d))

-- a signal is no dependant of its sources any more, and has none
pub record Drops (old new : List (List ℕ)) (sources : List ℕ) (n : ℕ) : Type 0 where
  pub len : length new ≡ length old
  pub now : (m d : ℕ) → (m == n) ≡ false → depends new m d ≡ (if n == d && is_in m sources then false else depends old m d)
  pub own : (d : ℕ) → depends new n d ≡ false
  pub less : (m d : ℕ) → depends new m d ≡ true → depends old m d ≡ true

-- a place that comes after another along dependants none of which was marked
pub data Reached (dss : List (List ℕ)) (t : List Bool) : ℕ → ℕ → Type 0 where
  first : {n m : ℕ} → depends dss n m ≡ true → marked_at t m ≡ false → Reached dss t n m
  next : {n p m : ℕ} → Reached dss t n p → depends dss p m ≡ true → marked_at t m ≡ false → Reached dss t n m

-- The marking from n, from the marks t to the marks u: no mark goes, the dependants of n are marked, and so are those of each place that was
-- marked newly; nothing else is.
pub record Spreads (dss : List (List ℕ)) (t u : List Bool) (n : ℕ) : Type 0 where
  pub len : length u ≡ length t
  pub more : (m : ℕ) → marked_at t m ≡ true → marked_at u m ≡ true
  pub start : (d : ℕ) → depends dss n d ≡ true → marked_at u d ≡ true
  pub on : (m d : ℕ) → marked_at t m ≡ false → marked_at u m ≡ true → depends dss m d ≡ true → marked_at u d ≡ true
  pub only : (m : ℕ) → marked_at u m ≡ true → (marked_at t m ≡ true) ⊎ Reached dss t n m

-- each of these came after n in that marking, and none of them was marked before
abbrev pub AreFresh : List (List ℕ) → List Bool → ℕ → List ℕ → Type 0
AreFresh dss t n fresh = (m : ℕ) → is_in m fresh ≡ true → Reached dss t n m

-- each that is marked newly is among these
abbrev pub AreListed : List Bool → List Bool → List ℕ → Type 0
AreListed t u fresh = (m : ℕ) → marked_at t m ≡ false → marked_at u m ≡ true → is_in m fresh ≡ true

-- n is marked, and then its dependants are; where n was marked already nothing changes
abbrev pub Pushes : List (List ℕ) → List Bool → List Bool → ℕ → Type 0
Pushes dss t u n = ((marked_at t n ≡ true) × (u ≡ t)) ⊎ Spreads dss (slice_set t n true) u n
