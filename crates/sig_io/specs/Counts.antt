-- What a call says of the counts of a source and of a sink.
use Rattle.std.specs.Prelude.{◌≡◌, ◌≤◌, ◌+◌, ◌-◌, ◌^◌, ◌++◌, ℕ, List, min, Result, OnErr, MatchResult}
use Rattle.std.specs.declared.option.Option.{Option}
use Rattle.std.specs.Io.KnownBytes.{Appends}

-- the last value of a count
abbrev pub last_count : ℕ
last_count = 2 ^ 64 - 1

-- a count raised by a number, up to its last value
abbrev pub raised : ℕ → ℕ → ℕ
raised count n = min (count + n) last_count

-- the count rose, or stands at its last value
abbrev pub Rose : ℕ → ℕ → Type 0
Rose before now = raised before 1 ≤ now

-- the count didn't fall, and `Failed` comes only where it rose
pub record HasCause {T E : Type 0} (before now : ℕ) (result : Result T E) : Type 0 where
  pub later : before ≤ now
  pub failed : OnErr result (Rose before now)

-- the counts of bytes given and of faults
pub record SourceCounts : Type 0 where
  pub given : ℕ
  pub faults : ℕ

-- `Ok(n)` raises the number of bytes given by n, and nothing else changes it
abbrev pub Gives : {E : Type 0} → ℕ → ℕ → Result ℕ E → Type 0
Gives before now result = MatchResult result (λ n. now ≡ raised before n) (λ _. now ≡ before)

-- some front of the bytes was taken
abbrev pub AppendsFront : Option (List ℕ) → Option (List ℕ) → List ℕ → Type 0
AppendsFront old new bytes = (front : List ℕ) × (rest : List ℕ) × (bytes ≡ front ++ rest) × Appends old new front
