-- A source and a sink in memory, as clauses see them, and what a call makes of them.
use Rattle.std.specs.Prelude.{ℕ, ◌-◌, Bool, List, length, drop, take, min, ◌++◌, ◌==◌, ◌&&◌, nat_lt, nat_le}
use Rattle.std.specs.List.{list_any}
use Rattle.sig_io.specs.Counts.{raised}

-- the bytes still to come, the most of a call, the calls that fail, and the counts of calls, of bytes given and of faults
pub record SourceState : Type 0 where
  pub left : List ℕ
  pub most : ℕ
  pub fails : List ℕ
  pub calls : ℕ
  pub given : ℕ
  pub faults : ℕ

-- the bytes taken, the most that it takes in all and in a call, the calls that fail, and the counts of calls and of faults
pub record SinkState : Type 0 where
  pub held : List ℕ
  pub room : ℕ
  pub most : ℕ
  pub fails : List ℕ
  pub calls : ℕ
  pub faults : ℕ

-- whether the call after so many is one of those that fail
abbrev pub is_stated : List ℕ → ℕ → Bool
is_stated fails calls = list_any (λ n. n == raised calls 1) fails

-- how many bytes a call gives into a buffer of this length
abbrev pub give_count : SourceState → ℕ → ℕ
give_count s len = min (min (length s.left) len) s.most

-- after a call that gave n bytes
abbrev pub after_give : SourceState → ℕ → SourceState
after_give s n = record s { left = drop n s.left; calls = raised s.calls 1; given = raised s.given n }

-- after a call of a source that failed
abbrev pub after_failed_take : SourceState → SourceState
after_failed_take s = record s { calls = raised s.calls 1; faults = raised s.faults 1 }

-- whether a piece of this length finds no room
abbrev pub is_full : SinkState → ℕ → Bool
is_full s len = nat_lt 0 len && nat_le s.room (length s.held)

-- how many bytes a call takes of a piece of this length
abbrev pub take_count : SinkState → ℕ → ℕ
take_count s len = min (min len s.most) (s.room - length s.held)

-- after a call that took n bytes of the piece
abbrev pub after_put : SinkState → List ℕ → ℕ → SinkState
after_put s piece n = record s { held = s.held ++ take n piece; calls = raised s.calls 1 }

-- after a call of a sink that failed
abbrev pub after_failed_put : SinkState → SinkState
after_failed_put s = record s { calls = raised s.calls 1; faults = raised s.faults 1 }
