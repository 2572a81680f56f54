-- Readers of a signal that stand in a list.
use Rattle.std.specs.Prelude.{ℕ, List}

-- the readers in their order, and how many more fit without memory
pub record ReaderKeys : Type 0 where
  pub keys : List ℕ
  pub room : ℕ
