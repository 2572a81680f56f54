-- Rows of which some are marked, from the first on.
use Rattle.std.specs.Prelude.{Bool, List}
use Rattle.sig_base.specs.Tables.{Table}

pub record MarkedRows : Type 0 where
  pub rows : Table
  pub marks : List Bool
