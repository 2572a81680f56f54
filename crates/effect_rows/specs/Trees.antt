-- What holds of tables between calls.
use Rattle.std.specs.Prelude.{◌≡◌, ℕ, ◌≤◌, false}
use Rattle.effect_model.specs.Owners.{the_signal}
use Rattle.sig_owner.specs.Trees.{has_thing, owned_of}
use Rattle.effect_tables.specs.declared.tables.Tables.{Tables}
use Rattle.effect_tables.specs.Consistency.{TablesAgree}
use Rattle.effect_tables.specs.Placed.{tree_of}
use Rattle.effect_teardown.specs.Trees.{AreFormed}

-- The tables belong together, the tree is formed, and of the signals only the first so many stand in it.
pub record IsReady (signals : ℕ) (t : Tables) : Type 0 where
  pub holds : TablesAgree t
  pub formed : AreFormed (tree_of t)
  pub fresh : (n : ℕ) → signals ≤ n → has_thing (the_signal n) (owned_of t.store) ≡ false
