-- What a store ends as, where a `&mut` to one of its values is returned.
use Rattle.std.specs.Prelude.{ℕ}
use Rattle.std.specs.Borrow.{Lends, Fml, RattleType, MutBor}
use Rattle.sig_store.specs.Stored.{Stored, with_value}
use Rattle.sig_store.specs.contracts.store.Store.{the_row}

module _ (T : RattleType) (s : MutBor (Stored T.Denot)) (number : ℕ) where
  -- once the borrow r ends, the number has the last value written through r
  abbrev pub lends_value : MutBor T.Denot → Fml
  lends_value r = Lends (the_row T) T s r (with_value s.now number)
