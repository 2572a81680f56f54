-- What crates above may cite of these proofs. All else in this folder is this crate's own.

-- a formula asks only for slots of its own that aren't known
pub use Rattle.sig_formula.proofs.Asks.{asks_askable, formula_asks}
-- a formula that speaks of no given row answers the same whatever row there is
pub use Rattle.sig_formula.proofs.Aside.{rows_aside}
-- an evaluation that was not begun stands for the formula, and one that has read some values does where more are read
pub use Rattle.sig_formula.proofs.Progress.{begun_is_paused, more_is_paused}
-- parts that come to a value do so where more is known, and what they ask for and come to the whole does
pub use Rattle.sig_formula.proofs.Numbers.{pair_ends, part_ends, right_asks, slot_asked, slot_read, whole_asks}
-- what the parts of a formula that are evaluated in turn ask for it asks for, and they are smaller
pub use Rattle.sig_formula.proofs.InTurn.{first_asked, first_fewer, next_asked, next_fewer, operations, part_read}
