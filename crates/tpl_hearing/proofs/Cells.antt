-- Names of cells that show what was heard, but for those that may show something else.
use Rattle.std.proofs.Common.{◌≡◌, ℕ, false, List, length, Option, arith}
use Rattle.std.proofs.lemmas.Option.{slice_get_within}
use Rattle.signal_model.specs.Signals.{Cell, IsCell, Signals, standing}
use Rattle.tpl_hearing.specs.Heard.{Outcomes}
use Rattle.tpl_hearing.specs.Unseen.{may_differ, AreCellsBetween, AreCellsBut, NoneDiffers}

-- where none may, all show it
pub none_differs : (w : Signals) (u : Option (List ℕ)) (ps : Outcomes) → AreCellsBut w u ps → NoneDiffers u ps → AreCellsBetween w ps 0 (length ps)
none_differs w u ps but none = record {
  least = omega arith;
  most = omega arith;
  each = λ i n o le lt at. but.each i n o at (none i n o at);
}

-- where all show it, it doesn't matter which may not
pub all_but : (w : Signals) (u : Option (List ℕ)) (ps : Outcomes) → AreCellsBetween w ps 0 (length ps) → AreCellsBut w u ps
all_but w u ps all = record { each = λ i n o at may. all.each i n o (omega arith) (slice_get_within ps i (n, o) at) at }

-- a cell stands as it did, where it is known not to show anything else
pub record StandsStill (w v : Signals) (u later : Option (List ℕ)) (n : ℕ) : Type 0 where
  pub before : may_differ later n ≡ false → may_differ u n ≡ false
  pub still : (c : Cell) → may_differ later n ≡ false → standing w n ≡ IsCell c → standing v n ≡ IsCell c

-- so do all
pub cells_still : (w v : Signals) (u later : Option (List ℕ)) (ps : Outcomes) → ((n : ℕ) → StandsStill w v u later n) → AreCellsBut w u ps → AreCellsBut v later ps
cells_still w v u later ps stands but = record {
  each = λ i n o at may.
      let one = but.each i n o at ((stands n).before may) in
      record { cell = one.cell; stands = (stands n).still one.cell may one.stands; shows = one.shows };
}
