use Rattle.std.proofs.Common.{◌≡◌, ℕ, List, length, map}
use Rattle.tpl_model.specs.Lines.{Block}
use Rattle.tpl_hearing.specs.Heard.{Outcomes}
use Rattle.tpl_model.specs.KeptLines.Kept.{kept}
use Rattle.tpl_kept.specs.Renewals.{SlotsWere}
use Rattle.tpl_kept.specs.Heads.{places_from}
use Rattle.tpl_kept.specs.Turns.{AreAmong, WereEach}
use Rattle.tpl_kept.proofs.renewing.rows.put_found.Given as goal

-- what is left of before, and what is kept for the rows so far
abbrev pub invariant-loop-place : goal.invariant-loop-place
invariant-loop-place l = record {
  count : length (map kept l.taken.items) ≡ l.place;
  left : (b : Block) (links : List ℕ) (before : Outcomes) → SlotsWere b links l.was l.from before (map kept l.fn.memos.items) →
      SlotsWere b links l.was l.from before (map kept l.left.items);
  taken : (b : Block) (links : List ℕ) (before : Outcomes) → SlotsWere b links l.was l.from before (map kept l.fn.memos.items) →
      WereEach b links (places_from l.rows 0 l.from) before (map kept l.fn.taken.items) →
      WereEach b links (places_from l.rows 0 l.place) before (map kept l.taken.items);
  among : AreAmong l.was (places_from l.rows 0 l.from) (map kept l.fn.taken.items) → AreAmong l.was (places_from l.rows 0 l.place) (map kept l.taken.items);
}
