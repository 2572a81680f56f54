-- Which live signals have one of some signals in the closure of their kept sources, by the seats that a search reached.
use Rattle.std.specs.Prelude.{◌≡◌, ℕ, ◌⊎◌, Bool, true, false, List, ◌++◌, Some}
use Rattle.signal_model.specs.Signals.{is_in, is_there, standing}
use Rattle.signal_model.specs.Memos.{keeps}
use Rattle.signal_model.specs.Marks.{HasBelow}
use Rattle.sig_seats.specs.Seats.{holder}
use Rattle.sig_graph.specs.States.{Seen}

-- a live signal's seat is one of these
pub record HasSeat (g : Seen) (seats : List ℕ) (m : ℕ) : Type 0 where
  pub seat : ℕ
  pub holds : holder g.seats seat ≡ Some m
  pub listed : is_in seat seats ≡ true

-- a signal is one of those that are looked for, or its seat was reached
abbrev pub IsFound : Seen → List ℕ → List ℕ → ℕ → Type 0
IsFound g ns seats m = (is_in m ns ≡ true) ⊎ HasSeat g seats m

-- a signal is none of them, and its seat wasn't reached, unless it is gone
pub record IsUnfound (g : Seen) (ns : List ℕ) (seats : List ℕ) (m : ℕ) : Type 0 where
  pub other : is_in m ns ≡ false
  pub off : (is_there (standing g.state.signals m) ≡ false) ⊎ ((s : ℕ) → holder g.seats s ≡ Some m → is_in s seats ≡ false)

-- one of these is found
pub record SomeFound (g : Seen) (ns : List ℕ) (seats : List ℕ) (names : List ℕ) : Type 0 where
  pub name : ℕ
  pub here : is_in name names ≡ true
  pub found : IsFound g ns seats name

-- none of these is found
abbrev pub NoneFound : Seen → List ℕ → List ℕ → List ℕ → Type 0
NoneFound g ns seats names = (m : ℕ) → is_in m names ≡ true → IsUnfound g ns seats m

-- The seats that were reached are those of the signals that have one of these in the closure of their kept sources: who has one has one of
-- these there, and reached is the seat of each that keeps one of these or one whose seat is reached.
pub record AreReaching (g : Seen) (ns : List ℕ) (seats : List ℕ) : Type 0 where
  pub sound : (m : ℕ) → HasSeat g seats m → HasBelow (λ p. is_in p ns) g.state.memos m
  pub settled : (m p : ℕ) → keeps g.state.memos m p ≡ true → IsFound g ns seats p → HasSeat g seats m

-- Some seats are reached too, behind the others. Who has one of them passes a test.
pub record Adds (g : Seen) (test : ℕ → Bool) (old new : List ℕ) : Type 0 where
  pub added : List ℕ
  pub behind : new ≡ old ++ added
  pub passes : (m : ℕ) → HasSeat g added m → test m ≡ true
