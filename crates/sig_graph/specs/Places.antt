-- What holds of a graph's fields between its calls.
use Rattle.std.specs.Prelude.{◌≡◌, ℕ, ◌+◌, ◌<◌, ◌≤◌, Bool, true, List, length, Option, Some}
use Rattle.sig_base.specs.declared.limits.TheConstants.{MOST_NODES}
use Rattle.signal_model.specs.Signals.{is_in}
use Rattle.signal_model.specs.Memos.{source_names, sources_in}
use Rattle.mark_laws.specs.Marked.{relinked}
use Rattle.sig_nodes.specs.declared.node.Node.{Node}
use Rattle.sig_graph.specs.Parts.{cells_of, computeds_of, state_of}
use Rattle.sig_nodes.specs.Nodes.{body_at, change_at, seat_at, is_computed_body, is_live_body, memo_body, slots_body, FewSlotsBody}
use Rattle.sig_seats.specs.Found.{Noted, found_at}
use Rattle.sig_graph.specs.Search.{AreSeated, HasDue}
use Rattle.sig_seats.specs.Seats.{Seating, holder}
use Rattle.sig_graph.specs.States.{State, Seen}
use Rattle.sig_graph.specs.StateMarks.{AreStateMarks}
use Rattle.sig_marks.specs.Tables.{MarkTable, depends, marked_at, stands_at}

-- No counter is above the last number; slots and kept sources are of ids that were given; host formulas have few arguments; each live
-- signal has its own seat, and what has a seat lives.
pub record NodesAgree (nodes : List Node) (seats : Seating) (generation worn : ℕ) : Type 0 where
  pub numbers : (m : ℕ) → change_at nodes m ≤ worn
  pub current : generation ≤ worn
  pub made : length nodes ≤ worn
  pub sources : (n m : ℕ) → is_in m (source_names (sources_in (memo_body (body_at nodes n)))) ≡ true → m < length nodes
  pub slots : (n m : ℕ) → is_in m (slots_body (body_at nodes n)) ≡ true → m < length nodes
  pub few : (n : ℕ) → FewSlotsBody (body_at nodes n)
  pub seated : (n : ℕ) → is_live_body (body_at nodes n) ≡ true → holder seats.holders (seat_at nodes n) ≡ Some n
  pub living : (s n : ℕ) → holder seats.holders s ≡ Some n → (is_live_body (body_at nodes n) ≡ true) × (seat_at nodes n ≡ s)
  pub room : length (cells_of nodes) + length (computeds_of nodes) + seats.free ≡ MOST_NODES
  pub size : length seats.holders ≡ MOST_NODES

-- each node that lives has its place among the marks
pub record KeepsStanding (nodes : List Node) (stands : List Bool) : Type 0 where
  pub size : length stands ≡ length nodes
  pub live : (n : ℕ) → is_live_body (body_at nodes n) ≡ true → stands_at stands n ≡ true

-- what lives notes the computed n as a dependant exactly where n keeps it
abbrev pub AreLinked : List Node → List (List ℕ) → ℕ → Type 0
AreLinked nodes dependants n =
    (m : ℕ) → is_live_body (body_at nodes m) ≡ true → depends dependants m n ≡ is_in m (source_names (sources_in (memo_body (body_at nodes n))))

-- once n has read these, what lives notes n exactly where it was read, and the others as before
pub record LinksAnew (nodes : List Node) (old new : List (List ℕ)) (n : ℕ) (reads : List ℕ) : Type 0 where
  pub len : length new ≡ length old
  pub now : (m d : ℕ) → is_live_body (body_at nodes m) ≡ true → depends new m d ≡ relinked (depends old) n reads m d

-- each node has dependants and a mark, and these are true of the state
pub record KeepsMarks (nodes : List Node) (generation : ℕ) (t : MarkTable) : Type 0 where
  pub links : length t.dependants ≡ length nodes
  pub flags : length t.marked ≡ length nodes
  pub standing : KeepsStanding nodes t.stands
  pub marked : AreStateMarks (state_of nodes generation 0 0) (depends t.dependants) (marked_at t.marked)

-- What searches found is of no later count of changes than the present one, and what they found at that of a computed is so.
pub record KeepsFound (nodes : List Node) (generation worn : ℕ) (found : Noted) : Type 0 where
  pub past : (n : ℕ) → found_at found n ≤ worn
  pub due : (n : ℕ) → is_computed_body (body_at nodes n) ≡ true → found_at found n ≡ worn → HasDue nodes generation n

-- what a search below n needs of them: n is a computed, marks are true, each has its own seat, and what was found is so
pub record CanSearch (nodes : List Node) (generation worn : ℕ) (t : MarkTable) (found : Noted) (n : ℕ) : Type 0 where
  pub live : is_computed_body (body_at nodes n) ≡ true
  pub marks : KeepsMarks nodes generation t
  pub seats : AreSeated nodes MOST_NODES
  pub kept : KeepsFound nodes generation worn found

-- all of them hold
pub record IsGraph (nodes : List Node) (seats : Seating) (generation worn : ℕ) (t : MarkTable) (finds : Noted) : Type 0 where
  pub fields : NodesAgree nodes seats generation worn
  pub marks : KeepsMarks nodes generation t
  pub found : KeepsFound nodes generation worn finds

-- what callers see of a state, its seats, the number of ids that were given and the dependants
abbrev pub seen : State → List (Option ℕ) → ℕ → List (List ℕ) → Seen
seen s seats given dependants = record { state = s; seats = seats; given = given; order = dependants }
