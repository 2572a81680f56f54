-- What settling tells of its runs, and what it leaves.
use Rattle.std.specs.Prelude.{◌≡◌, ℕ, ◌<◌, ◌^◌, true, false, List, ◌++◌, map}
use Rattle.std.specs.List.{All}
use Rattle.sig_base.specs.declared.value.Outcome.{Outcome}
use Rattle.signal_model.specs.Recipes.{Hosts}
use Rattle.signal_model.specs.Signals.{Signals}
use Rattle.signal_model.specs.Memos.{Memos}
use Rattle.signal_model.specs.Settling.{Run, settled}
use Rattle.signal_model.specs.Sound.{names_of}
use Rattle.sig_graph.specs.States.{Seen, State, is_computing, is_given}
use Rattle.sig_computed.specs.declared.notes.RunNote.{RunNote}

-- what is told of a run: who ran, what it read in order, and what it came to
pub record Note : Type 0 where
  pub name : ℕ
  pub reads : List ℕ
  pub outcome : Outcome

-- a note as the code has it
abbrev pub note_of : RunNote → Note
note_of n = record { name = n.id; reads = n.reads.items; outcome = n.outcome }

-- the note of a run
abbrev pub run_note : Run → Note
run_note r = record { name = r.name; reads = names_of r.evaluation.reads; outcome = r.evaluation.outcome }

-- a note's computed and what it read were given by the graph
pub record IsNoteGiven (g : Seen) (n : Note) : Type 0 where
  pub name : is_given g n.name ≡ true
  pub reads : All (λ m. is_given g m ≡ true) n.reads

-- so were those of each note
abbrev pub AreNotesGiven : Seen → List Note → Type 0
AreNotesGiven g ns = All (IsNoteGiven g) ns

-- What settling names leaves: what is kept, and behind the notes before it one of each run, in order.
pub record IsSettling (hosts : Hosts) (w : Signals) (k : Memos) (asked : List ℕ) (before after : List Note) (kept : Memos) : Type 0 where
  pub memos : kept ≡ (settled hosts w k asked).memos
  pub notes : after ≡ before ++ map run_note (settled hosts w k asked).runs

-- no computed is being evaluated
abbrev pub IsIdle : State → Type 0
IsIdle s = (n : ℕ) → is_computing s n ≡ false

-- no counter has come to half of its range, so none can come to its end in one call
abbrev pub HasRoom : State → Type 0
HasRoom s = s.worn < 2 ^ 127
