-- What settling names changes, and which computeds it runs.
use Rattle.std.specs.Prelude.{ℕ, ◌+◌, Bool, false, List, [], ◌∷◌, ◌++◌, map, Option, Some, None, if◌then◌else◌}
use Rattle.sig_base.specs.Values.{same_outcome}
use Rattle.sig_base.specs.declared.value.Outcome.{Outcome}
use Rattle.signal_model.specs.Recipes.{Hosts}
use Rattle.signal_model.specs.Signals.{Signals, changed}
use Rattle.signal_model.specs.Values.{Seen, Evaluation, evaluated}
use Rattle.signal_model.specs.Orders.{Visit, evaluation_order}
use Rattle.signal_model.specs.Memos.{Source, Memo, Entry, Memos, named_now, must_run}

-- a computed that ran, and how
pub record Run : Type 0 where
  pub name : ℕ
  pub evaluation : Evaluation

-- what is kept afterwards, and the runs in order
pub record Settled : Type 0 where
  pub memos : Memos
  pub runs : List Run

-- what was read, with its present number
abbrev pub source_now : Memos → Seen → Source
source_now k s = named_now k s.name

-- whether a memo has the outcome already
abbrev pub has_outcome : Option Memo → Outcome → Bool
has_outcome None o = false
has_outcome (Some m) o = same_outcome m.outcome o

-- A run's memo in place of the earlier one. The number rises where there was none, or one with another outcome.
abbrev pub ran_entry : Memo → Entry → Entry
ran_entry m e = record e { number = e.number + (if has_outcome e.memo m.outcome then 0 else 1); memo = Some m }

-- the memo of a run at present
abbrev pub memo_now : Memos → Outcome → List Source → Memo
memo_now k o sources = record { outcome = o; sources = sources; generation = k.generation; rewired = false }

-- what is kept once a computed has a new memo
abbrev pub with_memo : Memos → ℕ → Outcome → List Source → Memos
with_memo k n o sources = record k { entries = changed (λ (e : Entry). e.name) n (ran_entry (memo_now k o sources)) k.entries }

-- a run: its outcome and its sources are those from scratch
abbrev pub with_run : Memos → ℕ → Evaluation → Memos
with_run k n ran = with_memo k n ran.outcome (map (source_now k) ran.reads)

-- a computed at its place in the order runs where it must
abbrev pub settle_visit : Hosts → Signals → Visit → Settled → Settled
settle_visit hosts w v s =
    if must_run s.memos v.computed.name v.path
    then (let ran = evaluated hosts w v.computed [] in record {
      memos = with_run s.memos v.computed.name ran;
      runs = s.runs ++ record { name = v.computed.name; evaluation = ran } ∷ [];
    })
    else s

-- the visits, one after the other
abbrev pub settle_visits : Hosts → Signals → List Visit → Settled → Settled
settle_visits hosts w [] s = s
settle_visits hosts w (v ∷ vs) s = settle_visits hosts w vs (settle_visit hosts w v s)

-- the names are asked for, one after the other
abbrev pub settled : Hosts → Signals → Memos → List ℕ → Settled
settled hosts w k asked = settle_visits hosts w (evaluation_order hosts w asked) (record { memos = k; runs = [] })
