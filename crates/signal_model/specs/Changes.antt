-- How the signals and what is kept of them change between evaluations.
use Rattle.std.specs.Prelude.{ℕ, ◌+◌, true, [], ◌∷◌, ◌++◌, length, Option, Some, None}
use Rattle.sig_base.specs.declared.value.Value.{Value}
use Rattle.signal_model.specs.Recipes.{Recipe}
use Rattle.signal_model.specs.Signals.{Signals, Cell, Computed, changed, without}
use Rattle.signal_model.specs.Memos.{Memo, Entry, Memos}

-- nothing stands yet
abbrev pub no_signals : Signals
no_signals = record { cells = []; computeds = [] }

-- and nothing is kept
abbrev pub no_memos : Memos
no_memos = record { generation = 0; entries = [] }

-- how many signals stand
abbrev pub live_count : Signals → ℕ
live_count w = length w.cells + length w.computeds

-- a cell is made
abbrev pub with_cell : Signals → Cell → Signals
with_cell w c = record w { cells = w.cells ++ c ∷ [] }

-- a computed is made
abbrev pub with_computed : Signals → Computed → Signals
with_computed w c = record w { computeds = w.computeds ++ c ∷ [] }

-- a made signal begins with the number 0, and has not run
abbrev pub after_making : Memos → ℕ → Memos
after_making k n = record k { entries = k.entries ++ record { name = n; number = 0; memo = None } ∷ [] }

-- a cell is set, or its rows are edited: it has the new value
abbrev pub with_value : Signals → ℕ → Value → Signals
with_value w n v = record w { cells = changed (λ (c : Cell). c.name) n (λ c. record c { value = v }) w.cells }

-- an entry with the next number
abbrev pub raised : Entry → Entry
raised e = record e { number = e.number + 1 }

-- the same where the set or the edit is accepted: the cell's number and the generation rise
abbrev pub after_change : Memos → ℕ → Memos
after_change k n = record { generation = k.generation + 1; entries = changed (λ (e : Entry). e.name) n raised k.entries }

-- a computed has another recipe
abbrev pub with_recipe : Signals → ℕ → Recipe → Signals
with_recipe w n r = record w { computeds = changed (λ (c : Computed). c.name) n (λ c. record c { recipe = r }) w.computeds }

-- a memo, if there is one, is of an earlier recipe
abbrev pub memo_rewired : Option Memo → Option Memo
memo_rewired None = None
memo_rewired (Some m) = Some (record m { rewired = true })

-- an entry with the next number, and its memo
abbrev pub entry_rewired : Entry → Entry
entry_rewired e = record e { number = e.number + 1; memo = memo_rewired e.memo }

-- its number and the generation rise, and its memo is of an earlier recipe
abbrev pub after_rewiring : Memos → ℕ → Memos
after_rewiring k n = record { generation = k.generation + 1; entries = changed (λ (e : Entry). e.name) n entry_rewired k.entries }

-- a signal is disposed
abbrev pub without_signal : Signals → ℕ → Signals
without_signal w n = record { cells = without (λ (c : Cell). c.name) n w.cells; computeds = without (λ (c : Computed). c.name) n w.computeds }

-- its entry goes, so it has no number, and the generation rises
abbrev pub after_disposal : Memos → ℕ → Memos
after_disposal k n = record { generation = k.generation + 1; entries = without (λ (e : Entry). e.name) n k.entries }
