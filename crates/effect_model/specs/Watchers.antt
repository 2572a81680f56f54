-- What watchers watch, and what is pending of it.
use Rattle.std.specs.Prelude.{ℕ, ◌==◌, ◌&&◌, not, Bool, true, false, List, [], ◌∷◌, if◌then◌else◌}
use Rattle.std.specs.List.{filter}
use Rattle.signal_model.specs.Signals.{Signals, is_in, is_computed, standing}
use Rattle.signal_model.specs.Memos.{Memos}
use Rattle.signal_model.specs.Marks.{Mark, Clean, Checked, Dirty, mark_of}
use Rattle.effect_model.specs.Owners.{nothing}
use Rattle.effect_model.specs.Worlds.{Watcher, World}

-- the signals that the watcher of a number watches
abbrev pub signals_at : List Watcher → ℕ → List ℕ
signals_at [] n = []
signals_at (x ∷ xs) n = if n == x.number then x.signals else signals_at xs n

-- whether the watcher of a number watches a signal
abbrev pub watches : List Watcher → ℕ → ℕ → Bool
watches xs n m = is_in m (signals_at xs n)

-- nothing has to be done before an outcome is given again
abbrev pub is_clean : Mark → Bool
is_clean Clean = true
is_clean Checked = false
is_clean Dirty = false

-- whether a signal is a computed whose mark isn't clean
abbrev pub is_pending : Signals → Memos → ℕ → Bool
is_pending w k n = is_computed (standing w n) && not (is_clean (mark_of w k n))

-- the pending ones among these
abbrev pub pending_of : Signals → Memos → List ℕ → List ℕ
pending_of w k ns = filter (is_pending w k) ns

-- Between two commands nothing is left to tell. Where nothing is made inside an owner, it isn't kept what stands at the top either.
abbrev pub signals_at_rest : World → World
signals_at_rest w = record w { owned = nothing; told = [] }
