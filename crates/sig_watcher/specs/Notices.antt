-- Who is told of a change, and what is told.
use Rattle.std.specs.Prelude.{ℕ, zero, suc, Bool, false, List, [], ◌∷◌, if◌then◌else◌}
use Rattle.effect_model.specs.Worlds.{Watcher}
use Rattle.sig_watcher.specs.declared.recipients.Told.{Told}
use Rattle.sig_watcher.specs.Tables.{waiting}

-- the entry that tells of a watcher: its number, and whether its try was refused, which is so for each that tries
abbrev pub told_entry : Watcher → Told
told_entry x = record { watcher = x.number; refused = x.tries }

-- whether the watcher at a place passes a test
abbrev pub passes_at : (Watcher → Bool) → ℕ → List Watcher → Bool
passes_at test p [] = false
passes_at test zero (x ∷ xs) = test x
passes_at test (suc p) (x ∷ xs) = passes_at test p xs

-- what is told of the watcher at a place, where it is notified
abbrev pub told_at : Bool → ℕ → List Watcher → List Told
told_at hit p [] = []
told_at hit zero (x ∷ xs) = if hit then told_entry x ∷ [] else []
told_at hit (suc p) (x ∷ xs) = told_at hit p xs

-- who is notified is waiting
abbrev pub waiting_after : Bool → Watcher → Watcher
waiting_after hit x = if hit then waiting x else x
