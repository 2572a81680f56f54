-- What is done in a batch, and as it ends, is done to signals alone.
use Rattle.std.proofs.Common.{◌≡◌, ℕ, Bool, true, false, cond, [], ◌∷◌, Option, Some, None, refl}
use Rattle.sig_base.specs.declared.value.Value.{Value}
use Rattle.signal_model.specs.Signals.{standing}
use Rattle.effect_model.specs.Worlds as plain
use Rattle.effect_model.specs.Acts.{with_quiet_value}
use Rattle.effect_model.specs.Batches.{Batch, abort, commit, give_back, is_other, replaced_by, set_quietly, with_replacing}
use Rattle.effect_laws.specs.Frames.{IsOfSignals, signal_part, with_part}
use Rattle.effect_laws.proofs.SharedFrames.{framed_quiet, framed_then, part_same}

-- ---- they act on signals

-- a cell has another value where that replaces one
framed_replacing : (n : ℕ) (v : Value) (o : Option Value) → IsOfSignals (with_replacing n v o)
framed_replacing n v None = record { framed = part_same }
framed_replacing n v (Some before) = framed_quiet n v

-- a cell is set in a batch
pub framed_quietly : (env : plain.Environment) (n : ℕ) (v : Value) → IsOfSignals (set_quietly env n v)
framed_quietly env n v = record { framed = λ w. (framed_replacing n v (replaced_by env.slacks (standing w.signals n) v)).framed w }

-- the batch is committed
pub framed_commit : (env : plain.Environment) (b : Batch) → IsOfSignals (commit env b)
framed_commit env b = record { framed = λ w. refl }

-- a cell has its earlier value back
framed_back : (n : ℕ) (v : Value) → IsOfSignals (give_back n v)
framed_back n v = record { framed = λ w. go w (is_other v (standing w.signals n)) }
  where
    go : (w : plain.World) (t : Bool) → cond t (with_quiet_value n v w) w ≡ with_part (cond t (with_quiet_value n v (signal_part w)) (signal_part w)) w
    go w true = (framed_quiet n v).framed w
    go w false = part_same w

-- all of a batch do
pub framed_abort : (b : Batch) → IsOfSignals (abort b)
framed_abort [] = record { framed = part_same }
framed_abort (p ∷ b) = framed_then (give_back p.0 p.1) (abort b) (framed_back p.0 p.1) (framed_abort b)
