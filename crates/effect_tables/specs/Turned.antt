-- A flush, turn by turn.
use Rattle.std.specs.Prelude.{◌≡◌, ℕ, zero, suc, ◌+◌, ◌-◌, ◌<◌, true, false}
use Rattle.effect_model.specs.Worlds.{Environment, World}
use Rattle.effect_model.specs.Runs.{Flushed, flush, flush_within, turn}

-- the world after so many turns
abbrev pub after_turns : ℕ → Environment → World → World
after_turns zero env w = w
after_turns (suc made) env w = (turn env (after_turns made env w)).world

-- how a flush ends that has made so many turns before
abbrev pub added : ℕ → Flushed → Flushed
added made f = record f { turns = f.turns + made }

-- As long as fewer turns were made than a flush makes at most, it goes on with another one, and ends where that runs nothing.
pub record GoesOn (env : Environment) (w : World) (made : ℕ) : Type 0 where
  pub ran : (turn env (after_turns made env w)).ran ≡ true → flush env w ≡ added made (flush_within (100 - made) env (after_turns made env w)) →
      flush env w ≡ added (made + 1) (flush_within (100 - (made + 1)) env (after_turns (made + 1) env w))
  pub ends : (turn env (after_turns made env w)).ran ≡ false → flush env w ≡ added made (flush_within (100 - made) env (after_turns made env w)) →
      flush env w ≡ record { world = after_turns (made + 1) env w; turns = made; refused = false }

abbrev pub FlushesByTurns : Type 0
FlushesByTurns = (env : Environment) (w : World) (made : ℕ) → made < 100 → GoesOn env w made
