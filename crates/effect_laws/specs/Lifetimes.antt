-- What lives, what has ended, and what is owned.
use Rattle.std.specs.Prelude.{◌≡◌, ℕ, ◌+◌, ◌≤◌, List}
use Rattle.effect_model.specs.Owners.{Thing, the_owner, the_effect}
use Rattle.effect_model.specs.Worlds.{Environment, World}
use Rattle.effect_model.specs.Commands.{Command, new_world, after_commands}
use Rattle.effect_laws.specs.Rolls.{bit, roll_of, alive, was_made, times, ends_of}

-- each thing is accounted for
pub record AreAccounted (w : World) : Type 0 where
  -- what was made lives or has ended, once, and nothing else does
  pub once : (t : Thing) → ends_of t w.told + alive t (roll_of w) ≡ bit (was_made t w.made)
  -- what is owned lives, and is owned once
  pub owned : (t : Thing) → times t w.owned ≤ alive t (roll_of w)
  -- each effect and each owner that lives stands there, so what it made is found under it
  pub effects : (n : ℕ) → alive (the_effect n) (roll_of w) ≤ times (the_effect n) w.owned
  pub owners : (n : ℕ) → alive (the_owner n) (roll_of w) ≤ times (the_owner n) w.owned

-- so it is after any commands
abbrev pub LifeLaw : Type 0
LifeLaw = (env : Environment) (n : ℕ) (cs : List Command) → AreAccounted (after_commands env (new_world n) cs)
