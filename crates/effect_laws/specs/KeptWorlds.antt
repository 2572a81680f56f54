-- What commands keep of the memos.
use Rattle.std.specs.Prelude.{ℕ, Bool, List, [], ◌∷◌}
use Rattle.std.specs.List.{AllByRecursion}
use Rattle.signal_model.specs.Memos.{Memos}
use Rattle.signal_model.specs.Asks.{Moment}
use Rattle.signal_model.specs.Kept.{AreKept, AreGiven}
use Rattle.signal_laws.specs.ChangeLaws.{given_below}
use Rattle.signal_laws.specs.RunLaws.{IsCurrentRun}
use Rattle.effect_model.specs.Worlds.{Environment, Event, ran, changed_signal, World}
use Rattle.effect_model.specs.Runs.{flush}
use Rattle.effect_model.specs.Commands.{Command, new_world, after_command, after_commands}

-- whether a signal's name was given: they are given in order
abbrev pub was_given : World → ℕ → Bool
was_given w n = given_below w.made.signals n

-- the runs that were told, each with the signals of its moment
abbrev pub runs_told : List Event → List Moment
runs_told [] = []
runs_told (ran m ∷ es) = m ∷ runs_told es
runs_told (e ∷ es) = runs_told es

-- the runs and the changes of signals that were told, in order
abbrev pub noted_told : List Event → List Event
noted_told [] = []
noted_told (ran m ∷ es) = ran m ∷ noted_told es
noted_told (changed_signal n how ∷ es) = changed_signal n how ∷ noted_told es
noted_told (e ∷ es) = noted_told es

-- A run of an evaluation that began with sound memos: it had to run at its place, it read only what was current at that moment, and it came
-- to its value from scratch.
pub record IsCurrentMoment (env : Environment) (m : Moment) : Type 0 where
  pub memos : Memos
  pub asked : List ℕ
  pub kept : AreKept env.hosts m.signals memos
  pub current : IsCurrentRun env.hosts m.signals memos asked m.run

-- the memos are sound, each name in use was given, and each run that was told is such a run
pub record IsKeptWorld (env : Environment) (w : World) : Type 0 where
  pub memos : AreKept env.hosts w.signals w.memos
  pub names : AreGiven (was_given w) w.signals w.memos
  pub runs : AllByRecursion (IsCurrentMoment env) (runs_told w.told)

-- so it is at the beginning
abbrev pub NewWorldLaw : Type 0
NewWorldLaw = (env : Environment) (n : ℕ) → IsKeptWorld env (new_world n)

-- so it stays by each command, whatever acts set, rewire and dispose in the middle of a flush
abbrev pub CommandLaw : Type 0
CommandLaw = (env : Environment) (w : World) (c : Command) → IsKeptWorld env w → IsKeptWorld env (after_command env w c)

-- and by the turns of a flush, before pages are brought up to date
abbrev pub FlushLaw : Type 0
FlushLaw = (env : Environment) (w : World) → IsKeptWorld env w → IsKeptWorld env (flush env w).world

-- and so it is after any commands
abbrev pub CommandsLaw : Type 0
CommandsLaw = (env : Environment) (n : ℕ) (cs : List Command) → IsKeptWorld env (after_commands env (new_world n) cs)
