-- The journal of what was told.
use Rattle.std.specs.Prelude.{◌≡◌, ℕ, List, [], ◌∷◌, ◌++◌, reverse}
use Rattle.signal_model.specs.Memos.{Memos}
use Rattle.signal_model.specs.Asks.{Moment}
use Rattle.signal_model.specs.Kept.{AreKept}
use Rattle.why_model.specs.Facts.{Fact, was_changed}
use Rattle.why_model.specs.Told.{run_fact, facts_told}
use Rattle.why_laws.specs.Ties.{AreTied}
use Rattle.why_laws.specs.WhyLaws.{IsExplained}
use Rattle.effect_model.specs.Worlds.{Environment, Event, ran, changed_signal, World}
use Rattle.effect_model.specs.Commands.{Command, new_world, after_commands}
use Rattle.effect_laws.specs.KeptWorlds.{was_given}

-- a run of an evaluation that began with sound memos, for which these facts give the cause for which its computed had to run
pub record IsExplainedMoment (env : Environment) (journal : List Fact) (m : Moment) : Type 0 where
  pub memos : Memos
  pub asked : List ℕ
  pub kept : AreKept env.hosts m.signals memos
  pub explained : IsExplained env.hosts m.signals memos asked journal m.run

-- each run among these events is explained by the facts before it
abbrev pub AllExplained : Environment → List Fact → List Event → Type 0
AllExplained env journal [] = Unit {0}
AllExplained env journal (ran m ∷ es) = IsExplainedMoment env journal m × AllExplained env (journal ++ run_fact m.run ∷ []) es
AllExplained env journal (changed_signal n how ∷ es) = AllExplained env (journal ++ was_changed n how ∷ []) es
AllExplained env journal (e ∷ es) = AllExplained env journal es

-- the facts tell of the memos that are kept, and explain each run
pub record IsRecorded (env : Environment) (w : World) : Type 0 where
  pub tied : AreTied (was_given w) w.memos (reverse (facts_told w.told))
  pub explained : AllExplained env [] w.told

-- so it is after any commands
abbrev pub JournalLaw : Type 0
JournalLaw = (env : Environment) (n : ℕ) (cs : List Command) → IsRecorded env (after_commands env (new_world n) cs)

-- where no signal was made nothing is noted, whatever else commands have made
abbrev pub BeginningLaw : Type 0
BeginningLaw = (env : Environment) (n : ℕ) (cs : List Command) → (after_commands env (new_world n) cs).made.signals ≡ 0 →
    facts_told (after_commands env (new_world n) cs).told ≡ []
