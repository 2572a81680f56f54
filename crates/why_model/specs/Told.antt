-- The facts of what is told.
use Rattle.std.specs.Prelude.{List, [], ◌∷◌}
use Rattle.signal_model.specs.Settling.{Run}
use Rattle.signal_model.specs.Sound.{names_of}
use Rattle.effect_model.specs.Worlds.{Event, ran, changed_signal}
use Rattle.why_model.specs.Facts.{Fact, was_changed, has_run}

-- a run, as it is noted
abbrev pub run_fact : Run → Fact
run_fact r = has_run (record { name = r.name; reads = names_of r.evaluation.reads; outcome = r.evaluation.outcome })

-- the facts of what was told, in order: its changes of signals and its runs
abbrev pub facts_told : List Event → List Fact
facts_told [] = []
facts_told (ran m ∷ es) = run_fact m.run ∷ facts_told es
facts_told (changed_signal n how ∷ es) = was_changed n how ∷ facts_told es
facts_told (e ∷ es) = facts_told es
