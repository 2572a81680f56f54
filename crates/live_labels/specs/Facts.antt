-- What is noted of the events of a world.
use Rattle.std.specs.Prelude.{List, [], ◌∷◌}
use Rattle.sig_effect.specs.declared.events.Event.{Event}
use Rattle.sig_effect.specs.declared.events.Event.TheVariants as event
use Rattle.why_model.specs.Facts.{Fact, has_run, was_changed}
use Rattle.live_why.specs.Views.{note_of}

-- runs and changes of signals are noted, and nothing else
abbrev pub facts_noted : Event → List Fact
facts_noted (event.Run n) = has_run (note_of n) ∷ []
facts_noted (event.Change n how) = was_changed n how ∷ []
facts_noted _ = []
