-- Facts as the definitions have them.
use Rattle.std.specs.Prelude.{ℕ, List, map, reverse, take}
use Rattle.why_model.specs.Facts as plain
use Rattle.why_model.specs.Facts.{Note, was_changed, has_run}
use Rattle.sig_computed.specs.declared.notes.RunNote.{RunNote}
use Rattle.live_why.specs.declared.facts.Fact.{Fact}
use Rattle.live_why.specs.declared.facts.Fact.TheVariants.{Change, Run}

-- a note
abbrev pub note_of : RunNote → Note
note_of n = record { name = n.id; reads = n.reads.items; outcome = n.outcome }

-- a fact
abbrev pub fact_of : Fact → plain.Fact
fact_of (Change n how) = was_changed n how
fact_of (Run r) = has_run (note_of r)

-- facts
abbrev pub facts_of : List Fact → List plain.Fact
facts_of fs = map fact_of fs

-- so many facts, the last one first
unfoldable pub past : List Fact → ℕ → List plain.Fact
past fs i = reverse (map fact_of (take i fs))
