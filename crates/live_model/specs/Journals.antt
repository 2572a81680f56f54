-- The journal of a script, and what `why` tells by it.
use Rattle.std.specs.Prelude.{ℕ, Bool, false, List, [], ◌∷◌, Option, Some, None}
use Rattle.std.specs.Option.{option_map}
use Rattle.effect_model.specs.Worlds.{Event}
use Rattle.why_model.specs.declared.causes.Cause.{Cause}
use Rattle.why_model.specs.declared.causes.Cause.TheVariants as cause
use Rattle.why_model.specs.declared.causes.Link.{Link}
use Rattle.why_model.specs.Records.{Journal, with_facts}
use Rattle.why_model.specs.Told.{facts_told}
use Rattle.why_model.specs.Chains.{chain}
use Rattle.live_entries.specs.declared.entry.Reason.{Reason}
use Rattle.live_entries.specs.declared.entry.Reason.TheVariants as reason
use Rattle.live_entries.specs.declared.entry.Entry.{Entry}
use Rattle.live_entries.specs.declared.entry.Entry.TheVariants as entry
use Rattle.live_model.specs.Labels.{name_at}

-- what was told is noted, once a journal was begun
abbrev pub noting : List Event → Option Journal → Option Journal
noting es j = option_map (with_facts (facts_told es)) j

-- the chain of a computed by the journal that was begun; none where none was, or it never ran
abbrev pub chain_in : Option Journal → ℕ → Option (List Link)
chain_in None i = None
chain_in (Some j) i = chain j.facts i

-- whether the journal that was begun has no place for a fact that came
abbrev pub is_full : Option Journal → Bool
is_full None = false
is_full (Some j) = j.full

-- why, by the names of signals
abbrev pub reason_of : List (List ℕ) → Cause → Reason
reason_of names cause.First = reason.First
reason_of names cause.Cycle = reason.Cycle
reason_of names (cause.Rewired f) = reason.Rewired f
reason_of names (cause.Changed m f) = reason.Changed (name_at names m) f
reason_of names cause.Evaluating = reason.Evaluating

-- the name of the computed whose run is the next link: that of the source which was moved
abbrev pub name_next : List (List ℕ) → List ℕ → Cause → List ℕ
name_next names n (cause.Changed m f) = name_at names m
name_next names n _ = n

-- the links of a chain from a computed on, each under the name of the computed that ran
abbrev pub link_entries : List (List ℕ) → List ℕ → List Link → List Entry
link_entries names n [] = []
link_entries names n (l ∷ ls) = entry.Why n l.run (reason_of names l.cause) ∷ link_entries names (name_next names n l.cause) ls

-- what `why` tells of a computed
abbrev pub why_entries : List (List ℕ) → List ℕ → Option (List Link) → List Entry
why_entries names n None = []
why_entries names n (Some ls) = link_entries names n ls
