-- Two computeds that read each other. Settled again in the same generation, each stops while its source is being evaluated: a kept `cycle`
-- doesn't run for a source that has moved.
use Rattle.std.specs.Prelude.{◌≡◌, [], ◌∷◌, map, true, None, refl}
use Rattle.sig_base.specs.declared.value.Step.TheVariants.{Read}
use Rattle.signal_model.specs.Recipes.{Hosts, host}
use Rattle.signal_model.specs.Signals.{Signals}
use Rattle.signal_model.specs.Memos.{Memos, sources_of, some_moved}
use Rattle.signal_model.specs.Settling.{Run}
use Rattle.sig_computed.specs.Steps.{Looking, LookedAt, Underway, begun}
use Rattle.sig_computed.specs.StepLaws.{stepped_times}

-- the first slot is read, and read again
abbrev reads_first : Hosts
reads_first place known = Read 0

-- each of the two has the other as its only slot
abbrev pair : Signals
pair = record {
  cells = [];
  computeds = record { name = 1; recipe = record { expression = host 0; slots = 2 ∷ [] } } ∷ record {
    name = 2;
    recipe =
        record { expression = host 0; slots = 1 ∷ [] };
  } ∷ [];
}

-- neither has run
abbrev not_run : Memos
not_run = record { generation = 0; entries = record { name = 1; number = 0; memo = None } ∷ record { name = 2; number = 0; memo = None } ∷ [] }

-- the first is asked for
abbrev first : Underway
first = stepped_times 9 reads_first pair (begun not_run (1 ∷ []))

-- both run, the one that is read before its reader
both_run : (first.stack ≡ []) × (map (λ (r : Run). r.name) first.runs ≡ 2 ∷ 1 ∷ [])
both_run = (refl, refl)

-- asked for again, the second has looked at its source, which is being evaluated
looked_again : (stepped_times 3 reads_first pair (begun first.memos (1 ∷ []))).stack
    ≡ record { name = 2; phase = Looking 1 } ∷ record { name = 1; phase = LookedAt 0 } ∷ []
looked_again = refl

-- that source has moved
source_moved : some_moved first.memos (2 ∷ 1 ∷ []) (sources_of first.memos 2) ≡ true
source_moved = refl

-- and still it stops
stops_again : (stepped_times 4 reads_first pair (begun first.memos (1 ∷ []))).stack ≡ record { name = 1; phase = LookedAt 0 } ∷ []
stops_again = refl

-- nothing has run
none_run : stepped_times 9 reads_first pair (begun first.memos (1 ∷ []))
    ≡ record { memos = first.memos; runs = []; visited = 1 ∷ 2 ∷ []; stack = []; asked = [] }
none_run = refl
