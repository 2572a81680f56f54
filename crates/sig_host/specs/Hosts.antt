-- What host formulas mean, and what a shelf keeps of them.
use Rattle.std.specs.Prelude.{◌≡◌, ◌-◌, ◌+◌, ◌^◌, max, ℕ, suc, Bool, true, false, List, [], ◌∷◌, map, Option, Some, None, slice_get, slice_set, unwrap_or}
use Rattle.std.specs.Prelude.{if◌then◌else◌}
use Rattle.sig_base.specs.declared.value.Known.{Known}
use Rattle.sig_base.specs.declared.value.Step.{Step}
use Rattle.signal_model.specs.Recipes.{Hosts, no_hosts}
use Rattle.signal_model.specs.Asks.{Moment, asks_of}

-- the last value of a number of asks
abbrev pub last_ask : ℕ
last_ask = 2 ^ 128 - 1

-- what a host formula answers to the values known so far
abbrev pub Meaning : Type 0
Meaning = List Known → Step

-- the meanings of host formulas that are handed in as a list
abbrev pub hosts_of : List Meaning → Hosts
hosts_of meanings place = unwrap_or (slice_get meanings place) (no_hosts place)

-- each formula that is there answers as its place does
pub record AnswersBy (hosts : Hosts) (meanings : List (Option Meaning)) : Type 0 where
  pub each : (place : ℕ) (f : Meaning) → slice_get meanings place ≡ Some (Some f) → f ≡ hosts place

-- what is known of a place: whether its formula is there, and how often that was asked, also where it was dropped since
pub record HostPlace : Type 0 where
  pub there : Bool
  pub asks : ℕ

-- what a place past the last one counts as
abbrev pub no_place : HostPlace
no_place = record { there = false; asks = 0 }

-- a formula that was never asked
abbrev pub unasked_place : HostPlace
unasked_place = record { there = true; asks = 0 }

-- the count of a formula that is there
abbrev pub count_there : HostPlace → Option ℕ
count_there p = if p.there then Some p.asks else None

-- the kept counts of the formulas that are there are how often they have answered
pub record IsCounted (answered : List (Option ℕ)) (asked : List HostPlace) : Type 0 where
  pub same : answered ≡ map count_there asked

-- what is known of the place of a number
abbrev pub place_at : List HostPlace → ℕ → HostPlace
place_at asked place = unwrap_or (slice_get asked place) no_place

-- whether a formula is there
abbrev pub is_there : List HostPlace → ℕ → Bool
is_there asked place = (place_at asked place).there

-- the number of asks of a place
abbrev pub count_at : List HostPlace → ℕ → ℕ
count_at asked place = (place_at asked place).asks

-- so many asks more at a place
abbrev pub asked_more_at : List HostPlace → ℕ → ℕ → List HostPlace
asked_more_at asked place n = slice_set asked place (record { there = is_there asked place; asks = count_at asked place + n })

-- the formula of a place is gone, and its count is kept
abbrev pub dropped_at : List HostPlace → ℕ → List HostPlace
dropped_at asked place = slice_set asked place (record { there = false; asks = count_at asked place })

-- the most that any formula was asked
abbrev pub most_asked : List HostPlace → ℕ
most_asked [] = 0
most_asked (p ∷ ps) = max p.asks (most_asked ps)

-- a place after these runs, which ask the formula that is there
abbrev pub place_after : List Moment → ℕ → HostPlace → HostPlace
place_after runs place p = if p.there then record p { asks = p.asks + asks_of place runs } else p

-- the same of the places from one on
abbrev pub places_after : List Moment → ℕ → List HostPlace → List HostPlace
places_after runs place [] = []
places_after runs place (p ∷ ps) = place_after runs place p ∷ places_after runs (suc place) ps
