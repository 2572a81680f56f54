-- What an evaluation rests on: the outcomes that it read.
use Rattle.std.specs.Prelude.{◌≡◌, ℕ, ◌+◌, ◌<◌, ◌==◌, ◌||◌, List, [], ◌∷◌, ◌++◌, length, take, Option, if◌then◌else◌}
use Rattle.std.specs.List.{AllByRecursion}
use Rattle.sig_base.specs.declared.value.Fault.TheVariants.{Gone}
use Rattle.sig_base.specs.declared.value.Outcome.{Outcome}
use Rattle.sig_base.specs.declared.value.Outcome.TheVariants.{Bad}
use Rattle.sig_formula.specs.Trees.{Tree}
use Rattle.sig_formula.specs.declared.formula.RowRef.{RowRef}
use Rattle.signal_model.specs.Recipes.{Hosts, Recipe, formula}
use Rattle.signal_model.specs.Signals.{is_in}
use Rattle.signal_model.specs.Values.{Seen, Evaluation, asked_from}
use Rattle.signal_model.specs.Sound.{names_of}

-- the outcome that was read of a name, and for any other name that of what is gone
abbrev pub read_of : List Seen → ℕ → Outcome
read_of [] n = Bad Gone
read_of (s ∷ ss) n = if n == s.name then s.outcome else read_of ss n

-- each name that was read has the outcome that was read of it
abbrev pub HaveOutcomes : (ℕ → Outcome) → List Seen → Type 0
HaveOutcomes source ss = AllByRecursion (λ (s : Seen). source s.name ≡ s.outcome) ss

-- asked with the outcomes that it read, the recipe reads just these, and comes to that
abbrev pub IsReading : Hosts → Recipe → Evaluation → Type 0
IsReading hosts r e = asked_from hosts r (read_of e.reads) [] ≡ e

-- an evaluation is a reading, of the outcomes that its names have
abbrev pub ReadingLaw : Type 0
ReadingLaw = (hosts : Hosts) (r : Recipe) (source : ℕ → Outcome) →
    IsReading hosts r (asked_from hosts r source []) × HaveOutcomes source (asked_from hosts r source []).reads

-- where the names that were read have the outcomes that were read, the evaluation is the same
abbrev pub SameReadsLaw : Type 0
SameReadsLaw = (hosts : Hosts) (r : Recipe) (e : Evaluation) (source : ℕ → Outcome) → IsReading hosts r e → HaveOutcomes source e.reads →
    asked_from hosts r source [] ≡ e

-- where the first so many have, it reads these names first, and then the next
abbrev pub NextReadLaw : Type 0
NextReadLaw = (hosts : Hosts) (r : Recipe) (e : Evaluation) (source : ℕ → Outcome) (count : ℕ) → IsReading hosts r e →
    HaveOutcomes source (take count e.reads) → count < length e.reads →
    take (count + 1) (names_of (asked_from hosts r source []).reads) ≡ take (count + 1) (names_of e.reads)

-- a formula asks no host formula
abbrev pub NoHostLaw : Type 0
NoHostLaw = (hosts others : Hosts) (row : Option RowRef) (t : Tree) (slots : List ℕ) (source : ℕ → Outcome) →
    asked_from hosts (record { expression = formula row t; slots = slots }) source []
    ≡ asked_from others (record { expression = formula row t; slots = slots }) source []

-- ---- names in the order of their first reading

-- a name joins those before, unless it is one of them
abbrev pub with_name : List ℕ → ℕ → List ℕ
with_name ns n = if is_in n ns then ns else ns ++ n ∷ []

-- so do names, one after the other
abbrev pub firsts_after : List ℕ → List ℕ → List ℕ
firsts_after ns [] = ns
firsts_after ns (x ∷ xs) = firsts_after (with_name ns x) xs

-- the names are those before and those of the list
abbrev pub FirstsHoldLaw : Type 0
FirstsHoldLaw = (n : ℕ) (ns xs : List ℕ) → is_in n (firsts_after ns xs) ≡ (is_in n ns || is_in n xs)

-- the names of two lists are those of the one and then of the other
abbrev pub FirstsAppendLaw : Type 0
FirstsAppendLaw = (ns xs ys : List ℕ) → firsts_after ns (xs ++ ys) ≡ firsts_after (firsts_after ns xs) ys

-- the first so many names of a list, and then the whole list, are the whole list
abbrev pub FirstsFrontLaw : Type 0
FirstsFrontLaw = (ns xs : List ℕ) (count : ℕ) → firsts_after (firsts_after ns (take count xs)) xs ≡ firsts_after ns xs
