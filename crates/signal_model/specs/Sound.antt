-- What kept memos owe to the signals that stand.
use Rattle.std.specs.Prelude.{◌≡◌, ℕ, ◌≤◌, Bool, true, false, List, [], ◌∷◌, map, slice_index, Option, Some, None}
use Rattle.sig_base.specs.declared.value.Value.{Value}
use Rattle.sig_base.specs.declared.value.Fault.TheVariants.{Gone}
use Rattle.sig_base.specs.declared.value.Outcome.{Outcome}
use Rattle.sig_base.specs.declared.value.Outcome.TheVariants.{Good, Bad}
use Rattle.sig_base.specs.declared.value.Step.{Step}
use Rattle.sig_base.specs.declared.value.Step.TheVariants.{Read, Done, Fail}
use Rattle.sig_base.specs.declared.value.Known.{Known}
use Rattle.signal_model.specs.Recipes.{Hosts, Recipe, recipe_answer}
use Rattle.signal_model.specs.Signals.{Signals, Computed, Stands, IsGone, IsCell, IsComputed, is_in, standing}
use Rattle.signal_model.specs.Values.{Seen, learnt, value_of, reads_of}
use Rattle.signal_model.specs.Memos.{Source, Memo, Memos, number_of, memo_of, source_names, is_cycle, differs, must_run}

-- the outcome that is kept, none where a computed never ran
abbrev pub kept_outcome : Option Memo → Option Outcome
kept_outcome None = None
kept_outcome (Some m) = Some m.outcome

-- what a signal shows, by what stands there and its memo
abbrev pub outcome_here : Stands → Option Memo → Option Outcome
outcome_here IsGone m = Some (Bad Gone)
outcome_here (IsCell c) m = Some (Good c.value)
outcome_here (IsComputed c) m = kept_outcome m

-- What a name shows without an evaluation: gone, the cell's value, or what the computed keeps. A computed that never ran shows nothing.
abbrev pub standing_outcome : Signals → Memos → ℕ → Option Outcome
standing_outcome w k n = outcome_here (standing w n) (memo_of k n)

-- the recipe ends with the outcome
abbrev pub EndsWith : Step → Outcome → Type 0
EndsWith (Done v) o = o ≡ Good v
EndsWith (Fail e) o = o ≡ Bad e
EndsWith (Read s) o = ⊥

-- a source shows something: its fault is the last read and the outcome, and with a good value the recipe goes on
abbrev pub AfterSource : Option Outcome → List Source → Outcome → (Value → Type 0) → Type 0
AfterSource None rest o go = ⊥
AfterSource (Some (Good v)) rest o go = go v
AfterSource (Some (Bad e)) rest o go = (rest ≡ []) × (o ≡ Bad e)

-- a fact, where a test fails
abbrev pub Unless : Bool → Type 0 → Type 0
Unless true P = Unit {0}
Unless false P = P

-- Asked with the outcomes that its sources show, the recipe reads these sources in order, as far as the first that differs. Where none
-- differs it reads nothing else, and ends with the outcome.
abbrev pub Follows : Hosts → Signals → Memos → Recipe → Outcome → List Known → List Source → Type 0
Follows hosts w k r o known [] = EndsWith (recipe_answer hosts r known) o
Follows hosts w k r o known (s ∷ ss) =
    (slot : ℕ) × (recipe_answer hosts r known ≡ Read slot) × (slice_index r.slots slot ≡ s.name)
    × Unless (differs k s) (AfterSource (standing_outcome w k s.name) ss o (λ v. Follows hosts w k r o (learnt known slot v) ss))

-- a number that was read is at most the present one, and gone was read only of what is gone
abbrev pub IsPast : Option ℕ → Option ℕ → Type 0
IsPast None present = present ≡ None
IsPast (Some n) None = Unit {0}
IsPast (Some n) (Some m) = n ≤ m

-- each source was read with such a number
abbrev pub ArePast : Memos → List Source → Type 0
ArePast k [] = Unit {0}
ArePast k (s ∷ ss) = IsPast s.number (number_of k s.name) × ArePast k ss

-- the names that were read
abbrev pub names_of : List Seen → List ℕ
names_of ss = map (λ (s : Seen). s.name) ss

-- a computed that neither must run nor holds `cycle` keeps a source
pub record Keeps (w : Signals) (k : Memos) (p n : ℕ) : Type 0 where
  pub computed : Computed
  pub stands : standing w p ≡ IsComputed computed
  pub memo : Memo
  pub at : memo_of k p ≡ Some memo
  pub fine : is_cycle memo.outcome ≡ false
  pub calm : must_run k p [] ≡ false
  pub kept : is_in n (source_names memo.sources) ≡ true

-- each member of the path, the innermost first, keeps the one before it, and the innermost keeps n
abbrev pub IsKeptPath : Signals → Memos → ℕ → List ℕ → Type 0
IsKeptPath w k n [] = Unit {0}
IsKeptPath w k n (p ∷ ps) = Keeps w k p n × IsKeptPath w k p ps

-- a `cycle` of the present generation is that from scratch
abbrev pub CyclesAreRight : Hosts → Signals → Memos → Type 0
CyclesAreRight hosts w k =
    (n : ℕ) (c : Computed) (m : Memo) → standing w n ≡ IsComputed c → memo_of k n ≡ Some m → is_cycle m.outcome ≡ true →
    m.generation ≡ k.generation → (value_of hosts w n [] ≡ m.outcome) × (source_names m.sources ≡ names_of (reads_of hosts w c))

-- any other memo is what the recipe does on its sources, as far as they are unchanged
abbrev pub MemosFollow : Hosts → Signals → Memos → Type 0
MemosFollow hosts w k =
    (n : ℕ) (c : Computed) (m : Memo) → standing w n ≡ IsComputed c → memo_of k n ≡ Some m → is_cycle m.outcome ≡ false →
    m.rewired ≡ false → Follows hosts w k c.recipe m.outcome [] m.sources

-- each cycle of kept sources has a member that must run or holds `cycle`
abbrev pub KeptPathsEnd : Signals → Memos → Type 0
KeptPathsEnd w k = (n : ℕ) (path : List ℕ) → IsKeptPath w k n path → is_in n path ≡ true → ⊥

-- no memo is of a later generation
abbrev pub GenerationsArePast : Memos → Type 0
GenerationsArePast k = (n : ℕ) (m : Memo) → memo_of k n ≡ Some m → m.generation ≤ k.generation

-- no memo has read a later number
abbrev pub NumbersArePast : Memos → Type 0
NumbersArePast k = (n : ℕ) (m : Memo) → memo_of k n ≡ Some m → ArePast k m.sources

-- what is kept is sound: nothing in it misleads an evaluation
pub record IsSound (hosts : Hosts) (w : Signals) (k : Memos) : Type 0 where
  pub cycles : CyclesAreRight hosts w k
  pub follows : MemosFollow hosts w k
  pub acyclic : KeptPathsEnd w k
  pub present : GenerationsArePast k
  pub past : NumbersArePast k
