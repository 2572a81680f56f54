-- What a computed reads in one go: the slots of its formula that are ready, one after the other.
use Rattle.std.specs.Prelude.{◌≡◌, ℕ, Bool, true, false, List, [], ◌∷◌, ◌++◌, map, length, slice_get, slice_index, Some, None, is_some}
use Rattle.sig_base.specs.declared.value.Value.{Value}
use Rattle.sig_base.specs.declared.value.Value.TheVariants as value
use Rattle.sig_base.specs.declared.value.Known.{Known}
use Rattle.sig_base.specs.declared.value.Outcome.{Outcome}
use Rattle.sig_base.specs.declared.value.Outcome.TheVariants.{Good}
use Rattle.sig_formula.specs.declared.evaluate.FormulaStep.TheVariants.{Ask}
use Rattle.sig_formula.specs.declared.parts.Part.{Part}
use Rattle.sig_formula.specs.declared.parts.Part.TheVariants as part
use Rattle.sig_formula.specs.Evaluation.{formula_step}
use Rattle.sig_formula.specs.Trees.{Tree}
use Rattle.signal_model.specs.Recipes.{Recipe, IsUnknownSlot}
use Rattle.signal_model.specs.Signals.{Stands, is_computed, standing}
use Rattle.signal_model.specs.Memos.{memo_of}
use Rattle.signal_model.specs.Marks.{mark_of}
use Rattle.signal_model.specs.Sound.{kept_outcome}
use Rattle.signal_model.specs.Values.{learnt}
use Rattle.sig_marks.specs.Tables.{marked_at}
use Rattle.sig_nodes.specs.declared.answers.Asked.TheVariants.{Slot as SlotAsked, Ended}
use Rattle.sig_nodes.specs.declared.node.Node.{Node}
use Rattle.sig_graph.specs.declared.reading.Onward.{Onward}
use Rattle.sig_graph.specs.declared.reading.Onward.TheVariants as onward
use Rattle.sig_graph.specs.declared.reading.Reached.{Reached}
use Rattle.sig_graph.specs.declared.reading.Reached.TheVariants as reached
use Rattle.sig_graph.specs.declared.reading.Walked.{Walked}
use Rattle.sig_graph.specs.declared.reading.Walked.TheVariants as walked
use Rattle.sig_nodes.specs.Answers.{host_here, shown_here, slots_here, IsAnswerHere, IsAnswerOf}
use Rattle.sig_nodes.specs.Reading.{IsNeeded}
use Rattle.sig_graph.specs.Looks.{is_clean_mark}
use Rattle.sig_nodes.specs.Nodes.{body_at, is_computed_body, known_body, shown_body}
use Rattle.sig_graph.specs.States.{State, is_computing}

-- a slot that was read, with its value, and the signal that it stands for
pub record SlotRead : Type 0 where
  pub known : Known
  pub name : ℕ

-- The slot that a computed's formula needs next, and what it is read as without a look below: the signal is no computed, or is neither being
-- evaluated nor marked, and it shows a good value.
pub record IsReadNext (s : State) (id : ℕ) (known : List Known) (r : SlotRead) : Type 0 where
  pub asked : (o : Outcome) → IsAnswerHere (standing s.signals id) known (SlotAsked r.known.slot) o
  pub judged : IsUnknownSlot (length (slots_here (standing s.signals id))) r.known.slot known
  pub name : r.name ≡ slice_index (slots_here (standing s.signals id)) r.known.slot
  pub ready : is_computed (standing s.signals r.name) ≡ true →
      (is_computing s r.name ≡ false) × (is_clean_mark (mark_of s.signals s.memos r.name) ≡ true)
  pub shown : shown_here (standing s.signals r.name) (is_computing s r.name) (kept_outcome (memo_of s.memos r.name)) ≡ Good r.known.value

-- these are read one after the other, each once the ones before are known
abbrev pub AreReadNext : State → ℕ → List Known → List SlotRead → Type 0
AreReadNext s id known [] = Unit {0}
AreReadNext s id known (r ∷ rs) = IsReadNext s id known r × AreReadNext s id (learnt known r.known.slot r.known.value) rs

-- A slot of a computed is read without a look below, as such a value: its signal is no computed, or is neither being evaluated nor marked, and it
-- shows this one.
pub record IsSlotReady (s : State) (id : ℕ) (r : SlotRead) : Type 0 where
  pub name : r.name ≡ slice_index (slots_here (standing s.signals id)) r.known.slot
  pub ready : is_computed (standing s.signals r.name) ≡ true →
      (is_computing s r.name ≡ false) × (is_clean_mark (mark_of s.signals s.memos r.name) ≡ true)
  pub shown : shown_here (standing s.signals r.name) (is_computing s r.name) (kept_outcome (memo_of s.memos r.name)) ≡ Good r.known.value

-- A slot of a computed with a formula is read so, and put behind what is known and the names of what was read.
pub record HasReadOne (s : State) (id slot : ℕ) (known : List Known) (reads : List ℕ) (known' : List Known) (reads' : List ℕ) : Type 0 where
  pub read : SlotRead
  pub same : read.known.slot ≡ slot
  pub knows : known' ≡ known ++ read.known ∷ []
  pub names : reads' ≡ reads ++ read.name ∷ []
  pub formula : host_here (standing s.signals id) ≡ None
  pub ready : IsSlotReady s id read

-- where it is read; else all is left as it was
abbrev pub IsReadOne : Bool → State → ℕ → ℕ → List Known → List ℕ → List Known → List ℕ → Type 0
IsReadOne true s id slot known reads known' reads' = HasReadOne s id slot known reads known' reads'
IsReadOne false s id slot known reads known' reads' = (known' ≡ known) × (reads' ≡ reads)

-- The values that are known, and the names of what was read, before and after some slots were read.
pub record HasReadOn (s : State) (id : ℕ) (known : List Known) (reads : List ℕ) (known' : List Known) (reads' : List ℕ) : Type 0 where
  pub more : List SlotRead
  pub knows : known' ≡ known ++ map (λ (r : SlotRead). r.known) more
  pub names : reads' ≡ reads ++ map (λ (r : SlotRead). r.name) more
  pub next : AreReadNext s id known more

-- what reading on comes to: the formula's end with its outcome, or the slot that it needs next
abbrev pub IsReachedHere : Reached → Stands → List Known → Outcome → Type 0
IsReachedHere reached.Ended st known o = IsAnswerHere st known Ended o
IsReachedHere (reached.Needs n) st known o =
    ((p : Outcome) → IsAnswerHere st known (SlotAsked n) p) × IsUnknownSlot (length (slots_here st)) n known
IsReachedHere reached.Left st known o = Unit {0}

-- what it counts beside its reads
abbrev pub reached_steps : Reached → ℕ
reached_steps reached.Ended = 1
reached_steps (reached.Needs n) = 1
reached_steps reached.Left = 0

-- a signal that is read at once, and its value
pub record IsReady (xs : List Node) (marked : List Bool) (n : ℕ) (v : Value) : Type 0 where
  pub shown : shown_body (body_at xs n) ≡ Good v
  pub calm : is_computed_body (body_at xs n) ≡ true → (is_some (known_body (body_at xs n)) ≡ false) × (marked_at marked n ≡ false)

-- a slot that a recipe needs next and that is read at once
pub record IsReadHere (xs : List Node) (marked : List Bool) (c : Recipe) (known : List Known) (r : SlotRead) : Type 0 where
  pub asked : (o : Outcome) → IsAnswerOf c known (SlotAsked r.known.slot) o
  pub judged : IsUnknownSlot (length c.slots) r.known.slot known
  pub name : slice_get c.slots r.known.slot ≡ Some r.name
  pub ready : IsReady xs marked r.name r.known.value

-- slots that are read so one after the other
abbrev pub AreReadHere : List Node → List Bool → Recipe → List Known → List SlotRead → Type 0
AreReadHere xs marked c known [] = Unit {0}
AreReadHere xs marked c known (r ∷ rs) = IsReadHere xs marked c known r × AreReadHere xs marked c (learnt known r.known.slot r.known.value) rs

-- what is known and what was read, once slots were read so
pub record HasReadHere (xs : List Node) (marked : List Bool) (c : Recipe) (known : List Known) (reads : List ℕ) (known' : List Known)
    (reads' : List ℕ) : Type 0 where
  pub more : List SlotRead
  pub knows : known' ≡ known ++ map (λ (r : SlotRead). r.known) more
  pub names : reads' ≡ reads ++ map (λ (r : SlotRead). r.name) more
  pub here : AreReadHere xs marked c known more

-- a slot is known, and its signal, which is read at once, was read
pub record ReadsReady (xs : List Node) (marked : List Bool) (c : Recipe) (slot : ℕ) (known : List Known) (reads : List ℕ) (known' : List Known)
    (reads' : List ℕ) : Type 0 where
  pub read : SlotRead
  pub same : read.known.slot ≡ slot
  pub knows : known' ≡ known ++ read.known ∷ []
  pub names : reads' ≡ reads ++ read.name ∷ []
  pub name : slice_get c.slots read.known.slot ≡ Some read.name
  pub ready : IsReady xs marked read.name read.known.value

-- where it is read at once; else all is left as it was
abbrev pub IsReadWhere : Bool → List Node → List Bool → Recipe → ℕ → List Known → List ℕ → List Known → List ℕ → Type 0
IsReadWhere true xs marked c slot known reads known' reads' = ReadsReady xs marked c slot known reads known' reads'
IsReadWhere false xs marked c slot known reads known' reads' = (known' ≡ known) × (reads' ≡ reads)

-- one slot more is known, and its signal was read
pub record ReadsNext (xs : List Node) (marked : List Bool) (c : Recipe) (known : List Known) (reads : List ℕ) (known' : List Known)
    (reads' : List ℕ) : Type 0 where
  pub read : SlotRead
  pub knows : known' ≡ known ++ read.known ∷ []
  pub names : reads' ≡ reads ++ read.name ∷ []
  pub here : IsReadHere xs marked c known read

-- What one answer comes to: the slot is read, the formula has come to its end, or all is left as it was.
abbrev pub IsOnward : List Node → List Bool → Recipe → Onward → List Known → List ℕ → List Known → List ℕ → Outcome → Type 0
IsOnward xs marked c onward.Read known reads known' reads' o = ReadsNext xs marked c known reads known' reads'
IsOnward xs marked c onward.Ended known reads known' reads' o = (known' ≡ known) × (reads' ≡ reads) × IsAnswerOf c known Ended o
IsOnward xs marked c onward.Left known reads known' reads' o = (known' ≡ known) × (reads' ≡ reads)

-- a recipe needs the slots that a part of its formula asks for, also where more is known
abbrev pub AsksFor : Recipe → Tree → List Known → Type 0
AsksFor c t known = (more : List Known) (n : ℕ) → formula_step false t None (known ++ more) [] ≡ Ask n false → IsNeeded c (known ++ more) n

-- what is told of a slot by its signal: the whole number or truth that this is read as at once
abbrev pub IsReadyPart : Part → List Node → List Bool → ℕ → Type 0
IsReadyPart (part.Number m) xs marked n = IsReady xs marked n (value.Int m)
IsReadyPart (part.Truth b) xs marked n = IsReady xs marked n (value.Bool b)
IsReadyPart (part.Slot s) xs marked n = Unit {0}
IsReadyPart part.Open xs marked n = Unit {0}

-- what a walk over a formula comes to: where it has come to the formula's end, its outcome is the recipe's answer, and where it left a slot,
-- the recipe needs that
abbrev pub IsWalked : Walked → Recipe → List Known → Outcome → Type 0
IsWalked walked.Ended c known o = IsAnswerOf c known Ended o
IsWalked (walked.Left n) c known o = IsNeeded c known n
IsWalked walked.Open c known o = Unit {0}

-- what a recipe comes to that is read on
abbrev pub IsReached : Reached → Recipe → List Known → Outcome → Type 0
IsReached reached.Ended c known o = IsAnswerOf c known Ended o
IsReached (reached.Needs n) c known o = ((p : Outcome) → IsAnswerOf c known (SlotAsked n) p) × IsUnknownSlot (length c.slots) n known
IsReached reached.Left c known o = Unit {0}
