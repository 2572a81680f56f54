-- What a look at a source that a computed keeps finds.
use Rattle.std.specs.Prelude.{◌≡◌, ℕ, ◌+◌, ◌<◌, ◌^◌, ◌&&◌, not, Bool, true, false, List, Option, Some, None, IfSome, is_some}
use Rattle.std.specs.Option.{option_map}
use Rattle.signal_model.specs.Signals.{is_computed, standing}
use Rattle.signal_model.specs.Memos.{Memo, Source, holds_cycle, memo_is_cycle}
use Rattle.signal_model.specs.Marks.{mark_of}
use Rattle.sig_marks.specs.Tables.{marked_at}
use Rattle.sig_nodes.specs.declared.node.Node.{Node}
use Rattle.sig_nodes.specs.Nodes.{body_at, has_moved_body, is_computed_body, known_body}
use Rattle.sig_graph.specs.declared.source_looks.SourceLook.{SourceLook}
use Rattle.sig_graph.specs.declared.source_looks.SourceLook.TheVariants as look
use Rattle.sig_graph.specs.declared.source_looks.SignalLook.{SignalLook}
use Rattle.sig_graph.specs.declared.source_looks.SignalLook.TheVariants as signal
use Rattle.sig_nodes.specs.declared.answers.Standing.TheVariants.{Computed as ComputedKind}
use Rattle.sig_nodes.specs.Answers.{kind_here}
use Rattle.sig_graph.specs.Parts.{memos_of, signals_of}
use Rattle.sig_graph.specs.Looks.{has_moved, is_clean_mark}
use Rattle.sig_graph.specs.Search.{HasDue}
use Rattle.sig_graph.specs.States.{State, is_computing}

-- the name of a source, if there is one
abbrev pub named : Option Source → Option ℕ
named o = option_map (λ (s : Source). s.name) o

-- a source that is a computed and isn't being evaluated
pub record IsOpenSource (s : State) (o : Option Source) (n : ℕ) : Type 0 where
  pub named : named o ≡ Some n
  pub computed : is_computed (standing s.signals n) ≡ true
  pub idle : is_computing s n ≡ false

-- A source that needs no settling: it is no computed, is being evaluated, or is clean; and whether it has moved, where who keeps it doesn't hold
-- `cycle`.
pub record IsReadySource (s : State) (id : ℕ) (o : Option Source) (moves : Bool) : Type 0 where
  pub name : ℕ
  pub named : named o ≡ Some name
  pub ready : is_computed (standing s.signals name) ≡ true → is_computing s name ≡ false → is_clean_mark (mark_of s.signals s.memos name) ≡ true
  pub moved : moves ≡ (not (holds_cycle s.memos id) && has_moved s o)

-- what a look at a computed's source finds
abbrev pub IsSourceLook : State → ℕ → Option Source → SourceLook → Type 0
IsSourceLook s id o look.Past = o ≡ None
IsSourceLook s id o (look.Due n) = IsOpenSource s o n × (is_clean_mark (mark_of s.signals s.memos n) ≡ false)
IsSourceLook s id o (look.Marked n) = IsOpenSource s o n
IsSourceLook s id o (look.Ready moved) = IsReadySource s id o moved

-- where there is a source, the next place is a number too
abbrev pub HasNextPlace : ℕ → SourceLook → Type 0
HasNextPlace place look.Past = Unit {0}
HasNextPlace place _ = place + 1 < 2 ^ 64

-- what a look at a signal finds: a computed that isn't being evaluated or not, and whether that is clean
abbrev pub IsSignalLook : State → ℕ → SignalLook → Type 0
IsSignalLook s n signal.Other = kind_here (standing s.signals n) (is_computing s n) ≡ ComputedKind → ⊥
IsSignalLook s n (signal.Idle told) =
    (ComputedKind ≡ kind_here (standing s.signals n) (is_computing s n)) × IfSome told (λ b. b ≡ is_clean_mark (mark_of s.signals s.memos n))

-- ---- by the nodes

-- what a look at the node of a signal finds
abbrev pub IsSignalLookHere : List Node → ℕ → ℕ → SignalLook → Type 0
IsSignalLookHere xs g n signal.Other = (is_computed_body (body_at xs n) && not (is_some (known_body (body_at xs n)))) ≡ false
IsSignalLookHere xs g n (signal.Idle told) =
    ((is_computed_body (body_at xs n) && not (is_some (known_body (body_at xs n)))) ≡ true)
    × IfSome told (λ b. b ≡ is_clean_mark (mark_of (signals_of xs) (memos_of g xs) n))

-- a source that is a computed and isn't being evaluated
pub record IsOpenHere (xs : List Node) (o : Option Source) (n : ℕ) : Type 0 where
  pub named : named o ≡ Some n
  pub computed : is_computed_body (body_at xs n) ≡ true
  pub idle : is_some (known_body (body_at xs n)) ≡ false

-- a source that needs no settling, and whether it has moved, by what who keeps it holds
pub record IsReadyHere (xs : List Node) (marked : List Bool) (m : Option Memo) (o : Option Source) (moves : Bool) : Type 0 where
  pub name : ℕ
  pub named : named o ≡ Some name
  pub calm : is_computed_body (body_at xs name) ≡ true → is_some (known_body (body_at xs name)) ≡ false → marked_at marked name ≡ false
  pub moved : moves ≡ (not (memo_is_cycle m) && has_moved_body xs o)

-- what a look at the nodes finds
abbrev pub IsLookHere : List Node → List Bool → ℕ → Option Memo → Option Source → SourceLook → Type 0
IsLookHere xs marked g m o look.Past = o ≡ None
IsLookHere xs marked g m o (look.Due n) = IsOpenHere xs o n × HasDue xs g n
IsLookHere xs marked g m o (look.Marked n) = IsOpenHere xs o n
IsLookHere xs marked g m o (look.Ready moved) = IsReadyHere xs marked m o moved
