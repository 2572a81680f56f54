-- The operations of the program as those of the definitions, why they are refused, and what can be read of them.
use Rattle.std.specs.Prelude.{ℕ, ◌≡◌, ◌≤◌, List, ◌∷◌, ◌++◌, length, take, Option, Some, None}
use Rattle.page_model.specs.Labels.{Element, Kind}
use Rattle.std.specs.Fmt.{decimal}
use Rattle.page_model.specs.Texts.{op_text, written_attributes, IsSized, IsWritable}
use Rattle.page_model.specs.Replay as replay
use Rattle.page_model.specs.Replay.{Answer, Done, Refused, others}
use Rattle.page_tree.specs.Queries.{IsDone}
use Rattle.page_tree.specs.Subs.{insertion, sub_tree}
use Rattle.page_ops.specs.declared.op.Op.{Op}
use Rattle.page_ops.specs.declared.op.Op.TheVariants as op
use Rattle.page_ops.specs.declared.op.ApplyFault.{ApplyFault}
use Rattle.page_ops.specs.declared.op.ApplyFault.TheVariants as fault
use Rattle.page_ops.specs.declared.op.OpFault.{OpFault}
use Rattle.page_ops.specs.declared.op.OpFault.TheVariants as unread

-- an operation of the program as one of the definitions
abbrev pub op_of : Op → replay.Op
op_of (op.Remove n) = replay.OpRemove n
op_of (op.Insert p i s) = insertion p i (sub_tree s)
op_of (op.Move n i) = replay.OpMove n i
op_of (op.Text n t) = replay.OpText n t
op_of (op.Attr n i name value) = replay.OpAttr n i name value
op_of (op.Unattr n name) = replay.OpUnattr n name

-- the fault is the cause of a refusal; want of memory is a cause of its own
abbrev pub Causes : ApplyFault → Answer → Type 0
Causes (fault.NoSuchNode n) answer = answer ≡ Refused (replay.NoSuchNode n)
Causes (fault.NoSuchPlace i) answer = answer ≡ Refused (replay.NoSuchPlace i)
Causes (fault.NumberUsed n) answer = answer ≡ Refused (replay.NumberUsed n)
Causes (fault.TooDeep n) answer = answer ≡ Refused (replay.TooDeep n)
Causes fault.NoMemory answer = Unit {0}

-- what a judgment says of an answer: it is a tree, or it is refused for this
abbrev pub Judges : Option ApplyFault → Answer → Type 0
Judges None answer = IsDone answer
Judges (Some why) answer = Causes why answer

-- how many attributes of other names an element has
abbrev pub other_count : List ℕ → Kind → Option ℕ
other_count name (Element element attributes) = Some (length (others name attributes))
other_count name label = None

-- the fault of a subtree that comes, by the first number that is used and the first that is too deep
abbrev pub coming_fault : Option ℕ → Option ℕ → Option ApplyFault
coming_fault (Some n) deep = Some (fault.NumberUsed n)
coming_fault None (Some n) = Some (fault.TooDeep n)
coming_fault None None = None

-- the text of an element's node up to its children
abbrev pub opened : ℕ → List ℕ → List (List ℕ × List ℕ) → List ℕ
opened n name attributes = 32 ∷ 40 ∷ (decimal n ++ (32 ∷ (name ++ written_attributes attributes)))

-- an operation that has a text: it can be written, its numbers are numbers, and its texts are texts
abbrev pub HasText : replay.Op → Type 0
HasText o = IsWritable o × IsSized o

-- the bytes up to a place are those of an operation's text
abbrev pub BeginsAsText : List ℕ → ℕ → Type 0
BeginsAsText bytes at = (o : replay.Op) × HasText o × (take at (op_text o) ≡ take at bytes)

-- why bytes are refused: no operation has them for its text, though up to the place they are as in one's
abbrev pub Refuses : List ℕ → OpFault → Type 0
Refuses bytes (unread.Bad at) = ((o : replay.Op) → HasText o → op_text o ≡ bytes → ⊥) × (at ≤ length bytes) × BeginsAsText bytes at
Refuses bytes (unread.NoMemory e) = Unit {0}
