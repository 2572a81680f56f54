-- How the parts of an operation's text are read, whatever stands there.
use Rattle.std.specs.Prelude.{ℕ, ◌≡◌, ◌≤◌, ◌==◌, ◌&&◌, if◌then◌else◌, Bool, true, false, List, [], ◌∷◌, ◌++◌, codes, take, drop, slice_index}
use Rattle.std.specs.Char.{is_ascii_lowercase}
use Rattle.std.specs.Fmt.{decimal}
use Rattle.std.specs.List.{prefix_len}
use Rattle.sig_base.specs.Words.{in_tag}
use Rattle.sig_base.specs.Printer.{quoted}
use Rattle.sig_words.specs.Literals.{meaning}
use Rattle.page_model.specs.Forest.{Forest, none, node, height}
use Rattle.page_model.specs.Labels.{Kind, Distinct, GoodNames, WellNamed}
use Rattle.page_model.specs.Replay as replay
use Rattle.page_model.specs.Texts.{written_label, written_nodes, AreSized, HaveTexts}
use Rattle.page_model.specs.Trees.{AreNodes}
use Rattle.page_ops.specs.declared.reader.Verb.{Verb}
use Rattle.page_ops.specs.declared.reader.Verb.TheVariants as verb
use Rattle.page_ops.specs.Ops.{HasText}

-- attributes of an element that has a text
pub record AreFit (attributes : List (List ℕ × List ℕ)) : Type 0 where
  pub distinct : Distinct attributes
  pub named : GoodNames attributes
  pub texts : HaveTexts attributes

-- nodes that have a text, on at most so many levels
pub record IsFit (levels : ℕ) (forest : Forest Kind) : Type 0 where
  pub low : height forest ≤ levels
  pub nodes : AreNodes forest
  pub named : WellNamed forest
  pub sized : AreSized forest

-- the lower-case letters, digits and hyphens at the front
abbrev pub front : List ℕ → List ℕ
front bytes = take (prefix_len in_tag bytes) bytes

-- what stands behind them
abbrev pub behind_front : List ℕ → List ℕ
behind_front bytes = drop (prefix_len in_tag bytes) bytes

-- what the bytes up to a quote stand for, behind a backslash or not
abbrev pub unquoted : Bool → List ℕ → List ℕ
unquoted behind [] = []
unquoted true (c ∷ cs) = meaning c ∷ unquoted false cs
unquoted false (c ∷ cs) = if c == 34 then [] else if c == 92 then unquoted true cs else c ∷ unquoted false cs

-- what stands behind that quote
abbrev pub behind_quote : Bool → List ℕ → List ℕ
behind_quote behind [] = []
behind_quote true (c ∷ cs) = behind_quote false cs
behind_quote false (c ∷ cs) = if c == 34 then cs else behind_quote (c == 92) cs

-- a space, and a letter
abbrev pub begins_attribute : List ℕ → Bool
begins_attribute bytes = slice_index bytes 0 == 32 && is_ascii_lowercase (slice_index bytes 1)

-- a space, and a parenthesis
abbrev pub begins_node : List ℕ → Bool
begins_node bytes = slice_index bytes 0 == 32 && slice_index bytes 1 == 40

-- a node's text behind its parenthesis, and what stands behind it
abbrev pub node_text : ℕ → Kind → Forest Kind → List ℕ → List ℕ
node_text n x k rest = decimal n ++ (written_label x ++ (written_nodes k ++ 41 ∷ rest))

-- what an operation does
abbrev pub verb_of : replay.Op → Verb
verb_of (replay.OpRemove n) = verb.Remove
verb_of (replay.OpInsert p i n x k) = verb.Insert
verb_of (replay.OpMove n i) = verb.Move
verb_of (replay.OpText n t) = verb.Text
verb_of (replay.OpAttr n i name value) = verb.Attr
verb_of (replay.OpUnattr n name) = verb.Unattr

-- the word for it, with which its text begins
abbrev pub word_of : Verb → List ℕ
word_of verb.Remove = codes "remove"
word_of verb.Insert = codes "insert"
word_of verb.Move = codes "move"
word_of verb.Text = codes "text"
word_of verb.Attr = codes "attr"
word_of verb.Unattr = codes "unattr"

-- the number that stands behind the word
abbrev pub number_of : replay.Op → ℕ
number_of (replay.OpRemove n) = n
number_of (replay.OpInsert p i n x k) = p
number_of (replay.OpMove n i) = n
number_of (replay.OpText n t) = n
number_of (replay.OpAttr n i name value) = n
number_of (replay.OpUnattr n name) = n

-- what stands behind that number
abbrev pub rest_of : replay.Op → List ℕ
rest_of (replay.OpRemove n) = []
rest_of (replay.OpInsert p i n x k) = 32 ∷ (decimal i ++ written_nodes (node n x k none))
rest_of (replay.OpMove n i) = 32 ∷ decimal i
rest_of (replay.OpText n t) = 32 ∷ quoted t
rest_of (replay.OpAttr n i name value) = 32 ∷ (decimal i ++ 32 ∷ (name ++ 32 ∷ quoted value))
rest_of (replay.OpUnattr n name) = 32 ∷ name

-- an operation with a text that does this, with this number, and whose text goes on so behind the number and a space
pub record IsSaid (does : Verb) (number : ℕ) (left : List ℕ) (o : replay.Op) : Type 0 where
  pub has_text : HasText o
  pub verb : does ≡ verb_of o
  pub numbered : number ≡ number_of o
  pub rest : left ≡ drop 1 (rest_of o)
