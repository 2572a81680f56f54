-- Operations as they are written: each has one spelling.
use Rattle.std.specs.Prelude.{ℕ, ◌≡◌, ◌<◌, ◌≤◌, ◌^◌, true, List, [], ◌∷◌, ◌++◌, codes, length}
use Rattle.std.specs.Fmt.{decimal}
use Rattle.std.specs.Str.{IsUtf8}
use Rattle.sig_base.specs.declared.limits.TheConstants.{MOST_TEXT}
use Rattle.sig_base.specs.Printer.{quoted}
use Rattle.html_out.specs.Html.{good_name}
use Rattle.page_model.specs.Forest.{Forest, none, node, height}
use Rattle.page_model.specs.Labels.{Root, Text, Element, Kind, WellNamed}
use Rattle.page_model.specs.Replay.{Op, OpRemove, OpInsert, OpMove, OpText, OpAttr, OpUnattr}
use Rattle.page_model.specs.Trees.{AreNodes}

-- ` name="value"` for each attribute
abbrev pub written_attributes : List (List ℕ × List ℕ) → List ℕ
written_attributes [] = []
written_attributes (a ∷ rest) = 32 ∷ (a.0 ++ 61 ∷ (quoted a.1 ++ written_attributes rest))

-- a text in double quotes, or an element's name and its attributes, with a space before it
abbrev pub written_label : Kind → List ℕ
written_label Root = []
written_label (Text t) = 32 ∷ quoted t
written_label (Element name attributes) = 32 ∷ (name ++ written_attributes attributes)

-- nodes in parentheses: the number, the label, and the children, with a space before each
abbrev pub written_nodes : Forest Kind → List ℕ
written_nodes none = []
written_nodes (node n x k r) = 32 ∷ 40 ∷ (decimal n ++ (written_label x ++ (written_nodes k ++ 41 ∷ written_nodes r)))

-- an operation: its word, and its parts with single spaces
abbrev pub op_text : Op → List ℕ
op_text (OpRemove n) = codes "remove " ++ decimal n
op_text (OpInsert p i n x k) = codes "insert " ++ (decimal p ++ 32 ∷ (decimal i ++ written_nodes (node n x k none)))
op_text (OpMove n i) = codes "move " ++ (decimal n ++ 32 ∷ decimal i)
op_text (OpText n t) = codes "text " ++ (decimal n ++ 32 ∷ quoted t)
op_text (OpAttr n i name value) = codes "attr " ++ (decimal n ++ 32 ∷ (decimal i ++ 32 ∷ (name ++ 32 ∷ quoted value)))
op_text (OpUnattr n name) = codes "unattr " ++ (decimal n ++ 32 ∷ name)

-- an operation that can be written: what it brings are nodes on at most 32 levels, and names are names of HTML
abbrev pub IsWritable : Op → Type 0
IsWritable (OpInsert p i n x k) = (height (node n x k none) ≤ 32) × AreNodes (node n x k none) × WellNamed (node n x k none)
IsWritable (OpAttr n i name value) = good_name name ≡ true
IsWritable (OpUnattr n name) = good_name name ≡ true
IsWritable o = Unit {0}

-- so are all of these
abbrev pub AreWritable : List Op → Type 0
AreWritable [] = Unit {0}
AreWritable (o ∷ os) = IsWritable o × AreWritable os

-- a number of at most 64 bits
abbrev pub IsNumber : ℕ → Type 0
IsNumber n = n < 2 ^ 64

-- a text: at most `MOST_TEXT` bytes of UTF-8
abbrev pub IsText : List ℕ → Type 0
IsText t = IsUtf8 t × (length t ≤ MOST_TEXT)

-- the values of attributes are texts
abbrev pub HaveTexts : List (List ℕ × List ℕ) → Type 0
HaveTexts [] = Unit {0}
HaveTexts (a ∷ rest) = IsText a.1 × HaveTexts rest

-- a label whose texts are texts
abbrev pub HasTexts : Kind → Type 0
HasTexts Root = Unit {0}
HasTexts (Text t) = IsText t
HasTexts (Element name attributes) = HaveTexts attributes

-- nodes whose numbers are numbers and whose texts are texts
abbrev pub AreSized : Forest Kind → Type 0
AreSized none = Unit {0}
AreSized (node n x k r) = IsNumber n × HasTexts x × AreSized k × AreSized r

-- an operation whose numbers are numbers and whose texts are texts
abbrev pub IsSized : Op → Type 0
IsSized (OpRemove n) = IsNumber n
IsSized (OpInsert p i n x k) = IsNumber p × IsNumber i × AreSized (node n x k none)
IsSized (OpMove n i) = IsNumber n × IsNumber i
IsSized (OpText n t) = IsNumber n × IsText t
IsSized (OpAttr n i name value) = IsNumber n × IsNumber i × IsText value
IsSized (OpUnattr n name) = IsNumber n
