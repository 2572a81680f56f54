-- Templates that were read, as the definitions of what a page shows see them.
use Rattle.std.specs.Prelude.{◌≡◌, List, [], ◌∷◌, ◌++◌, map, reverse, Option, Some, None, ℕ}
use Rattle.sig_formula.specs.Trees.{Tree, tree}
use Rattle.sig_formula.specs.declared.formula.Formula.{Formula}
use Rattle.tpl_model.specs.Lines as model
use Rattle.tpl_syntax.specs.Lines.{Plan, mapped}
use Rattle.tpl_syntax.specs.declared.line.Line.{Line}
use Rattle.tpl_syntax.specs.declared.line.Line.TheVariants as line
use Rattle.tpl_syntax.specs.declared.line.Mark.{Mark}
use Rattle.tpl_syntax.specs.declared.line.Mark.TheVariants as mark
use Rattle.tpl_syntax.specs.declared.line.Purpose.{Purpose}
use Rattle.tpl_syntax.specs.declared.line.Purpose.TheVariants as purpose
use Rattle.tpl_blocks.specs.declared.block.Block.{Block}
use Rattle.tpl_blocks.specs.declared.block.Block.TheVariants as held_block
use Rattle.tpl_blocks.specs.declared.builder.Part.{Part}

-- a line without a formula, as a line of the model
abbrev pub mark_line : Mark → model.Line
mark_line (mark.Tag n) = model.TagLine n
mark_line mark.Try = model.TryLine
mark_line mark.Else = model.ElseLine
mark_line mark.End = model.EndLine

-- a line with a formula
abbrev pub purpose_line : Purpose → Tree → model.Line
purpose_line purpose.Text f = model.TextLine f
purpose_line (purpose.Attr n) f = model.AttrLine n f
purpose_line purpose.If f = model.IfLine f
purpose_line purpose.Each f = model.EachLine f

-- a line that was read
abbrev pub model_line : Line Tree → model.Line
model_line (line.Plain m) = mark_line m
model_line (line.Over p f) = purpose_line p f

-- the lines of a template
abbrev pub lines_of : Plan → List model.Line
lines_of plan = map model_line plan.lines

-- attributes, each a name and a formula
abbrev pub waiting : List (List ℕ × Formula) → List (List ℕ × Tree)
waiting xs = map (λ (a : List ℕ × Formula). (a.0, tree a.1)) xs

-- lines as they nest, apart from where they lie in memory
abbrev pub block : Block → model.Block
block held_block.Empty = model.empty
block (held_block.Text' n f p rest) = model.text n (tree f) (block rest)
block (held_block.Tag' n name attributes p inner q rest) =
    model.tag n name (waiting attributes.items) (block inner) (block rest)
block (held_block.Choice' f p one q other r rest) = model.choice (tree f) (block one) (block other) (block rest)
block (held_block.Each' f p inner q rest) = model.each (tree f) (block inner) (block rest)
block (held_block.Attempt' p first q second r rest) = model.attempt (block first) (block second) (block rest)

-- ---- as the code holds them

-- a line whose formula is held
abbrev pub plain_line : Line Formula → model.Line
plain_line l = model_line (mapped tree l)

-- an open part
abbrev pub part_of : Part → model.Part
part_of p = record { lines = block p.lines.value; others = block p.others.value; attributes = waiting p.attributes.items }

-- what a line begins, with the part that its end ends, before other lines; other lines begin nothing
abbrev pub begun : ℕ → model.Line → model.Part → model.Block → model.Block
begun n (model.TagLine name) i rest = model.tag n name i.attributes i.lines rest
begun n (model.IfLine f) i rest = model.choice f i.lines i.others rest
begun n (model.EachLine f) i rest = model.each f i.lines rest
begun n model.TryLine i rest = model.attempt i.lines i.others rest
begun n l i rest = rest

-- the open parts, held with the innermost last
unfoldable pub held : List Part → List model.Part
held parts = reverse (map part_of parts)

-- the innermost of the parts, and the others; or there are none
abbrev pub IsTop : Option Part → List model.Part → List model.Part → Type 0
IsTop None before now = (before ≡ []) × (now ≡ [])
IsTop (Some p) before now = before ≡ part_of p ∷ now

-- a line that stands before those of the innermost part, and leaves the others
abbrev pub StandsBefore : ℕ → model.Line → Type 0
StandsBefore n l =
    (model.with_line n l [] ≡ [])
    × ((p : model.Part) (rest : List model.Part) → model.with_line n l (p ∷ rest) ≡ model.with_line n l (p ∷ []) ++ rest)

-- a line that goes around the innermost part, before the lines of the next, and leaves the others; it needs both
abbrev pub GoesAround : ℕ → model.Line → Type 0
GoesAround n l =
    (model.with_line n l [] ≡ []) × ((p : model.Part) → model.with_line n l (p ∷ []) ≡ p ∷ [])
    × ((i p : model.Part) (rest : List model.Part) → model.with_line n l (i ∷ p ∷ rest) ≡ record p { lines = begun n l i p.lines } ∷ rest)

-- The innermost part, the one around it, and the others; or there aren't two, all are left, and a line that goes around them says nothing.
abbrev pub IsPair : Option (Part × Part) → List model.Part → List model.Part → Type 0
IsPair None before now = (n : ℕ) (l : model.Line) → GoesAround n l → now ≡ model.with_line n l before
IsPair (Some p) before now = before ≡ part_of p.0 ∷ part_of p.1 ∷ now
