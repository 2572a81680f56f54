-- The lines of a template, and the blocks that they nest.
use Rattle.std.specs.Prelude.{ℕ, suc, List, [], ◌∷◌}
use Rattle.sig_formula.specs.Trees.{Tree}

-- a line; the slots of its formula are the places of the template's names
pub data Line : Type 0 where
  TextLine : (formula : Tree) → Line
  TagLine : (name : List ℕ) → Line
  AttrLine : (name : List ℕ) (formula : Tree) → Line
  IfLine : (test : Tree) → Line
  ElseLine : Line
  EachLine : (rows : Tree) → Line
  TryLine : Line
  EndLine : Line

-- Lines one after the other, each with those inside it. A line that makes a node has its ordinal among all lines of the template. What is
-- attempted is shown up to its end, or in its place what stands behind its `else`.
pub data Block : Type 0 where
  empty : Block
  text : (line : ℕ) (formula : Tree) (rest : Block) → Block
  tag : (line : ℕ) (name : List ℕ) (attributes : List (List ℕ × Tree)) (inner rest : Block) → Block
  choice : (test : Tree) (one other rest : Block) → Block
  each : (rows : Tree) (inner rest : Block) → Block
  attempt : (first second rest : Block) → Block

-- what stands before an `end`, read from there back: the lines, those behind an `else`, and attributes that wait for their tag
pub record Part : Type 0 where
  pub lines : Block
  pub others : Block
  pub attributes : List (List ℕ × Tree)

-- a part in which nothing stands
abbrev pub no_lines : Part
no_lines = record { lines = empty; others = empty; attributes = [] }

-- a line before the parts that are open behind it, the innermost first
abbrev pub with_line : ℕ → Line → List Part → List Part
with_line n (TextLine f) (p ∷ ps) = record p { lines = text n f p.lines } ∷ ps
with_line n (AttrLine name f) (p ∷ ps) = record p { attributes = (name, f) ∷ p.attributes } ∷ ps
with_line n (TagLine name) (i ∷ p ∷ ps) = record p { lines = tag n name i.attributes i.lines p.lines } ∷ ps
with_line n (IfLine f) (i ∷ p ∷ ps) = record p { lines = choice f i.lines i.others p.lines } ∷ ps
with_line n (EachLine f) (i ∷ p ∷ ps) = record p { lines = each f i.lines p.lines } ∷ ps
with_line n TryLine (i ∷ p ∷ ps) = record p { lines = attempt i.lines i.others p.lines } ∷ ps
with_line n ElseLine (p ∷ ps) = record { lines = empty; others = p.lines; attributes = [] } ∷ ps
with_line n EndLine ps = no_lines ∷ ps
with_line n _ ps = ps

-- the parts that are open before these lines, of which the first has this ordinal
abbrev pub parts_from : ℕ → List Line → List Part
parts_from n [] = no_lines ∷ []
parts_from n (l ∷ ls) = with_line n l (parts_from (suc n) ls)

-- the lines of the innermost part
abbrev pub first_block : List Part → Block
first_block [] = empty
first_block (p ∷ ps) = p.lines

-- the lines of a template as they nest; they are counted from 1
abbrev pub block_of : List Line → Block
block_of ls = first_block (parts_from 1 ls)
