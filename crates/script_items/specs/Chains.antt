-- Operators between operands, from left to right, that are read at once.
use Rattle.std.specs.Prelude.{◌≡◌, ◌≤◌, ◌<◌, ℕ, List, [], ◌∷◌, ◌++◌, codes, false, length}
use Rattle.sig_base.specs.declared.limits.TheConstants.{MOST_HEIGHT}
use Rattle.sig_formula.specs.Trees.{Tree}
use Rattle.sig_formula.specs.Trees as tree
use Rattle.formula_text.specs.Canonical.{leaf_text, operator_text}
use Rattle.formula_text.specs.Grammar.{Draft, before, binary, leaf, level}
use Rattle.formula_text.specs.Refusals.{is_long, leaf_tree, with_leaf}
use Rattle.formula_text.specs.RoundTrips.{IsPrintableLeaf}
use Rattle.script_items.specs.declared.chain.Chain.{Chain}
use Rattle.script_items.specs.declared.chain.Link.{Link}
use Rattle.script_items.specs.Operations.{leaf_of}

-- what is printed of an operator and what stands behind it
abbrev pub link_text : Link → List ℕ
link_text l = codes " " ++ (operator_text l.operator ++ (codes " " ++ leaf_text (leaf_of l.operand)))

-- so it is with one behind the other
abbrev pub links_text : List Link → List ℕ
links_text [] = []
links_text (l ∷ ls) = link_text l ++ links_text ls

-- what stands behind each operator can be printed, and is no long text
abbrev pub EachPrints : List Link → Type 0
EachPrints [] = Unit {0}
EachPrints (l ∷ ls) = IsPrintableLeaf (leaf_of l.operand) × (is_long (leaf_of l.operand) ≡ false) × EachPrints ls

-- behind what is of a rule, each may stand, up to a rule
abbrev pub FitsTo : ℕ → List Link → ℕ → Type 0
FitsTo k [] m = k ≡ m
FitsTo k (l ∷ ls) m = (before l.operator ≤ k) × FitsTo (level l.operator) ls m

-- bytes are few operators behind a leaf and a blank
pub record AreLinks (text : List ℕ) (ls : List Link) : Type 0 where
  pub printed : codes " " ++ text ≡ links_text ls
  pub prints : EachPrints ls
  pub rule : ℕ
  pub fits : FitsTo 8 ls rule
  pub few : length ls < MOST_HEIGHT

-- bytes are few operators between operands
pub record IsChain (text : List ℕ) (c : Chain) : Type 0 where
  pub printed : text ≡ leaf_text (leaf_of c.first) ++ links_text c.links.items
  pub first : IsPrintableLeaf (leaf_of c.first)
  pub short : is_long (leaf_of c.first) ≡ false
  pub prints : EachPrints c.links.items
  pub rule : ℕ
  pub fits : FitsTo 8 c.links.items rule
  pub few : length c.links.items < MOST_HEIGHT

-- the formula of operators behind another, from left to right
abbrev pub linked : Draft → List Link → Draft
linked x [] = x
linked x (l ∷ ls) = linked (binary l.operator x (leaf (leaf_of l.operand))) ls

-- its names, behind others
abbrev pub with_links : List (List ℕ) → List Link → List (List ℕ)
with_links ns [] = ns
with_links ns (l ∷ ls) = with_links (with_leaf ns (leaf_of l.operand)) ls

-- the formula over the places of names
abbrev pub linked_tree : List (List ℕ) → Tree → List Link → Tree
linked_tree ns t [] = t
linked_tree ns t (l ∷ ls) = linked_tree ns (tree.binary l.operator t (leaf_tree ns (leaf_of l.operand))) ls
