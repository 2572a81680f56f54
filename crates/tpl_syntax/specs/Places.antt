-- Where a line may stand among the lines of a template.
use Rattle.std.specs.Prelude.{ℕ, ◌==◌, ◌&&◌, not, Bool, true, false, List, [], ◌∷◌, ◌++◌, drop, length, Option, Some, None, if◌then◌else◌}
use Rattle.std.specs.List.{list_any}
use Rattle.std.specs.Str.{bytes_eq}
use Rattle.html_out.specs.Html.{is_raw, is_void}
use Rattle.line_forms.specs.Blocks as blocks
use Rattle.tpl_syntax.specs.declared.line.Line.{Line}
use Rattle.tpl_syntax.specs.declared.line.Line.TheVariants as line
use Rattle.tpl_syntax.specs.declared.line.Mark.{Mark}
use Rattle.tpl_syntax.specs.declared.line.Mark.TheVariants as mark
use Rattle.tpl_syntax.specs.declared.line.Purpose.{Purpose}
use Rattle.tpl_syntax.specs.declared.line.Purpose.TheVariants as purpose
use Rattle.tpl_syntax.specs.declared.place.Content.{Content}
use Rattle.tpl_syntax.specs.declared.place.Content.TheVariants as content
use Rattle.tpl_syntax.specs.declared.place.Level.{Level}
use Rattle.tpl_syntax.specs.declared.place.Level.TheVariants as level
use Rattle.tpl_syntax.specs.Grammar.{Said, said_line}

-- what an element of this name may hold
abbrev pub content_of : List ℕ → Content
content_of n = if is_void n then content.Nothing else (if is_raw n then content.Bare else content.Lines)

-- What a line is among others: it stands by itself; it is an attribute, of this name, of the element before it; it begins this, which an
-- `end` ends; it begins the part behind an `else`; or it ends the innermost of what is begun.
pub data Role : Type 0 where
  leaf : Role
  attribute : (name : List ℕ) → Role
  begins : (level : Level) → Role
  turns : Role
  ends : Role

-- what a line without a formula is
abbrev pub mark_role : Mark → Role
mark_role (mark.Tag n) = begins (level.Element (content_of n))
mark_role mark.Try = begins level.Choice
mark_role mark.Else = turns
mark_role mark.End = ends

-- what a line with a formula is, whatever the formula
abbrev pub purpose_role : Purpose → Role
purpose_role purpose.Text = leaf
purpose_role (purpose.Attr n) = attribute n
purpose_role purpose.If = begins level.Choice
purpose_role purpose.Each = begins level.Loop

-- what a line is
abbrev pub role_of : {F : Type 0} → Line F → Role
role_of (line.Plain m) = mark_role m
role_of (line.Over p x) = purpose_role p

-- whether an `end` ends what it begins
abbrev pub is_opening : Role → Bool
is_opening (begins l) = true
is_opening _ = false

-- whether it, or what it shows, is a child of the element around it
abbrev pub is_child : Role → Bool
is_child leaf = true
is_child r = is_opening r

-- a place: what is begun there, the innermost first, and, right behind a tag and its attributes, the names of these
pub record Place : Type 0 where
  pub levels : List Level
  pub in_tag : Bool
  pub attributes : List (List ℕ)

-- a place where no attribute may stand
abbrev pub among : List Level → Place
among ls = record { levels = ls; in_tag = false; attributes = [] }

-- the place of the first line
abbrev pub top : Place
top = among []

-- whether all that is begun is ended
abbrev pub is_closed : Place → Bool
is_closed p = length p.levels == 0

-- the innermost of what is begun
abbrev pub innermost : List Level → Option Level
innermost [] = None
innermost (l ∷ ls) = Some l

-- whether an `else` may follow
abbrev pub is_choice : List Level → Bool
is_choice (level.Choice ∷ ls) = true
is_choice _ = false

-- whether it is an `each`
abbrev pub is_loop : Level → Bool
is_loop level.Loop = true
is_loop _ = false

-- whether lines there have a row
abbrev pub in_loop : List Level → Bool
in_loop ls = list_any is_loop ls

-- what may stand there in the element, if an element is the innermost
abbrev pub content_at : List Level → Content
content_at (level.Element c ∷ ls) = c
content_at _ = content.Lines

-- whether it begins an `each`
abbrev pub is_each : Role → Bool
is_each (begins l) = is_loop l
is_each _ = false

-- whether it is an element
abbrev pub is_element : Level → Bool
is_element (level.Element c) = true
is_element _ = false

-- Whether a line may stand there: an attribute right behind a tag and other attributes, once of each name; an `else` in an `if` or a
-- `try` that has none; an `end` where something is begun.
abbrev pub stands : Place → Role → Bool
stands p (attribute n) = p.in_tag && not (list_any (λ m. bytes_eq m n) p.attributes)
stands p turns = is_choice p.levels
stands p ends = not (is_closed p)
stands p r = true

-- the place behind a line
abbrev pub behind : Place → Role → Place
behind p leaf = among p.levels
behind p (attribute n) = record p { attributes = p.attributes ++ n ∷ [] }
behind p (begins l) = record { levels = l ∷ p.levels; in_tag = is_element l; attributes = [] }
behind p turns = among (level.Other ∷ drop 1 p.levels)
behind p ends = among (drop 1 p.levels)

-- whether the line may stand there
abbrev pub fits : {F : Type 0} → Place → Line F → Bool
fits p l = stands p (role_of l)

-- the place behind the line
abbrev pub moved : {F : Type 0} → Place → Line F → Place
moved p l = behind p (role_of l)

-- the places of a template's lines
abbrev pub places : blocks.Places Said Place
places = record { fits = λ p x. fits p (said_line x); moved = λ p x. moved p (said_line x) }
