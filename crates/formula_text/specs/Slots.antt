-- Formulas with slots and names, and when there are none.
use Rattle.std.specs.Prelude.{◌≡◌, ℕ, ◌-◌, ◌<◌, ◌≤◌, nat_lt, Bool, true, not, ◌&&◌, if◌then◌else◌, List, length, drop, Option, Some, None}
use Rattle.sig_base.specs.declared.limits.TheConstants.{MOST_HEIGHT, MOST_SOURCES}
use Rattle.sig_base.specs.declared.text.TextFault.{TextFault}
use Rattle.sig_base.specs.declared.text.TextFault.TheVariants as text_fault
use Rattle.sig_formula.specs.Trees.{Tree}
use Rattle.sig_words.specs.declared.token.Token.{Token}
use Rattle.sig_words.specs.Lexemes.{lexemes}
use Rattle.formula_text.specs.declared.wired.Allow.{Allow}
use Rattle.formula_text.specs.declared.wired.FormulaFault.{FormulaFault}
use Rattle.formula_text.specs.declared.wired.FormulaFault.TheVariants as fault
use Rattle.formula_text.specs.declared.rough.Rough.{Rough}
use Rattle.formula_text.specs.Rough.{draft, HasLeaves}
use Rattle.formula_text.specs.Grammar.{Draft, IsLongest, HasNone}
use Rattle.formula_text.specs.Refusals.{has_untrack, needs_row, is_above, has_long_text, names, slotted}

-- a formula over slots, and the names that they stand for
abbrev pub Wiring : Type 0
Wiring = Tree × List (List ℕ)

-- the slots of a formula are its distinct names in the order of the text
abbrev pub wired : Draft → Wiring
wired x = (slotted (names x) x, names x)

-- what a formula is refused for, the first of these
abbrev pub refusal : Allow → Draft → Option FormulaFault
refusal allow x =
    if has_untrack x && not allow.untrack then Some fault.UntrackHere
    else if needs_row x && not allow.row then Some fault.ItHere
    else if is_above MOST_HEIGHT x then Some fault.Nest
    else if has_long_text x then Some fault.TextLong
    else if nat_lt MOST_SOURCES (length (names x)) then Some fault.Sources
    else None

-- why a formula that was read has no wiring
abbrev pub IsCause : Allow → Draft → FormulaFault → Type 0
IsCause allow x (fault.NoMemory e) = Unit {0}
IsCause allow x why = refusal allow x ≡ Some why

-- a text that is too long, or memory
abbrev pub IsLongCause : Bool → FormulaFault → Type 0
IsLongCause long (fault.NoMemory e) = Unit {0}
IsLongCause long fault.TextLong = long ≡ true
IsLongCause long why = ⊥

-- the fault of a formula for that of a text
abbrev pub of_text_fault : TextFault → FormulaFault
of_text_fault text_fault.Long = fault.TextLong
of_text_fault (text_fault.NoMemory e) = fault.NoMemory e

-- the longest formula from a place on, up to another place
abbrev pub Reads : List ℕ → List Token → ℕ → ℕ → Draft → Type 0
Reads line tokens from to x = (from < to) × (to ≤ length tokens) × IsLongest (lexemes line (drop from tokens)) (to - from) x

-- no formula begins at the place
abbrev pub ReadsNone : List ℕ → List Token → ℕ → Type 0
ReadsNone line tokens from = HasNone (lexemes line (drop from tokens))

-- a rough formula is the longest from a place on
pub record IsRead (line : List ℕ) (tokens : List Token) (from to : ℕ) (rough : Rough) : Type 0 where
  pub reads : Reads line tokens from to (draft line tokens rough)
  pub leaves : HasLeaves line tokens rough

-- the longest formula is wired so, and isn't refused
pub record IsWired (line : List ℕ) (tokens : List Token) (from to : ℕ) (allow : Allow) (w : Wiring) : Type 0 where
  pub formula : Draft
  pub reads : Reads line tokens from to formula
  pub accepted : refusal allow formula ≡ None
  pub wired_so : w ≡ wired formula

-- the longest formula is refused for this
pub record IsRefused (line : List ℕ) (tokens : List Token) (from : ℕ) (allow : Allow) (why : FormulaFault) : Type 0 where
  pub formula : Draft
  pub to : ℕ
  pub reads : Reads line tokens from to formula
  pub cause : refusal allow formula ≡ Some why

-- the cause of a fault
abbrev pub Refuses : List ℕ → List Token → ℕ → Allow → FormulaFault → Type 0
Refuses line tokens from allow fault.Syntax = ReadsNone line tokens from
Refuses line tokens from allow (fault.NoMemory e) = Unit {0}
Refuses line tokens from allow why = IsRefused line tokens from allow why
