-- What the reader of a line has in its hands, and what is wrong with it.
use Rattle.std.specs.Prelude.{◌≡◌, ℕ, nat_lt, if◌then◌else◌, length, List, [], ◌∷◌, drop, Option, Some, None, Result, Ok, Err}
use Rattle.std.specs.Option.{option_or}
use Rattle.sig_base.specs.declared.limits.TheConstants.{MOST_SOURCES, MOST_TEXT}
use Rattle.sig_base.specs.declared.scalar.Scalar.{Scalar}
use Rattle.sig_words.specs.declared.token.Token.{Token}
use Rattle.sig_words.specs.Lexemes.{Lexeme, lexemes}
use Rattle.formula_text.specs.declared.wired.Allow.{Allow}
use Rattle.formula_text.specs.declared.wired.FormulaFault.{FormulaFault}
use Rattle.formula_text.specs.declared.wired.FormulaFault.TheVariants as fault
use Rattle.formula_text.specs.Signs.{constant}
use Rattle.formula_text.specs.Refusals.{is_long}
use Rattle.formula_text.specs.Grammar.{Draft}
use Rattle.formula_text.specs.Slots.{Wiring, refusal, wired}
use Rattle.line_forms.specs.Forms.{Form, part, fixed, one, perhaps, many, listed, arguments, formula, value, key, Part, One, Of, Contents, Args}

-- what the tokens from a place on say
unfoldable pub ahead : List ℕ → List Token → ℕ → List Lexeme
ahead bytes ts at = lexemes bytes (drop at ts)

-- what is wrong with a value: a text that is too long
abbrev pub fault_of_scalar : Scalar → Option FormulaFault
fault_of_scalar v = if is_long (constant v) then Some fault.TextLong else None

-- what is wrong with what one token says
abbrev pub fault_of_one : (o : One) → Of o → Option FormulaFault
fault_of_one value v = fault_of_scalar v
fault_of_one key t = if nat_lt MOST_TEXT (length t) then Some fault.TextLong else None
fault_of_one _ v = None

-- what is wrong with values, the first of it
abbrev pub first_long : List Scalar → Option FormulaFault
first_long [] = None
first_long (v ∷ vs) = option_or (fault_of_scalar v) (first_long vs)

-- what is wrong with a list; no list has texts alone
abbrev pub fault_of_list : (o : One) → List (Of o) → Option FormulaFault
fault_of_list value vs = first_long vs
fault_of_list _ vs = None

-- what is wrong with the arguments of a host formula: too many
abbrev pub fault_of_arguments : List (List ℕ) → Option FormulaFault
fault_of_arguments ns = if nat_lt MOST_SOURCES (length ns) then Some fault.Sources else None

-- what is wrong with a part, at a place that allows this to formulas
abbrev pub fault_in : Allow → (p : Part) → Contents p → Option FormulaFault
fault_in allow (one o) v = fault_of_one o v
fault_in allow (perhaps w o) v = None
fault_in allow (many o) vs = fault_of_list o vs
fault_in allow (listed o) vs = fault_of_list o vs
fault_in allow arguments ns = fault_of_arguments ns
fault_in allow formula f = refusal allow f

-- what is wrong with a line, the first of it
abbrev pub fault_along : Allow → (ps : Form) → Args ps → Option FormulaFault
fault_along allow [] a = None
fault_along allow (fixed l ∷ ps) a = fault_along allow ps a
fault_along allow (part p ∷ ps) a = option_or (fault_in allow p a.0) (fault_along allow ps a.1)

-- what was read, or what is wrong with it
abbrev pub unless_faulty : {A : Type 0} → Option FormulaFault → A → Result A FormulaFault
unless_faulty None x = Ok x
unless_faulty (Some f) x = Err f

-- a value that was read, or what is wrong with it
abbrev pub IsToldScalar : Scalar → Result Scalar FormulaFault → Type 0
IsToldScalar v (Ok w) = (w ≡ v) × (fault_of_scalar v ≡ None)
IsToldScalar v (Err f) = fault_of_scalar v ≡ Some f

-- a text that was read, or what is wrong with it
abbrev pub IsToldKey : List ℕ → Result (List ℕ) FormulaFault → Type 0
IsToldKey t (Ok u) = (u ≡ t) × (fault_of_one key t ≡ None)
IsToldKey t (Err f) = fault_of_one key t ≡ Some f

-- values that were read, or what is wrong with the first that is too long
abbrev pub AreToldValues : List Scalar → Result (List Scalar) FormulaFault → Type 0
AreToldValues vs (Ok ws) = (ws ≡ vs) × (first_long vs ≡ None)
AreToldValues vs (Err f) = first_long vs ≡ Some f

-- arguments that were read, or what is wrong with them
abbrev pub IsToldArguments : List (List ℕ) → Result (List (List ℕ)) FormulaFault → Type 0
IsToldArguments ns (Ok ms) = (ms ≡ ns) × (fault_of_arguments ns ≡ None)
IsToldArguments ns (Err f) = fault_of_arguments ns ≡ Some f

-- a formula that was read, or what is wrong with it
abbrev pub IsToldFormula : Allow → Draft → Result Wiring FormulaFault → Type 0
IsToldFormula allow x (Ok w) = (w ≡ wired x) × (refusal allow x ≡ None)
IsToldFormula allow x (Err f) = refusal allow x ≡ Some f

-- a function of what the parts hold
abbrev pub Made : Form → Type 0 → Type 0
Made [] A = A
Made (fixed l ∷ ps) A = Made ps A
Made (part p ∷ ps) A = Contents p → Made ps A

-- what it makes of them
abbrev pub made : {A : Type 0} → (ps : Form) → Made ps A → Args ps → A
made [] f a = f
made (fixed l ∷ ps) f a = made ps f a
made (part p ∷ ps) f a = made ps (f a.0) a.1
