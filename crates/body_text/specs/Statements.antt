-- Bodies as they are written: the lines that spell them, and their lists.
use Rattle.std.specs.Prelude.{ℕ, ◌+◌, List, [], ◌∷◌, ◌++◌, Option, Some, None}
use Rattle.effect_model.specs.declared.plain.Plain.{Plain}
use Rattle.effect_model.specs.declared.plain.Plain.TheVariants as statement
use Rattle.effect_model.specs.Lines.{formula_of, mapped, target_of}
use Rattle.formula_text.specs.Grammar.{leaf, Draft}
use Rattle.formula_text.specs.Signs.{name}
use Rattle.formula_text.specs.Refusals.{names, slot_of, slotted, with_name, with_names}
use Rattle.sig_formula.specs.Trees.{Tree}
use Rattle.sig_untrack.specs.Stated as stated
use Rattle.sig_untrack.specs.Stated.{Stated, Rewiring, Bodies, body, no_bodies}
use Rattle.body_text.specs.declared.line.Line.{Line}
use Rattle.body_text.specs.declared.line.Line.TheVariants as line
use Rattle.body_text.specs.declared.line.Source.{Source}
use Rattle.body_text.specs.declared.line.Source.TheVariants as source

-- a statement of one line
abbrev pub Statement : Type 0
Statement = Plain (List ℕ) (List ℕ) Draft

-- the statements of a body: the first, and those after it
pub data Statements : Type 0 where
  done : Statements
  -- one line, and a rewiring
  plain : Statement → Statements → Statements
  rewire : List ℕ → Source → Statements → Statements
  -- a guard, what it guards, and what stands after both
  when : Draft → Statements → Statements → Statements
  -- the statements of a nested effect, and those after it
  effect : Statements → Statements → Statements

-- the statement that logs a name
abbrev pub log_of : List ℕ → Statements
log_of n = plain (statement.Log (leaf (name n))) done

-- the lines that spell them
abbrev pub lines_of : Statements → List Line
lines_of done = []
lines_of (plain a rest) = line.Plain a ∷ lines_of rest
lines_of (rewire n s rest) = line.Rewire n s ∷ lines_of rest
lines_of (when x inner rest) = line.When x ∷ (lines_of inner ++ (line.End ∷ lines_of rest))
lines_of (effect inner rest) = line.Effect ∷ (lines_of inner ++ (line.End ∷ lines_of rest))

-- ---- the lists of a body, each in the order of the text

-- those names, and behind them the others of a formula
abbrev pub with_formula : List (List ℕ) → Option Draft → List (List ℕ)
with_formula ns None = ns
with_formula ns (Some x) = with_names ns x

-- those names, and behind them a target that isn't among them
abbrev pub with_target : List (List ℕ) → Option (List ℕ) → List (List ℕ)
with_target ts None = ts
with_target ts (Some n) = with_name ts n

-- those names, and behind them the others in the formulas of the body's own statements; that of a rewiring isn't evaluated with the body
abbrev pub with_own : List (List ℕ) → Statements → List (List ℕ)
with_own ns done = ns
with_own ns (plain a rest) = with_own (with_formula ns (formula_of a)) rest
with_own ns (rewire n s rest) = with_own ns rest
with_own ns (when x inner rest) = with_own (with_own (with_names ns x) inner) rest
with_own ns (effect inner rest) = with_own ns rest

-- those names, and behind them the others that the body's own statements act on
abbrev pub with_targets : List (List ℕ) → Statements → List (List ℕ)
with_targets ts done = ts
with_targets ts (plain a rest) = with_targets (with_target ts (target_of a)) rest
with_targets ts (rewire n s rest) = with_targets (with_name ts n) rest
with_targets ts (when x inner rest) = with_targets (with_targets ts inner) rest
with_targets ts (effect inner rest) = with_targets ts rest

-- a computed, by its place among the targets, and its source with the source's own names
abbrev pub rewiring_of : ℕ → Source → Rewiring
rewiring_of t (source.Formula x) = record { target = t; source = stated.formula (slotted (names x) x); names = names x }
rewiring_of t (source.Host k ns) = record { target = t; source = stated.host k; names = ns }

-- the rewirings of the body's own statements
abbrev pub rewirings_of : List (List ℕ) → Statements → List Rewiring
rewirings_of ts done = []
rewirings_of ts (plain a rest) = rewirings_of ts rest
rewirings_of ts (rewire n s rest) = rewiring_of (slot_of ts n) s ∷ rewirings_of ts rest
rewirings_of ts (when x inner rest) = rewirings_of ts inner ++ rewirings_of ts rest
rewirings_of ts (effect inner rest) = rewirings_of ts rest

-- how many of its own statements are rewirings
abbrev pub own_rewires : Statements → ℕ
own_rewires done = 0
own_rewires (plain a rest) = own_rewires rest
own_rewires (rewire n s rest) = 1 + own_rewires rest
own_rewires (when x inner rest) = own_rewires inner + own_rewires rest
own_rewires (effect inner rest) = own_rewires rest

-- how many of its own statements are nested effects
abbrev pub own_effects : Statements → ℕ
own_effects done = 0
own_effects (plain a rest) = own_effects rest
own_effects (rewire n s rest) = own_effects rest
own_effects (when x inner rest) = own_effects inner + own_effects rest
own_effects (effect inner rest) = 1 + own_effects rest

-- ---- statements with places in place of names

-- one line, in a body with these targets and names
abbrev pub placed_line : List (List ℕ) → List (List ℕ) → Statement → Plain ℕ ℕ Tree
placed_line ts ns a = mapped (slot_of ts) (slot_of ts) (slotted ns) a

-- all of them before others, where so many nested effects and so many rewirings stand before them
abbrev pub placed : List (List ℕ) → List (List ℕ) → ℕ → ℕ → Statements → Stated → Stated
placed ts ns e r done after = after
placed ts ns e r (plain a rest) after = stated.plain (placed_line ts ns a) (placed ts ns e r rest after)
placed ts ns e r (rewire n s rest) after = stated.rewire r (placed ts ns e (r + 1) rest after)
placed ts ns e r (when x inner rest) after =
    stated.when (slotted ns x) (placed ts ns e r inner stated.no_more) (placed ts ns (e + own_effects inner) (r + own_rewires inner) rest after)
placed ts ns e r (effect inner rest) after = stated.effect e (placed ts ns (e + 1) r rest after)

-- ---- bodies

-- the body of statements with these bodies of nested effects, before others
abbrev pub body_with : Statements → Bodies → Bodies → Bodies
body_with s inner others =
    body (placed (with_targets [] s) (with_own [] s) 0 0 s stated.no_more) (with_targets [] s) (with_own [] s) inner
    (rewirings_of (with_targets [] s) s) others

-- the bodies of the nested effects, before others
abbrev pub effects_of : Statements → Bodies → Bodies
effects_of done others = others
effects_of (plain a rest) others = effects_of rest others
effects_of (rewire n s rest) others = effects_of rest others
effects_of (when x inner rest) others = effects_of inner (effects_of rest others)
effects_of (effect inner rest) others = body_with inner (effects_of inner no_bodies) (effects_of rest others)

-- the body of statements
abbrev pub body_of : Statements → Bodies
body_of s = body_with s (effects_of s no_bodies) no_bodies
