-- Statements of one line, whatever their cells, things and formulas are.
use Rattle.std.specs.Prelude.{Option, Some, None}
use Rattle.effect_model.specs.declared.plain.Plain.{Plain}
use Rattle.effect_model.specs.declared.plain.Plain.TheVariants as p

-- the statement with others in their places
abbrev pub mapped : {C T F D U G : Type 0} → (C → D) → (T → U) → (F → G) → Plain C T F → Plain D U G
mapped c t f (p.Set n x) = p.Set (c n) (f x)
mapped c t f (p.Log x) = p.Log (f x)
mapped c t f (p.CleanupSet n x) = p.CleanupSet (c n) (f x)
mapped c t f (p.CleanupLog x) = p.CleanupLog (f x)
mapped c t f (p.Dispose n) = p.Dispose (t n)

-- the formula that is evaluated with the body
abbrev pub formula_of : {C T F : Type 0} → Plain C T F → Option F
formula_of (p.Set n x) = Some x
formula_of (p.Log x) = Some x
formula_of (p.CleanupSet n x) = Some x
formula_of (p.CleanupLog x) = Some x
formula_of _ = None

-- what it acts on, if cells and things are the same
abbrev pub target_of : {T F : Type 0} → Plain T T F → Option T
target_of (p.Set n x) = Some n
target_of (p.Log x) = None
target_of (p.CleanupSet n x) = Some n
target_of (p.CleanupLog x) = None
target_of (p.Dispose n) = Some n
