-- What the program holds of a body while it builds it.
use Rattle.std.specs.Prelude.{◌≡◌, ◌≤◌, ℕ, ◌+◌, List, [], ◌∷◌, ◌++◌, length, map, Option, MatchOption}
use Rattle.sig_base.specs.declared.limits.TheConstants.{MOST_SOURCES}
use Rattle.sig_untrack.specs.declared.body.Stmt.{Stmt}
use Rattle.effect_model.specs.Lines.{formula_of, target_of}
use Rattle.sig_untrack.specs.Stated as stated
use Rattle.sig_untrack.specs.Stated.{Stated, Bodies, bodies_before, put, rewiring}
use Rattle.body_text.specs.declared.line.Line.{Line}
use Rattle.body_text.specs.declared.line.Line.TheVariants.{End}
use Rattle.body_text.specs.declared.lists.Lists.{Lists}
use Rattle.body_text.specs.Names.{GoOn}
use Rattle.body_text.specs.Statements.{Statement, Statements, done, plain, rewire, when, effect, lines_of, with_formula, with_target, with_own}
use Rattle.body_text.specs.Statements.{with_targets, effects_of, own_effects, own_rewires, rewirings_of, placed, placed_line}

-- statements, and others behind them
abbrev pub appended : Statements → Statements → Statements
appended done u = u
appended (plain a s) u = plain a (appended s u)
appended (rewire n x s) u = rewire n x (appended s u)
appended (when x i s) u = when x i (appended s u)
appended (effect i s) u = effect i (appended s u)

-- how much is in the lists
abbrev pub size : Lists → ℕ
size l = length l.targets.items + (length l.names.items + (length l.effects.items + length l.rewires.items))

-- at most so much is put there by one line
abbrev pub most_more : ℕ
most_more = 2 + MOST_SOURCES

-- what a statement of one line brings was put, and it is this one
pub record IsPut (a : Statement) (old new : Lists) (s : Stmt) : Type 0 where
  pub targets : new.targets.items ≡ with_target old.targets.items (target_of a)
  pub names : new.names.items ≡ with_formula old.names.items (formula_of a)
  pub effects : new.effects.items ≡ old.effects.items
  pub rewires : new.rewires.items ≡ old.rewires.items
  pub statement : (rest : Stated) → put s rest ≡ stated.plain (placed_line new.targets.items new.names.items a) rest
  pub few : size new ≤ size old + most_more

-- what statements bring was put, and they are these; their places stay, whatever is put behind
pub record IsBuilt (t : Statements) (old new : Lists) (ws : List Stmt) : Type 0 where
  pub targets : new.targets.items ≡ with_targets old.targets.items t
  pub names : new.names.items ≡ with_own old.names.items t
  pub effects : (others : Bodies) → bodies_before new.effects.items others ≡ bodies_before old.effects.items (effects_of t others)
  pub nested : length new.effects.items ≡ length old.effects.items + own_effects t
  pub rewirings : (ts : List (List ℕ)) → GoOn new.targets.items ts →
      map rewiring new.rewires.items ≡ map rewiring old.rewires.items ++ rewirings_of ts t
  pub rewires : length new.rewires.items ≡ length old.rewires.items + own_rewires t
  pub statements : (ts ns : List (List ℕ)) (after : Stated) → GoOn new.targets.items ts → GoOn new.names.items ns
      → stated.stated ws after ≡ placed ts ns (length old.effects.items) (length old.rewires.items) t after

-- Of statements up to an `end`, behind which these lines stand, the first was put and is this one, with those lines left that spell the
-- others; or there is none, and the `end` is taken.
abbrev pub BeginsSo : Statements → List Line → Lists → Lists → List Line → Option Stmt → Type 0
BeginsSo s r old new left found =
    MatchOption found ((s ≡ done) × (left ≡ r) × IsBuilt done old new [])
    (λ w. (t u : Statements) × (s ≡ appended t u) × (left ≡ lines_of u ++ (End ∷ r)) × IsBuilt t old new (w ∷ []))
