-- Bodies of effects, apart from where they lie in memory. Their numbers are places in their lists.
use Rattle.std.specs.Prelude.{ℕ, List, [], ◌∷◌, map}
use Rattle.sig_formula.specs.Trees.{Tree, tree}
use Rattle.effect_model.specs.declared.plain.Plain.{Plain}
use Rattle.effect_model.specs.Lines.{mapped}
use Rattle.sig_formula.specs.declared.formula.Formula.{Formula}
use Rattle.sig_untrack.specs.declared.body.Stmt.{Stmt}
use Rattle.sig_untrack.specs.declared.body.Stmt.TheOpen.{Stmt-F, When, Effect, Rewire}
use Rattle.sig_untrack.specs.declared.body.Stmt.TheOpen as given
use Rattle.sig_untrack.specs.declared.body.Stmt.TheFolds.{fold-Stmt}
use Rattle.sig_untrack.specs.declared.body.Recipe2.{Recipe2}
use Rattle.sig_untrack.specs.declared.body.Recipe2.TheVariants as recipe
use Rattle.sig_untrack.specs.declared.body.Rewire.{Rewire as ARewire}
use Rattle.sig_untrack.specs.declared.body.Body.{Body}
use Rattle.sig_untrack.specs.declared.body.Body.TheOpen.{Body-F}
use Rattle.sig_untrack.specs.declared.body.Body.TheFolds.{fold-Body}

-- the statements of a body, the first with those after it
pub data Stated : Type 0 where
  no_more : Stated
  -- one line, on targets
  plain : Plain ℕ ℕ Tree → Stated → Stated
  -- a guard, what it guards, and what stands after both
  when : Tree → Stated → Stated → Stated
  -- a nested effect, and a rewiring
  effect : ℕ → Stated → Stated
  rewire : ℕ → Stated → Stated

-- what statements put before others
abbrev pub Putting : Type 0
Putting = Stated → Stated

-- the statements one after the other
abbrev pub all_put : List Putting → Putting
all_put [] rest = rest
all_put (s ∷ ss) rest = s (all_put ss rest)

-- the line that the program holds
abbrev pub held_line : Plain ℕ ℕ Formula → Plain ℕ ℕ Tree
held_line a = mapped (λ n. n) (λ n. n) tree a

-- one statement, where of those that it guards it is known what they put
abbrev pub put_step : Stmt-F Putting → Putting
put_step (given.Plain a) rest = plain (held_line a) rest
put_step (When f inner) rest = when (tree f) (all_put inner.items no_more) rest
put_step (Effect n) rest = effect n rest
put_step (Rewire n) rest = rewire n rest

-- what a statement puts before others
abbrev pub put : Stmt → Putting
put = fold-Stmt Putting put_step

-- what the program's statements put before others
abbrev pub stated : List Stmt → Putting
stated ss = all_put (map put ss)

-- what a computed is computed by: a formula, or the host formula at a place
pub data Source : Type 0 where
  formula : Tree → Source
  host : ℕ → Source

-- a rewiring: its target, and the source with its own names
pub record Rewiring : Type 0 where
  pub target : ℕ
  pub source : Source
  pub names : List (List ℕ)

-- bodies one after the other: of the first its statements, targets, names, nested effects and rewirings, and then the others
pub data Bodies : Type 0 where
  no_bodies : Bodies
  body : Stated → List (List ℕ) → List (List ℕ) → Bodies → List Rewiring → Bodies → Bodies

-- the source that the program holds
abbrev pub source : Recipe2 → Source
source (recipe.Formula f) = formula (tree f)
source (recipe.Host k) = host k

-- the rewiring that the program holds
abbrev pub rewiring : ARewire → Rewiring
rewiring r = record { target = r.target; source = source r.recipe; names = r.names.items }

-- bodies before others
abbrev pub all_before : List (Bodies → Bodies) → Bodies → Bodies
all_before [] rest = rest
all_before (b ∷ bs) rest = b (all_before bs rest)

-- a body before others, where of its nested effects it is known how they stand before others
abbrev pub before_step : Body-F (Bodies → Bodies) → Bodies → Bodies
before_step b rest =
    body (stated b.statements.items no_more) b.targets.items b.names.items (all_before b.effects.items no_bodies) (map rewiring b.rewires.items) rest

-- the program's body before others
abbrev pub before : Body → Bodies → Bodies
before = fold-Body (Bodies → Bodies) before_step

-- the program's bodies before others
abbrev pub bodies_before : List Body → Bodies → Bodies
bodies_before bs = all_before (map before bs)

-- the statements of the first
abbrev pub statements_of : Bodies → Stated
statements_of no_bodies = no_more
statements_of (body ss targets names effects rewires rest) = ss
