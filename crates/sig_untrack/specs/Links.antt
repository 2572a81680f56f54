-- What the places of a body stand for.
use Rattle.std.specs.Prelude.{ℕ, List, map}
use Rattle.sig_base.specs.Values.{scalar_value}
use Rattle.signal_model.specs.Recipes.{Recipe}
use Rattle.effect_model.specs.Owners.{Thing, sets, logs}
use Rattle.effect_model.specs.declared.plain.Plain.{Plain}
use Rattle.effect_model.specs.Lines.{mapped}
use Rattle.sig_formula.specs.Trees.{Tree}
use Rattle.effect_model.specs.Bodies.{Statements, Body, Act, to_set, to_log, to_note, to_make, to_dispose, to_rewire, BodyStep, reads, acts, fails}
use Rattle.effect_model.specs.Bodies as model
use Rattle.sig_untrack.specs.declared.body.Act.{Act as AnAct}
use Rattle.sig_untrack.specs.declared.body.Act.TheVariants as act
use Rattle.sig_untrack.specs.declared.body.BodyStep.{BodyStep as AStep}
use Rattle.sig_untrack.specs.declared.body.BodyStep.TheVariants as step
use Rattle.sig_untrack.specs.Stated.{Stated, no_more, plain, when, effect, rewire}

-- a computed, and the recipe that it gets
pub record Rewired : Type 0 where
  pub target : ℕ
  pub recipe : Recipe

-- what the places of a body stand for: its targets as cells and as things, its nested effects and its rewirings
pub record Parts : Type 0 where
  pub cells : ℕ → ℕ
  pub things : ℕ → Thing
  pub bodies : ℕ → Body
  pub rewirings : ℕ → Rewired

-- one line, likewise
abbrev pub linked_line : Parts → Plain ℕ ℕ Tree → Plain ℕ Thing Tree
linked_line p a = mapped p.cells p.things (λ x. x) a

-- the statements that a body makes of what its places stand for
abbrev pub linked : Parts → Stated → Statements
linked p no_more = model.no_more
linked p (plain a rest) = model.plain (linked_line p a) (linked p rest)
linked p (when x inner rest) = model.when x (linked p inner) (linked p rest)
linked p (effect n rest) = model.effect (p.bodies n).statements (p.bodies n).names (linked p rest)
linked p (rewire n rest) = model.rewire (p.rewirings n).target (p.rewirings n).recipe (linked p rest)

-- the act that is meant
abbrev pub act_of : Parts → AnAct → Act
act_of p (act.Set t s) = to_set (p.cells t) (scalar_value s)
act_of p (act.Log v) = to_log v
act_of p (act.CleanupSet t s) = to_note (sets (p.cells t) (scalar_value s))
act_of p (act.CleanupLog v) = to_note (logs v)
act_of p (act.Effect n) = to_make (p.bodies n)
act_of p (act.Dispose t) = to_dispose (p.things t)
act_of p (act.Rewire n) = to_rewire (p.rewirings n).target (p.rewirings n).recipe

-- the acts that are meant
abbrev pub acts_of : Parts → List AnAct → List Act
acts_of p as' = map (act_of p) as'

-- the answer that is meant
abbrev pub step_of : Parts → AStep → BodyStep
step_of p (step.Read s tracked) = reads s tracked
step_of p (step.Acts as') = acts (acts_of p as'.items)
step_of p (step.Fail e) = fails e
