-- A body wants at most as many acts done as it has statements.
use Rattle.std.proofs.Common.{◌≡◌, ℕ, suc, ◌+◌, ◌≤◌, true, false, List, [], ◌∷◌, ◌++◌, length, length-append, None, refl, sym, ap, subst, ◌∙◌, arith}
use Rattle.sig_base.specs.declared.value.Value.{Value}
use Rattle.sig_base.specs.declared.value.Value.TheVariants as value
use Rattle.sig_base.specs.declared.value.Fault.{Fault}
use Rattle.sig_base.specs.declared.value.Known.{Known}
use Rattle.sig_base.specs.declared.value.Outcome.TheVariants.{Good, Bad}
use Rattle.sig_formula.specs.declared.evaluate.FormulaStep.{FormulaStep}
use Rattle.sig_formula.specs.declared.evaluate.FormulaStep.TheVariants.{Ask, End}
use Rattle.sig_formula.specs.Evaluation.{formula_step}
use Rattle.sig_formula.specs.Trees.{Tree}
use Rattle.effect_model.specs.Bodies.{Act, to_make, to_rewire, BodyStep, reads, acts, fails}
use Rattle.effect_model.specs.Bodies.{followed_by, one_first, and_then, with_answer, guarded, plain_step, body_step}
use Rattle.effect_model.specs.Lines.{mapped}
use Rattle.effect_laws.proofs.SharedAsks.{plain_cases}
use Rattle.sig_untrack.specs.declared.body.Body.{Body}
use Rattle.sig_untrack.specs.declared.body.Act.{Act as AnAct}
use Rattle.sig_untrack.specs.declared.body.BodyStep.{BodyStep as AStep}
use Rattle.sig_untrack.specs.Links.{Parts, acts_of, linked, step_of}
use Rattle.sig_untrack.specs.Stated.{Stated, no_more, plain, when, effect, rewire, before, no_bodies, statements_of}
use Rattle.effect_tables.specs.Scripts.{count_of}
use Rattle.effect_runs.specs.declared.run.BodyEnd.{BodyEnd}
use Rattle.effect_runs.specs.declared.run.BodyEnd.TheVariants.{Fail}
use Rattle.effect_runs.specs.Evaluations.{IsShort}
use Rattle.effect_runs.proofs.Slots.{some_parts}

-- how many acts an answer has
abbrev wanted : BodyStep → ℕ
wanted (reads s tracked) = 0
wanted (acts as') = length as'
wanted (fails e) = 0

more_wanted : (as' : List Act) (x : BodyStep) → wanted (followed_by as' x) ≤ length as' + wanted x
more_wanted as' (reads s tracked) = omega arith
more_wanted as' (acts bs) = let e : length (as' ++ bs) ≡ length as' + length bs = length-append as' bs in omega (arith, e)
more_wanted as' (fails e) = omega arith

one_wanted : (a : Act) (x : BodyStep) (n : ℕ) → wanted x ≤ n → wanted (one_first a x) ≤ suc n
one_wanted a x n h = let m : wanted (followed_by (a ∷ []) x) ≤ length (a ∷ []) + wanted x = more_wanted (a ∷ []) x in omega (arith, h, m)

both_wanted : (x y : BodyStep) (n m : ℕ) → wanted x ≤ n → wanted y ≤ m → wanted (and_then x y) ≤ n + m
both_wanted (reads s tracked) y n m h k = omega arith
both_wanted (acts as') y n m h k = let e : wanted (followed_by as' y) ≤ length as' + wanted y = more_wanted as' y in omega (arith, h, k, e)
both_wanted (fails e) y n m h k = omega arith

one_before : (x y : BodyStep) (n : ℕ) → wanted x ≤ 1 → wanted y ≤ n → wanted (and_then x y) ≤ suc n
one_before x y n h k = let b : wanted (and_then x y) ≤ 1 + n = both_wanted x y 1 n h k in omega (arith, b)

answer_wanted : (f : FormulaStep) (go : Value → BodyStep) (n : ℕ) → ((v : Value) → wanted (go v) ≤ n) → wanted (with_answer f go) ≤ n
answer_wanted (Ask s tracked) go n h = omega arith
answer_wanted (End (Good v)) go n h = h v
answer_wanted (End (Bad e)) go n h = omega arith

guard_wanted : (v : Value) (x y : BodyStep) (n m : ℕ) → wanted x ≤ n → wanted y ≤ m → wanted (guarded v x y) ≤ suc (n + m)
guard_wanted (value.Bool true) x y n m h k = let b : wanted (and_then x y) ≤ n + m = both_wanted x y n m h k in omega (arith, b)
guard_wanted (value.Bool false) x y n m h k = omega (arith, k)
guard_wanted _ x y n m h k = omega arith

module _ (p : Parts) (ts us : List Known) where
  some_wanted : (ss : Stated) → wanted (body_step (linked p ss) ts us) ≤ count_of ss
  some_wanted no_more = omega arith
  some_wanted (plain a rest) =
      let x = mapped p.cells p.things (λ (f : Tree). f) a in
      let one : wanted (plain_step x ts us) ≤ 1 =
      plain_cases (λ y. wanted y ≤ 1) x ts us (λ f m c is e. omega arith) (λ e. omega arith) (λ y. omega arith) in
      one_before (plain_step x ts us) (body_step (linked p rest) ts us) (count_of rest) one (some_wanted rest)
  some_wanted (when f inner rest) =
      answer_wanted (formula_step true f None ts us) _ (suc (count_of inner + count_of rest))
      (λ v. guard_wanted v (body_step (linked p inner) ts us) (body_step (linked p rest) ts us) (count_of inner) (count_of rest) (some_wanted inner) (some_wanted rest))
  some_wanted (effect n rest) = one_wanted (to_make (p.bodies n)) (body_step (linked p rest) ts us) (count_of rest) (some_wanted rest)
  some_wanted (rewire n rest) =
      one_wanted (to_rewire (p.rewirings n).target (p.rewirings n).recipe) (body_step (linked p rest) ts us) (count_of rest) (some_wanted rest)

-- as many acts are meant
meant_length : (p : Parts) (as' : List AnAct) → length (acts_of p as') ≡ length as'
meant_length p [] = refl
meant_length p (a ∷ as') = ap suc (meant_length p as')

-- so it is with what a body answers
pub acts_are_few : (b : Body) (ts us : List Known) (given : AStep) (as' : List AnAct) →
    ((p : Parts) → step_of p given ≡ body_step (linked p (statements_of (before b no_bodies))) ts us) → ((p : Parts) → step_of p given ≡ acts (acts_of p as')) →
    length as' ≤ count_of (statements_of (before b no_bodies))
acts_are_few b ts us given as' said is =
    let ss : Stated = statements_of (before b no_bodies) in
    let few : wanted (body_step (linked some_parts ss) ts us) ≤ count_of ss = some_wanted some_parts ts us ss in
    let same : length (acts_of some_parts as') ≡ wanted (body_step (linked some_parts ss) ts us) = ap wanted (sym (is some_parts) ∙ said some_parts) in
    let count : length (acts_of some_parts as') ≡ length as' = meant_length some_parts as' in
    omega (arith, few, same, count)

-- a fault wants none done
pub fault_is_short : (n : ℕ) (end : BodyEnd) (e : Fault) → end ≡ Fail e → IsShort n end
fault_is_short n end e is = subst (IsShort n) (sym is) tt
