-- What the statements of a body read.
use Rattle.std.proofs.Common.{if◌then◌else◌, ◌≡◌, ◌⊎◌, ℕ, Bool, true, false, List, [], ◌∷◌, Option, Some, None, refl, subst, inl, inr}
use Rattle.std.specs.Option.{option_or}
use Rattle.sig_base.specs.declared.value.Value.{Value}
use Rattle.sig_base.specs.declared.value.Value.TheVariants as value
use Rattle.sig_base.specs.declared.value.Fault.{Fault}
use Rattle.sig_base.specs.declared.value.Fault.TheVariants.{Kind}
use Rattle.sig_base.specs.declared.value.Known.{Known}
use Rattle.sig_base.specs.declared.value.Outcome.TheVariants.{Good, Bad}
use Rattle.sig_formula.specs.declared.evaluate.FormulaStep.{FormulaStep}
use Rattle.sig_formula.specs.declared.evaluate.FormulaStep.TheVariants.{Ask, End}
use Rattle.sig_formula.specs.Evaluation.{formula_step, known_at, served}
use Rattle.sig_formula.specs.Laws.{IsAskable}
use Rattle.sig_formula.specs.Trees.{Tree}
use Rattle.sig_formula.proofs.Shared.{formula_asks}
use Rattle.signal_model.specs.Recipes.{IsUnknownSlot, is_known}
use Rattle.signal_model.proofs.Shared.{valueless}
use Rattle.effect_model.specs.declared.plain.Plain.{Plain}
use Rattle.effect_model.specs.declared.plain.Plain.TheVariants as p
use Rattle.effect_model.specs.Lines.{formula_of}
use Rattle.effect_model.specs.Bodies.{Statements, no_more, plain, when, effect, rewire, Act, to_set, to_log, to_note, to_make, to_rewire}
use Rattle.effect_model.specs.Bodies.{BodyStep, reads, acts, fails, followed_by, and_then, with_answer, if_scalar, guarded, plain_step, body_step}
use Rattle.effect_model.specs.Owners.{Thing, sets, logs}
use Rattle.effect_laws.specs.Asks.{SlotsBelow, IsFitFormula, AreFit}

-- ---- one line

-- what goes on with the value of a formula
answer_cases : (P : BodyStep → Type 0) (f : Tree) (ts us : List Known) (go : Value → BodyStep)
    → ((s : ℕ) (b : Bool) → formula_step true f None ts us ≡ Ask s b → P (reads s b)) → ((e : Fault) → P (fails e)) → ((v : Value) → P (go v))
    → P (with_answer (formula_step true f None ts us) go)
answer_cases P f ts us go asked failed good = case (formula_step true f None ts us) refl
  where
    case : (x : FormulaStep) → formula_step true f None ts us ≡ x → P (with_answer x go)
    case (Ask s b) e = asked s b e
    case (End (Good v)) e = good v
    case (End (Bad f)) e = failed f

scalar_cases : (P : BodyStep → Type 0) (v : Value) (x : BodyStep) → P (fails Kind) → P x → P (if_scalar v x)
scalar_cases P (value.Rows t) x failed good = failed
scalar_cases P _ x failed good = good

-- one line asks what its formula asks, or fails, or wants one thing done
pub plain_cases : (P : BodyStep → Type 0) (a : Plain ℕ Thing Tree) (ts us : List Known)
    → ((f : Tree) (s : ℕ) (b : Bool) → formula_of a ≡ Some f → formula_step true f None ts us ≡ Ask s b → P (reads s b))
    → ((e : Fault) → P (fails e)) → ((x : Act) → P (acts (x ∷ []))) → P (plain_step a ts us)
plain_cases P (p.Set n f) ts us asked failed good =
    answer_cases P f ts us _ (λ s b. asked f s b refl) failed (λ v. scalar_cases P v _ (failed Kind) (good (to_set n v)))
plain_cases P (p.Log f) ts us asked failed good = answer_cases P f ts us _ (λ s b. asked f s b refl) failed (λ v. good (to_log v))
plain_cases P (p.CleanupSet n f) ts us asked failed good =
    answer_cases P f ts us _ (λ s b. asked f s b refl) failed (λ v. scalar_cases P v _ (failed Kind) (good (to_note (sets n v))))
plain_cases P (p.CleanupLog f) ts us asked failed good =
    answer_cases P f ts us _ (λ s b. asked f s b refl) failed (λ v. good (to_note (logs v)))
plain_cases P _ ts us asked failed good = good _

-- ---- all statements

followed_asks : (as' : List Act) (x : BodyStep) (s : ℕ) (b : Bool) → followed_by as' x ≡ reads s b → x ≡ reads s b
followed_asks as' (reads m c) s b h = h
followed_asks as' (acts bs) s b h = cc
followed_asks as' (fails e) s b h = cc

then_asks : (x y : BodyStep) (s : ℕ) (b : Bool) → and_then x y ≡ reads s b → (x ≡ reads s b) ⊎ (y ≡ reads s b)
then_asks (reads m c) y s b h = inl h
then_asks (acts as') y s b h = inr (followed_asks as' y s b h)
then_asks (fails e) y s b h = cc

pub guarded_asks : (v : Value) (x y : BodyStep) (s : ℕ) (b : Bool) → guarded v x y ≡ reads s b → (x ≡ reads s b) ⊎ (y ≡ reads s b)
guarded_asks (value.Bool true) x y s b h = then_asks x y s b h
guarded_asks (value.Bool false) x y s b h = inr h
guarded_asks _ x y s b h = cc

neither_known : (x y : Option Value) → option_or x y ≡ None → y ≡ None
neither_known None y h = h
neither_known (Some v) y h = cc

-- what isn't served isn't known to the reads of its kind
unserved : (c : Bool) (n : ℕ) (ts us : List Known) → served c n ts us ≡ None → is_known n (if c then ts else us) ≡ false
unserved true n ts us h = valueless n ts h
unserved false n ts us h = valueless n us (neither_known (known_at n ts) (known_at n us) h)

-- a slot below the bound that isn't known to the reads of its kind
abbrev pub IsNew : ℕ → List Known → List Known → ℕ → Bool → Type 0
IsNew n ts us s b = IsUnknownSlot n s (if b then ts else us)

fits : (n : ℕ) (f : Tree) (ts us : List Known) (s : ℕ) (b : Bool) → SlotsBelow n f → formula_step true f None ts us ≡ Ask s b → IsNew n ts us s b
fits n f ts us s b below e =
    let a : IsAskable f (served b s ts us) s = formula_asks true f None ts us s b e in
    record { inside = below s a.own; unknown = unserved b s ts us a.unknown }

asked_by : (n : ℕ) (f : Tree) (ts us : List Known) (s : ℕ) (tr : Bool) (m : ℕ) (c : Bool) → SlotsBelow n f
    → formula_step true f None ts us ≡ Ask m c → reads m c ≡ reads s tr → IsNew n ts us s tr
asked_by n f ts us s tr m c below e g = let one : formula_step true f None ts us ≡ Ask s tr = cc in fits n f ts us s tr below one

asked : (n : ℕ) (x : Plain ℕ Thing Tree) (ts us : List Known) (s : ℕ) (tr : Bool) → IsFitFormula n (formula_of x)
    → (f : Tree) (m : ℕ) (c : Bool) → formula_of x ≡ Some f → formula_step true f None ts us ≡ Ask m c → reads m c ≡ reads s tr → IsNew n ts us s tr
asked n x ts us s tr a f m c is e g = asked_by n f ts us s tr m c (subst (IsFitFormula n) is a) e g

pub body_asks : (n : ℕ) (b : Statements) (ts us : List Known) (s : ℕ) (tr : Bool) → AreFit n b → body_step b ts us ≡ reads s tr → IsNew n ts us s tr
body_asks n no_more ts us s tr a h = absurd (cc)
body_asks n (plain x rest) ts us s tr a h = elim (then_asks (plain_step x ts us) (body_step rest ts us) s tr h) [
  | inl e ↦ plain_cases (λ y. y ≡ reads s tr → IsNew n ts us s tr) x ts us (asked n x ts us s tr a.0) (λ f g. absurd (cc)) (λ y g. absurd (cc)) e
  | inr e ↦ body_asks n rest ts us s tr a.1 e
]
body_asks n (when f inner rest) ts us s tr a h =
    answer_cases (λ y. y ≡ reads s tr → IsNew n ts us s tr) f ts us (λ v. guarded v (body_step inner ts us) (body_step rest ts us))
    (λ m c e. asked_by n f ts us s tr m c a.0 e) (λ e g. absurd (cc))
    (λ v g. elim (guarded_asks v (body_step inner ts us) (body_step rest ts us) s tr g) [
      | inl e ↦ body_asks n inner ts us s tr a.1 e
      | inr e ↦ body_asks n rest ts us s tr a.2 e
    ]) h
body_asks n (effect inner names rest) ts us s tr a h =
    body_asks n rest ts us s tr a (followed_asks (to_make (record { statements = inner; names = names }) ∷ []) (body_step rest ts us) s tr h)
body_asks n (rewire m r rest) ts us s tr a h = body_asks n rest ts us s tr a (followed_asks (to_rewire m r ∷ []) (body_step rest ts us) s tr h)
