-- The formulas of lines, evaluated on the outcomes of before and on those of now.
use Rattle.std.proofs.Common.{◌≡◌, ℕ, zero, suc, ◌==◌, Bool, true, false, refl, sym, ap, ◌∙◌, eqb-true, inl, inr, List, [], ◌∷◌, map, length, Option, Some, if◌then◌else◌}
use Rattle.std.specs.Prelude.{slice_index}
use Rattle.std.proofs.lemmas.Bool.{cases_Bool, false≢true}
use Rattle.sig_base.specs.declared.value.Value.{Value}
use Rattle.sig_base.specs.declared.value.Known.{Known}
use Rattle.sig_base.specs.declared.value.Step.{Step}
use Rattle.sig_base.specs.declared.value.Step.TheVariants.{Read, Done, Fail}
use Rattle.sig_base.specs.declared.value.Outcome.{Outcome}
use Rattle.sig_base.specs.declared.value.Outcome.TheVariants.{Good, Bad}
use Rattle.sig_formula.specs.declared.formula.RowRef.{RowRef}
use Rattle.sig_formula.specs.Trees.{Tree}
use Rattle.sig_formula.specs.Evaluation as formulas
use Rattle.signal_model.specs.Recipes.{formula, judged, no_hosts}
use Rattle.signal_model.specs.Signals.{is_in}
use Rattle.signal_model.specs.Values.{Seen, Evaluation, after_read, after_step, learnt, asked_within, unknown_slots}
use Rattle.tpl_model.specs.Sources.{evaluating}
use Rattle.tpl_model.specs.PageUpdates.Updates.{Tells}
use Rattle.tpl_model.specs.PageUpdates.PageMemos.{hearing, all_same, up_to_change, Steady, Begins}
use Rattle.tpl_model.proofs.Dependence.{formula_agree}
use Rattle.tpl_model.proofs.Alike.{same_rows}
use Rattle.tpl_model.proofs.Evaluated.{same_step}

abbrev said : Evaluation → List ℕ
said e = map (λ (r : Seen). r.name) e.reads

same_in : (same : ℕ → Bool) (n : ℕ) (ns : List ℕ) → is_in n ns ≡ true → all_same same ns ≡ true → same n ≡ true
same_in same n [] h a = absurd (false≢true h)
same_in same n (m ∷ ns) h a = elim (cases_Bool (same m)) [
  | inl e ↦ elim (cases_Bool (n == m)) [
    | inl f ↦ (let q : n ≡ m = eqb-true n m f in ap same q ∙ e)
    | inr f ↦ same_in same n ns (rw f at h) (rw e at a)
  ]
  | inr e ↦ absurd (false≢true (rw e at a))
]

one_read : (same : ℕ → Bool) (m : ℕ) (o : Outcome) (go go' : Value → Evaluation) → ((v : Value) → up_to_change same (said (go v)) ≡ up_to_change same (said (go' v))) → up_to_change same (said (after_read m o go)) ≡ up_to_change same (said (after_read m o go'))
one_read same m (Bad e) go go' h = refl
one_read same m (Good v) go go' h = ap (λ z. m ∷ (if same m then z else [])) (h v)

stopped : (same : ℕ → Bool) (m : ℕ) (o : Outcome) (go : Value → Evaluation) → same m ≡ false → up_to_change same (said (after_read m o go)) ≡ m ∷ []
stopped same m (Bad e) go h = rw h refl
stopped same m (Good v) go h = rw h refl

read_upto : (same : ℕ → Bool) (m : ℕ) (o o' : Outcome) (go go' : Value → Evaluation) → (same m ≡ true → o ≡ o') → ((v : Value) → up_to_change same (said (go v)) ≡ up_to_change same (said (go' v))) → up_to_change same (said (after_read m o go)) ≡ up_to_change same (said (after_read m o' go'))
read_upto same m o o' go go' e h = elim (cases_Bool (same m)) [
  | inl s ↦ ap (λ z. up_to_change same (said (after_read m z go))) (e s) ∙ one_read same m o' go go' h
  | inr s ↦ stopped same m o go s ∙ sym (stopped same m o' go' s)
]

step_upto : (same : ℕ → Bool) (s s' : ℕ → Outcome) (t : Step) (links : List ℕ) (go go' : ℕ → Value → Evaluation) → ((n : ℕ) → same n ≡ true → s n ≡ s' n) → ((n : ℕ) (v : Value) → up_to_change same (said (go n v)) ≡ up_to_change same (said (go' n v))) → up_to_change same (said (after_step t links s go)) ≡ up_to_change same (said (after_step t links s' go'))
step_upto same s s' (Done v) links go go' e h = refl
step_upto same s s' (Fail v) links go go' e h = refl
step_upto same s s' (Read n) links go go' e h = (let m = slice_index links n in read_upto same m (s m) (s' m) (go n) (go' n) (e m) (h n))

within_upto : (same : ℕ → Bool) (s s' : ℕ → Outcome) → ((n : ℕ) → same n ≡ true → s n ≡ s' n) → (turns : ℕ) (links : List ℕ) (row : Option RowRef) (f : Tree) (known : List Known) →
    up_to_change same (said (asked_within turns no_hosts (record { expression = formula row f; slots = links }) s known)) ≡ up_to_change same (said (asked_within turns no_hosts (record { expression = formula row f; slots = links }) s' known))
within_upto same s s' e zero links row f known = refl
within_upto same s s' e (suc turns) links row f known =
    step_upto same s s' (judged (length links) known (formulas.answer_of f row known)) links
    (λ n v. asked_within turns no_hosts (record { expression = formula row f; slots = links }) s (learnt known n v))
    (λ n v. asked_within turns no_hosts (record { expression = formula row f; slots = links }) s' (learnt known n v))
    e (λ n v. within_upto same s s' e turns links row f (learnt known n v))

within_like : (s : ℕ → Outcome) (r r' : RowRef) (f : Tree) → ((known : List Known) → formulas.answer_of f (Some r) known ≡ formulas.answer_of f (Some r') known) → (turns : ℕ) (links : List ℕ) (known : List Known) →
    asked_within turns no_hosts (record { expression = formula (Some r) f; slots = links }) s known ≡ asked_within turns no_hosts (record { expression = formula (Some r') f; slots = links }) s known
within_like s r r' f h zero links known = refl
within_like s r r' f h (suc turns) links known =
    ap (λ z. after_step (judged (length links) known z) links s (λ n v. asked_within turns no_hosts (record { expression = formula (Some r) f; slots = links }) s (learnt known n v))) (h known)
    ∙ same_step (judged (length links) known (formulas.answer_of f (Some r') known)) links s
    (λ n v. asked_within turns no_hosts (record { expression = formula (Some r) f; slots = links }) s (learnt known n v))
    (λ n v. asked_within turns no_hosts (record { expression = formula (Some r') f; slots = links }) s (learnt known n v))
    (λ n v. within_like s r r' f h turns links (learnt known n v))

pub steady : (same : ℕ → Bool) (before now : ℕ → Outcome) (links : List ℕ) → Tells same before now → Steady same (hearing (evaluating links before)) (hearing (evaluating links now))
steady same before now links t = record {
  heard = λ r f a. ap (λ (e : Evaluation). record { names = said e; outcome = e.outcome }) (formula_agree before now links r f (λ n i. t n (same_in same n (said (evaluating links before r f)) i a)));
  rows = λ r s f a. ap (λ (e : Evaluation). record { names = said e; outcome = e.outcome }) (within_like before r s f (λ known. same_rows r s a f known) (suc (unknown_slots (length links) [])) links []);
}

pub begins : (same : ℕ → Bool) (before now : ℕ → Outcome) (links : List ℕ) → Tells same before now → Begins same (hearing (evaluating links before)) (hearing (evaluating links now))
begins same before now links t = λ r f. within_upto same before now t (suc (unknown_slots (length links) [])) links r f []
