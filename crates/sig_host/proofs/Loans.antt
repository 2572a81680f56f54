-- Who makes rows of no others comes to no others, however often it is asked.
use Rattle.std.proofs.Common.{ℕ, zero, suc, inl, inr, List, [], ◌∷◌, length, map}
use Rattle.std.specs.Prelude.{nat_lt}
use Rattle.std.proofs.lemmas.Bool.{cases_Bool}
use Rattle.sig_base.specs.declared.value.Known.{Known}
use Rattle.sig_base.specs.declared.value.Outcome.{Outcome}
use Rattle.sig_base.specs.declared.value.Outcome.TheVariants.{Good, Bad}
use Rattle.sig_base.specs.declared.value.Step.{Step}
use Rattle.sig_base.specs.declared.value.Step.TheVariants.{Read, Done, Fail}
use Rattle.sig_base.specs.declared.value.Value.{Value}
use Rattle.signal_model.specs.Recipes.{Hosts, Recipe, given_answer, is_known, judged}
use Rattle.signal_model.specs.Values.{Evaluation, after_read, after_step, asked_within, learnt}
use Rattle.sig_host.specs.Hosts.{Meaning, hosts_of}
use Rattle.sig_host.specs.Loans.{AreGood, IsGood, IsGoodOutcome, IsGoodStep, IsLending, LendsRows}

judged_good : (n : ℕ) (known : List Known) (s : Step) → IsGoodStep s → IsGoodStep (judged n known s)
judged_good n known (Done v) g = g
judged_good n known (Fail e) g = tt
judged_good n known (Read s) g = elim (cases_Bool (nat_lt s n)) [
  | inl e ↦ elim (cases_Bool (is_known s known)) [ inl u ↦ rw (e, u) tt | inr u ↦ rw (e, u) tt ]
  | inr e ↦ rw e tt
]

learnt_good : (known : List Known) (s : ℕ) (v : Value) → AreGood known → IsGood v → AreGood (learnt known s v)
learnt_good [] s v g h = (h, tt)
learnt_good (k ∷ ks) s v g h = (g.0, learnt_good ks s v g.1 h)

read_good : (m : ℕ) (o : Outcome) (go : Value → Evaluation) → IsGoodOutcome o → ((v : Value) → IsGood v → IsGoodOutcome (go v).outcome) →
    IsGoodOutcome (after_read m o go).outcome
read_good m (Good v) go g h = h v g
read_good m (Bad e) go g h = tt

step_good : (s : Step) (slots : List ℕ) (source : ℕ → Outcome) (go : ℕ → Value → Evaluation) → IsGoodStep s → ((m : ℕ) → IsGoodOutcome (source m)) →
    ((n : ℕ) (v : Value) → IsGood v → IsGoodOutcome (go n v).outcome) → IsGoodOutcome (after_step s slots source go).outcome
step_good (Done v) slots source go g all h = g
step_good (Fail e) slots source go g all h = tt
step_good (Read n) slots source go g all h = read_good _ _ (go n) (all _) (h n)

-- where the rows of the sources are rows, so are those that a recipe comes to
pub asked_good : (turns : ℕ) (hosts : Hosts) (r : Recipe) (source : ℕ → Outcome) (known : List Known) → IsLending (given_answer hosts r.expression) →
    ((m : ℕ) → IsGoodOutcome (source m)) → AreGood known → IsGoodOutcome (asked_within turns hosts r source known).outcome
asked_good zero hosts r source known lends all g = tt
asked_good (suc turns) hosts r source known lends all g =
    step_good (judged (length r.slots) known (given_answer hosts r.expression known)) r.slots source
    (λ n v. asked_within turns hosts r source (learnt known n v))
    (judged_good (length r.slots) known (given_answer hosts r.expression known) (lends.gives known g)) all
    (λ n v h. asked_good turns hosts r source (learnt known n v) lends all (learnt_good known n v g h))

-- host formulas that are handed in as a list make no others, where each of them makes no others
pub lends_each : {B : Type 0} (f : B → Meaning) → ((b : B) → IsLending (f b)) → (bs : List B) → LendsRows (hosts_of (map f bs))
lends_each f each [] place = record { gives = λ known g. tt }
lends_each f each (b ∷ bs) zero = each b
lends_each f each (b ∷ bs) (suc place) = lends_each f each bs place
