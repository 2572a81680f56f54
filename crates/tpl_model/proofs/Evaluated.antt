-- The formula of a line asks no host.
use Rattle.std.proofs.Common.{◌≡◌, ℕ, zero, suc, refl, ap, List, [], length, Option}
use Rattle.sig_base.specs.declared.value.Value.{Value}
use Rattle.sig_base.specs.declared.value.Known.{Known}
use Rattle.sig_base.specs.declared.value.Step.{Step}
use Rattle.sig_base.specs.declared.value.Step.TheVariants.{Read, Done, Fail}
use Rattle.sig_base.specs.declared.value.Outcome.{Outcome}
use Rattle.sig_base.specs.declared.value.Outcome.TheVariants.{Good, Bad}
use Rattle.sig_formula.specs.Trees.{Tree}
use Rattle.sig_formula.specs.declared.formula.RowRef.{RowRef}
use Rattle.signal_model.specs.Recipes.{Hosts, no_hosts, formula, recipe_answer}
use Rattle.signal_model.specs.Values.{Evaluation, read_first, after_read, after_step, learnt, asked_within, unknown_slots}
use Rattle.tpl_model.specs.Laws.{EvaluatingLaw}

-- two evaluations that go on alike after a read
same_read : (m : ℕ) (o : Outcome) (go go' : Value → Evaluation) → ((v : Value) → go v ≡ go' v) → after_read m o go ≡ after_read m o go'
same_read m (Bad e) go go' h = refl
same_read m (Good v) go go' h = ap (read_first (record { name = m; outcome = Good v })) (h v)

pub same_step : (s : Step) (slots : List ℕ) (source : ℕ → Outcome) (go go' : ℕ → Value → Evaluation) →
    ((n : ℕ) (v : Value) → go n v ≡ go' n v) → after_step s slots source go ≡ after_step s slots source go'
same_step (Done v) slots source go go' h = refl
same_step (Fail e) slots source go go' h = refl
same_step (Read n) slots source go go' h = same_read _ _ (go n) (go' n) (h n)

same_within : (turns : ℕ) (hosts : Hosts) (links : List ℕ) (source : ℕ → Outcome) (row : Option RowRef) (f : Tree) (known : List Known) →
    asked_within turns no_hosts (record { expression = formula row f; slots = links }) source known
    ≡ asked_within turns hosts (record { expression = formula row f; slots = links }) source known
same_within zero hosts links source row f known = refl
same_within (suc turns) hosts links source row f known =
    same_step (recipe_answer hosts (record { expression = formula row f; slots = links }) known) links source
    (λ n v. asked_within turns no_hosts (record { expression = formula row f; slots = links }) source (learnt known n v))
    (λ n v. asked_within turns hosts (record { expression = formula row f; slots = links }) source (learnt known n v))
    (λ n v. same_within turns hosts links source row f (learnt known n v))

pub evaluating_law : EvaluatingLaw
evaluating_law hosts links source row f = same_within (suc (unknown_slots (length links) [])) hosts links source row f []
