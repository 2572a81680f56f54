-- What the command makes of words gives their job.
use Rattle.std.proofs.Common.{◌≡◌, ℕ, true, List, [], ◌∷◌, Option, None, codes, refl, sym, ◌∙◌, ap, subst, inl, inr}
use Rattle.clap.specs.Words.{App, HasKind, Kinds, fault_of, first_of, first_value, is_simple, is_simple_and_free, kind_of, matches_of, rows_of}
use Rattle.clap.specs.declared.parser.matches.Found.{Found}
use Rattle.clap.specs.declared.error.Error.{Error}
use Rattle.clap.specs.declared.error.kind.ErrorKind.TheVariants as kind
use Rattle.clap.proofs.OnLiterals.{clap_on_literals}
use Rattle.clap.proofs.WalkLemmas.{first_value-rows}
use Rattle.live_words.specs.Jobs.{job_of, job_of_rows, job_of_values, live, unless_refused}
use Rattle.live_words.specs.declared.jobs.Job.{Job}

live_simple : is_simple live ≡ true
unfolding clap_on_literals
live_simple = refl

live_free : is_simple_and_free live ≡ true
unfolding clap_on_literals
live_free = refl

not_refused : (kinds : Kinds) (j : Option Job) → kinds ≡ [] → unless_refused kinds j ≡ j
not_refused kinds j none = rw none refl

-- a value that was found is that of the matches
in_rows : (f : Found) (rows : _) (id : List ℕ) (found : Option (List ℕ)) → rows_of f ≡ rows → found ≡ first_value f id → found ≡ first_of id rows
in_rows f rows id found is by = by ∙ first_value-rows f id ∙ ap (first_of id) is

pub taken : (app : App) (words : List (List ℕ)) (f : Found) (name rounds trace : Option (List ℕ)) → app ≡ live
    → (is_simple_and_free app ≡ true → fault_of app words ≡ []) → (is_simple app ≡ true → rows_of f ≡ matches_of app words)
    → name ≡ first_value f (codes "job") → rounds ≡ first_value f (codes "rounds") → trace ≡ first_value f (codes "trace")
    → job_of_values name rounds trace ≡ job_of words
taken app words f name rounds trace is kinds matches a b d =
    let none : fault_of live words ≡ [] = ap (λ x. fault_of x words) (sym is) ∙ kinds (ap is_simple_and_free is ∙ live_free) in
    let rows : rows_of f ≡ matches_of live words = matches (ap is_simple is ∙ live_simple) ∙ ap (λ x. matches_of x words) is in
    rw (in_rows f (matches_of live words) (codes "job") name rows a, in_rows f (matches_of live words) (codes "rounds") rounds rows b, in_rows f (matches_of live words) (codes "trace") trace rows d)
    (sym (not_refused (fault_of live words) (job_of_rows (matches_of live words)) none))

has_none : (kinds : Kinds) (e : Error) (j : Option Job) → HasKind kinds e → (kind_of e ≡ kind.OutOfMemory → ⊥) → None ≡ unless_refused kinds j
has_none [] e j (inl memory) other = absurd (other memory)
has_none [] e j (inr among) other = absurd among
has_none (k ∷ ks) e j has other = refl

pub refused : (app : App) (words : List (List ℕ)) (e : Error) → app ≡ live → (is_simple_and_free app ≡ true → HasKind (fault_of app words) e)
    → (kind_of e ≡ kind.OutOfMemory → ⊥) → None ≡ job_of words
refused app words e is kinds other =
    has_none (fault_of live words) e (job_of_rows (matches_of live words)) (subst (λ x. HasKind (fault_of x words) e) is (kinds (ap is_simple_and_free is ∙ live_free))) other
