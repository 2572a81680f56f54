-- A recipe that follows its kept sources goes as from scratch where they stand as from scratch.
use Rattle.std.proofs.Common.{◌≡◌, ℕ, ◌||◌, true, false, List, [], ◌∷◌, Some, refl, sym, ap, ◌∙◌, subst, inl, inr}
use Rattle.std.specs.Prelude.{slice_index}
use Rattle.sig_base.specs.declared.value.Value.{Value}
use Rattle.sig_base.specs.declared.value.Outcome.{Outcome}
use Rattle.sig_base.specs.declared.value.Outcome.TheVariants.{Good, Bad}
use Rattle.sig_base.specs.declared.value.Step.{Step}
use Rattle.sig_base.specs.declared.value.Step.TheVariants.{Read, Done, Fail}
use Rattle.sig_base.specs.declared.value.Known.{Known}
use Rattle.signal_model.specs.Recipes.{Hosts, Recipe, recipe_answer}
use Rattle.signal_model.specs.Signals.{Signals, is_in}
use Rattle.signal_model.specs.Values.{Evaluation, learnt, after_read, after_step, asked_from}
use Rattle.signal_model.specs.Memos.{Source, Memos, source_names, differs, some_moved}
use Rattle.signal_model.specs.Sound.{standing_outcome, EndsWith, AfterSource, Unless, Follows, names_of}
use Rattle.signal_model.specs.Laws.{IsRead}
use Rattle.signal_model.proofs.Shared.{asked_by_steps}
use Rattle.signal_laws.proofs.FailedTests.{or_fst, or_snd}
use Rattle.signal_laws.proofs.Lists.{in_head, in_tail}

-- an evaluation read these sources and no other, and came to the outcome
pub record IsRun (e : Evaluation) (ss : List Source) (o : Outcome) : Type 0 where
  pub names : names_of e.reads ≡ source_names ss
  pub outcome : e.outcome ≡ o

-- what is read first is among the reads
head_read : (m : ℕ) (x : Outcome) (f : Value → Evaluation) → IsRead m (after_read m x f).reads
head_read m (Good v) f = inl refl
head_read m (Bad e) f = inl refl

-- the sources stand as the evaluation finds them
abbrev pub StandAs : Signals → Memos → (ℕ → Outcome) → Evaluation → List Source → Type 0
StandAs w k source e ss = (m : ℕ) → IsRead m e.reads → is_in m (source_names ss) ≡ true → standing_outcome w k m ≡ Some (source m)

module _ (hosts : Hosts) (w : Signals) (k : Memos) (r : Recipe) (source : ℕ → Outcome) where
  -- the evaluation by its next answer
  pub step_is : (known : List Known) (st : Step) → recipe_answer hosts r known ≡ st →
      asked_from hosts r source known ≡ after_step st r.slots source (λ s v. asked_from hosts r source (learnt known s v))
  step_is known st e = asked_by_steps hosts r source known
      ∙ (λ i. after_step (e i) r.slots source (λ s v. asked_from hosts r source (learnt known s v)))

  -- the recipe goes as from scratch
  pub follows_run : (o : Outcome) (known : List Known) (ss : List Source) → Follows hosts w k r o known ss → some_moved k [] ss ≡ false →
      StandAs w k source (asked_from hosts r source known) ss → IsRun (asked_from hosts r source known) ss o
  follows_run o known [] f calm ok = go (recipe_answer hosts r known) refl f
    where
      go : (st : Step) → recipe_answer hosts r known ≡ st → EndsWith st o → IsRun (asked_from hosts r source known) [] o
      go (Done v) e h = subst (λ x. IsRun x [] o) (sym (step_is known (Done v) e)) (record { names = refl; outcome = sym h })
      go (Fail x) e h = subst (λ x. IsRun x [] o) (sym (step_is known (Fail x) e)) (record { names = refl; outcome = sym h })
      go (Read s) e h = absurd h
  follows_run o known (s ∷ ss) f calm ok =
      let slot : ℕ = f.0 in
      let m : ℕ = slice_index r.slots slot in
      let is : asked_from hosts r source known ≡ after_read m (source m) (λ v. asked_from hosts r source (learnt known slot v)) =
      step_is known (Read slot) f.1 in
      let ok' : StandAs w k source (after_read m (source m) (λ v. asked_from hosts r source (learnt known slot v))) (s ∷ ss) =
      subst (λ x. StandAs w k source x (s ∷ ss)) is ok in
      let here : standing_outcome w k m ≡ Some (source m) = ok' m (head_read m (source m) (λ v. asked_from hosts r source (learnt known slot v)))
      (subst (λ x. is_in m (x ∷ source_names ss) ≡ true) f.2 (in_head m (source_names ss))) in
      let same : differs k s ≡ false = or_fst (differs k s) false (or_fst (differs k s || false) (some_moved k [] ss) calm) in
      let rest : some_moved k [] ss ≡ false = or_snd (differs k s || false) (some_moved k [] ss) calm in
      let h : AfterSource (standing_outcome w k s.name) ss o (λ v. Follows hosts w k r o (learnt known slot v) ss) =
      subst (λ b. Unless b (AfterSource (standing_outcome w k s.name) ss o (λ v. Follows hosts w k r o (learnt known slot v) ss))) same f.3 in
      subst (λ x. IsRun x (s ∷ ss) o) (sym is)
      (go m slot (source m) f.2
      (subst (λ x. AfterSource x ss o (λ v. Follows hosts w k r o (learnt known slot v) ss)) (ap (standing_outcome w k) (sym f.2) ∙ here) h)
      ok' (λ v g st. follows_run o (learnt known slot v) ss g rest st))
    where
      go : (m slot : ℕ) (x : Outcome) → m ≡ s.name → AfterSource (Some x) ss o (λ v. Follows hosts w k r o (learnt known slot v) ss) →
          StandAs w k source (after_read m x (λ v. asked_from hosts r source (learnt known slot v))) (s ∷ ss) →
          ((v : Value) → Follows hosts w k r o (learnt known slot v) ss → StandAs w k source (asked_from hosts r source (learnt known slot v)) ss →
          IsRun (asked_from hosts r source (learnt known slot v)) ss o) →
          IsRun (after_read m x (λ v. asked_from hosts r source (learnt known slot v))) (s ∷ ss) o
      go m slot (Good v) e h st next =
          let q : IsRun (asked_from hosts r source (learnt known slot v)) ss o =
          next v h (λ j on isin. st j (inr on) (in_tail j s.name (source_names ss) isin)) in
          record { names = (λ i. e i ∷ q.names i); outcome = q.outcome }
      go m slot (Bad x) e h st next = record { names = (λ i. e i ∷ source_names (sym h.0 i)); outcome = sym h.1 }
