-- A body that is asked again and again, on what is settled.
use Rattle.std.proofs.Common.{◌≡◌, ℕ, Bool, true, false, not, List, [], ◌∷◌, ◌++◌, length, append_assoc, refl, sym, ap, subst, ◌∙◌}
use Rattle.std.specs.Prelude.{slice_index}
use Rattle.std.proofs.lemmas.List.{append-nil, map-append}
use Rattle.sig_base.specs.declared.value.Value.{Value}
use Rattle.sig_base.specs.declared.value.Fault.{Fault}
use Rattle.sig_base.specs.declared.value.Known.{Known}
use Rattle.sig_base.specs.declared.value.Outcome.{Outcome}
use Rattle.sig_base.specs.declared.value.Outcome.TheVariants.{Good, Bad}
use Rattle.signal_model.specs.Recipes.{Hosts}
use Rattle.signal_model.specs.Values.{Seen, value_of}
use Rattle.signal_model.specs.Sound.{names_of}
use Rattle.signal_model.specs.Kept.{AreKept}
use Rattle.signal_laws.specs.ReadLaws.{HaveOutcomes}
use Rattle.signal_laws.proofs.Shared.{all_snoc}
use Rattle.effect_model.specs.Bodies as model
use Rattle.effect_model.specs.Bodies.{BodyEvaluation, BodyStep, reads, body_step, body_ended, if_tracked, after_body_step, with_known, body_asked_from}
use Rattle.effect_model.specs.Bodies.{body_evaluation, failed_by}
use Rattle.effect_laws.specs.Asks.{AreFit}
use Rattle.effect_laws.proofs.Shared.{body_law}
use Rattle.sig_untrack.specs.declared.body.Body.{Body}
use Rattle.sig_untrack.specs.declared.body.BodyStep.{BodyStep as AStep}
use Rattle.sig_untrack.specs.Links.{Parts, step_of}
use Rattle.sig_computed.specs.Notes.{IsIdle}
use Rattle.sig_computed.specs.Scenes.{Scene, Settles}
use Rattle.sig_computed.proofs.Shared.{nothing_settled, then_settled}
use Rattle.effect_runs.specs.declared.run.BodyEnd.{BodyEnd}
use Rattle.effect_runs.specs.declared.run.BodyEnd.TheVariants.{Fail}
use Rattle.effect_runs.specs.declared.run.BodyRun.{BodyRun}
use Rattle.effect_runs.specs.Evaluations.{body_seen, learnt_if, result_of, HasNames, IsRunOf}
use Rattle.effect_runs.proofs.Names.{same_settled}

-- ---- evaluations of which some reads are done

-- an evaluation that has read some signals before, and some of them tracked
abbrev pub begun : List Seen → List Seen → BodyEvaluation → BodyEvaluation
begun rs ts e = record { reads = rs ++ e.reads; tracked = ts ++ e.tracked; result = e.result }

-- one read more
abbrev pub read_next : Bool → Seen → List Seen → List Seen
read_next tracked s ts = ts ++ if_tracked tracked s []

tracked_next : (tracked : Bool) (s : Seen) (ts us : List Seen) → read_next tracked s ts ++ us ≡ ts ++ if_tracked tracked s us
tracked_next true s ts us = append_assoc ts (s ∷ []) us
tracked_next false s ts us = ap (λ l. l ++ us) (append-nil ts)

begun_next : (tracked : Bool) (s : Seen) (rs ts : List Seen) (e : BodyEvaluation) →
    begun (rs ++ s ∷ []) (read_next tracked s ts) e ≡ begun rs ts (model.read_before tracked s e)
begun_next tracked s rs ts e =
    let all = append_assoc rs (s ∷ []) e.reads in let some = tracked_next tracked s ts e.tracked in
    λ i. record { reads = all i; tracked = some i; result = e.result }

-- with a good value it goes on
goes_on : (tracked : Bool) (s : ℕ) (v : Value) (go : List Known → List Known → BodyEvaluation) (ts us : List Known) →
    with_known tracked s v go ts us ≡ go (learnt_if tracked ts s v) (learnt_if (not tracked) us s v)
goes_on true s v go ts us = refl
goes_on false s v go ts us = refl

-- the outcomes of all but the last, and of the last
have_front : (source : ℕ → Outcome) (rs : List Seen) (s : Seen) → HaveOutcomes source (rs ++ s ∷ []) → HaveOutcomes source rs
have_front source [] s all = tt
have_front source (r ∷ rs) s all = (all.0, have_front source rs s all.1)

have_last : (source : ℕ → Outcome) (rs : List Seen) (s : Seen) → HaveOutcomes source (rs ++ s ∷ []) → source s.name ≡ s.outcome
have_last source [] s all = all.0
have_last source (r ∷ rs) s all = have_last source rs s all.1

-- ---- a body that is asked

-- the values from scratch
abbrev pub scratch : Hosts → Scene → ℕ → Outcome
scratch hosts x m = value_of hosts x.graph.state.signals m []

-- What was read was settled, and its outcomes are from scratch.
pub record IsRead (x y : Scene) (before after : Hosts → Type 0) (rs : List Seen) : Type 0 where
  pub settles : Settles x y before after (λ _. names_of rs)
  pub outcomes : (hosts : Hosts) → before hosts → AreKept hosts x.graph.state.signals x.graph.state.memos → HaveOutcomes (scratch hosts x) rs

-- what was read so far, and what is read and comes of it then, is the whole evaluation
pub record IsAsking (x y : Scene) (before after : Hosts → Type 0) (b : Body) (names : List ℕ) (ts us : List Known) (tracked : List Seen) : Type 0 where
  pub reads : List Seen
  pub read : IsRead x y before after reads
  pub rest : (p : Parts) (source : ℕ → Outcome) → HaveOutcomes source reads →
      begun reads tracked (body_asked_from (body_seen p b names) source ts us) ≡ body_asked_from (body_seen p b names) source [] []

-- so it is where the body has ended
pub record IsWhole (x : Scene) (before : Hosts → Type 0) (b : Body) (names : List ℕ) (rs tracked : List Seen) (end : BodyEnd) : Type 0 where
  pub outcomes : (hosts : Hosts) → before hosts → AreKept hosts x.graph.state.signals x.graph.state.memos → HaveOutcomes (scratch hosts x) rs
  pub whole : (p : Parts) (source : ℕ → Outcome) → HaveOutcomes source rs →
      begun rs tracked (body_ended (result_of p end)) ≡ body_asked_from (body_seen p b names) source [] []

-- what a body with names answers
abbrev pub Answers : Body → List ℕ → List Known → List Known → (Parts → BodyStep) → Type 0
Answers b names ts us step = (p : Parts) → step p ≡ body_step (body_seen p b names).statements ts us

-- what was answered, in the terms of what is known
pub answers_by : (b : Body) (names : List ℕ) (ts us vs ws : List Known) (given step : AStep) →
    ((p : Parts) → step_of p given ≡ body_step (body_seen p b names).statements vs ws) → vs ≡ ts → ws ≡ us → given ≡ step →
    Answers b names ts us (λ p. step_of p step)
answers_by b names ts us vs ws given step said t u is =
    λ p. ap (step_of p) (sym is) ∙ said p ∙ (λ i. body_step (body_seen p b names).statements (t i) (u i))

-- nothing is known yet
pub nothing_read : (x : Scene) (before : Hosts → Type 0) (b : Body) (names : List ℕ) (ts us : List Known) (tracked : List Seen) →
    ts ≡ [] → us ≡ [] → tracked ≡ [] → IsIdle x.graph.state → IsAsking x x before before b names ts us tracked
nothing_read x before b names ts us tracked t u r idle = record {
  reads = [];
  read = record { settles = nothing_settled x before idle; outcomes = λ hosts all kept. tt };
  rest = λ p source have. (λ i. begun [] (r i) (body_asked_from (body_seen p b names) source (t i) (u i)));
}

-- one answer on
answered : (b : model.Body) (source : ℕ → Outcome) (ts us : List Known) (step : BodyStep) → AreFit (length b.names) b.statements → step ≡ body_step b.statements ts us →
    body_asked_from b source ts us ≡ after_body_step step (λ s. slice_index b.names s) source (λ s tracked v. with_known tracked s v (body_asked_from b source) ts us)
answered b source ts us step fit e =
    body_law b source ts us fit
    ∙ ap (λ x. after_body_step x (λ s. slice_index b.names s) source (λ s tracked v. with_known tracked s v (body_asked_from b source) ts us)) (sym e)

-- a signal is settled behind the others
pub settled_one : (x y z : Scene) (before mid after : Hosts → Type 0) (rs : List Seen) (n : ℕ) (o : Outcome) → Settles x y before mid (λ _. names_of rs) →
    Settles y z mid after (λ _. n ∷ []) → Settles x z before after (λ _. names_of (rs ++ record { name = n; outcome = o } ∷ []))
settled_one x y z before mid after rs n o a s =
    subst (λ ns. Settles x z before after (λ _. ns)) (sym (map-append (λ (r : Seen). r.name) rs (record { name = n; outcome = o } ∷ [])))
    (then_settled x y z before mid after (λ _. names_of rs) (λ _. n ∷ []) a s)

-- and its outcome is from scratch
outcomes_one : (x y : Scene) (before mid : Hosts → Type 0) (rs : List Seen) (n : ℕ) (o : Outcome) → IsRead x y before mid rs →
    ((hosts : Hosts) → mid hosts → AreKept hosts y.graph.state.signals y.graph.state.memos → o ≡ scratch hosts y n) →
    (hosts : Hosts) → before hosts → AreKept hosts x.graph.state.signals x.graph.state.memos → HaveOutcomes (scratch hosts x) (rs ++ record { name = n; outcome = o } ∷ [])
outcomes_one x y before mid rs n o a value hosts all kept =
    all_snoc (λ (r : Seen). scratch hosts x r.name ≡ r.outcome) rs (record { name = n; outcome = o }) (a.outcomes hosts all kept)
    (sym (value hosts (a.settles.answers hosts all) (a.settles.kept hosts all kept)
    ∙ ap (λ w. value_of hosts w n []) a.settles.signals))

pub read_one : (x y z : Scene) (before mid after : Hosts → Type 0) (rs : List Seen) (n : ℕ) (o : Outcome) → IsRead x y before mid rs →
    Settles y z mid after (λ _. n ∷ []) → ((hosts : Hosts) → mid hosts → AreKept hosts y.graph.state.signals y.graph.state.memos → o ≡ scratch hosts y n) →
    IsRead x z before after (rs ++ record { name = n; outcome = o } ∷ [])
read_one x y z before mid after rs n o a s value = record {
  settles = settled_one x y z before mid after rs n o a.settles s;
  outcomes = outcomes_one x y before mid rs n o a value;
}

-- the body has ended by itself
pub ends : (x y : Scene) (before after : Hosts → Type 0) (b : Body) (names : List ℕ) (ts us : List Known) (tracked : List Seen) (end : BodyEnd) (step : AStep) →
    HasNames b names → (i : IsAsking x y before after b names ts us tracked) → Answers b names ts us (λ p. step_of p step) →
    ((p : Parts) (source : ℕ → Outcome) (go : ℕ → Bool → Value → BodyEvaluation) →
    after_body_step (step_of p step) (λ s. slice_index names s) source go ≡ body_ended (result_of p end)) → IsWhole x before b names i.reads tracked end
ends x y before after b names ts us tracked end step fit i answers is = record {
  outcomes = i.read.outcomes;
  whole = λ p source have.
      ap (begun i.reads tracked) (sym (answered (body_seen p b names) source ts us (step_of p step) (fit p) (answers p)
      ∙ is p source (λ s c v. with_known c s v (body_asked_from (body_seen p b names) source) ts us)))
      ∙ i.rest p source have;
}

-- or by the fault of a signal
pub fails_by : (x y : Scene) (before mid : Hosts → Type 0) (b : Body) (names : List ℕ) (ts us : List Known) (tracked : List Seen) (s n : ℕ) (c : Bool) (e : Fault) →
    HasNames b names → (i : IsAsking x y before mid b names ts us tracked) → n ≡ slice_index names s → Answers b names ts us (λ _. reads s c) →
    ((hosts : Hosts) → mid hosts → AreKept hosts y.graph.state.signals y.graph.state.memos → Bad e ≡ scratch hosts y n) →
    IsWhole x before b names (i.reads ++ record { name = n; outcome = Bad e } ∷ []) (read_next c (record { name = n; outcome = Bad e }) tracked) (Fail e)
fails_by x y before mid b names ts us tracked s n c e fit i at answers value =
    let r : Seen = record { name = n; outcome = Bad e } in
    record {
      outcomes = outcomes_one x y before mid i.reads n (Bad e) i.read value;
      whole = λ p source have.
          let body : model.Body = body_seen p b names in
          let go : ℕ → Bool → Value → BodyEvaluation = λ s c v. with_known c s v (body_asked_from body source) ts us in
          let bad : source (slice_index names s) ≡ Bad e = ap source (sym at) ∙ have_last source i.reads r have in
          begun_next c r i.reads tracked (body_ended (failed_by e))
          ∙ ap (λ m. begun i.reads tracked (model.read_before c (record { name = m; outcome = Bad e }) (body_ended (failed_by e)))) at
          ∙ ap (λ o. begun i.reads tracked (model.after_body_read c (slice_index names s) o (go s c))) (sym bad)
          ∙ ap (begun i.reads tracked) (sym (answered body source ts us (reads s c) (fit p) (answers p)))
          ∙ i.rest p source (have_front source i.reads r have);
    }

module _ (x y z : Scene) (before mid after : Hosts → Type 0) (b : Body) (names : List ℕ) (ts us : List Known) (tracked : List Seen) (s n : ℕ) (c : Bool)
    (fit : HasNames b names) (i : IsAsking x y before mid b names ts us tracked) (at : n ≡ slice_index names s) (answers : Answers b names ts us (λ _. reads s c))
    (settles : Settles y z mid after (λ _. n ∷ [])) where
  -- it has read the value of a signal
  learnt_so : (v : Value) → ((hosts : Hosts) → mid hosts → AreKept hosts y.graph.state.signals y.graph.state.memos → Good v ≡ scratch hosts y n) →
      IsAsking x z before after b names (learnt_if c ts s v) (learnt_if (not c) us s v) (read_next c (record { name = n; outcome = Good v }) tracked)
  learnt_so v value =
      let r : Seen = record { name = n; outcome = Good v } in
      record {
        reads = i.reads ++ r ∷ [];
        read = read_one x y z before mid after i.reads n (Good v) i.read settles value;
        rest = λ p source have.
            let body : model.Body = body_seen p b names in
            let go : ℕ → Bool → Value → BodyEvaluation = λ s c v. with_known c s v (body_asked_from body source) ts us in
            let good : source (slice_index names s) ≡ Good v = ap source (sym at) ∙ have_last source i.reads r have in
            begun_next c r i.reads tracked (body_asked_from body source (learnt_if c ts s v) (learnt_if (not c) us s v))
            ∙ ap (λ e. begun i.reads tracked (model.read_before c r e)) (sym (goes_on c s v (body_asked_from body source) ts us))
            ∙ ap (λ m. begun i.reads tracked (model.read_before c (record { name = m; outcome = Good v }) (go s c v))) at
            ∙ ap (λ o. begun i.reads tracked (model.after_body_read c (slice_index names s) o (go s c))) (sym good)
            ∙ ap (begun i.reads tracked) (sym (answered body source ts us (reads s c) (fit p) (answers p)))
            ∙ i.rest p source (have_front source i.reads r have);
      }

  pub learns : (vs ws : List Known) (more : List Seen) (v : Value) → ((hosts : Hosts) → mid hosts → AreKept hosts y.graph.state.signals y.graph.state.memos → Good v ≡ scratch hosts y n) →
      vs ≡ learnt_if c ts s v → ws ≡ learnt_if (not c) us s v → more ≡ read_next c (record { name = n; outcome = Good v }) tracked →
      IsAsking x z before after b names vs ws more
  learns vs ws more v value t u r = subst (λ a. a) (λ i. IsAsking x z before after b names (sym t i) (sym u i) (sym r i)) (learnt_so v value)

-- ---- what has ended

module _ (x : Scene) (before : Hosts → Type 0) (b : Body) (names : List ℕ) (rs tracked : List Seen) (end : BodyEnd)
    (h : IsWhole x before b names rs tracked end) where
  evaluation_is : (hosts : Hosts) (p : Parts) → before hosts → AreKept hosts x.graph.state.signals x.graph.state.memos →
      begun rs tracked (body_ended (result_of p end)) ≡ body_evaluation hosts x.graph.state.signals (body_seen p b names)
  evaluation_is hosts p all kept = h.whole p (scratch hosts x) (h.outcomes hosts all kept)

  -- the run is that of the evaluation
  pub run_is : (r : BodyRun) → r.tracked.items ≡ tracked → r.end ≡ end → (hosts : Hosts) (p : Parts) → before hosts → AreKept hosts x.graph.state.signals x.graph.state.memos →
      IsRunOf p (body_evaluation hosts x.graph.state.signals (body_seen p b names)) r
  run_is r some last hosts p all kept = record {
    tracked = some ∙ sym (append-nil tracked) ∙ ap (λ (e : BodyEvaluation). e.tracked) (evaluation_is hosts p all kept);
    result = ap (result_of p) last ∙ ap (λ (e : BodyEvaluation). e.result) (evaluation_is hosts p all kept);
  }

  -- and what it read was settled
  pub reads_settled : (y : Scene) (after : Hosts → Type 0) → Settles x y before after (λ _. names_of rs) →
      (p : Parts) → Settles x y before after (λ hosts. names_of (body_evaluation hosts x.graph.state.signals (body_seen p b names)).reads)
  reads_settled y after s p =
      same_settled x y before after (λ _. names_of rs) (λ hosts. names_of (body_evaluation hosts x.graph.state.signals (body_seen p b names)).reads) s
      (λ hosts all kept. ap names_of (sym (append-nil rs) ∙ ap (λ (e : BodyEvaluation). e.reads) (evaluation_is hosts p all kept)))
