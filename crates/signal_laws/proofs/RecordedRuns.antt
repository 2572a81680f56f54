-- Each run reads only what is current.
use Rattle.std.proofs.Common.{Some, ap}
use Rattle.std.proofs.Common.{◌≡◌, ℕ, ◌==◌, Bool, true, false, cond, List, [], ◌∷◌, ◌++◌, append_assoc, refl, sym, ◌∙◌, subst, ◌⊎◌}
use Rattle.std.proofs.Common.{inl, inr}
use Rattle.std.specs.List.{AllByRecursion}
use Rattle.std.proofs.lemmas.Bool.{eqb-true}
use Rattle.sig_base.specs.declared.value.Fault.TheVariants.{Cycle}
use Rattle.sig_base.specs.declared.value.Outcome.TheVariants.{Bad}
use Rattle.signal_model.specs.Recipes.{Hosts}
use Rattle.signal_model.specs.Signals.{Signals, Stands, IsGone, IsCell, IsComputed, is_in, standing}
use Rattle.signal_model.specs.Values.{Seen, value_of, evaluated, reads_of}
use Rattle.signal_model.specs.Orders.{Visit, evaluation_order}
use Rattle.signal_model.specs.Memos.{Memos, must_run}
use Rattle.signal_model.specs.Settling.{Run, Settled, with_run, settle_visit, settle_visits, settled}
use Rattle.signal_model.specs.Sound.{standing_outcome}
use Rattle.signal_model.specs.Laws.{IsRead, Reads, Leads, one}
use Rattle.signal_model.proofs.Shared.{cycle_law, value_run, goes_on, chain_goes, either}
use Rattle.signal_laws.specs.SettleLaws.{settled_first}
use Rattle.signal_laws.specs.RunLaws.{IsScratchRead, IsScratchRun, IsPlacedRun, IsShown, IsCurrentRun, ScratchRunsLaw, PlacedRunsLaw}
use Rattle.signal_laws.specs.RunLaws.{CurrencyLaw}
use Rattle.signal_laws.proofs.CleanVisits.{settle_append, right_source, read_value}
use Rattle.signal_laws.specs.OrderLaws.{IsPlaced, AreOrdered, seen_after}
use Rattle.signal_laws.proofs.PlacedVisits.{seen_snoc, places_law}
use Rattle.signal_laws.proofs.VisitStates.{State, state_at}
use Rattle.signal_laws.specs.ReadLaws.{HaveOutcomes}
use Rattle.signal_laws.proofs.Outcomes.{reading_law}
use Rattle.signal_laws.proofs.Lists.{all_snoc}

module _ (hosts : Hosts) (w : Signals) where
  -- the run of a visit
  abbrev run_of : Visit → Run
  run_of v = record { name = v.computed.name; evaluation = evaluated hosts w v.computed [] }

  -- ---- from scratch

  -- what a computed reads has the value from scratch
  reads_scratch : (v : Visit) → standing w v.computed.name ≡ IsComputed v.computed → (ss : List Seen) →
      ((m : ℕ) → IsRead m ss → IsRead m (reads_of hosts w v.computed)) → HaveOutcomes (λ m. value_of hosts w m (v.computed.name ∷ [])) ss →
      AllByRecursion (IsScratchRead hosts w) ss
  reads_scratch v st [] sub h = tt
  reads_scratch v st (s ∷ ss) sub h = (
    sym h.0 ∙ read_value hosts w v.computed.name v.computed s.name st (sub s.name (inl refl)),
    reads_scratch v st ss (λ m r. sub m (inr r)) h.1,
  )

  -- the run of a computed is from scratch
  run_scratch : (v : Visit) → standing w v.computed.name ≡ IsComputed v.computed → IsScratchRun hosts w (run_of v)
  run_scratch v st = record {
    computed = v.computed;
    stands = st;
    evaluation = refl;
    reads = reads_scratch v st (reads_of hosts w v.computed) (λ m r. r)
        (reading_law hosts v.computed.recipe (λ m. value_of hosts w m (v.computed.name ∷ []))).1;
    outcome = sym (value_run hosts w v.computed.name [] v.computed st refl);
  }

  -- ---- what stands

  -- what a visited computed reads stands so at its place
  reads_shown : (k : Memos) (seen : List ℕ) (v : Visit) → IsPlaced hosts w seen v → State hosts w k seen → (ss : List Seen) →
      ((m : ℕ) → IsRead m ss → IsRead m (reads_of hosts w v.computed)) → AllByRecursion (IsScratchRead hosts w) ss →
      AllByRecursion (IsShown w k (v.computed.name ∷ v.path)) ss
  reads_shown k seen v p st [] sub h = tt
  reads_shown k seen v p st (s ∷ ss) sub h = (
    go (standing w s.name) refl h.0 (sub s.name (inl refl)),
    reads_shown k seen v p st ss (λ m r. sub m (inr r)) h.1,
  )
    where
      go : (x : Stands) → standing w s.name ≡ x → s.outcome ≡ value_of hosts w s.name [] → IsRead s.name (reads_of hosts w v.computed) →
          (standing_outcome w k s.name ≡ Some s.outcome) ⊎ ((is_in s.name (v.computed.name ∷ v.path) ≡ true) × (s.outcome ≡ Bad Cycle))
      go IsGone e scratch read = inl (right_source hosts w k s.name (λ d std. cc (sym e ∙ std)) ∙ ap (λ y. Some y) (sym scratch))
      go (IsCell c) e scratch read = inl (right_source hosts w k s.name (λ d std. cc (sym e ∙ std)) ∙ ap (λ y. Some y) (sym scratch))
      go (IsComputed d) e scratch read = elim (p.before s.name d read e) [
        | inr was ↦ inl (right_source hosts w k s.name (λ y std. (st.done s.name y was std).right) ∙ ap (λ y. Some y) (sym scratch))
        | inl on ↦
            let r : Reads hosts w v.computed.name s.name = record { computed = v.computed; stands = p.stands; read = read } in
            let loop : Leads hosts w s.name s.name = elim (either (s.name == v.computed.name) (is_in s.name v.path) on) [
              | inl q ↦ subst (λ j. Leads hosts w j s.name) (sym (eqb-true s.name v.computed.name q)) (one r)
              | inr q ↦ goes_on hosts w (chain_goes hosts w v.path v.computed.name s.name p.chain q) (one r)
            ] in
            inr (on, scratch ∙ cycle_law hosts w s.name s.name [] (inl refl) loop)
      ]

  -- ---- all that is recorded

  module _ (k : Memos) (asked : List ℕ) where
    -- a visit at its place in the order
    abbrev IsAt : List Visit → Visit → List Visit → Type 0
    IsAt before v later = evaluation_order hosts w asked ≡ before ++ v ∷ later

    -- what holds of the run of each visit that must run at its place
    abbrev HoldAt : (Run → Type 0) → Type 0
    HoldAt P = (before : List Visit) (v : Visit) (later : List Visit) → IsAt before v later → IsPlaced hosts w (seen_after [] before) v →
        must_run (settled_first hosts w k before).memos v.computed.name v.path ≡ true → P (run_of v)

    -- holds of the runs of the visits to come
    runs_hold : (P : Run → Type 0) → HoldAt P → (before vs : List Visit) → evaluation_order hosts w asked ≡ before ++ vs →
        AreOrdered hosts w (seen_after [] before) vs → AllByRecursion P (settled_first hosts w k before).runs →
        AllByRecursion P (settle_visits hosts w vs (settled_first hosts w k before)).runs
    runs_hold P f before [] order o all = all
    runs_hold P f before (v ∷ vs) order o all =
        let s : Settled = settled_first hosts w k before in
        let snoc : settled_first hosts w k (before ++ v ∷ []) ≡ settle_visit hosts w v s =
        settle_append hosts w before (v ∷ []) (record { memos = k; runs = [] }) in
        let all' : AllByRecursion P (settle_visit hosts w v s).runs = go (must_run s.memos v.computed.name v.path) refl in
        subst (λ (x : Settled). AllByRecursion P (settle_visits hosts w vs x).runs) snoc
        (runs_hold P f (before ++ v ∷ []) vs (order ∙ sym (append_assoc before (v ∷ []) vs))
        (subst (λ y. AreOrdered hosts w y vs) (sym (seen_snoc [] before v)) o.1)
        (subst (λ (x : Settled). AllByRecursion P x.runs) (sym snoc) all'))
      where
        go : (b : Bool) → must_run (settled_first hosts w k before).memos v.computed.name v.path ≡ b → AllByRecursion P (cond b (record {
          memos = with_run (settled_first hosts w k before).memos v.computed.name (evaluated hosts w v.computed []);
          runs = (settled_first hosts w k before).runs ++ record { name = v.computed.name; evaluation = evaluated hosts w v.computed [] } ∷ [];
        }) (settled_first hosts w k before)).runs
        go false e = all
        go true e = all_snoc P (settled_first hosts w k before).runs (run_of v) all (f before v vs order o.0 e)

    -- and so of each recorded run
    each_holds : (P : Run → Type 0) → HoldAt P → AllByRecursion P (settled hosts w k asked).runs
    each_holds P f = runs_hold P f [] (evaluation_order hosts w asked) refl (places_law hosts w asked).ordered tt

-- each recorded run is from scratch
pub scratch_runs_law : ScratchRunsLaw
scratch_runs_law hosts w k asked = each_holds hosts w k asked (IsScratchRun hosts w) (λ before v later order p due. run_scratch hosts w v p.stands)

-- each recorded run is at its place
pub placed_runs_law : PlacedRunsLaw
placed_runs_law hosts w k asked =
    each_holds hosts w k asked (IsPlacedRun hosts w k asked)
    (λ before v later order p due. record { before = before; visit = v; later = later; order = order; name = refl; due = due })

-- each recorded run reads what is current
pub currency_law : CurrencyLaw
currency_law hosts w k asked kept = each_holds hosts w k asked (IsCurrentRun hosts w k asked) (λ before v later order p due.
    let scratch : IsScratchRun hosts w (run_of hosts w v) = run_scratch hosts w v p.stands in
    record {
      scratch = scratch;
      place = record { before = before; visit = v; later = later; order = order; name = refl; due = due };
      shown = reads_shown hosts w (settled_first hosts w k before).memos (seen_after [] before) v p
          (state_at hosts w k asked before (v ∷ later) kept order)
          (reads_of hosts w v.computed) (λ m r. r) scratch.reads;
    })
