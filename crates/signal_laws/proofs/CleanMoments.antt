-- What is clean before a settling is clean at each moment of it.
use Rattle.std.proofs.Common.{◌≡◌, ℕ, suc, ◌<◌, ◌==◌, ◌||◌, ◌&&◌, not, Bool, true, false, cond, List, [], ◌∷◌, ◌++◌, map, Option, Some, None}
use Rattle.std.proofs.Common.{refl, sym, ap, ◌∙◌, subst, arith, inl, inr}
use Rattle.std.proofs.lemmas.Bool.{eqb-true}
use Rattle.signal_model.specs.Recipes.{Hosts}
use Rattle.signal_model.specs.Signals.{Signals, Stands, IsGone, IsCell, IsComputed, is_computed, is_in, standing}
use Rattle.signal_model.specs.Values.{evaluated, names_left}
use Rattle.signal_model.specs.Orders.{Visit}
use Rattle.signal_model.specs.Memos.{Memo, Memos, memo_in, memo_of, sources_in, source_names, keeps, is_cycle, must_run_by, must_run}
use Rattle.signal_model.specs.Settling.{Settled, source_now, with_run, settle_visit, settle_visits}
use Rattle.signal_model.specs.Marks.{Clean, mark_of, IsMark, IsBelow, kept, kept_below, due_below}
use Rattle.signal_model.specs.Kept.{AreKept}
use Rattle.signal_model.proofs.Shared.{tested, mark_law}
use Rattle.signal_laws.specs.OrderLaws.{IsPlaced, AreOrdered}
use Rattle.signal_laws.specs.CleanLaws.{IsUpToDate}
use Rattle.signal_laws.specs.SettleLaws.{CleanMomentsLaw}
use Rattle.signal_laws.proofs.PlacedVisits.{ordered_first, places_law}
use Rattle.signal_laws.proofs.AfterRun.{run_other, same_moved}
use Rattle.signal_laws.proofs.CleanVisits.{source_calm, clean_near, clean_memo, none_told, quiet_here}
use Rattle.signal_laws.proofs.VisitStates.{State, visit_state, first_state}

-- what is below what is below is below
below_on : (k : Memos) (n p m : ℕ) → IsBelow k n p → IsBelow k p m → IsBelow k n m
below_on k n p m (kept on) h = kept_below on h
below_on k n p m (kept_below {p = q} on rest) h = kept_below on (below_on k q p m rest h)

module _ (hosts : Hosts) (w : Signals) (k : Memos) (seen : List ℕ) (v : Visit) where
  -- the memos after its run
  abbrev after : Memos
  after = with_run k v.computed.name (evaluated hosts w v.computed [])

  -- neither a name nor any below it is that of the run
  record IsApart (n : ℕ) : Type 0 where
    here : (n == v.computed.name) ≡ false
    below : (m : ℕ) → IsBelow k n m → (m == v.computed.name) ≡ false

  -- so it is of what is kept
  apart_on : (n m : ℕ) → IsBelow k n m → IsApart n → IsApart m
  apart_on n m h a = record { here = a.below m h; below = λ x b. a.below x (below_on k n m x h b) }

  -- the memo of another is as it was
  memo_same : (n : ℕ) → (n == v.computed.name) ≡ false → memo_of after n ≡ memo_of k n
  memo_same n off =
      ap memo_in (run_other k v.computed.name (evaluated hosts w v.computed []).outcome
      (map (source_now k) (evaluated hosts w v.computed []).reads) n off)

  -- so is what it keeps
  keeps_same : (n m : ℕ) → (n == v.computed.name) ≡ false → keeps after n m ≡ keeps k n m
  keeps_same n m off = ap (λ x. is_in m (source_names (sources_in x))) (memo_same n off)

  -- and what is below it
  below_same : (n m : ℕ) → IsApart n → IsBelow after n m → IsBelow k n m
  below_same n m a (kept on) = kept (sym (keeps_same n m a.here) ∙ on)
  below_same n m a (kept_below {p = p} on rest) =
      let on' : keeps k n p ≡ true = sym (keeps_same n p a.here) ∙ on in
      kept_below on' (below_same p m (apart_on n p (kept on') a) rest)

  -- and whether it must run
  must_same : (n : ℕ) → IsApart n → must_run after n [] ≡ must_run k n []
  must_same n a = ap (λ x. must_run_by after x []) (memo_same n a.here) ∙ go (memo_of k n) refl
    where
      go : (x : Option Memo) → memo_of k n ≡ x → must_run_by after x [] ≡ must_run_by k x []
      go None e = refl
      go (Some m) e = ap (λ b. cond (is_cycle m.outcome) (not (m.generation == k.generation)) (m.rewired || b))
          (same_moved k v.computed.name (evaluated hosts w v.computed []).outcome
          (map (source_now k) (evaluated hosts w v.computed []).reads) m.sources
          (λ x on. a.below x (kept (ap (λ y. is_in x (source_names (sources_in y))) e ∙ on))))

  module _ (s : State hosts w k seen) (p : IsPlaced hosts w seen v) (due : must_run k v.computed.name v.path ≡ true) where
    -- what is clean didn't run
    clean_apart : (n : ℕ) → mark_of w k n ≡ Clean → (n == v.computed.name) ≡ false
    clean_apart n clean = elim (tested (n == v.computed.name)) [
      | inr off ↦ off
      | inl on ↦
          let near : (must_run k v.computed.name [] ≡ false) × (due_below (names_left w.computeds []) w k v.computed.name ≡ false) =
          clean_near w k v.computed.name (ap (mark_of w k) (sym (eqb-true n v.computed.name on)) ∙ clean) in
          let lt : names_left w.computeds [] < suc (names_left w.computeds []) = omega arith in
          let right : IsUpToDate hosts w k v.computed.name v.computed =
          clean_memo hosts w (suc (names_left w.computeds [])) k v.computed.name v.computed [] [] s.kept.sound p.stands near.0 near.1 tt
          (none_told hosts w k) lt in
          cc (sym due ∙ quiet_here hosts w k v.computed.name v.computed v.path p.stands near.0 right p.chain)
    ]

    -- what is below it is clean too, or no computed
    below_apart : (n : ℕ) → IsMark w k n Clean → (m : ℕ) → IsBelow k n m → (m == v.computed.name) ≡ false
    below_apart n mark m below = go (standing w m) refl
      where
        other : (m ≡ v.computed.name → ⊥) → (m == v.computed.name) ≡ false
        other isnt = elim (tested (m == v.computed.name)) [ inr off ↦ off | inl on ↦ absurd (isnt (eqb-true m v.computed.name on)) ]

        go : (x : Stands) → standing w m ≡ x → (m == v.computed.name) ≡ false
        go (IsComputed d) e =
            let calm : must_run k m [] ≡ false = source_calm w k m d e (mark.1 m below) in
            let at_m : IsMark w k m Clean = (calm, λ x b. mark.1 x (below_on k n m x below b)) in
            clean_apart m (sym ((mark_law w k m Clean s.kept.entries.memos).1 at_m))
        go IsGone e = other (λ on. cc (sym (ap (standing w) on ∙ p.stands) ∙ e))
        go (IsCell c) e = other (λ on. cc (sym (ap (standing w) on ∙ p.stands) ∙ e))

    -- so it is clean after the run
    clean_after : (n : ℕ) → mark_of w k n ≡ Clean → IsMark w after n Clean
    clean_after n clean =
        let mark : IsMark w k n Clean = subst (IsMark w k n) clean (mark_law w k n Clean s.kept.entries.memos).0 in
        let a : IsApart n = record { here = clean_apart n clean; below = below_apart n mark } in (
          must_same n a ∙ mark.0,
          λ m b.
              let below : IsBelow k n m = below_same n m a b in
              ap (λ x. is_computed (standing w m) && x) (must_same m (apart_on n m below a)) ∙ mark.1 m below,
        )

-- after a visit at its place
clean_visit : (hosts : Hosts) (w : Signals) (seen : List ℕ) (v : Visit) (s : Settled) → State hosts w s.memos seen → IsPlaced hosts w seen v →
    (n : ℕ) →
    mark_of w s.memos n ≡ Clean → mark_of w (settle_visit hosts w v s).memos n ≡ Clean
clean_visit hosts w seen v s st p n clean = go (must_run s.memos v.computed.name v.path) refl (visit_state hosts w seen v s p st).kept
  where
    go : (b : Bool) → must_run s.memos v.computed.name v.path ≡ b → AreKept hosts w (settle_visit hosts w v s).memos →
        mark_of w (cond b (record {
          memos = with_run s.memos v.computed.name (evaluated hosts w v.computed []);
          runs = s.runs ++ record { name = v.computed.name; evaluation = evaluated hosts w v.computed [] } ∷ [];
        }) s).memos n ≡ Clean
    go false e k = clean
    go true e k =
        let sound : AreKept hosts w (with_run s.memos v.computed.name (evaluated hosts w v.computed [])) =
        subst (λ b. AreKept hosts w (cond b (record {
          memos = with_run s.memos v.computed.name (evaluated hosts w v.computed []);
          runs = s.runs ++ record { name = v.computed.name; evaluation = evaluated hosts w v.computed [] } ∷ [];
        }) s).memos) e k in
        sym ((mark_law w (with_run s.memos v.computed.name (evaluated hosts w v.computed [])) n Clean sound.entries.memos).1
        (clean_after hosts w s.memos seen v st p e n clean))

-- after visits at their places
clean_visits : (hosts : Hosts) (w : Signals) (seen : List ℕ) (vs : List Visit) (s : Settled) → State hosts w s.memos seen →
    AreOrdered hosts w seen vs → (n : ℕ) →
    mark_of w s.memos n ≡ Clean → mark_of w (settle_visits hosts w vs s).memos n ≡ Clean
clean_visits hosts w seen [] s st o n clean = clean
clean_visits hosts w seen (v ∷ vs) s st o n clean =
    clean_visits hosts w (v.computed.name ∷ seen) vs (settle_visit hosts w v s) (visit_state hosts w seen v s o.0 st) o.1 n
    (clean_visit hosts w seen v s st o.0 n clean)

-- what was clean is clean at each moment
pub clean_moments_law : CleanMomentsLaw
clean_moments_law hosts w k asked before later n sound order clean =
    let o : AreOrdered hosts w [] (before ++ later) = subst (AreOrdered hosts w []) order (places_law hosts w asked).ordered in
    clean_visits hosts w [] before (record { memos = k; runs = [] }) (first_state hosts w k sound) (ordered_first hosts w [] before later o) n clean
