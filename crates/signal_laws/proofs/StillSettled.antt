-- What is settled stays so while other names are settled on the same signals.
use Rattle.std.proofs.Common.{◌≡◌, ◌==◌, ◌&&◌, ℕ, true, false, List, [], ◌∷◌, Option, Some, None, refl, sym, ap, ◌∙◌, subst, inl, inr}
use Rattle.std.proofs.lemmas.Bool.{eqb-true}
use Rattle.std.specs.List.{AllByRecursion}
use Rattle.signal_model.specs.Recipes.{Hosts}
use Rattle.signal_model.specs.Signals.{Signals, Computed, Stands, IsGone, IsCell, IsComputed, is_computed, is_in, standing}
use Rattle.signal_model.specs.Values.{reads_of}
use Rattle.signal_model.specs.Orders.{Visit, visited, evaluation_order}
use Rattle.signal_model.specs.Memos.{Memo, Memos, memo_of, sources_in, source_names, keeps, must_run}
use Rattle.signal_model.specs.Marks.{IsBelow, kept, kept_below, Clean, is_due, mark_of}
use Rattle.signal_model.specs.Sound.{names_of}
use Rattle.signal_model.specs.Settling.{Settled, settle_visit, settle_visits, settled}
use Rattle.signal_model.specs.Kept.{OnlyComputedsKeep, AreKept}
use Rattle.signal_model.proofs.Shared.{tested, either, or_left, or_right, mark_law}
use Rattle.signal_laws.specs.OrderLaws.{IsPlaced, AreOrdered, seen_after}
use Rattle.signal_laws.specs.CleanLaws.{IsUpToDate}
use Rattle.signal_laws.proofs.Lists.{in_head, in_tail}
use Rattle.signal_laws.proofs.PlacedVisits.{seen_is, places_law}
use Rattle.signal_laws.proofs.CleanVisits.{is_in-read, quiet_here, quiet_settle}
use Rattle.signal_laws.proofs.VisitStates.{IsDone, State, visit_state, visits_state, first_state}

-- all that an evaluation of these names visits is done
pub record IsSettled (hosts : Hosts) (w : Signals) (k : Memos) (asked : List ℕ) : Type 0 where
  pub seen : List ℕ
  pub state : State hosts w k seen
  pub all : (x : ℕ) → is_in x (visited (evaluation_order hosts w asked)) ≡ true → is_in x seen ≡ true

-- these names are among those
abbrev Within : List ℕ → List ℕ → Type 0
Within xs ys = (x : ℕ) → is_in x xs ≡ true → is_in x ys ≡ true

within_more : (n : ℕ) (xs ys : List ℕ) → Within xs ys → Within (n ∷ xs) (n ∷ ys)
within_more n xs ys sub x h = elim (either (x == n) (is_in x xs) h) [
  | inl e ↦ or_left (x == n) (is_in x ys) e
  | inr there ↦ or_right (x == n) (is_in x ys) (sub x there)
]

-- a name that was seen may be seen again
seen_already : (n : ℕ) (seen : List ℕ) → is_in n seen ≡ true → Within (n ∷ seen) seen
seen_already n seen was x h = elim (either (x == n) (is_in x seen) h) [
  | inl e ↦ subst (λ y. is_in y seen ≡ true) (sym (eqb-true x n e)) was
  | inr there ↦ there
]

seen_again : (hosts : Hosts) (w : Signals) (k : Memos) (seen : List ℕ) (n : ℕ) → is_in n seen ≡ true → State hosts w k seen →
    State hosts w k (n ∷ seen)
seen_again hosts w k seen n was st = record {
  kept = st.kept;
  done = λ x d on stands. st.done x d (seen_already n seen was x on) stands;
  closed = λ x m c d on stands fine reads std. in_tail m n seen (st.closed x m c d (seen_already n seen was x on) stands fine reads std);
}

-- a visit at its place in an order, where more was seen before
more_visit : (hosts : Hosts) (w : Signals) (before seen : List ℕ) (v : Visit) (s : Settled) → Within before seen → IsPlaced hosts w before v →
    State hosts w s.memos seen → State hosts w (settle_visit hosts w v s).memos (v.computed.name ∷ seen)
more_visit hosts w before seen v s sub p st = elim (tested (is_in v.computed.name seen)) [
  | inr new ↦ visit_state hosts w seen v s (record {
    stands = p.stands;
    chain = p.chain;
    new = new;
    before = λ m d reads stands. elim (p.before m d reads stands) [ inl on ↦ inl on | inr was ↦ inr (sub m was) ];
  }) st
  | inl was ↦
      let d : IsDone hosts w s.memos v.computed.name v.computed = st.done v.computed.name v.computed was p.stands in
      let q : must_run s.memos v.computed.name v.path ≡ false
      = quiet_here hosts w s.memos v.computed.name v.computed v.path p.stands d.calm d.right p.chain in
      let same : settle_visit hosts w v s ≡ s = quiet_settle hosts w (v ∷ []) s (q, tt) in
      subst (λ (z : Settled). State hosts w z.memos (v.computed.name ∷ seen)) (sym same) (seen_again hosts w s.memos seen v.computed.name was st)
]

more_visits : (hosts : Hosts) (w : Signals) (before seen : List ℕ) (vs : List Visit) (s : Settled) → Within before seen →
    AreOrdered hosts w before vs → State hosts w s.memos seen → State hosts w (settle_visits hosts w vs s).memos (seen_after seen vs)
more_visits hosts w before seen [] s sub o st = st
more_visits hosts w before seen (v ∷ vs) s sub o st =
    more_visits hosts w (v.computed.name ∷ before) (v.computed.name ∷ seen) vs (settle_visit hosts w v s)
    (within_more v.computed.name before seen sub) o.1 (more_visit hosts w before seen v s sub o.0 st)

-- after settling it is so
pub settles : (hosts : Hosts) (w : Signals) (k : Memos) (asked : List ℕ) → AreKept hosts w k → IsSettled hosts w (settled hosts w k asked).memos asked
settles hosts w k asked are_kept =
    let vs : List Visit = evaluation_order hosts w asked in
    record {
      seen = seen_after [] vs;
      state = visits_state hosts w [] vs (record { memos = k; runs = [] }) (places_law hosts w asked).ordered (first_state hosts w k are_kept);
      all = λ x h. seen_is x [] vs ∙ h;
    }

-- and it stays so
pub stays_settled : (hosts : Hosts) (w : Signals) (k : Memos) (asked others : List ℕ) → IsSettled hosts w k asked →
    IsSettled hosts w (settled hosts w k others).memos asked
stays_settled hosts w k asked others i =
    let vs : List Visit = evaluation_order hosts w others in
    record {
      seen = seen_after i.seen vs;
      state = more_visits hosts w [] i.seen vs (record { memos = k; runs = [] }) (λ x h. cc) (places_law hosts w others).ordered i.state;
      all = λ x h. seen_is x i.seen vs ∙ or_left (is_in x i.seen) (is_in x (visited vs)) (i.all x h);
    }

each_quiet : (hosts : Hosts) (w : Signals) (k : Memos) (seen : List ℕ) (vs : List Visit) → AreOrdered hosts w seen vs →
    ((x : ℕ) (d : Computed) → is_in x (visited vs) ≡ true → standing w x ≡ IsComputed d → IsDone hosts w k x d) →
    AllByRecursion (λ (v : Visit). must_run k v.computed.name v.path ≡ false) vs
each_quiet hosts w k seen [] o f = tt
each_quiet hosts w k seen (v ∷ vs) o f =
    let d : IsDone hosts w k v.computed.name v.computed = f v.computed.name v.computed (in_head v.computed.name (visited vs)) o.0.stands in (
      quiet_here hosts w k v.computed.name v.computed v.path o.0.stands d.calm d.right o.0.chain,
      each_quiet hosts w k (v.computed.name ∷ seen) vs o.1 (λ x e on st. f x e (in_tail x v.computed.name (visited vs) on) st),
    )

-- then settling these names runs nothing and changes nothing
pub settled_same : (hosts : Hosts) (w : Signals) (k : Memos) (asked : List ℕ) → IsSettled hosts w k asked →
    settled hosts w k asked ≡ record { memos = k; runs = [] }
settled_same hosts w k asked i =
    let vs : List Visit = evaluation_order hosts w asked in
    quiet_settle hosts w vs (record { memos = k; runs = [] })
    (each_quiet hosts w k [] vs (places_law hosts w asked).ordered (λ x d on st. i.state.done x d (i.all x on) st))

-- ---- what is settled is clean

-- what keeps a source is a computed
keeper_is : (w : Signals) (k : Memos) (n m : ℕ) → OnlyComputedsKeep w k → keeps k n m ≡ true → (c : Computed) × (standing w n ≡ IsComputed c)
keeper_is w k n m only h = go (memo_of k n) refl h
  where
    stands : (s : Stands) → standing w n ≡ s → is_computed s ≡ true → (c : Computed) × (standing w n ≡ IsComputed c)
    stands IsGone e on = cc on
    stands (IsCell c) e on = cc on
    stands (IsComputed c) e on = (c, e)

    go : (o : Option Memo) → memo_of k n ≡ o → is_in m (source_names (sources_in o)) ≡ true → (c : Computed) × (standing w n ≡ IsComputed c)
    go None e on = cc on
    go (Some memo) e on = stands (standing w n) refl (only n memo e)

module _ (hosts : Hosts) (w : Signals) (k : Memos) (asked : List ℕ) (i : IsSettled hosts w k asked) where
  -- a kept source of a visited computed is visited, if it is a computed
  source_visited : (n m : ℕ) (d : Computed) → is_in n (visited (evaluation_order hosts w asked)) ≡ true → keeps k n m ≡ true →
      standing w m ≡ IsComputed d → is_in m (visited (evaluation_order hosts w asked)) ≡ true
  source_visited n m d visit on st =
      let c : (c : Computed) × (standing w n ≡ IsComputed c) = keeper_is w k n m i.state.kept.entries.memos on in
      let right : IsUpToDate hosts w k n c.0 = (i.state.done n c.0 (i.all n visit) c.1).right in
      let names : is_in m (names_of (reads_of hosts w c.0)) ≡ true = ap (is_in m) (sym right.names)
      ∙ ap (λ o. is_in m (source_names (sources_in o))) (sym right.at) ∙ on in
      (places_law hosts w asked).closed n m c.0 d visit c.1 (is_in-read m (reads_of hosts w c.0) names) st

  -- a visited computed isn't due
  none_due : (n : ℕ) → ((d : Computed) → standing w n ≡ IsComputed d → is_in n (visited (evaluation_order hosts w asked)) ≡ true) →
      is_due w k n ≡ false
  none_due n visit = go (standing w n) refl
    where
      go : (s : Stands) → standing w n ≡ s → (is_computed s && must_run k n []) ≡ false
      go IsGone e = refl
      go (IsCell c) e = refl
      go (IsComputed d) e = (i.state.done n d (i.all n (visit d e)) e).calm

  -- nor is what is kept below it
  none_due_below : (n m : ℕ) → IsBelow k n m → is_in n (visited (evaluation_order hosts w asked)) ≡ true → is_due w k m ≡ false
  none_due_below n m (kept on) visit = none_due m (λ d st. source_visited n m d visit on st)
  none_due_below n m (kept_below {p = p} on rest) visit = go rest (λ d st. none_due_below p m rest (source_visited n p d visit on st))
    where
      computed : IsBelow k p m → (d : Computed) × (standing w p ≡ IsComputed d)
      computed (kept h) = keeper_is w k p m i.state.kept.entries.memos h
      computed (kept_below {p = q} h r) = keeper_is w k p q i.state.kept.entries.memos h

      go : IsBelow k p m → ((d : Computed) → standing w p ≡ IsComputed d → is_due w k m ≡ false) → is_due w k m ≡ false
      go r f = let d : (d : Computed) × (standing w p ≡ IsComputed d) = computed r in f d.0 d.1

  -- so each visited computed is clean
  pub settled_clean : (n : ℕ) (c : Computed) → standing w n ≡ IsComputed c → is_in n (visited (evaluation_order hosts w asked)) ≡ true →
      mark_of w k n ≡ Clean
  settled_clean n c st visit =
      sym ((mark_law w k n Clean i.state.kept.entries.memos).1
      ((i.state.done n c (i.all n visit) st).calm, λ m below. none_due_below n m below visit))
