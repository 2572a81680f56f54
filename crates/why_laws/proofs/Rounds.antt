-- What has met a source that is being evaluated comes to `cycle`.
use Rattle.std.proofs.Common.{◌≡◌, ℕ, ◌==◌, ◌||◌, Bool, true, false, List, [], ◌∷◌, ◌++◌, Some, refl, sym, ap, ◌∙◌, subst, inl, inr}
use Rattle.std.proofs.lemmas.Bool.{eqb-true}
use Rattle.signal_model.specs.Recipes.{Hosts}
use Rattle.signal_model.specs.Signals.{Signals, is_in}
use Rattle.signal_model.specs.Values.{value_of, reads_of}
use Rattle.signal_model.specs.Orders.{Visit}
use Rattle.signal_model.specs.Memos.{Source, Memo, Memos, memo_of, source_names, is_cycle, is_moved, some_moved}
use Rattle.signal_model.specs.Sound.{standing_outcome, names_of}
use Rattle.signal_model.specs.Laws.{IsRead, Reads, Leads, one}
use Rattle.signal_model.proofs.Shared.{either, chain_goes, goes_on, no_loop, value_run}
use Rattle.signal_laws.specs.OrderLaws.{IsPlaced, AreOrdered, seen_after}
use Rattle.signal_laws.specs.CleanLaws.{IsUpToDate}
use Rattle.signal_laws.specs.SettleLaws.{settled_first}
use Rattle.signal_laws.proofs.Shared.{State, state_at, places_law, right_memo, right_source, is_in-read, some_is}
use Rattle.why_laws.specs.Ties.{NoneMoved, IsMet}
use Rattle.why_laws.specs.WhyLaws.{RoundLaw}

-- where no source has another number, none has moved
none_moved : (k : Memos) (ss : List Source) → NoneMoved k ss → some_moved k [] ss ≡ false
none_moved k [] h = refl
none_moved k (s ∷ ss) h =
    let here : is_moved k [] s ≡ false = ap (λ b. b || false) h.0 in
    ap (λ b. b || some_moved k [] ss) here ∙ none_moved k ss h.1

module _ (hosts : Hosts) (w : Signals) (k : Memos) (seen : List ℕ) (v : Visit) (p : IsPlaced hosts w seen v) (st : State hosts w k seen)
    (fine : is_cycle (value_of hosts w v.computed.name []) ≡ false) where
  -- what the computed reads isn't being evaluated, nor is it the computed: it would lead back to it
  no_way : (m : ℕ) → IsRead m (reads_of hosts w v.computed) → is_in m (v.computed.name ∷ v.path) ≡ true → ⊥
  no_way m read on =
      let r : Reads hosts w v.computed.name m = record { computed = v.computed; stands = p.stands; read = read } in
      no_loop hosts w v.computed.name [] fine (elim (either (m == v.computed.name) (is_in m v.path) on) [
        | inl q ↦ subst (λ j. Leads hosts w v.computed.name j) (eqb-true m v.computed.name q) (one r)
        | inr q ↦ goes_on hosts w (one r) (chain_goes hosts w v.path v.computed.name m p.chain q)
      ])

  -- what it reads stands as from scratch
  stands : (m : ℕ) → IsRead m (reads_of hosts w v.computed) → standing_outcome w k m ≡ Some (value_of hosts w m [])
  stands m read = right_source hosts w k m (λ d std. elim (p.before m d read std) [
    | inr was ↦ (st.done m d was std).right
    | inl on ↦ absurd (no_way m read on)
  ])

  -- so no source of its memo is being evaluated, where none has moved
  no_round : (m : Memo) → memo_of k v.computed.name ≡ Some m → is_cycle m.outcome ≡ false → m.rewired ≡ false → NoneMoved k m.sources →
      IsMet v.path m.sources → ⊥
  no_round m at other same none met =
      let right : IsUpToDate hosts w k v.computed.name v.computed =
      right_memo hosts w k v.computed.name v.computed m st.kept.sound p.stands at other same (none_moved k m.sources none) (λ x read on. stands x read) in
      let is : right.memo ≡ m = some_is right.memo m (sym right.at ∙ at) in
      let names : source_names m.sources ≡ names_of (reads_of hosts w v.computed) = ap (λ (x : Memo). source_names x.sources) (sym is) ∙ right.names in
      let read : IsRead met.name (reads_of hosts w v.computed) =
      is_in-read met.name (reads_of hosts w v.computed) (ap (is_in met.name) (sym names) ∙ met.source) in
      no_way met.name read (ap (λ b. (met.name == v.computed.name) || b) met.evaluated ∙ or_true (met.name == v.computed.name))
    where
      or_true : (b : Bool) → (b || true) ≡ true
      or_true true = refl
      or_true false = refl

-- what is placed at its visit
placed_at : (hosts : Hosts) (w : Signals) (seen : List ℕ) (us : List Visit) (v : Visit) (vs : List Visit) → AreOrdered hosts w seen (us ++ v ∷ vs) →
    IsPlaced hosts w (seen_after seen us) v
placed_at hosts w seen [] v vs o = o.0
placed_at hosts w seen (u ∷ us) v vs o = placed_at hosts w (u.computed.name ∷ seen) us v vs o.1

-- a computed that must run for such a source alone comes to `cycle`
pub round_law : RoundLaw
round_law hosts w k asked before later v m kept order at other same none met =
    let p : IsPlaced hosts w (seen_after [] before) v =
    placed_at hosts w [] before v later (subst (AreOrdered hosts w []) order (places_law hosts w asked).ordered) in
    let st : State hosts w (settled_first hosts w k before).memos (seen_after [] before) = state_at hosts w k asked before (v ∷ later) kept order in
    ap is_cycle (sym (value_run hosts w v.computed.name [] v.computed p.stands refl))
    ∙ go (is_cycle (value_of hosts w v.computed.name [])) refl p st
  where
    go : (b : Bool) → is_cycle (value_of hosts w v.computed.name []) ≡ b → IsPlaced hosts w (seen_after [] before) v →
        State hosts w (settled_first hosts w k before).memos (seen_after [] before) → is_cycle (value_of hosts w v.computed.name []) ≡ true
    go true e p st = e
    go false e p st = absurd (no_round hosts w (settled_first hosts w k before).memos (seen_after [] before) v p st e m at other same none met)
