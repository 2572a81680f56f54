-- A look at the sources from a place on, and what it counts.
use Rattle.std.proofs.Common.{◌≡◌, ℕ, zero, suc, ◌+◌, ◌≤◌, ◌==◌, ◌||◌, inl, inr, true≢false, Bool, true, false, cond, List, [], ◌∷◌, ◌++◌, Option, Some, None, map, refl, sym, ap, ◌∙◌, subst, arith}
use Rattle.std.specs.Prelude.{◌^◌, is_some, nat_lt, slice_get}
use Rattle.std.proofs.lemmas.Bool.{eqb-true, eq-eqb}
use Rattle.std.proofs.lemmas.List.Elements.{All-append, All-cons, All-nil}
use Rattle.sig_base.specs.declared.value.Outcome.{Outcome}
use Rattle.sig_base.specs.declared.value.Outcome.TheVariants.{Bad, Good}
use Rattle.sig_base.specs.declared.value.Known.{Known}
use Rattle.signal_model.specs.Signals.{Signals, Computed, Stands, IsGone, IsCell, IsComputed, is_in, is_computed, standing}
use Rattle.signal_model.specs.Values.{Seen}
use Rattle.signal_model.specs.Memos.{Source, Memos}
use Rattle.signal_model.specs.Sound.{standing_outcome}
use Rattle.signal_model.specs.Marks.{mark_of}
use Rattle.signal_model.proofs.Shared.{or_left, or_right, stands-computed, tested}
use Rattle.signal_laws.proofs.Shared.{in_append}
use Rattle.sig_computed.specs.Steps.{LookedAt, Move, Needs, Stops, Waiting, decided, is_ready, looked, ready_outcome, slot_read}
use Rattle.sig_computed.specs.Skips.{clean_among, compare_steps, look_steps, passed_over, source_steps}
use Rattle.sig_computed.proofs.Skips.{among_clean, clean_found}
use Rattle.sig_graph.specs.Looks.{is_clean_mark}
use Rattle.sig_graph.specs.SourceLooks.{IsReadySource}
use Rattle.sig_graph.specs.States as states
use Rattle.sig_graph.specs.States.{Progress, is_given, progress_at}
use Rattle.sig_computed.specs.Views.{first_moved, first_name, evaluating, or_cycle, passing, Stays}
use Rattle.sig_computed.specs.Turns.{AreReadsGiven, move_reads, waits}
use Rattle.sig_computed.proofs.Progresses.{in_evaluating}

-- what stands at a place is among the others
pub in_at : (ns : List ℕ) (i n : ℕ) → slice_get ns i ≡ Some n → is_in n ns ≡ true
in_at [] zero n e = cc
in_at [] (suc i) n e = cc
in_at (m ∷ ms) zero n e = let q : n ≡ m = cc in ap (λ b. b || is_in n ms) (eq-eqb n m q)
in_at (m ∷ ms) (suc i) n e = or_right (n == m) (is_in n ms) (in_at ms i n e)

module _ (w : Signals) (k : Memos) (evaluating over visited : List ℕ) (cycle : Bool) (place : ℕ) where
  -- no source is left
  pub look_none : (l : List Source) → None ≡ first_name l → Stops ≡ looked w k evaluating over cycle place l
  look_none [] e = refl
  look_none (s ∷ ss) e = cc

  pub steps_none : (l : List Source) (a b : ℕ) (mv : Move) → None ≡ first_name l → a ≡ b → a ≤ b + source_steps w evaluating visited l mv
  steps_none [] a b mv e same = omega (arith, same)
  steps_none (s ∷ ss) a b mv e same = cc

  -- the next isn't ready
  pub look_needs : (l : List Source) (id : ℕ) → Some id ≡ first_name l → is_ready (standing w id) (is_in id evaluating) (is_in id over) ≡ false →
      Needs id (LookedAt place) ≡ looked w k evaluating over cycle place l
  look_needs [] id e r = cc
  look_needs (s ∷ ss) id e r =
      let same : id ≡ s.name = cc in
      (λ i. Needs (same i) (LookedAt place))
      ∙ sym (ap (λ b. cond b (looked_ready s) (Needs s.name (LookedAt place)))
      (subst (λ x. is_ready (standing w x) (is_in x evaluating) (is_in x over) ≡ false) same r))
    where
      looked_ready : Source → Move
      looked_ready x = decided cycle (first_moved k evaluating (x ∷ ss)) place

  -- it is, and decides
  pub look_decides : (l : List Source) (id : ℕ) → Some id ≡ first_name l → is_ready (standing w id) (is_in id evaluating) (is_in id over) ≡ true →
      decided cycle (first_moved k evaluating l) place ≡ looked w k evaluating over cycle place l
  look_decides [] id e r = cc
  look_decides (s ∷ ss) id e r =
      let same : id ≡ s.name = cc in
      sym (ap (λ b. cond b (decided cycle (first_moved k evaluating (s ∷ ss)) place) (Needs s.name (LookedAt place)))
      (subst (λ x. is_ready (standing w x) (is_in x evaluating) (is_in x over) ≡ true) same r))

  -- a look, and then a comparison
  pub steps_look : (l : List Source) (id : ℕ) (mv : Move) → Some id ≡ first_name l →
      source_steps w evaluating visited l mv ≡ look_steps (standing w id) (is_in id evaluating) (is_in id visited) + compare_steps mv
  steps_look [] id mv e = cc
  steps_look (s ∷ ss) id mv e =
      let same : id ≡ s.name = cc in
      (λ i. look_steps (standing w (sym same i)) (is_in (sym same i) evaluating) (is_in (sym same i) visited) + compare_steps mv)

-- what was visited may be passed over
pub over_visited : (w : Signals) (k : Memos) (visited : List ℕ) (n : ℕ) → is_in n visited ≡ true → is_in n (passed_over w k visited) ≡ true
over_visited w k visited n on = in_append n visited (clean_among w k w.computeds) ∙ or_left (is_in n visited) (is_in n (clean_among w k w.computeds)) on

-- what wasn't visited may be passed over where it is clean
pub over_clean : (w : Signals) (k : Memos) (visited : List ℕ) (n : ℕ) → is_computed (standing w n) ≡ true → is_in n visited ≡ false →
    is_clean_mark (mark_of w k n) ≡ is_in n (passed_over w k visited)
over_clean w k visited n live off = go (is_clean_mark (mark_of w k n)) refl
  where
    there : (st : Stands) → standing w n ≡ st → is_computed st ≡ true → (d : Computed) × (standing w n ≡ IsComputed d)
    there IsGone e h = cc h
    there (IsCell c) e h = cc h
    there (IsComputed d) e h = (d, e)

    in_over : is_in n (passed_over w k visited) ≡ is_in n (clean_among w k w.computeds)
    in_over = in_append n visited (clean_among w k w.computeds) ∙ ap (λ b. b || is_in n (clean_among w k w.computeds)) off

    none : is_clean_mark (mark_of w k n) ≡ false → (b : Bool) → is_in n (clean_among w k w.computeds) ≡ b → b ≡ false
    none e false f = refl
    none e true f = cc (sym (ap is_clean_mark (among_clean w k w.computeds n f)) ∙ e)

    go : (b : Bool) → is_clean_mark (mark_of w k n) ≡ b → is_clean_mark (mark_of w k n) ≡ is_in n (passed_over w k visited)
    go true e =
        let d = there (standing w n) refl live in
        e ∙ sym (in_over ∙ clean_found w k w.computeds n d.0 (stands-computed w n d.0 d.1) e)
    go false e = e ∙ sym (in_over ∙ none e (is_in n (clean_among w k w.computeds)) refl)

-- what is clean may be passed over
over_cleaned : (w : Signals) (k : Memos) (visited : List ℕ) (n : ℕ) → is_computed (standing w n) ≡ true → is_clean_mark (mark_of w k n) ≡ true →
    is_in n (passed_over w k visited) ≡ true
over_cleaned w k visited n live clean = go (is_in n visited) refl
  where
    go : (b : Bool) → is_in n visited ≡ b → is_in n (passed_over w k visited) ≡ true
    go true e = over_visited w k visited n e
    go false e = sym (over_clean w k visited n live e) ∙ clean

-- a source that needs no settling is ready
pub source_ready : (s : states.State) (visited : List ℕ) (id : ℕ) (o : Option Source) (moved : Bool) (r : IsReadySource s id o moved) →
    is_ready (standing s.signals r.name) (is_in r.name (evaluating s)) (is_in r.name (passed_over s.signals s.memos visited)) ≡ true
source_ready s visited id o moved r = go (standing s.signals r.name) refl
  where
    by : (b : Bool) → states.is_computing s r.name ≡ b → is_computed (standing s.signals r.name) ≡ true →
        (is_in r.name (evaluating s) || is_in r.name (passed_over s.signals s.memos visited)) ≡ true
    by true e live = or_left (is_in r.name (evaluating s)) (is_in r.name (passed_over s.signals s.memos visited)) (in_evaluating s r.name ∙ e)
    by false e live =
        or_right (is_in r.name (evaluating s)) (is_in r.name (passed_over s.signals s.memos visited))
        (over_cleaned s.signals s.memos visited r.name live (r.ready live e))

    go : (st : Stands) → standing s.signals r.name ≡ st → is_ready st (is_in r.name (evaluating s)) (is_in r.name (passed_over s.signals s.memos visited)) ≡ true
    go IsGone e = refl
    go (IsCell c) e = refl
    go (IsComputed c) e = by (states.is_computing s r.name) refl (ap is_computed e)

-- what counts one step counts no more than the look at a source that was compared
pub stays_source : (g h : states.Seen) (visited : List ℕ) (l : List Source) (id : ℕ) (mv : Move) → Some id ≡ first_name l → compare_steps mv ≡ 1 →
    Stays g h g.state.progress 1 → Stays g h g.state.progress (source_steps g.state.signals (evaluating g.state) visited l mv)
stays_source g h visited l id mv e one s =
    let steps = s.steps in
    let is = steps_look g.state.signals g.state.memos (evaluating g.state) [] visited false 0 l id mv e in
    record {
      signals = s.signals;
      memos = s.memos;
      progress = s.progress;
      worn = s.worn;
      seats = s.seats;
      given = s.given;
      steps = omega (arith, steps, is, one);
    }

-- at the beginning
pub first_ready : (w : Signals) (k : Memos) (n : ℕ) → is_computed (standing w n) ≡ true → is_ready (standing w n) false (is_in n (passed_over w k [])) ≡ is_clean_mark (mark_of w k n)
first_ready w k n live = go (standing w n) live ∙ sym (over_clean w k [] n live refl)
  where
    go : (st : Stands) → is_computed st ≡ true → is_ready st false (is_in n (passed_over w k [])) ≡ is_in n (passed_over w k [])
    go IsGone h = cc h
    go (IsCell c) h = cc h
    go (IsComputed c) h = refl

-- where nothing is done, all stays
pub stays_here : (g : states.Seen) (n : ℕ) → Stays g g g.state.progress n
stays_here g n = record { signals = refl; memos = refl; progress = refl; worn = refl; seats = refl; given = refl; steps = omega arith }

-- a count goes up by one at most
counted_most : (n : ℕ) → states.counted n ≤ n + 1
counted_most n = elim (nat_lt (n + 1) (2 ^ 128)) as (λ b. cond b (n + 1) n ≤ n + 1) [ true ↦ omega arith | false ↦ omega arith ]

-- a source was compared, where its computed doesn't hold `cycle`
pub stays_compared : (old new : states.Seen) (cycle : Bool) → states.Becomes old new (cond cycle old.state (states.with_look old.state)) →
    new.seats ≡ old.seats → Stays old new old.state.progress 1
stays_compared old new true a seats = record {
  signals = ap (λ (s : states.State). s.signals) a.state;
  memos = ap (λ (s : states.State). s.memos) a.state;
  progress = ap (λ (s : states.State). s.progress) a.state;
  worn = ap (λ (s : states.State). s.worn) a.state;
  seats = seats;
  given = a.given;
  steps = let e : new.state.looked ≡ old.state.looked = ap (λ (s : states.State). s.looked) a.state in omega (arith, e);
}
stays_compared old new false a seats = record {
  signals = ap (λ (s : states.State). s.signals) a.state;
  memos = ap (λ (s : states.State). s.memos) a.state;
  progress = ap (λ (s : states.State). s.progress) a.state;
  worn = ap (λ (s : states.State). s.worn) a.state;
  seats = seats;
  given = a.given;
  steps =
      let e : new.state.looked ≡ states.counted old.state.looked = ap (λ (s : states.State). s.looked) a.state in
      let m = counted_most old.state.looked in omega (arith, e, m);
}

-- and who is being evaluated is the same
pub evaluating_stays : (g h : states.Seen) (n : ℕ) → Stays g h g.state.progress n → evaluating h.state ≡ evaluating g.state
evaluating_stays g h n s = (λ i. passing (λ m. is_some (progress_at m (s.progress i))) (map (λ (p : Progress). p.name) (s.progress i)))

-- a slot whose source is ready is read as what the source is read as
pub waits_read : (w : Signals) (k : Memos) (evaluating over : List ℕ) (slot m : ℕ) (o : Outcome) (known : List Known) (reads : List Seen) →
    is_ready (standing w m) (is_in m evaluating) (is_in m over) ≡ true →
    o ≡ or_cycle (ready_outcome (standing w m) (is_in m evaluating) (standing_outcome w k m)) →
    slot_read slot m (Some o) known reads ≡ waits w k evaluating over slot m known reads
waits_read w k evaluating over slot m o known reads ready is =
    ap (λ (x : Outcome). slot_read slot m (Some x) known reads) is
    ∙ sym (ap (λ b. cond b (slot_read slot m (Some (or_cycle (ready_outcome (standing w m) (is_in m evaluating) (standing_outcome w k m)))) known reads)
    (Needs m (Waiting slot known reads))) ready)

-- what was read then was given
pub read_given : (g : states.Seen) (slot m : ℕ) (o : Outcome) (known : List Known) (reads : List Seen) → AreReadsGiven g reads → is_given g m ≡ true →
    AreReadsGiven g (move_reads (slot_read slot m (Some o) known reads))
read_given g slot m (Good v) known reads all on =
    All-append (λ (r : Seen). is_given g r.name ≡ true) reads (record { name = m; outcome = Good v } ∷ []) all
    (All-cons (λ (r : Seen). is_given g r.name ≡ true) (record { name = m; outcome = Good v }) [] on (All-nil (λ (r : Seen). is_given g r.name ≡ true)))
read_given g slot m (Bad e) known reads all on =
    All-append (λ (r : Seen). is_given g r.name ≡ true) reads (record { name = m; outcome = Bad e } ∷ []) all
    (All-cons (λ (r : Seen). is_given g r.name ≡ true) (record { name = m; outcome = Bad e }) [] on (All-nil (λ (r : Seen). is_given g r.name ≡ true)))

-- who is found once one more was put in
pub one_more : (n m : ℕ) (rest : Bool) → cond (n == m) true rest ≡ (m == n || rest)
one_more n m rest = elim (tested (n == m)) [
  | inl e ↦ ap (λ b. cond b true rest) e ∙ ap (λ b. b || rest) (sym (eq-eqb m n (sym (eqb-true n m e))))
  | inr e ↦ ap (λ b. cond b true rest) e ∙ ap (λ b. b || rest) (sym (other (m == n) refl e))
]
  where
    other : (b : Bool) → (m == n) ≡ b → (n == m) ≡ false → b ≡ false
    other false is e = refl
    other true is e = absurd (true≢false (sym (eq-eqb n m (sym (eqb-true m n is))) ∙ e))

-- one more behind some counts as one more before all
pub late_more : (ls ks : List ℕ) (n m : ℕ) → is_in m ((ls ++ n ∷ []) ++ ks) ≡ (m == n || is_in m (ls ++ ks))
late_more [] ks n m = refl
late_more (l ∷ ls) ks n m = ap (λ b. m == l || b) (late_more ls ks n m) ∙ swapped (m == l) (m == n) (is_in m (ls ++ ks))
  where
    swapped : (a b c : Bool) → (a || (b || c)) ≡ (b || (a || c))
    swapped true true c = refl
    swapped true false c = refl
    swapped false true c = refl
    swapped false false c = refl
