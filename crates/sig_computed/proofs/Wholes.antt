-- The steps of the loop are those of settling, for all hosts for which what was kept is sound.
use Rattle.std.proofs.Common.{◌≡◌, ℕ, ◌+◌, ◌≤◌, ◌==◌, ◌||◌, Bool, true, false, cond, List, [], ◌∷◌, ◌++◌, map, drop, length, arith, Some, refl, sym, ap, ◌∙◌, subst, append_assoc, append-nil}
use Rattle.std.specs.Prelude.{slice_index, Option}
use Rattle.std.proofs.lemmas.List.{map-append}
use Rattle.sig_base.specs.declared.value.Known.{Known}
use Rattle.sig_base.specs.declared.value.Outcome.{Outcome}
use Rattle.signal_model.specs.Recipes.{Hosts}
use Rattle.signal_model.specs.Signals.{Signals, Computed, Stands, IsGone, IsCell, IsComputed, is_computed, is_in, standing}
use Rattle.signal_model.specs.Values.{Seen, value_of}
use Rattle.signal_model.specs.Memos.{Source, Memos, differs, holds_cycle, sources_of}
use Rattle.signal_model.specs.Settling.{Run, Settled, settled}
use Rattle.signal_model.specs.Asks.{asks_host, asks_of, moments}
use Rattle.sig_host.specs.Hosts.{HostPlace, count_at}
use Rattle.signal_model.specs.Sound.{standing_outcome}
use Rattle.signal_model.specs.Kept.{AreKept}
use Rattle.signal_laws.proofs.Shared.{in_append, in_head}
use Rattle.sig_nodes.specs.Answers.{answer_here, slots_here}
use Rattle.sig_computed.specs.Steps.{Phase, Looking, LookedAt, Running, Waiting, Frame, frame_names, new_frame, is_ready, ready_outcome}
use Rattle.sig_computed.specs.Steps.{Move, GoesOn, Needs, Stops, Ends, decided, looked, slot_read, waited, answered, move_of, frame_move}
use Rattle.sig_computed.specs.Notes.{Note, run_note, IsSettling}
use Rattle.sig_computed.specs.Views.{or_cycle}
use Rattle.sig_computed.specs.Costs.{step_bound}
use Rattle.sig_computed.specs.Skips.{Counted, clean_among, compare_steps, frame_steps, look_steps, passed_over, passing_begun, passing_moved, source_steps}
use Rattle.sig_computed.specs.SkipLaws.{IsPassed}
use Rattle.sig_computed.proofs.Skips.{PassesOn, Passes, begun_passes, step_passes, over_passes, shown_passed}
use Rattle.sig_computed.specs.Turns.{evaluation_note, first_stack, memos_after, move_by, move_steps, notes_of, stack_after, turn_steps, visited_after, waits}
use Rattle.sig_computed.proofs.Asks.{first_asks, move_asked, phase_asked, phase_asks, runs_after, stack_asked, step_counts}

-- a settling of which no more names are asked, and what it has counted
abbrev pub counted_at : Memos → List Run → List ℕ → List Frame → ℕ → Counted
counted_at k rs visited fs looked = record { underway = record { memos = k; runs = rs; visited = visited; stack = fs; asked = [] }; looked = looked }

-- ---- moves rest on which names are being evaluated and were visited, and not on their order

module _ (w : Signals) (k : Memos) (a b u v : List ℕ) (evaluated : (m : ℕ) → is_in m a ≡ is_in m b) (visited : (m : ℕ) → is_in m u ≡ is_in m v) where
  -- a look
  looked_same : (cycle : Bool) (place : ℕ) (l : List Source) → looked w k a u cycle place l ≡ looked w k b v cycle place l
  looked_same cycle place [] = refl
  looked_same cycle place (s ∷ ss) = (λ i. cond (is_ready (standing w s.name) (evaluated s.name i) (visited s.name i))
      (decided cycle (differs k s || evaluated s.name i) place) (Needs s.name (LookedAt place)))

  -- a slot that is waited for, where what is ready shows something
  waits_same : (slot m : ℕ) (known : List Known) (reads : List Seen) →
      (is_ready (standing w m) (is_in m b) (is_in m v) ≡ true → (o : Outcome) × (ready_outcome (standing w m) (is_in m b) (standing_outcome w k m) ≡ Some o)) →
      waits w k a u slot m known reads ≡ waited w k b v slot m known reads
  waits_same slot m known reads shows =
      (λ i. cond (is_ready (standing w m) (evaluated m i) (visited m i))
      (slot_read slot m (Some (or_cycle (ready_outcome (standing w m) (evaluated m i) (standing_outcome w k m)))) known reads)
      (Needs m (Waiting slot known reads)))
      ∙ go (is_ready (standing w m) (is_in m b) (is_in m v)) refl
    where
      go : (r : Bool) → is_ready (standing w m) (is_in m b) (is_in m v) ≡ r →
          cond r (slot_read slot m (Some (or_cycle (ready_outcome (standing w m) (is_in m b) (standing_outcome w k m)))) known reads) (Needs m (Waiting slot known reads))
          ≡ cond r (slot_read slot m (ready_outcome (standing w m) (is_in m b) (standing_outcome w k m)) known reads) (Needs m (Waiting slot known reads))
      go true e = let x = shows e in
          (λ i. slot_read slot m (Some (or_cycle (x.1 i))) known reads) ∙ (λ i. slot_read slot m (sym x.1 i) known reads)
      go false e = refl

-- ---- and so do steps

-- the first of some sources
source_same : (w : Signals) (a b u v : List ℕ) → ((m : ℕ) → is_in m a ≡ is_in m b) → ((m : ℕ) → is_in m u ≡ is_in m v) → (l : List Source) (mv : Move) →
    source_steps w a u l mv ≡ source_steps w b v l mv
source_same w a b u v evaluated visited [] mv = refl
source_same w a b u v evaluated visited (s ∷ ss) mv = (λ i. look_steps (standing w s.name) (evaluated s.name i) (visited s.name i) + compare_steps mv)

-- those of a frame
turn_same : (w : Signals) (k : Memos) (a u v : List ℕ) (n : ℕ) (p : Phase) (path : List ℕ) (c : Computed) (mv : Move) → standing w n ≡ IsComputed c →
    ((m : ℕ) → is_in m a ≡ is_in m (n ∷ path)) → ((m : ℕ) → is_in m u ≡ is_in m v) →
    turn_steps w k a u n p mv ≡ frame_steps w k path v (record { name = n; phase = p }) (standing w n) mv
turn_same w k a u v n (Looking place) path c mv st evaluated visited =
    source_same w a (n ∷ path) u v evaluated visited (drop place (sources_of k n)) mv
    ∙ (λ i. frame_steps w k path v (record { name = n; phase = Looking place }) (sym st i) mv)
turn_same w k a u v n (LookedAt place) path c mv st evaluated visited =
    source_same w a (n ∷ path) u v evaluated visited (drop place (sources_of k n)) mv
    ∙ (λ i. frame_steps w k path v (record { name = n; phase = LookedAt place }) (sym st i) mv)
turn_same w k a u v n (Running known reads) path c mv st evaluated visited =
    (λ i. frame_steps w k path v (record { name = n; phase = Running known reads }) (sym st i) mv)
turn_same w k a u v n (Waiting slot known reads) path c mv st evaluated visited =
    (λ i. look_steps (standing w (slice_index (slots_here (st i)) slot)) (evaluated (slice_index (slots_here (st i)) slot) i) (visited (slice_index (slots_here (st i)) slot) i))
    ∙ (λ i. frame_steps w k path v (record { name = n; phase = Waiting slot known reads }) (sym st i) mv)

-- what may be passed over
over_same : (w : Signals) (k : Memos) (u v : List ℕ) → ((m : ℕ) → is_in m u ≡ is_in m v) → (m : ℕ) → is_in m (passed_over w k u) ≡ is_in m (passed_over w k v)
over_same w k u v visited m =
    in_append m u (clean_among w k w.computeds) ∙ ap (λ b. b || is_in m (clean_among w k w.computeds)) (visited m) ∙ sym (in_append m v (clean_among w k w.computeds))

module _ (hosts : Hosts) (w : Signals) (k0 : Memos) (kept0 : AreKept hosts w k0) (steps0 : ℕ) (places0 : List HostPlace) (asked : List ℕ) where
  -- What is kept and the notes behind those before are so far those of settling, where what is clean is passed over; at most so many steps were
  -- counted by now, and host formulas were asked exactly by the runs and the frames.
  pub record IsWhole (k : Memos) (steps : ℕ) (places : List HostPlace) (before after : List Note) (visited : List ℕ) (fs : List Frame) : Type 0 where
    pub names : List ℕ
    pub agrees : (m : ℕ) → is_in m visited ≡ is_in m names
    pub runs : List Run
    pub told : after ≡ before ++ map run_note runs
    pub looked : ℕ
    pub passes : PassesOn hosts w k0 asked kept0 (counted_at k runs names fs looked) fs []
    pub counted : steps ≤ steps0 + looked
    pub asks : (place : ℕ) → count_at places place ≡ count_at places0 place + (asks_of place (moments w runs) + stack_asked place w fs)

  -- the move is that of settling
  same_move : (k : Memos) (rs : List Run) (names evaluating visited : List ℕ) (n : ℕ) (p : Phase) (fs : List Frame) (c : Computed) (steps : ℕ) →
      standing w n ≡ IsComputed c →
      PassesOn hosts w k0 asked kept0 (counted_at k rs names (record { name = n; phase = p } ∷ fs) steps) (record { name = n; phase = p } ∷ fs) [] →
      ((m : ℕ) → is_in m evaluating ≡ is_in m (n ∷ frame_names fs)) → ((m : ℕ) → is_in m visited ≡ is_in m names) →
      move_by hosts w k evaluating (passed_over w k visited) n p ≡ move_of hosts w k (n ∷ frame_names fs) (passed_over w k names) n c p
  same_move k rs names evaluating visited n (Looking place) fs c steps stands h ev vi =
      looked_same w k evaluating (n ∷ frame_names fs) (passed_over w k visited) (passed_over w k names) ev (over_same w k visited names vi)
      (holds_cycle k n) place (drop place (sources_of k n))
  same_move k rs names evaluating visited n (LookedAt place) fs c steps stands h ev vi =
      looked_same w k evaluating (n ∷ frame_names fs) (passed_over w k visited) (passed_over w k names) ev (over_same w k visited names vi)
      (holds_cycle k n) place (drop place (sources_of k n))
  same_move k rs names evaluating visited n (Running known reads) fs c steps stands h ev vi = (λ i. answered (answer_here hosts (stands i) known) known reads)
  same_move k rs names evaluating visited n (Waiting slot known reads) fs c steps stands h ev vi =
      waits_same w k evaluating (n ∷ frame_names fs) (passed_over w k visited) (passed_over w k names) ev (over_same w k visited names vi)
      slot (slice_index (slots_here (standing w n)) slot) known reads
      (shown_passed hosts w k0 asked kept0 (counted_at k rs names (record { name = n; phase = Waiting slot known reads } ∷ fs) steps)
      (record { name = n; phase = Waiting slot known reads } ∷ fs) [] h
      (slice_index (slots_here (standing w n)) slot) (is_in (slice_index (slots_here (standing w n)) slot) (n ∷ frame_names fs)))
      ∙ (λ i. waited w k (n ∷ frame_names fs) (passed_over w k names) slot (slice_index (slots_here (stands i)) slot) known reads)

  -- once the move is made
  moved_whole : (k : Memos) (steps steps' : ℕ) (places' : List HostPlace) (before after : List Note) (visited visited' names : List ℕ) (rs : List Run)
      (f : Frame) (fs : List Frame) (mv : Move) (so_far turn : ℕ) →
      ((m : ℕ) → is_in m visited ≡ is_in m names) → after ≡ before ++ map run_note rs →
      ((m : ℕ) → is_in m visited' ≡ is_in m (visited_after f.name mv visited)) → steps ≤ steps0 + so_far → steps' ≤ steps + turn + move_steps mv →
      turn ≡ frame_steps w k (frame_names fs) names f (standing w f.name) mv →
      Passes hosts w k0 asked kept0 (passing_moved w (counted_at k rs names (f ∷ fs) so_far) f fs mv) →
      ((place : ℕ) → count_at places' place ≡ count_at places0 place
      + (asks_of place (moments w (runs_after f.name mv rs)) + stack_asked place w (stack_after k f.name mv fs))) →
      IsWhole (memos_after k f.name mv) steps' places' before (after ++ notes_of f.name mv) visited' (stack_after k f.name mv fs)
  moved_whole k steps steps' places' before after visited visited' names rs f fs (GoesOn p) so_far turn agrees listed vi count more same passes asks = record {
    names = names;
    agrees = λ m. vi m ∙ agrees m;
    runs = rs;
    told = append-nil after ∙ listed;
    looked = so_far + frame_steps w k (frame_names fs) names f (standing w f.name) (GoesOn p) + 0;
    passes = passes;
    counted = omega (arith, count, more, same);
    asks = asks;
  }
  moved_whole k steps steps' places' before after visited visited' names rs f fs (Needs s p) so_far turn agrees listed vi count more same passes asks = record {
    names = names;
    agrees = λ m. vi m ∙ agrees m;
    runs = rs;
    told = append-nil after ∙ listed;
    looked = so_far + frame_steps w k (frame_names fs) names f (standing w f.name) (Needs s p) + 1;
    passes = passes;
    counted = omega (arith, count, more, same);
    asks = asks;
  }
  moved_whole k steps steps' places' before after visited visited' names rs f fs Stops so_far turn agrees listed vi count more same passes asks = record {
    names = f.name ∷ names;
    agrees = λ m. vi m ∙ ap (λ b. m == f.name || b) (agrees m);
    runs = rs;
    told = append-nil after ∙ listed;
    looked = so_far + frame_steps w k (frame_names fs) names f (standing w f.name) Stops + 0;
    passes = passes;
    counted = omega (arith, count, more, same);
    asks = asks;
  }
  moved_whole k steps steps' places' before after visited visited' names rs f fs (Ends e) so_far turn agrees listed vi count more same passes asks =
      let r : Run = record { name = f.name; evaluation = e } in
      record {
        names = f.name ∷ names;
        agrees = λ m. vi m ∙ ap (λ b. m == f.name || b) (agrees m);
        runs = rs ++ r ∷ [];
        told = ap (λ l. l ++ evaluation_note f.name e ∷ []) listed ∙ append_assoc before (map run_note rs) (evaluation_note f.name e ∷ []) ∙ ap (λ l. before ++ l) (sym (map-append run_note rs (r ∷ [])));
        looked = so_far + frame_steps w k (frame_names fs) names f (standing w f.name) (Ends e) + 0;
        passes = passes;
        counted = omega (arith, count, more, same);
        asks = asks;
      }

  -- a step of the loop
  pub step_whole : (k : Memos) (steps steps' : ℕ) (places places' : List HostPlace) (before after : List Note) (evaluating visited visited' : List ℕ) (f : Frame) (fs : List Frame) (mv : Move) (c : Computed) →
      standing w f.name ≡ IsComputed c → IsWhole k steps places before after visited (f ∷ fs) → ((m : ℕ) → is_in m evaluating ≡ is_in m (f.name ∷ frame_names fs)) →
      mv ≡ move_by hosts w k evaluating (passed_over w k visited) f.name f.phase → ((m : ℕ) → is_in m visited' ≡ is_in m (visited_after f.name mv visited)) →
      steps' ≤ steps + turn_steps w k evaluating visited f.name f.phase mv + move_steps mv → phase_asked f.phase + phase_asks f.phase ≡ move_asked mv →
      ((place : ℕ) → count_at places' place ≡ count_at places place + cond (asks_host place (standing w f.name)) (phase_asks f.phase) 0) →
      IsWhole (memos_after k f.name mv) steps' places' before (after ++ notes_of f.name mv) visited' (stack_after k f.name mv fs)
  step_whole k steps steps' places places' before after evaluating visited visited' f fs mv c stands x ev is vi more counts once =
      let u : Counted = counted_at k x.runs x.names (f ∷ fs) x.looked in
      let same : mv ≡ frame_move hosts w k (frame_names fs) (passed_over w k x.names) f (standing w f.name) =
      is ∙ same_move k x.runs x.names evaluating visited f.name f.phase fs c x.looked stands x.passes ev x.agrees
      ∙ (λ i. frame_move hosts w k (frame_names fs) (passed_over w k x.names) f (sym stands i)) in
      moved_whole k steps steps' places' before after visited visited' x.names x.runs f fs mv x.looked (turn_steps w k evaluating visited f.name f.phase mv)
      x.agrees x.told vi x.counted more (turn_same w k evaluating visited x.names f.name f.phase (frame_names fs) c mv stands ev x.agrees)
      (subst (λ y. Passes hosts w k0 asked kept0 (passing_moved w u f fs y)) (sym same) (step_passes hosts w k0 asked kept0 u x.passes))
      (λ place. step_counts place w k f fs mv x.runs (count_at places0 place) (count_at places place) (count_at places' place) counts (x.asks place) (once place))

-- ---- from the beginning to the end

-- the first step: a computed that is asked for is passed over, or begins
module _ (hosts : Hosts) (w : Signals) (k : Memos) (n : ℕ) (are_kept : AreKept hosts w k) where
  abbrev passed : Bool
  passed = is_ready (standing w n) false (is_in n (passed_over w k []))

  abbrev first_goes : Counted
  first_goes = counted_at k [] [] [] (0 + look_steps (standing w n) false (is_in n []))

  abbrev first_begins : Counted
  first_begins = counted_at k [] [] (new_frame k n ∷ []) (0 + look_steps (standing w n) false (is_in n []) + 1)

  first_passes : Passes hosts w k (n ∷ []) are_kept (cond passed first_goes first_begins)
  first_passes = step_passes hosts w k (n ∷ []) are_kept (passing_begun k (n ∷ [])) (begun_passes hosts w k (n ∷ []) are_kept)

-- at the beginning
pub first_whole : (hosts : Hosts) (w : Signals) (k : Memos) (steps0 steps : ℕ) (places : List HostPlace) (n : ℕ) (before : List Note) (visited : List ℕ) (are_kept : AreKept hosts w k) → visited ≡ [] →
    is_computed (standing w n) ≡ true → steps ≤ steps0 + 1 + length (first_stack w k n) →
    IsWhole hosts w k are_kept steps0 places (n ∷ []) k steps places before before visited (first_stack w k n)
first_whole hosts w k steps0 steps places n before visited are_kept none live count = go (passed hosts w k n are_kept) (first_passes hosts w k n are_kept) count
    (λ place. first_asks place w k n)
  where
    one : look_steps (standing w n) false (is_in n []) ≡ 1
    one = by (standing w n) live
      where
        by : (st : Stands) → is_computed st ≡ true → look_steps st false false ≡ 1
        by IsGone e = cc
        by (IsCell c) e = cc
        by (IsComputed c) e = refl

    go : (b : Bool) → Passes hosts w k (n ∷ []) are_kept (cond b (first_goes hosts w k n are_kept) (first_begins hosts w k n are_kept)) →
        steps ≤ steps0 + 1 + length (cond b [] (new_frame k n ∷ [])) → ((place : ℕ) → stack_asked place w (cond b [] (new_frame k n ∷ [])) ≡ 0) →
        IsWhole hosts w k are_kept steps0 places (n ∷ []) k steps places before before visited (cond b [] (new_frame k n ∷ []))
    go true passes few asked' = record {
      names = [];
      agrees = λ m. ap (is_in m) none;
      runs = [];
      told = sym (append-nil before);
      looked = 0 + look_steps (standing w n) false (is_in n []);
      passes = passes;
      counted = omega (arith, few, one);
      asks = λ place. let a = asked' place in omega (arith, a);
    }
    go false passes few asked' = record {
      names = [];
      agrees = λ m. ap (is_in m) none;
      runs = [];
      told = sym (append-nil before);
      looked = 0 + look_steps (standing w n) false (is_in n []) + 1;
      passes = passes;
      counted = omega (arith, few, one);
      asks = λ place. let a = asked' place in omega (arith, a);
    }

-- at the end
pub record IsEnded (hosts : Hosts) (w : Signals) (k0 k : Memos) (steps0 steps : ℕ) (places0 places : List HostPlace) (n : ℕ) (before after : List Note) : Type 0 where
  pub settling : IsSettling hosts w k0 (n ∷ []) before after k
  pub kept : AreKept hosts w k
  pub value : standing_outcome w k n ≡ Some (value_of hosts w n [])
  pub counted : steps ≤ steps0 + step_bound hosts w k0 (n ∷ [])
  pub asks : (place : ℕ) → count_at places place ≡ count_at places0 place + (asks_of place (moments w (settled hosts w k0 (n ∷ [])).runs) + 0)

over_whole : (hosts : Hosts) (w : Signals) (k0 k : Memos) (steps0 steps : ℕ) (places0 places : List HostPlace) (n : ℕ) (before after : List Note) (visited : List ℕ) →
    (are_kept : AreKept hosts w k0) → IsWhole hosts w k0 are_kept steps0 places0 (n ∷ []) k steps places before after visited [] → IsEnded hosts w k0 k steps0 steps places0 places n before after
over_whole hosts w k0 k steps0 steps places0 places n before after visited are_kept x =
    let p : IsPassed hosts w k0 (n ∷ []) (counted_at k x.runs x.names [] x.looked) =
    over_passes hosts w k0 (n ∷ []) are_kept (counted_at k x.runs x.names [] x.looked) x.passes (record { stack = refl; asked = refl }) in
    let s = p.settled in
    let bound = p.counted in
    let count = x.counted in
    record {
      settling = record {
        memos = sym (ap (λ (y : Settled). y.memos) s.whole);
        notes = x.told ∙ sym (ap (λ (y : Settled). before ++ map run_note y.runs) s.whole);
      };
      kept = s.kept;
      value = s.value n (in_head n []);
      counted = omega (arith, bound, count);
      asks = λ place. x.asks place ∙ sym (ap (λ (y : Settled). count_at places0 place + (asks_of place (moments w y.runs) + 0)) s.whole);
    }

pub last_whole : (hosts : Hosts) (w : Signals) (k0 k : Memos) (steps0 steps : ℕ) (places0 places : List HostPlace) (n : ℕ) (before after : List Note) (visited : List ℕ)
    (fs : List Frame) (are_kept : AreKept hosts w k0) → fs ≡ [] → IsWhole hosts w k0 are_kept steps0 places0 (n ∷ []) k steps places before after visited fs →
    IsEnded hosts w k0 k steps0 steps places0 places n before after
last_whole hosts w k0 k steps0 steps places0 places n before after visited fs are_kept none x =
    over_whole hosts w k0 k steps0 steps places0 places n before after visited are_kept
    (subst (IsWhole hosts w k0 are_kept steps0 places0 (n ∷ []) k steps places before after visited) none x)

-- where nothing is asked that could run
pub plain_ended : (hosts : Hosts) (w : Signals) (k : Memos) (steps : ℕ) (places : List HostPlace) (n : ℕ) (before : List Note) (are_kept : AreKept hosts w k) →
    true ≡ is_ready (standing w n) false (is_in n (passed_over w k [])) → IsEnded hosts w k k steps steps places places n before before
plain_ended hosts w k steps places n before are_kept ready =
    over_whole hosts w k k steps steps places places n before before [] are_kept (record {
      names = [];
      agrees = λ m. refl;
      runs = [];
      told = sym (append-nil before);
      looked = 0 + look_steps (standing w n) false (is_in n []);
      passes = subst (λ b. Passes hosts w k (n ∷ []) are_kept (cond b (first_goes hosts w k n are_kept) (first_begins hosts w k n are_kept))) (sym ready)
          (first_passes hosts w k n are_kept);
      counted = omega arith;
      asks = λ place. omega arith;
    })

-- what is shown then is the value
pub shown_value : (st : Stands) (b : Bool) (o : Option Outcome) (v : Outcome) → b ≡ false → o ≡ Some v → or_cycle (ready_outcome st b o) ≡ v
shown_value IsGone b o v e h = ap or_cycle h
shown_value (IsCell c) b o v e h = ap or_cycle h
shown_value (IsComputed c) true o v e h = cc
shown_value (IsComputed c) false o v e h = ap or_cycle h
