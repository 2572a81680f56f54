-- Where what is clean is passed over, each move is one of settling, and the steps keep to their bound.
use Rattle.std.proofs.Common.{◌≡◌, ℕ, zero, suc, ◌+◌, ◌*◌, ◌≤◌, ◌==◌, ◌||◌, ◌&&◌, not, Bool, true, false, cond, List, [], ◌∷◌, Option, Some, None, map, drop, length, arith, refl, sym, ap, ◌∙◌, subst, ◌⊎◌, inl, inr}
use Rattle.std.specs.Prelude.{slice_index}
use Rattle.std.proofs.lemmas.Bool.{eqb-true}
use Rattle.std.proofs.lemmas.List.{length-drop}
use Rattle.sig_base.specs.declared.value.Fault.TheVariants.{Cycle}
use Rattle.sig_base.specs.declared.value.Known.{Known}
use Rattle.sig_base.specs.declared.value.Step.{Step}
use Rattle.sig_base.specs.declared.value.Step.TheVariants.{Read, Done, Fail}
use Rattle.sig_base.specs.declared.value.Outcome.{Outcome}
use Rattle.sig_base.specs.declared.value.Outcome.TheVariants.{Good, Bad}
use Rattle.signal_model.specs.Recipes.{Hosts, recipe_answer}
use Rattle.signal_model.specs.Signals.{Signals, Computed, Stands, IsGone, IsCell, IsComputed, is_in, computed_at, standing}
use Rattle.signal_model.specs.Values.{Seen, value_of}
use Rattle.signal_model.specs.Orders.{evaluation_order, order_after}
use Rattle.signal_model.specs.Memos.{Source, Memos, memo_in, memo_of, sources_in, sources_of, holds_cycle, is_moved, must_run}
use Rattle.signal_model.specs.Settling.{Run, Settled, source_now, settled}
use Rattle.signal_model.specs.Marks.{Mark, Clean, Checked, Dirty, mark_of}
use Rattle.signal_model.specs.Kept.{AreKept}
use Rattle.signal_model.specs.Sound.{outcome_here, standing_outcome}
use Rattle.signal_model.proofs.Shared.{tested, either, or_left, or_right, stands-computed}
use Rattle.signal_laws.specs.CleanLaws.{IsUpToDate}
use Rattle.signal_laws.proofs.Shared.{clean_law, in_append, in_head, in_tail, run_other, seen_is}
use Rattle.sig_computed.specs.Steps.{Phase, Looking, LookedAt, Running, Waiting, Frame, Underway, frame_names, new_frame, is_ready, ready_outcome}
use Rattle.sig_computed.specs.Steps.{Move, GoesOn, Needs, Stops, Ends, answered, decided, looked, slot_read, frame_move, after_move}
use Rattle.sig_computed.specs.StepLaws.{IsOver, IsSettled}
use Rattle.sig_computed.proofs.StepsHold.{Holds, begun_holds, step_holds, over_settled, unready, shown_visited}
use Rattle.sig_computed.proofs.VisitsLeft.{completed}
use Rattle.sig_computed.specs.Costs.{kept_count, name_steps, run_steps, unless_clean, visit_steps}
use Rattle.sig_computed.specs.Skips.{Counted, begin_steps, clean_among, look_steps, passed_over, passing_begun, passing_moved, passing_next, passing_stack, passing_step, frame_steps, source_steps}
use Rattle.sig_graph.specs.Looks.{is_clean_mark}
use Rattle.sig_computed.specs.SkipLaws.{IsPassed, PassingLaw, passing_times}
use Rattle.sig_computed.proofs.CleanRuns.{clean_run}
use Rattle.sig_computed.proofs.Counts.{all_steps, run_more, seen_steps, first_name, slot_name, waited, was_visited, phase_most, under_most, stack_most, new_most, paid_most, look_once}
use Rattle.sig_computed.proofs.Counts.{Pays, look_pays, looked_pays, answer_pays, wait_pays}
use Rattle.sig_computed.proofs.Passed.{at_point, IsPast, pass_over}

-- ---- clean names

-- the mark that is clean
pub clean_is : (m : Mark) → is_clean_mark m ≡ true → m ≡ Clean
clean_is Clean e = refl
clean_is Checked e = cc
clean_is Dirty e = cc

-- what isn't clean costs
not_clean : (m : Mark) (n : ℕ) → is_clean_mark m ≡ false → unless_clean m n ≡ n
not_clean Clean n e = cc
not_clean Checked n e = refl
not_clean Dirty n e = refl

-- those that are found are clean
pub among_clean : (w : Signals) (k : Memos) (cs : List Computed) (s : ℕ) → is_in s (clean_among w k cs) ≡ true → mark_of w k s ≡ Clean
among_clean w k [] s h = cc
among_clean w k (c ∷ cs) s h = go (is_clean_mark (mark_of w k c.name)) refl h (among_clean w k cs s)
  where
    go : (b : Bool) → is_clean_mark (mark_of w k c.name) ≡ b → is_in s (cond b (c.name ∷ clean_among w k cs) (clean_among w k cs)) ≡ true →
        (is_in s (clean_among w k cs) ≡ true → mark_of w k s ≡ Clean) → mark_of w k s ≡ Clean
    go true e q f = elim (either (s == c.name) (is_in s (clean_among w k cs)) q) [
      | inl is ↦ ap (mark_of w k) (eqb-true s c.name is) ∙ clean_is (mark_of w k c.name) e
      | inr t ↦ f t
    ]
    go false e q f = f q

-- and each computed that is clean is found
pub clean_found : (w : Signals) (k : Memos) (cs : List Computed) (s : ℕ) (d : Computed) → computed_at s cs ≡ Some d → is_clean_mark (mark_of w k s) ≡ true →
    is_in s (clean_among w k cs) ≡ true
clean_found w k [] s d at e = cc
clean_found w k (c ∷ cs) s d at e = go (s == c.name) refl at (clean_found w k cs s d)
  where
    later : (b : Bool) → is_in s (clean_among w k cs) ≡ true → is_in s (cond b (c.name ∷ clean_among w k cs) (clean_among w k cs)) ≡ true
    later true h = in_tail s c.name (clean_among w k cs) h
    later false h = h

    go : (b : Bool) → (s == c.name) ≡ b → cond b (Some c) (computed_at s cs) ≡ Some d →
        (computed_at s cs ≡ Some d → is_clean_mark (mark_of w k s) ≡ true → is_in s (clean_among w k cs) ≡ true) →
        is_in s (clean_among w k (c ∷ cs)) ≡ true
    go true is q f =
        let same : s ≡ c.name = eqb-true s c.name is in
        let here : is_clean_mark (mark_of w k c.name) ≡ true = ap (λ y. is_clean_mark (mark_of w k y)) (sym same) ∙ e in
        ap (λ b. is_in s (cond b (c.name ∷ clean_among w k cs) (clean_among w k cs))) here
        ∙ or_left (s == c.name) (is_in s (clean_among w k cs)) is
    go false off q f = later (is_clean_mark (mark_of w k c.name)) (f q e)

-- a name that isn't among more isn't among fewer
not_fewer : (a b : Bool) → (a ≡ true → b ≡ true) → b ≡ false → a ≡ false
not_fewer true b f e = cc (sym (f refl) ∙ e)
not_fewer false b f e = refl

-- moves don't rest on what the frame did before
after_same : (k : Memos) (rs : List Run) (names : List ℕ) (f g : Frame) (fs : List Frame) (as' : List ℕ) (n : ℕ) (mv : Move) →
    after_move (at_point k rs names (f ∷ fs) as') n fs mv ≡ after_move (at_point k rs names (g ∷ fs) as') n fs mv
after_same k rs names f g fs as' n (GoesOn p) = refl
after_same k rs names f g fs as' n (Needs s p) = refl
after_same k rs names f g fs as' n Stops = refl
after_same k rs names f g fs as' n (Ends e) = refl

module _ (hosts : Hosts) (w : Signals) (k0 : Memos) (asked0 : List ℕ) (kept0 : AreKept hosts w k0) where
  -- what is ready shows something
  shows_ready : (m : Underway) → Holds hosts w k0 asked0 m → (n : ℕ) (b : Bool) → is_ready (standing w n) b (is_in n m.visited) ≡ true →
      (o : Outcome) × (ready_outcome (standing w n) b (standing_outcome w m.memos n) ≡ Some o)
  shows_ready m h n b r = go (standing w n) refl
    where
      go : (st : Stands) → standing w n ≡ st → (o : Outcome) × (ready_outcome (standing w n) b (standing_outcome w m.memos n) ≡ Some o)
      go IsGone e = (_, (λ i. ready_outcome (e i) b (outcome_here (e i) (memo_of m.memos n))))
      go (IsCell c) e = (_, (λ i. ready_outcome (e i) b (outcome_here (e i) (memo_of m.memos n))))
      go (IsComputed c) e = by b refl
        where
          by : (x : Bool) → b ≡ x → (o : Outcome) × (ready_outcome (standing w n) b (standing_outcome w m.memos n) ≡ Some o)
          by true q = (Bad Cycle, (λ i. ready_outcome (e i) (q i) (standing_outcome w m.memos n)))
          by false q =
              let on : is_in n m.visited ≡ true = (λ i. is_ready (sym e i) (sym q i) (is_in n m.visited)) ∙ r in
              (value_of hosts w n [], (λ i. ready_outcome (e i) (q i) (standing_outcome w m.memos n)) ∙ shown_visited hosts w k0 asked0 m h n c on e)

  -- ---- what holds

  -- frames of computeds that weren't clean at the beginning
  abbrev pub AreOpen : List Frame → Type 0
  AreOpen [] = Unit {0}
  AreOpen (f ∷ fs) = (is_clean_mark (mark_of w k0 f.name) ≡ false) × AreOpen fs

  -- each frame waits for the one above it, the first of these for n
  abbrev pub WaitFor : ℕ → List Frame → Type 0
  WaitFor n [] = Unit {0}
  WaitFor n (g ∷ gs) = (waited (sources_of k0 g.name) (standing w g.name) g.phase ≡ Some n) × WaitFor g.name gs

  abbrev pub Wait : List Frame → Type 0
  Wait [] = Unit {0}
  Wait (f ∷ fs) = WaitFor f.name fs

  -- The settling that this stands for has visited these names: those that were visited, and some that are clean. What was clean at the beginning
  -- is clean, and who isn't visited keeps what it kept.
  pub record PassesOn (x : Counted) (st : List Frame) (as' : List ℕ) : Type 0 where
    pub names : List ℕ
    pub holds : Holds hosts w k0 asked0 (at_point x.underway.memos x.underway.runs names st as')
    pub fewer : (m : ℕ) → is_in m x.underway.visited ≡ true → is_in m names ≡ true
    pub clean : (m : ℕ) → is_in m names ≡ true → is_in m x.underway.visited ≡ false → mark_of w x.underway.memos m ≡ Clean
    pub still : (m : ℕ) → mark_of w k0 m ≡ Clean → mark_of w x.underway.memos m ≡ Clean
    pub lasts : (m : ℕ) → is_in m names ≡ false → sources_of x.underway.memos m ≡ sources_of k0 m
    pub opened : AreOpen st
    pub waits : Wait st
    pub counted : x.looked + length as' ≤ length asked0 + (all_steps w k0 names + run_steps x.underway.runs + stack_most w k0 x.underway.visited st)

  abbrev pub Passes : Counted → Type 0
  Passes x = PassesOn x x.underway.stack x.underway.asked

  -- a move of the settling that this stands for, after some names were passed over
  record Moved (k : Memos) (rs : List Run) (names : List ℕ) (f : Frame) (fs : List Frame) (as' : List ℕ) (mv : Move) : Type 0 where
    next : List ℕ
    holds : Holds hosts w k0 asked0 (after_move (at_point k rs next (f ∷ fs) as') f.name fs mv)
    more : (x : ℕ) → is_in x names ≡ true → is_in x next ≡ true
    only : (x : ℕ) → is_in x next ≡ true → (is_in x names ≡ true) ⊎ (mark_of w k x ≡ Clean)
    steps : all_steps w k0 names ≤ all_steps w k0 next

  -- no name was passed over
  moved_same : (k : Memos) (rs : List Run) (names : List ℕ) (f : Frame) (fs : List Frame) (as' : List ℕ) (mv : Move) →
      frame_move hosts w k (frame_names fs) names f (standing w f.name) ≡ mv → Holds hosts w k0 asked0 (at_point k rs names (f ∷ fs) as') →
      Moved k rs names f fs as' mv
  moved_same k rs names f fs as' mv e h = record {
    next = names;
    holds = subst (λ y. Holds hosts w k0 asked0 (after_move (at_point k rs names (f ∷ fs) as') f.name fs y)) e
        (step_holds hosts w k0 asked0 (at_point k rs names (f ∷ fs) as') h);
    more = λ x on. on;
    only = λ x on. inl on;
    steps = omega arith;
  }

  -- ---- readiness

  module _ (k : Memos) (visited names : List ℕ) (fewer : (m : ℕ) → is_in m visited ≡ true → is_in m names ≡ true)
      (clean : (m : ℕ) → is_in m names ≡ true → is_in m visited ≡ false → mark_of w k m ≡ Clean) (s : ℕ) (b : Bool) where
    -- what may be passed over
    abbrev over : List ℕ
    over = passed_over w k visited

    in_over : is_in s over ≡ (is_in s visited || is_in s (clean_among w k w.computeds))
    in_over = in_append s visited (clean_among w k w.computeds)

    -- a clean computed may
    over_clean : (d : Computed) → standing w s ≡ IsComputed d → is_clean_mark (mark_of w k s) ≡ true → is_in s over ≡ true
    over_clean d st cl = in_over ∙ or_right (is_in s visited) (is_in s (clean_among w k w.computeds))
        (clean_found w k w.computeds s d (stands-computed w s d st) cl)

    -- so what is ready is ready here
    over_ready : is_ready (standing w s) b (is_in s names) ≡ true → is_ready (standing w s) b (is_in s over) ≡ true
    over_ready r = go (standing w s) refl b refl
      where
        go : (st : Stands) → standing w s ≡ st → (x : Bool) → b ≡ x → is_ready (standing w s) b (is_in s over) ≡ true
        go IsGone e x q = (λ i. is_ready (e i) b (is_in s over))
        go (IsCell c) e x q = (λ i. is_ready (e i) b (is_in s over))
        go (IsComputed d) e true q = (λ i. is_ready (e i) (q i) (is_in s over))
        go (IsComputed d) e false q =
            let on : is_in s names ≡ true = (λ i. is_ready (sym e i) (sym q i) (is_in s names)) ∙ r in
            (λ i. is_ready (e i) (q i) (is_in s over)) ∙ elim (tested (is_in s visited)) [
              | inl was ↦ in_over ∙ or_left (is_in s visited) (is_in s (clean_among w k w.computeds)) was
              | inr not' ↦ over_clean d e (ap is_clean_mark (clean s on not'))
            ]

    -- what is ready here alone is clean
    over_only : is_ready (standing w s) b (is_in s names) ≡ false → is_ready (standing w s) b (is_in s over) ≡ true →
        (mark_of w k s ≡ Clean) × ((d : Computed) × (standing w s ≡ IsComputed d) × (b ≡ false))
    over_only off on =
        let u = unready (standing w s) b (is_in s names) off in
        let here : is_in s over ≡ true = (λ i. is_ready (sym u.1 i) (sym u.2 i) (is_in s over)) ∙ on in
        let new : is_in s visited ≡ false = not_fewer (is_in s visited) (is_in s names) (fewer s) u.3 in
        let found : is_in s (clean_among w k w.computeds) ≡ true = (λ i. sym new i || is_in s (clean_among w k w.computeds)) ∙ sym in_over ∙ here in
        (among_clean w k w.computeds s found, (u.0, u.1, u.2))

    -- and what isn't ready here isn't clean
    over_busy : is_ready (standing w s) b (is_in s over) ≡ false → is_clean_mark (mark_of w k s) ≡ false
    over_busy off =
        let u = unready (standing w s) b (is_in s over) off in
        not_fewer (is_clean_mark (mark_of w k s)) (is_in s over) (over_clean u.0 u.1) u.3

  -- ---- a frame that asks for a source

  module _ (k : Memos) (rs : List Run) (visited names : List ℕ) (n : ℕ) (p q : Phase) (fs : List Frame) (as' : List ℕ)
      (h : Holds hosts w k0 asked0 (at_point k rs names (record { name = n; phase = p } ∷ fs) as'))
      (fewer : (m : ℕ) → is_in m visited ≡ true → is_in m names ≡ true)
      (clean : (m : ℕ) → is_in m names ≡ true → is_in m visited ≡ false → mark_of w k m ≡ Clean)
      (s : ℕ) (a : Move)
      (here : (ns : List ℕ) → frame_move hosts w k (frame_names fs) ns (record { name = n; phase = p }) (standing w n)
      ≡ cond (is_ready (standing w s) (is_in s (n ∷ frame_names fs)) (is_in s ns)) a (Needs s q))
      (later : (ns : List ℕ) → frame_move hosts w k (frame_names fs) ns (record { name = n; phase = q }) (standing w n)
      ≡ cond (is_ready (standing w s) (is_in s (n ∷ frame_names fs)) (is_in s ns)) a (Needs s q)) where
    abbrev on_path : Bool
    on_path = is_in s (n ∷ frame_names fs)

    abbrev ready : List ℕ → Bool
    ready ns = is_ready (standing w s) on_path (is_in s ns)

    abbrev passed : List ℕ
    passed = passed_over w k visited

    -- the move, and that what is ready shows something
    record Asks : Type 0 where
      moved : Moved k rs names (record { name = n; phase = p }) fs as' (cond (ready passed) a (Needs s q))
      shown : ready passed ≡ true → (o : Outcome) × (ready_outcome (standing w s) on_path (standing_outcome w k s) ≡ Some o)

    asks_by : (x y : Bool) → ready passed ≡ x → ready names ≡ y → Asks
    asks_by true true e f = record {
      moved = moved_same k rs names (record { name = n; phase = p }) fs as' (cond (ready passed) a (Needs s q))
          (here names ∙ (λ i. cond (f i) a (Needs s q)) ∙ (λ i. cond (sym e i) a (Needs s q))) h;
      shown = λ r. shows_ready (at_point k rs names (record { name = n; phase = p } ∷ fs) as') h s on_path f;
    }
    asks_by true false e f =
        let c = over_only k visited names fewer clean s on_path f e in
        let needs : Holds hosts w k0 asked0 (at_point k rs names (new_frame k s ∷ record { name = n; phase = q } ∷ fs) as') =
        subst (λ mv. Holds hosts w k0 asked0 (after_move (at_point k rs names (record { name = n; phase = p } ∷ fs) as') n fs mv))
        (here names ∙ (λ i. cond (f i) a (Needs s q))) (step_holds hosts w k0 asked0 (at_point k rs names (record { name = n; phase = p } ∷ fs) as') h) in
        let z : IsPast hosts w k0 asked0 kept0 k rs names s (record { name = n; phase = q } ∷ fs) as' =
        pass_over hosts w k0 asked0 kept0 k rs names s (record { name = n; phase = q } ∷ fs) as' c.0 needs in
        let r : ready z.next ≡ true = (λ i. is_ready (c.1.1 i) (c.1.2 i) (z.here i)) in
        record {
          moved = record {
            next = z.next;
            holds = subst (Holds hosts w k0 asked0)
                (after_same k rs z.next (record { name = n; phase = q }) (record { name = n; phase = p }) fs as' n (cond (ready passed) a (Needs s q)))
                (subst (λ y. Holds hosts w k0 asked0 (after_move (at_point k rs z.next (record { name = n; phase = q } ∷ fs) as') n fs y))
                (later z.next ∙ (λ i. cond (r i) a (Needs s q)) ∙ (λ i. cond (sym e i) a (Needs s q)))
                (step_holds hosts w k0 asked0 (at_point k rs z.next (record { name = n; phase = q } ∷ fs) as') z.holds));
            more = z.more;
            only = z.only;
            steps = z.steps;
          };
          shown = λ t. shows_ready (at_point k rs z.next (record { name = n; phase = q } ∷ fs) as') z.holds s on_path r;
        }
    asks_by false true e f = cc (sym (over_ready k visited names fewer clean s on_path f) ∙ e)
    asks_by false false e f = record {
      moved = moved_same k rs names (record { name = n; phase = p }) fs as' (cond (ready passed) a (Needs s q))
          (here names ∙ (λ i. cond (f i) a (Needs s q)) ∙ (λ i. cond (sym e i) a (Needs s q))) h;
      shown = λ r. cc (sym e ∙ r);
    }

    asks : Asks
    asks = asks_by (ready passed) (ready names) refl refl

  -- ---- the move is made

  -- what a move needs to be: a computed that begins isn't clean, and its reader waits for it; one that ran had to
  abbrev Fits : Memos → ℕ → List Frame → Move → Type 0
  Fits k n fs (GoesOn q) = Unit {0}
  Fits k n fs (Needs s q) = (is_clean_mark (mark_of w k s) ≡ false) × (waited (sources_of k0 n) (standing w n) q ≡ Some s)
  Fits k n fs Stops = Unit {0}
  Fits k n fs (Ends e) = must_run k n (frame_names fs) ≡ true

  -- once a frame is finished, the next has what it waited for
  next_most : (visited : List ℕ) (n : ℕ) (fs : List Frame) → WaitFor n fs → under_most k0 fs ≡ stack_most w k0 (n ∷ visited) fs
  next_most visited n [] waits = refl
  next_most visited n (g ∷ gs) waits =
      let on : was_visited (n ∷ visited) (waited (sources_of k0 g.name) (standing w g.name) g.phase) ≡ true =
      ap (was_visited (n ∷ visited)) waits.0 ∙ in_head n visited in
      (λ i. phase_most (kept_count k0 g.name) (sym on i) g.phase + under_most k0 gs)

  next_waits : (n : ℕ) (fs : List Frame) → WaitFor n fs → Wait fs
  next_waits n [] waits = tt
  next_waits n (g ∷ gs) waits = waits.1

  -- two tests that fail
  both_off : (a b : Bool) → (a || b) ≡ false → (a ≡ false) × (b ≡ false)
  both_off true b e = cc
  both_off false b e = (refl, e)

  module _ (x : Counted) (n : ℕ) (p : Phase) (fs : List Frame) (i : PassesOn x (record { name = n; phase = p } ∷ fs) x.underway.asked) where
    abbrev k : Memos
    k = x.underway.memos

    abbrev frame : Frame
    frame = record { name = n; phase = p }

    -- those that are visited then
    more_fewer : (next : List ℕ) → ((m : ℕ) → is_in m i.names ≡ true → is_in m next ≡ true) → (m : ℕ) → is_in m x.underway.visited ≡ true → is_in m next ≡ true
    more_fewer next more m on = more m (i.fewer m on)

    -- the rest is clean
    rest_clean : (next : List ℕ) → ((m : ℕ) → is_in m next ≡ true → (is_in m i.names ≡ true) ⊎ (mark_of w k m ≡ Clean)) → (m : ℕ) → is_in m next ≡ true →
        is_in m x.underway.visited ≡ false → mark_of w k m ≡ Clean
    rest_clean next only m on off = elim (only m on) [ inl was ↦ i.clean m was off | inr cl ↦ cl ]

    -- who isn't visited
    still_lasts : (next : List ℕ) → ((m : ℕ) → is_in m i.names ≡ true → is_in m next ≡ true) → (m : ℕ) → is_in m next ≡ false → sources_of k m ≡ sources_of k0 m
    still_lasts next more m off = i.lasts m (not_fewer (is_in m i.names) (is_in m next) (more m) off)

    -- its own steps
    own_steps : name_steps w k0 n ≡ 1 + 3 * kept_count k0 n
    own_steps = not_clean (mark_of w k0 n) (1 + 3 * kept_count k0 n) i.opened.0

    -- the settling once the move is made
    abbrev made : Move → ℕ → Counted
    made mv steps = record { underway = after_move x.underway n fs mv; looked = x.looked + steps + begin_steps mv }

    finish : (mv : Move) (steps : ℕ) → Moved k x.underway.runs i.names frame fs x.underway.asked mv →
        Pays (kept_count k0 n) (was_visited x.underway.visited (waited (sources_of k0 n) (standing w n) p)) p steps mv → Fits k n fs mv → Passes (made mv steps)
    finish (GoesOn q) steps m pay fit =
        let counted : x.looked + length x.underway.asked ≤ length asked0 + (all_steps w k0 i.names + run_steps x.underway.runs
        + (phase_most (kept_count k0 n) (was_visited x.underway.visited (waited (sources_of k0 n) (standing w n) p)) p + under_most k0 fs)) = i.counted in
        let paid = paid_most (kept_count k0 n) (was_visited x.underway.visited (waited (sources_of k0 n) (standing w n) q)) q in
        let more = m.steps in
        record {
          names = m.next;
          holds = m.holds;
          fewer = more_fewer m.next m.more;
          clean = rest_clean m.next m.only;
          still = i.still;
          lasts = still_lasts m.next m.more;
          opened = i.opened;
          waits = i.waits;
          counted = omega (arith, counted, pay, paid, more);
        }
    finish (Needs s q) steps m pay fit =
        let counted : x.looked + length x.underway.asked ≤ length asked0 + (all_steps w k0 i.names + run_steps x.underway.runs
        + (phase_most (kept_count k0 n) (was_visited x.underway.visited (waited (sources_of k0 n) (standing w n) p)) p + under_most k0 fs)) = i.counted in
        let new = new_most k s (kept_count k0 s) (was_visited x.underway.visited (waited (sources_of k0 s) (standing w s) (new_frame k s).phase)) in
        let more = m.steps in
        record {
          names = m.next;
          holds = m.holds;
          fewer = more_fewer m.next m.more;
          clean = rest_clean m.next m.only;
          still = i.still;
          lasts = still_lasts m.next m.more;
          opened = (
            not_fewer (is_clean_mark (mark_of w k0 s)) (is_clean_mark (mark_of w k s))
                (λ on. ap is_clean_mark (i.still s (clean_is (mark_of w k0 s) on))) fit.0,
            i.opened,
          );
          waits = (fit.1, i.waits);
          counted = omega (arith, counted, pay, new, more);
        }
    finish Stops steps m pay fit =
        let counted : x.looked + length x.underway.asked ≤ length asked0 + (all_steps w k0 i.names + run_steps x.underway.runs
        + (phase_most (kept_count k0 n) (was_visited x.underway.visited (waited (sources_of k0 n) (standing w n) p)) p + under_most k0 fs)) = i.counted in
        let rest = next_most x.underway.visited n fs i.waits in
        let more = m.steps in
        record {
          names = n ∷ m.next;
          holds = m.holds;
          fewer = λ y on. elim (either (y == n) (is_in y x.underway.visited) on) [
            | inl is ↦ or_left (y == n) (is_in y m.next) is
            | inr was ↦ or_right (y == n) (is_in y m.next) (more_fewer m.next m.more y was)
          ];
          clean = λ y on off.
              let z = both_off (y == n) (is_in y x.underway.visited) off in
              rest_clean m.next m.only y ((λ j. sym z.0 j || is_in y m.next) ∙ on) z.1;
          still = i.still;
          lasts = λ y off. still_lasts m.next m.more y (both_off (y == n) (is_in y m.next) off).1;
          opened = i.opened.1;
          waits = next_waits n fs i.waits;
          counted = omega (arith, counted, pay, rest, more, own_steps);
        }
    finish (Ends e) steps m pay fit =
        let counted : x.looked + length x.underway.asked ≤ length asked0 + (all_steps w k0 i.names + run_steps x.underway.runs
        + (phase_most (kept_count k0 n) (was_visited x.underway.visited (waited (sources_of k0 n) (standing w n) p)) p + under_most k0 fs)) = i.counted in
        let rest = next_most x.underway.visited n fs i.waits in
        let more = m.steps in
        let ran = run_more x.underway.runs (record { name = n; evaluation = e }) in
        let fr = i.holds.frames.0 in
        let stays : (y : ℕ) → mark_of w k y ≡ Clean → mark_of w (after_move x.underway n fs (Ends e)).memos y ≡ Clean =
        clean_run hosts w k i.holds.state.kept n fr.computed (frame_names fs) fr.stands fr.chain fit e.outcome (map (source_now k) e.reads)
        m.holds.state.kept.entries.memos in
        record {
          names = n ∷ m.next;
          holds = m.holds;
          fewer = λ y on. elim (either (y == n) (is_in y x.underway.visited) on) [
            | inl is ↦ or_left (y == n) (is_in y m.next) is
            | inr was ↦ or_right (y == n) (is_in y m.next) (more_fewer m.next m.more y was)
          ];
          clean = λ y on off.
              let z = both_off (y == n) (is_in y x.underway.visited) off in
              stays y (rest_clean m.next m.only y ((λ j. sym z.0 j || is_in y m.next) ∙ on) z.1);
          still = λ y cl. stays y (i.still y cl);
          lasts = λ y off.
              let z = both_off (y == n) (is_in y m.next) off in
              ap (λ o. sources_in (memo_in o)) (run_other k n e.outcome (map (source_now k) e.reads) y z.0) ∙ still_lasts m.next m.more y z.1;
          opened = i.opened.1;
          waits = next_waits n fs i.waits;
          counted = omega (arith, counted, pay, rest, more, ran, own_steps);
        }

  -- ---- the phases

  -- a name on the stack isn't visited, so it keeps what it kept
  frame_lasts : (x : Counted) (f : Frame) (fs : List Frame) (i : PassesOn x (f ∷ fs) x.underway.asked) → sources_of x.underway.memos f.name ≡ sources_of k0 f.name
  frame_lasts x f fs i = i.lasts f.name (ap (is_in f.name) i.holds.seen ∙ seen_is f.name [] i.holds.vs ∙ i.holds.frames.0.new)

  -- it looks
  module _ (x : Counted) (n place : ℕ) (p : Phase) (fs : List Frame) (i : PassesOn x (record { name = n; phase = p } ∷ fs) x.underway.asked)
      (moves : (ns : List ℕ) (st : Stands) (c : Computed) → st ≡ IsComputed c →
      frame_move hosts w x.underway.memos (frame_names fs) ns (record { name = n; phase = p }) st
      ≡ looked w x.underway.memos (n ∷ frame_names fs) ns (holds_cycle x.underway.memos n) place (drop place (sources_of x.underway.memos n)))
      (steps_are : (st : Stands) (c : Computed) (mv : Move) → st ≡ IsComputed c →
      frame_steps w x.underway.memos (frame_names fs) x.underway.visited (record { name = n; phase = p }) st mv
      ≡ source_steps w (n ∷ frame_names fs) x.underway.visited (drop place (sources_of x.underway.memos n)) mv)
      (pays : (l : List Source) → drop place (sources_of x.underway.memos n) ≡ l →
      Pays (kept_count k0 n) (was_visited x.underway.visited (waited (sources_of k0 n) (standing w n) p)) p
      (source_steps w (n ∷ frame_names fs) x.underway.visited l
      (looked w x.underway.memos (n ∷ frame_names fs) (passed_over w x.underway.memos x.underway.visited) (holds_cycle x.underway.memos n) place l))
      (looked w x.underway.memos (n ∷ frame_names fs) (passed_over w x.underway.memos x.underway.visited) (holds_cycle x.underway.memos n) place l)) where
    abbrev km : Memos
    km = x.underway.memos

    abbrev path : List ℕ
    path = n ∷ frame_names fs

    abbrev look_frame : Frame
    look_frame = record { name = n; phase = p }

    abbrev move_at : List ℕ → List Source → Move
    move_at ns l = looked w km path ns (holds_cycle km n) place l

    abbrev past : List ℕ
    past = passed_over w km x.underway.visited

    stands : (c : Computed) × (standing w n ≡ IsComputed c)
    stands = (i.holds.frames.0.computed, i.holds.frames.0.stands)

    look_case : (l : List Source) → drop place (sources_of km n) ≡ l →
        Passes (made x n p fs i (move_at past l) (source_steps w path x.underway.visited l (move_at past l)))
    look_case [] e =
        finish x n p fs i Stops 0
        (moved_same km x.underway.runs i.names look_frame fs x.underway.asked Stops
        (moves i.names (standing w n) stands.0 stands.1 ∙ ap (move_at i.names) e) i.holds) (pays [] e) tt
    look_case (s ∷ ss) e =
        finish x n p fs i (move_at past (s ∷ ss)) (source_steps w path x.underway.visited (s ∷ ss) (move_at past (s ∷ ss)))
        (asks km x.underway.runs x.underway.visited i.names n p (LookedAt place) fs x.underway.asked i.holds i.fewer i.clean s.name
        (decided (holds_cycle km n) (is_moved km path s) place)
        (λ ns. moves ns (standing w n) stands.0 stands.1 ∙ ap (move_at ns) e)
        (λ ns. (λ j. frame_move hosts w km (frame_names fs) ns (record { name = n; phase = LookedAt place }) (stands.1 j)) ∙ ap (move_at ns) e)).moved
        (pays (s ∷ ss) e)
        (fit (is_ready (standing w s.name) (is_in s.name path) (is_in s.name past)) refl (not (holds_cycle km n) && is_moved km path s))
      where
        fit : (r : Bool) → is_ready (standing w s.name) (is_in s.name path) (is_in s.name past) ≡ r → (b : Bool) →
            Fits km n fs (cond r (cond b (GoesOn (Running [] [])) (GoesOn (Looking (place + 1)))) (Needs s.name (LookedAt place)))
        fit true q true = tt
        fit true q false = tt
        fit false q b = (
          over_busy km x.underway.visited i.names i.fewer i.clean s.name (is_in s.name path) q,
          ap (λ y. first_name (drop place y)) (sym (frame_lasts x look_frame fs i)) ∙ ap first_name e,
        )

    look_step : Passes (passing_moved w x look_frame fs (frame_move hosts w km (frame_names fs) past look_frame (standing w n)))
    look_step =
        subst (λ y. Passes (made x n p fs i y (frame_steps w km (frame_names fs) x.underway.visited look_frame (standing w n) y)))
        (sym (moves past (standing w n) stands.0 stands.1))
        (subst (λ z. Passes (made x n p fs i (move_at past (drop place (sources_of km n))) z))
        (sym (steps_are (standing w n) stands.0 (move_at past (drop place (sources_of km n))) stands.1))
        (look_case (drop place (sources_of km n)) refl))

  -- from a place on
  looking_step : (x : Counted) (n place : ℕ) (fs : List Frame) (i : PassesOn x (record { name = n; phase = Looking place } ∷ fs) x.underway.asked) →
      Passes (passing_stack hosts w x (record { name = n; phase = Looking place } ∷ fs))
  looking_step x n place fs i =
      let k : Memos = x.underway.memos in
      let path : List ℕ = n ∷ frame_names fs in
      let past : List ℕ = passed_over w k x.underway.visited in
      look_step x n place (Looking place) fs i
      (λ ns st c e. (λ j. frame_move hosts w k (frame_names fs) ns (record { name = n; phase = Looking place }) (e j)))
      (λ st c mv e. (λ j. frame_steps w k (frame_names fs) x.underway.visited (record { name = n; phase = Looking place }) (e j) mv))
      (λ l e. subst (λ y. Pays (length y) false (Looking place) (source_steps w path x.underway.visited l (looked w k path past (holds_cycle k n) place l))
      (looked w k path past (holds_cycle k n) place l)) (frame_lasts x (record { name = n; phase = Looking place }) fs i)
      (look_pays w k path past x.underway.visited (holds_cycle k n) (kept_count k n) place l (ap length (sym e) ∙ length-drop place (sources_of k n))))

  -- after a source was waited for
  looked_step : (x : Counted) (n place : ℕ) (fs : List Frame) (i : PassesOn x (record { name = n; phase = LookedAt place } ∷ fs) x.underway.asked) →
      Passes (passing_stack hosts w x (record { name = n; phase = LookedAt place } ∷ fs))
  looked_step x n place fs i =
      let k : Memos = x.underway.memos in
      let path : List ℕ = n ∷ frame_names fs in
      let past : List ℕ = passed_over w k x.underway.visited in
      look_step x n place (LookedAt place) fs i
      (λ ns st c e. (λ j. frame_move hosts w k (frame_names fs) ns (record { name = n; phase = LookedAt place }) (e j)))
      (λ st c mv e. (λ j. frame_steps w k (frame_names fs) x.underway.visited (record { name = n; phase = LookedAt place }) (e j) mv))
      (λ l e. subst (λ y. Pays (length y) (was_visited x.underway.visited (first_name (drop place y))) (LookedAt place)
      (source_steps w path x.underway.visited l (looked w k path past (holds_cycle k n) place l)) (looked w k path past (holds_cycle k n) place l))
      (frame_lasts x (record { name = n; phase = LookedAt place }) fs i)
      (subst (λ y. Pays (kept_count k n) (was_visited x.underway.visited (first_name y)) (LookedAt place)
      (source_steps w path x.underway.visited l (looked w k path past (holds_cycle k n) place l)) (looked w k path past (holds_cycle k n) place l)) (sym e)
      (looked_pays w k path past x.underway.visited (holds_cycle k n) (kept_count k n) place l (ap length (sym e) ∙ length-drop place (sources_of k n)))))

  -- it runs
  running_step : (x : Counted) (n : ℕ) (known : List Known) (reads : List Seen) (fs : List Frame)
      (i : PassesOn x (record { name = n; phase = Running known reads } ∷ fs) x.underway.asked) →
      Passes (passing_stack hosts w x (record { name = n; phase = Running known reads } ∷ fs))
  running_step x n known reads fs i =
      let c : Computed = i.holds.frames.0.computed in
      subst (λ st. Passes (made x n (Running known reads) fs i (frame_move hosts w k (frame_names fs) past f st)
      (frame_steps w k (frame_names fs) x.underway.visited f st (frame_move hosts w k (frame_names fs) past f st)))) (sym i.holds.frames.0.stands)
      (finish x n (Running known reads) fs i (answered (recipe_answer hosts c.recipe known) known reads) 1
      (moved_same k x.underway.runs i.names f fs x.underway.asked (answered (recipe_answer hosts c.recipe known) known reads)
      (λ j. frame_move hosts w k (frame_names fs) i.names f (i.holds.frames.0.stands j)) i.holds)
      (answer_pays (kept_count k0 n) false (recipe_answer hosts c.recipe known) known reads)
      (fit (recipe_answer hosts c.recipe known)))
    where
      k : Memos
      k = x.underway.memos

      f : Frame
      f = record { name = n; phase = Running known reads }

      past : List ℕ
      past = passed_over w k x.underway.visited

      fit : (st : Step) → Fits k n fs (answered st known reads)
      fit (Done v) = i.holds.frames.0.phase.due
      fit (Fail e) = i.holds.frames.0.phase.due
      fit (Read s) = tt

  -- it waits for a slot
  waiting_step : (x : Counted) (n slot : ℕ) (known : List Known) (reads : List Seen) (fs : List Frame)
      (i : PassesOn x (record { name = n; phase = Waiting slot known reads } ∷ fs) x.underway.asked) →
      Passes (passing_stack hosts w x (record { name = n; phase = Waiting slot known reads } ∷ fs))
  waiting_step x n slot known reads fs i =
      subst (λ st. Passes (made x n (Waiting slot known reads) fs i (frame_move hosts w k (frame_names fs) past f st)
      (frame_steps w k (frame_names fs) x.underway.visited f st (frame_move hosts w k (frame_names fs) past f st)))) (sym i.holds.frames.0.stands)
      (finish x n (Waiting slot known reads) fs i (cond (ready past) (slot_read slot m shown known reads) (Needs m (Waiting slot known reads))) steps
      ask.moved
      (subst (λ st. Pays (kept_count k0 n) (was_visited x.underway.visited (slot_name st slot)) (Waiting slot known reads) steps
      (cond (ready past) (slot_read slot m shown known reads) (Needs m (Waiting slot known reads)))) (sym i.holds.frames.0.stands) (pay (ready past) refl))
      (fit (ready past) refl shown))
    where
      k : Memos
      k = x.underway.memos

      f : Frame
      f = record { name = n; phase = Waiting slot known reads }

      path : List ℕ
      path = n ∷ frame_names fs

      past : List ℕ
      past = passed_over w k x.underway.visited

      m : ℕ
      m = slice_index i.holds.frames.0.computed.recipe.slots slot

      ready : List ℕ → Bool
      ready ns = is_ready (standing w m) (is_in m path) (is_in m ns)

      shown : Option Outcome
      shown = ready_outcome (standing w m) (is_in m path) (standing_outcome w k m)

      steps : ℕ
      steps = look_steps (standing w m) (is_in m path) (is_in m x.underway.visited)

      ask : Asks k x.underway.runs x.underway.visited i.names n (Waiting slot known reads) (Waiting slot known reads) fs x.underway.asked i.holds i.fewer i.clean m
          (slot_read slot m shown known reads) (λ ns. (λ j. frame_move hosts w k (frame_names fs) ns f (i.holds.frames.0.stands j)))
          (λ ns. (λ j. frame_move hosts w k (frame_names fs) ns f (i.holds.frames.0.stands j)))
      ask = asks k x.underway.runs x.underway.visited i.names n (Waiting slot known reads) (Waiting slot known reads) fs x.underway.asked i.holds i.fewer i.clean m
          (slot_read slot m shown known reads) (λ ns. (λ j. frame_move hosts w k (frame_names fs) ns f (i.holds.frames.0.stands j)))
          (λ ns. (λ j. frame_move hosts w k (frame_names fs) ns f (i.holds.frames.0.stands j)))

      once : steps + cond (is_in m x.underway.visited) 1 0 ≤ 1
      once = look_once (standing w m) (is_in m path) (is_in m x.underway.visited)

      pay : (r : Bool) → ready past ≡ r → Pays (kept_count k0 n) (is_in m x.underway.visited) (Waiting slot known reads) steps
          (cond (ready past) (slot_read slot m shown known reads) (Needs m (Waiting slot known reads)))
      pay true e =
          let o = ask.shown e in
          subst (λ z. Pays (kept_count k0 n) (is_in m x.underway.visited) (Waiting slot known reads) steps
          (cond (ready past) (slot_read slot m z known reads) (Needs m (Waiting slot known reads)))) (sym o.1)
          (wait_pays (kept_count k0 n) (is_in m x.underway.visited) steps slot m known reads (ready past) o.0 once)
      pay false e =
          subst (λ b. Pays (kept_count k0 n) (is_in m x.underway.visited) (Waiting slot known reads) steps
          (cond b (slot_read slot m shown known reads) (Needs m (Waiting slot known reads)))) (sym e)
          (wait_pays (kept_count k0 n) (is_in m x.underway.visited) steps slot m known reads false (Bad Cycle) once)

      fit : (r : Bool) → ready past ≡ r → (o : Option Outcome) → Fits k n fs (cond r (slot_read slot m o known reads) (Needs m (Waiting slot known reads)))
      fit true e None = tt
      fit true e (Some (Good v)) = tt
      fit true e (Some (Bad z)) = i.holds.frames.0.phase.0.due
      fit false e o = (
        over_busy k x.underway.visited i.names i.fewer i.clean m (is_in m path) e,
        ap (λ st. slot_name st slot) i.holds.frames.0.stands,
      )

  -- what may be passed over shows something
  pub shown_passed : (x : Counted) (st : List Frame) (as' : List ℕ) → PassesOn x st as' → (n : ℕ) (b : Bool) →
      is_ready (standing w n) b (is_in n (passed_over w x.underway.memos x.underway.visited)) ≡ true →
      (o : Outcome) × (ready_outcome (standing w n) b (standing_outcome w x.underway.memos n) ≡ Some o)
  shown_passed x st as' i n b r = go (is_ready (standing w n) b (is_in n i.names)) refl
    where
      go : (z : Bool) → is_ready (standing w n) b (is_in n i.names) ≡ z → (o : Outcome) × (ready_outcome (standing w n) b (standing_outcome w x.underway.memos n) ≡ Some o)
      go true e = shows_ready (at_point x.underway.memos x.underway.runs i.names st as') i.holds n b e
      go false e =
          let c = over_only x.underway.memos x.underway.visited i.names i.fewer i.clean n b e r in
          let up : IsUpToDate hosts w x.underway.memos n c.1.0 = (clean_law hosts w x.underway.memos n c.1.0 i.holds.state.kept.sound c.1.1 c.0).1 in
          (up.memo.outcome, (λ j. ready_outcome (c.1.1 j) (c.1.2 j) (outcome_here (c.1.1 j) (up.at j))))

  -- ---- a step

  -- a step with no frame
  next_step : (x : Counted) → Passes x → x.underway.stack ≡ [] → (ns : List ℕ) → PassesOn x [] ns → Passes (passing_next w x ns)
  next_step x whole none [] i = whole
  next_step x whole none (n ∷ ns) i = go (ready (passed_over w k x.underway.visited)) (ready i.names) refl refl
    where
      k : Memos
      k = x.underway.memos

      ready : List ℕ → Bool
      ready ms = is_ready (standing w n) false (is_in n ms)

      steps : ℕ
      steps = look_steps (standing w n) false (is_in n x.underway.visited)

      few : steps ≤ 1
      few = let a = look_once (standing w n) false (is_in n x.underway.visited) in omega (arith, a)

      -- nothing is being evaluated
      goes : Counted
      goes = record { underway = record x.underway { asked = ns }; looked = x.looked + steps }

      -- the name begins
      begins : Counted
      begins = record { underway = record x.underway { asked = ns; stack = new_frame k n ∷ [] }; looked = x.looked + steps + 1 }

      stepped_names : Holds hosts w k0 asked0 (cond (ready i.names) (at_point k x.underway.runs i.names [] ns) (at_point k x.underway.runs i.names (new_frame k n ∷ []) ns))
      stepped_names = step_holds hosts w k0 asked0 (at_point k x.underway.runs i.names [] (n ∷ ns)) i.holds

      on_goes : PassesOn goes [] ns → Passes goes
      on_goes y = subst (λ st. PassesOn goes st ns) (sym none) y

      go : (a b : Bool) → ready (passed_over w k x.underway.visited) ≡ a → ready i.names ≡ b → Passes (cond (ready (passed_over w k x.underway.visited)) goes begins)
      go true true e f = subst (λ z. Passes (cond z goes begins)) (sym e) (on_goes (record {
        names = i.names;
        holds = subst (λ z. Holds hosts w k0 asked0 (cond z (at_point k x.underway.runs i.names [] ns) (at_point k x.underway.runs i.names (new_frame k n ∷ []) ns))) f stepped_names;
        fewer = i.fewer;
        clean = i.clean;
        still = i.still;
        lasts = i.lasts;
        opened = tt;
        waits = tt;
        counted = let c = i.counted in omega (arith, c, few);
      }))
      go true false e f =
          let c = over_only k x.underway.visited i.names i.fewer i.clean n false f e in
          let z : IsPast hosts w k0 asked0 kept0 k x.underway.runs i.names n [] ns =
          pass_over hosts w k0 asked0 kept0 k x.underway.runs i.names n [] ns c.0
          (subst (λ y. Holds hosts w k0 asked0 (cond y (at_point k x.underway.runs i.names [] ns) (at_point k x.underway.runs i.names (new_frame k n ∷ []) ns))) f stepped_names) in
          subst (λ y. Passes (cond y goes begins)) (sym e) (on_goes (record {
            names = z.next;
            holds = z.holds;
            fewer = λ m on. z.more m (i.fewer m on);
            clean = λ m on off. elim (z.only m on) [ inl was ↦ i.clean m was off | inr cl ↦ cl ];
            still = i.still;
            lasts = λ m off. i.lasts m (not_fewer (is_in m i.names) (is_in m z.next) (z.more m) off);
            opened = tt;
            waits = tt;
            counted = let c = i.counted in let more = z.steps in omega (arith, c, few, more);
          }))
      go false true e f = cc (sym (over_ready k x.underway.visited i.names i.fewer i.clean n false f) ∙ e)
      go false false e f =
          let busy = over_busy k x.underway.visited i.names i.fewer i.clean n false e in
          subst (λ y. Passes (cond y goes begins)) (sym e) (record {
            names = i.names;
            holds = subst (λ y. Holds hosts w k0 asked0 (cond y (at_point k x.underway.runs i.names [] ns) (at_point k x.underway.runs i.names (new_frame k n ∷ []) ns))) f stepped_names;
            fewer = i.fewer;
            clean = i.clean;
            still = i.still;
            lasts = i.lasts;
            opened = (not_fewer (is_clean_mark (mark_of w k0 n)) (is_clean_mark (mark_of w k n)) (λ on. ap is_clean_mark (i.still n (clean_is (mark_of w k0 n) on))) busy, tt);
            waits = tt;
            counted =
                let c = i.counted in
                let new = new_most k n (kept_count k0 n) (was_visited x.underway.visited (waited (sources_of k0 n) (standing w n) (new_frame k n).phase)) in
                omega (arith, c, few, new);
          })

  -- each step
  pub step_passes : (x : Counted) → Passes x → Passes (passing_step hosts w x)
  step_passes x whole = go x.underway.stack refl whole
    where
      by : (n : ℕ) (p : Phase) (fs : List Frame) → PassesOn x (record { name = n; phase = p } ∷ fs) x.underway.asked →
          Passes (passing_stack hosts w x (record { name = n; phase = p } ∷ fs))
      by n (Looking place) fs i = looking_step x n place fs i
      by n (LookedAt place) fs i = looked_step x n place fs i
      by n (Running known reads) fs i = running_step x n known reads fs i
      by n (Waiting slot known reads) fs i = waiting_step x n slot known reads fs i

      go : (st : List Frame) → x.underway.stack ≡ st → PassesOn x st x.underway.asked → Passes (passing_stack hosts w x st)
      go [] e i = next_step x whole e x.underway.asked i
      go (f ∷ fs) e i = by f.name f.phase fs i

  -- any number of steps
  steps_pass : (turns : ℕ) (x : Counted) → Passes x → Passes (passing_times turns hosts w x)
  steps_pass zero x i = i
  steps_pass (suc turns) x i = steps_pass turns (passing_step hosts w x) (step_passes x i)

  -- at the beginning
  pub begun_passes : Passes (passing_begun k0 asked0)
  begun_passes = record {
    names = [];
    holds = begun_holds hosts w k0 asked0 kept0;
    fewer = λ m on. on;
    clean = λ m on off. cc on;
    still = λ m cl. cl;
    lasts = λ m off. refl;
    opened = tt;
    waits = tt;
    counted = omega arith;
  }

  -- at the end
  pub over_passes : (x : Counted) → Passes x → IsOver x.underway → IsPassed hosts w k0 asked0 x
  over_passes x i over =
      let m : Underway = at_point x.underway.memos x.underway.runs i.names x.underway.stack x.underway.asked in
      let s : IsSettled hosts w k0 asked0 m = over_settled hosts w k0 asked0 m kept0 i.holds (record { stack = over.stack; asked = over.asked }) in
      let order : i.holds.vs ≡ evaluation_order hosts w asked0 =
      (λ j. order_after hosts w (sym over.asked j) (completed hosts w (sym over.stack j) i.holds.vs)) ∙ i.holds.order in
      let seen : all_steps w k0 i.names ≡ 0 + visit_steps w k0 i.holds.vs = ap (all_steps w k0) i.holds.seen ∙ seen_steps w k0 [] i.holds.vs in
      let visits : visit_steps w k0 i.holds.vs ≡ visit_steps w k0 (evaluation_order hosts w asked0) = ap (visit_steps w k0) order in
      let ran : run_steps (settled hosts w k0 asked0).runs ≡ run_steps x.underway.runs = ap (λ (y : Settled). run_steps y.runs) s.whole in
      let stack : stack_most w k0 x.underway.visited x.underway.stack ≡ 0 = ap (stack_most w k0 x.underway.visited) over.stack in
      let count = i.counted in
      record {
        settled = record { whole = s.whole; kept = s.kept; value = s.value };
        counted = omega (arith, count, seen, visits, ran, stack);
      }

-- what steps come to where what is clean is passed over
pub passing_law : PassingLaw
passing_law hosts w k asked turns are_kept over =
    over_passes hosts w k asked are_kept (passing_times turns hosts w (passing_begun k asked))
    (steps_pass hosts w k asked are_kept turns (passing_begun k asked) (begun_passes hosts w k asked are_kept)) over
