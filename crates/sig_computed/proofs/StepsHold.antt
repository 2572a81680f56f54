-- After each step, what was visited so far is settled, and what the frames leave to be visited makes up the order of evaluation.
use Rattle.std.proofs.Common.{◌≡◌, ℕ, zero, suc, ◌+◌, ◌==◌, ◌||◌, not, Bool, true, false, cond, List, [], ◌∷◌, ◌++◌, Some, map, drop, length}
use Rattle.std.proofs.Common.{append_assoc, append-nil, length-append, refl, sym, ap, ◌∙◌, subst, ◌⊎◌, inl, inr}
use Rattle.std.specs.Prelude.{slice_index}
use Rattle.std.proofs.Math.Seq.{drop-append_seam}
use Rattle.std.proofs.lemmas.Bool.{eqb-true}
use Rattle.sig_base.specs.declared.value.Fault.TheVariants.{Cycle}
use Rattle.sig_base.specs.declared.value.Known.{Known}
use Rattle.sig_base.specs.declared.value.Step.{Step}
use Rattle.sig_base.specs.declared.value.Step.TheVariants.{Read, Done, Fail}
use Rattle.sig_base.specs.declared.value.Outcome.{Outcome}
use Rattle.sig_base.specs.declared.value.Outcome.TheVariants.{Good, Bad}
use Rattle.signal_model.specs.Recipes.{Hosts, recipe_answer}
use Rattle.signal_model.specs.Signals.{Signals, Computed, Stands, IsGone, IsCell, IsComputed, is_in, standing}
use Rattle.signal_model.specs.Values.{Seen, Evaluation, learnt, after_read, asked_from, value_of, evaluated, reads_of}
use Rattle.signal_model.specs.Orders.{Visit, visited, visits, visit, order_after, evaluation_order}
use Rattle.signal_model.specs.Memos.{Source, Memo, Entry, Memos, entry_at, memo_is_cycle, holds_cycle, sources_in, sources_of, source_names, is_cycle}
use Rattle.signal_model.specs.Memos.{differs, is_moved}
use Rattle.signal_model.specs.Memos.{some_moved, must_run_by, must_run}
use Rattle.signal_model.specs.Settling.{Settled, source_now, with_run, settle_visit, settle_visits, settled}
use Rattle.signal_model.specs.Sound.{standing_outcome, names_of, Follows, Keeps}
use Rattle.signal_model.specs.Values.{prefixed}
use Rattle.signal_model.specs.Laws.{IsRead, Reads, Leads, one, IsChain}
use Rattle.signal_model.proofs.Shared.{name_is, cycle_law, goes_on, chain_goes, tested, good_read, bad_read}
use Rattle.signal_laws.proofs.Shared.{either, or_fst, or_snd, or_none, not_false, CalmOn, calm_on, entry_there, some_is, settle_append, is_read-in, right_source, read_value, IsRun, follows_run, StandAs, in_head, in_tail, seen_is, seen_snoc, State, visit_state, first_state, asked_law, moved_less, moved_off, step_is}
use Rattle.signal_laws.specs.OrderLaws.{IsPlaced, seen_after}
use Rattle.signal_model.specs.Kept.{AreKept}
use Rattle.signal_model.specs.Signals.{is_there}
use Rattle.sig_computed.specs.StepLaws.{stepped_times, IsOver, IsSettled, StepsSettleLaw}
use Rattle.sig_computed.specs.Steps.{Phase, Looking, LookedAt, Running, Waiting, Frame, Underway, frame_names, begun, new_frame, is_ready}
use Rattle.sig_computed.specs.Steps.{ready_outcome, GoesOn, Needs, Stops, Ends, decided, looked, slot_read, waited, answered, move_of, frame_move}
use Rattle.sig_computed.specs.Steps.{after_move, asked_next, stack_step, stepped}
use Rattle.sig_computed.proofs.VisitsLeft.{ArePassed, visit_passed, visits_passed, finished, visit_new, next_first, completed}
use Rattle.sig_computed.proofs.NextReads.{moved_tail, moved_append, NextKept, first_of, next_kept}
use Rattle.sig_computed.proofs.FramesLast.{LookHolds, RunHolds, PhaseHolds, FrameHolds, StackHolds, Lasts, lasts_same, lasts_run, stack_lasts}
use Rattle.sig_computed.proofs.FramesLast.{new_frame_holds}

-- where kept sources are the reads, the one at a place is the read at that place
split_names : (done : List Source) (s : Source) (left : List Source) (reads : List Seen) → source_names (done ++ s ∷ left) ≡ names_of reads →
    NextKept reads (source_names done) s.name
split_names [] s left [] e = cc
split_names [] s left (r ∷ rs) e = record { before = []; seen = r; rest = rs; whole = refl; names = refl; name = cc }
split_names (d ∷ ds) s left [] e = cc
split_names (d ∷ ds) s left (r ∷ rs) e =
    let head : r.name ≡ d.name = cc in
    let tail : source_names (ds ++ s ∷ left) ≡ names_of rs = cc in
    let q : NextKept rs (source_names ds) s.name = split_names ds s left rs tail in
    record {
      before = r ∷ q.before;
      seen = q.seen;
      rest = q.rest;
      whole = ap (λ ss. r ∷ ss) q.whole;
      names = (λ i. head i ∷ q.names i);
      name =
          q.name;
    }

-- it is read
next_read : (reads : List Seen) (done : List ℕ) (m : ℕ) → NextKept reads done m → IsRead m reads
next_read reads done m x = subst (λ j. IsRead j reads) x.name (subst (λ ss. IsRead x.seen.name ss) x.whole (go x.before))
  where
    go : (ss : List Seen) → IsRead x.seen.name (ss ++ x.seen ∷ x.rest)
    go [] = inl refl
    go (s ∷ ss) = inr (go ss)

-- what isn't ready is a computed, not being evaluated and not visited
pub unready : (s : Stands) (a b : Bool) → is_ready s a b ≡ false → (d : Computed) × (s ≡ IsComputed d) × (a ≡ false) × (b ≡ false)
unready IsGone a b h = cc
unready (IsCell c) a b h = cc
unready (IsComputed d) true b h = cc
unready (IsComputed d) false b h = (d, refl, refl, h)

-- what is among the names of one read more
names_snoc : (ss : List Seen) (s : Seen) (x : ℕ) → is_in x (names_of (ss ++ s ∷ [])) ≡ true → (is_in x (names_of ss) ≡ true) ⊎ (x ≡ s.name)
names_snoc [] s x h = elim (either (x == s.name) false h) [ inl e ↦ inr (eqb-true x s.name e) | inr z ↦ cc ]
names_snoc (r ∷ rs) s x h = go (x == r.name) h (names_snoc rs s x)
  where
    go : (b : Bool) → (b || is_in x (names_of (rs ++ s ∷ []))) ≡ true →
        (is_in x (names_of (rs ++ s ∷ [])) ≡ true → (is_in x (names_of rs) ≡ true) ⊎ (x ≡ s.name)) →
        ((b || is_in x (names_of rs)) ≡ true) ⊎ (x ≡ s.name)
    go true q f = inl refl
    go false q f = f q

-- and of one source more
sources_snoc : (ss : List Source) (s : Source) (x : ℕ) → is_in x (source_names (ss ++ s ∷ [])) ≡ true →
    (is_in x (source_names ss) ≡ true) ⊎ (x ≡ s.name)
sources_snoc [] s x h = elim (either (x == s.name) false h) [ inl e ↦ inr (eqb-true x s.name e) | inr z ↦ cc ]
sources_snoc (r ∷ rs) s x h = go (x == r.name) h (sources_snoc rs s x)
  where
    go : (b : Bool) → (b || is_in x (source_names (rs ++ s ∷ []))) ≡ true →
        (is_in x (source_names (rs ++ s ∷ [])) ≡ true → (is_in x (source_names rs) ≡ true) ⊎ (x ≡ s.name)) →
        ((b || is_in x (source_names rs)) ≡ true) ⊎ (x ≡ s.name)
    go true q f = inl refl
    go false q f = f q

module _ (hosts : Hosts) (w : Signals) (start : Memos) (names : List ℕ) where
  -- The visits so far are settled, and what they have seen is done; each frame holds; and with what the frames and the names that are asked
  -- for leave to be visited they are the order of evaluation.
  pub record Holds (m : Underway) : Type 0 where
    pub vs : List Visit
    pub seen : m.visited ≡ seen_after [] vs
    pub state : State hosts w m.memos (seen_after [] vs)
    pub settled : settle_visits hosts w vs (record { memos = start; runs = [] }) ≡ record { memos = m.memos; runs = m.runs }
    pub frames : StackHolds hosts w m.memos vs m.stack
    pub order : order_after hosts w m.asked (completed hosts w m.stack vs) ≡ evaluation_order hosts w names

  -- the same, with the innermost frame apart
  record HoldsOnTop (m : Underway) (f : Frame) (fs : List Frame) : Type 0 where
    vs : List Visit
    seen : m.visited ≡ seen_after [] vs
    state : State hosts w m.memos (seen_after [] vs)
    settled : settle_visits hosts w vs (record { memos = start; runs = [] }) ≡ record { memos = m.memos; runs = m.runs }
    frame : FrameHolds hosts w m.memos vs (frame_names fs) f
    rest : StackHolds hosts w m.memos vs fs
    order : order_after hosts w m.asked (completed hosts w (f ∷ fs) vs) ≡ evaluation_order hosts w names

  module _ (m : Underway) (f : Frame) (fs : List Frame) (h : HoldsOnTop m f fs) where
    -- its computed
    abbrev c : Computed
    c = h.frame.computed

    -- what is being evaluated
    abbrev evaluating : List ℕ
    evaluating = f.name ∷ frame_names fs

    -- the computed has that name
    name : f.name ≡ c.name
    name = name_is hosts w f.name c h.frame.stands

    -- what was visited was seen
    in_seen : (x : ℕ) → is_in x m.visited ≡ is_in x (visited h.vs)
    in_seen x = ap (is_in x) h.seen ∙ seen_is x [] h.vs

    -- a computed that is ready is passed
    ready_passed : (s : ℕ) (d : Computed) → is_ready (standing w s) (is_in s evaluating) (is_in s m.visited) ≡ true → standing w s ≡ IsComputed d →
        (is_in s evaluating || is_in s (visited h.vs)) ≡ true
    ready_passed s d r e = ap (λ b. is_in s evaluating || b) (sym (in_seen s))
        ∙ (λ i. is_ready (sym e i) (is_in s evaluating) (is_in s m.visited)) ∙ r

    -- it goes on in a phase
    again : (p : Phase) → PhaseHolds hosts w m.memos h.vs (frame_names fs) f.name c p → Holds (after_move m f.name fs (GoesOn p))
    again p ok = record {
      vs = h.vs;
      seen = h.seen;
      state = h.state;
      settled = h.settled;
      frames = (record { computed = c; stands = h.frame.stands; off = h.frame.off; new = h.frame.new; chain = h.frame.chain; phase = ok }, h.rest);
      order = h.order;
    }

    -- a read of its own comes first
    first : (s : ℕ) (p : Phase) (done : List ℕ) → PhaseHolds hosts w m.memos h.vs (frame_names fs) f.name c p →
        NextKept (reads_of hosts w c) done s → ArePassed hosts w evaluating h.vs done →
        is_ready (standing w s) (is_in s evaluating) (is_in s m.visited) ≡ false → Holds (after_move m f.name fs (Needs s p))
    first s p done ok next passed r = go (unready (standing w s) (is_in s evaluating) (is_in s m.visited) r)
      where
        go : (d : Computed) × (standing w s ≡ IsComputed d) × (is_in s evaluating ≡ false) × (is_in s m.visited ≡ false) →
            Holds (after_move m f.name fs (Needs s p))
        go u =
            let new : is_in s (visited h.vs) ≡ false = sym (in_seen s) ∙ u.3 in
            let read : Reads hosts w f.name s = record { computed = c; stands = h.frame.stands; read = next_read (reads_of hosts w c) done s next } in
            let passed' : ArePassed hosts w evaluating h.vs (names_of next.before) =
            subst (ArePassed hosts w evaluating h.vs) (sym next.names) passed in
            let fin : finished hosts w (standing w s) s evaluating h.vs ≡ visit hosts w evaluating next.seen.name h.vs =
            sym (visit_new hosts w evaluating s u.0 h.vs u.1 (or_none (is_in s evaluating) (is_in s (visited h.vs)) u.2 new))
            ∙ ap (λ j. visit hosts w evaluating j h.vs) (sym next.name) in
            let one_first : visits (visit hosts w evaluating) (reads_of hosts w c) (finished hosts w (standing w s) s evaluating h.vs) ≡ visits
            (visit hosts w evaluating) (reads_of hosts w c) h.vs =
            ap (λ us. visits (visit hosts w evaluating) (reads_of hosts w c) us) fin
            ∙ subst (λ rs. visits (visit hosts w evaluating) rs (visit hosts w evaluating next.seen.name h.vs) ≡ visits
            (visit hosts w evaluating) rs h.vs) next.whole (next_first hosts w evaluating next.before next.rest next.seen h.vs passed') in
            let same : finished hosts w (standing w f.name) f.name (frame_names fs) (finished hosts w (standing w s) s evaluating h.vs)
            ≡ finished hosts w (standing w f.name) f.name (frame_names fs) h.vs =
            (λ i. finished hosts w (h.frame.stands i) f.name (frame_names fs) (finished hosts w (standing w s) s evaluating h.vs))
            ∙ (λ i. one_first i ++ record { computed = c; path = frame_names fs } ∷ [])
            ∙ (λ i. finished hosts w (sym h.frame.stands i) f.name (frame_names fs) h.vs) in
            record {
              vs = h.vs;
              seen = h.seen;
              state = h.state;
              settled = h.settled;
              frames = (
                record {
                  computed = u.0;
                  stands = u.1;
                  off = u.2;
                  new = new;
                  chain = (read, h.frame.chain);
                  phase =
                      new_frame_holds hosts w m.memos h.vs evaluating s u.0;
                },
                (record { computed = c; stands = h.frame.stands; off = h.frame.off; new = h.frame.new; chain = h.frame.chain; phase = ok }, h.rest),
              );
              order = ap (λ us. order_after hosts w m.asked (completed hosts w fs us)) same ∙ h.order;
            }

    -- its visit
    abbrev place : Visit
    place = record { computed = c; path = frame_names fs }

    -- what is settled before it
    abbrev before : Settled
    before = record { memos = m.memos; runs = m.runs }

    -- once its reads are passed, it is at its place in the order
    placed : ArePassed hosts w evaluating h.vs (names_of (reads_of hosts w c)) → IsPlaced hosts w (seen_after [] h.vs) place
    placed passed = record {
      stands = ap (standing w) (sym name) ∙ h.frame.stands;
      chain = subst (λ y. IsChain hosts w y (frame_names fs)) name h.frame.chain;
      new = seen_is c.name [] h.vs ∙ ap (λ y. is_in y (visited h.vs)) (sym name) ∙ h.frame.new;
      before = λ x d read st. elim (either (is_in x evaluating) (is_in x (visited h.vs)) (passed x d (is_read-in x (reads_of hosts w c) read) st)) [
        | inl on ↦ inl (ap (λ y. is_in x (y ∷ frame_names fs)) (sym name) ∙ on)
        | inr was ↦ inr (seen_is x [] h.vs ∙ was)
      ];
    }

    -- the settling after its visit
    abbrev after_visit : Settled → Underway
    after_visit s = record m { memos = s.memos; runs = s.runs; stack = fs; visited = f.name ∷ m.visited }

    -- then it is finished
    finish : ArePassed hosts w evaluating h.vs (names_of (reads_of hosts w c)) →
        Lasts hosts w m.memos (settle_visit hosts w place before).memos f.name → Holds (after_visit (settle_visit hosts w place before))
    finish passed lasts =
        let none : visits (visit hosts w evaluating) (reads_of hosts w c) h.vs ≡ h.vs =
        subst (λ rs. visits (visit hosts w evaluating) rs h.vs ≡ h.vs) (append-nil (reads_of hosts w c))
        (visits_passed hosts w evaluating (reads_of hosts w c) [] h.vs passed) in
        let fin : finished hosts w (standing w f.name) f.name (frame_names fs) h.vs ≡ h.vs ++ place ∷ [] =
        (λ i. finished hosts w (h.frame.stands i) f.name (frame_names fs) h.vs) ∙ (λ i. none i ++ place ∷ []) in
        record {
          vs = h.vs ++ place ∷ [];
          seen = (λ i. name i ∷ h.seen i) ∙ sym (seen_snoc [] h.vs place);
          state = subst (State hosts w (settle_visit hosts w place before).memos) (sym (seen_snoc [] h.vs place))
              (visit_state hosts w (seen_after [] h.vs) place before (placed passed) h.state);
          settled = settle_append hosts w h.vs (place ∷ []) (record { memos = start; runs = [] }) ∙ ap (settle_visit hosts w place) h.settled;
          frames = stack_lasts hosts w m.memos
              (settle_visit hosts w place before).memos f.name c lasts h.frame.stands h.vs place h.state.kept.sound h.frame.new fs name
              h.frame.off h.rest;
          order = ap (λ us. order_after hosts w m.asked (completed hosts w fs us)) (sym fin) ∙ h.order;
        }

    -- without a run
    stops : ArePassed hosts w evaluating h.vs (names_of (reads_of hosts w c)) → must_run m.memos f.name (frame_names fs) ≡ false →
        Holds (after_move m f.name fs Stops)
    stops passed quiet =
        let same : settle_visit hosts w place before ≡ before =
        (λ i. cond ((ap (λ y. must_run m.memos y (frame_names fs)) (sym name) ∙ quiet) i) (record {
          memos = with_run m.memos c.name (evaluated hosts w c []);
          runs = m.runs ++ record { name = c.name; evaluation = evaluated hosts w c [] } ∷ [];
        }) before) in
        subst (λ (s : Settled). Holds (after_visit s)) same
        (finish passed (subst (λ (s : Settled). Lasts hosts w m.memos s.memos f.name) (sym same) (lasts_same hosts w m.memos f.name)))

    -- or with one
    ends : (e : Evaluation) → e ≡ evaluated hosts w c [] → ArePassed hosts w evaluating h.vs (names_of e.reads) →
        must_run m.memos f.name (frame_names fs) ≡ true → Holds (after_move m f.name fs (Ends e))
    ends e is passed due =
        let ran : Settled = record { memos = with_run m.memos f.name e; runs = m.runs ++ record { name = f.name; evaluation = e } ∷ [] } in
        let same : settle_visit hosts w place before ≡ ran = (λ i. cond ((ap (λ y. must_run m.memos y (frame_names fs)) (sym name) ∙ due) i) (record {
          memos = with_run m.memos c.name (evaluated hosts w c []);
          runs = m.runs ++ record { name = c.name; evaluation = evaluated hosts w c [] } ∷ [];
        }) before) ∙ (λ i. record {
          memos = with_run m.memos (sym name i) (sym is i);
          runs =
              m.runs ++ record { name = sym name i; evaluation = sym is i } ∷ [];
        }) in
        let there : (r : Entry) × (entry_at f.name m.memos.entries ≡ Some r) =
        entry_there w m.memos f.name h.state.kept.entries (ap is_there h.frame.stands) in
        subst (λ (s : Settled). Holds (after_visit s)) same
        (finish (subst (λ (x : Evaluation). ArePassed hosts w evaluating h.vs (names_of x.reads)) is passed)
        (subst (λ (s : Settled). Lasts hosts w m.memos s.memos f.name) (sym same)
        (lasts_run hosts w m.memos f.name c there.0 e.outcome (map (source_now m.memos) e.reads) h.frame.stands there.1)))

    -- ---- it looks

    -- one more source is ready, and hasn't moved
    look_more : (place : ℕ) (x : LookHolds hosts w m.memos h.vs evaluating f.name place) (s : Source) (ss : List Source) → x.left ≡ s ∷ ss →
        is_ready (standing w s.name) (is_in s.name evaluating) (is_in s.name m.visited) ≡ true →
        (is_cycle x.memo.outcome ≡ true) ⊎ ((is_cycle x.memo.outcome ≡ false) × (is_moved m.memos evaluating s ≡ false)) →
        LookHolds hosts w m.memos h.vs evaluating f.name (place + 1)
    look_more place x s ss e r stay = record {
      memo = x.memo;
      at = x.at;
      calm = x.calm;
      done = x.done ++ s ∷ [];
      left = ss;
      split = append_assoc x.done (s ∷ []) ss ∙ ap (λ l. x.done ++ l) (sym e) ∙ x.split;
      place_is = length-append x.done (s ∷ []) ∙ ap (λ i. i + 1) x.place_is;
      passed = λ y d on st. elim (sources_snoc x.done s y on) [
        | inl was ↦ x.passed y d was st
        | inr is ↦ subst (λ j. (is_in j evaluating || is_in j (visited h.vs)) ≡ true) (sym is)
            (ready_passed s.name d r (ap (standing w) (sym is) ∙ st))
      ];
      still = elim stay [
        | inl cy ↦ inl cy
        | inr fine ↦ elim x.still [
          | inl cy ↦ inl cy
          | inr old ↦ inr (
            fine.0,
            moved_append m.memos evaluating x.done (s ∷ [])
                ∙ or_none (some_moved m.memos evaluating x.done) (is_moved m.memos evaluating s || false) old.1
                (or_none (is_moved m.memos evaluating s) false fine.1 refl),
          )
        ]
      ];
    }

    module _ (place' : ℕ) (x : LookHolds hosts w m.memos h.vs evaluating f.name place') where
      -- a `cycle` of the present generation has the sources from scratch
      cycle_names : is_cycle x.memo.outcome ≡ true → source_names x.memo.sources ≡ names_of (reads_of hosts w c)
      cycle_names cy =
          let gen : (x.memo.generation == m.memos.generation) ≡ true =
          not_false (x.memo.generation == m.memos.generation)
          ((λ i. cond (sym cy i) (not (x.memo.generation == m.memos.generation)) x.memo.rewired) ∙ x.calm) in
          (h.state.kept.sound.cycles f.name c x.memo h.frame.stands x.at cy (eqb-true x.memo.generation m.memos.generation gen)).1

      -- any other memo is of the present recipe
      unwired : is_cycle x.memo.outcome ≡ false → x.memo.rewired ≡ false
      unwired fine = (λ i. cond (sym fine i) (not (x.memo.generation == m.memos.generation)) x.memo.rewired) ∙ x.calm

      -- what it has looked at shows what it is from scratch
      done_stand : some_moved m.memos evaluating x.done ≡ false →
          StandAs w m.memos (λ j. value_of hosts w j (c.name ∷ [])) (evaluated hosts w c []) x.done
      done_stand calm j read on =
          right_source hosts w m.memos j (λ d st. elim (either (is_in j evaluating) (is_in j (visited h.vs)) (x.passed j d on st)) [
            | inl bad ↦ cc (sym bad ∙ moved_off m.memos evaluating x.done j calm on)
            | inr was ↦ (h.state.done j d (seen_is j [] h.vs ∙ was) st).right
          ]) ∙ ap (λ y. Some y) (sym (read_value hosts w f.name c j h.frame.stands read))

      -- so the next kept source is the next read
      look_next : (s : Source) (ss : List Source) → x.left ≡ s ∷ ss → NextKept (reads_of hosts w c) (source_names x.done) s.name
      look_next s ss e = elim x.still [
        | inl cy ↦ split_names x.done s ss (reads_of hosts w c)
            (ap (λ l. source_names (x.done ++ l)) (sym e) ∙ ap source_names x.split ∙ cycle_names cy)
        | inr fine ↦
            let f0 : Follows hosts w m.memos c.recipe x.memo.outcome [] (x.done ++ s ∷ ss) =
            subst (λ l. Follows hosts w m.memos c.recipe x.memo.outcome [] l) (sym x.split ∙ ap (λ l. x.done ++ l) e)
            (h.state.kept.sound.follows f.name c x.memo h.frame.stands x.at fine.0 (unwired fine.0)) in
            next_kept hosts w m.memos c.recipe (λ j. value_of hosts w j (c.name ∷ [])) x.memo.outcome [] x.done s ss f0
            (moved_less m.memos evaluating x.done fine.1) (done_stand fine.1)
      ]

      -- with no source left, all its reads are passed, and it needn't run
      look_end : x.left ≡ [] → Holds (after_move m f.name fs Stops)
      look_end e =
          let all : x.done ≡ x.memo.sources = sym (append-nil x.done) ∙ ap (λ l. x.done ++ l) (sym e) ∙ x.split in
          elim x.still [
            | inl cy ↦ stops (subst (ArePassed hosts w evaluating h.vs) (ap source_names all ∙ cycle_names cy) x.passed)
                (ap (λ y. must_run_by m.memos y (frame_names fs)) x.at
                ∙ (λ i. cond (cy i) (not (x.memo.generation == m.memos.generation))
                (x.memo.rewired || some_moved m.memos (frame_names fs) x.memo.sources))
                ∙ (λ i. cond (sym cy i) (not (x.memo.generation == m.memos.generation)) x.memo.rewired) ∙ x.calm)
            | inr fine ↦
                let calm : some_moved m.memos evaluating x.memo.sources ≡ false = ap (some_moved m.memos evaluating) (sym all) ∙ fine.1 in
                let calm' : some_moved m.memos (frame_names fs) x.memo.sources ≡ false =
                moved_tail m.memos f.name (frame_names fs) x.memo.sources calm in
                let run : IsRun (evaluated hosts w c []) x.memo.sources x.memo.outcome =
                follows_run hosts w m.memos c.recipe (λ j. value_of hosts w j (c.name ∷ [])) x.memo.outcome [] x.memo.sources
                (h.state.kept.sound.follows f.name c x.memo h.frame.stands x.at fine.0 (unwired fine.0))
                (moved_less m.memos evaluating x.memo.sources calm)
                (subst (λ l. StandAs w m.memos (λ j. value_of hosts w j (c.name ∷ [])) (evaluated hosts w c []) l) all (done_stand fine.1)) in
                stops (subst (ArePassed hosts w evaluating h.vs) (ap source_names all ∙ sym run.names) x.passed)
                (ap (λ y. must_run_by m.memos y (frame_names fs)) x.at
                ∙ (λ i. cond (fine.0 i) (not (x.memo.generation == m.memos.generation)) (unwired fine.0 i || calm' i)))
          ]

      -- with a source that has moved it must run; else it would keep itself, which sound memos don't
      look_due : (s : Source) (ss : List Source) → x.left ≡ s ∷ ss → is_cycle x.memo.outcome ≡ false → is_moved m.memos evaluating s ≡ true →
          must_run m.memos f.name (frame_names fs) ≡ true
      look_due s ss e fine moved = elim (tested (must_run m.memos f.name (frame_names fs))) [
        | inl due ↦ due
        | inr calm ↦ go (calm_on m.memos f.name (frame_names fs) calm) calm
      ]
        where
          here : (path : List ℕ) → some_moved m.memos path x.memo.sources ≡ false → is_moved m.memos path s ≡ false
          here path q = or_fst (is_moved m.memos path s) (some_moved m.memos path ss)
              (or_snd (some_moved m.memos path x.done) (some_moved m.memos path (s ∷ ss))
              (sym (moved_append m.memos path x.done (s ∷ ss)) ∙ ap (λ l. some_moved m.memos path (x.done ++ l)) (sym e)
              ∙ ap (some_moved m.memos path) x.split ∙ q))

          is_kept : (done : List Source) → is_in s.name (source_names (done ++ s ∷ ss)) ≡ true
          is_kept [] = in_head s.name (source_names ss)
          is_kept (d ∷ ds) = in_tail s.name d.name (source_names (ds ++ s ∷ ss)) (is_kept ds)

          go : CalmOn m.memos f.name (frame_names fs) → must_run m.memos f.name (frame_names fs) ≡ false →
              must_run m.memos f.name (frame_names fs) ≡ true
          go q calm =
              let same : q.memo ≡ x.memo = some_is q.memo x.memo (sym q.at ∙ x.at) in
              elim q.case [
                | inl cy ↦ cc (sym (ap (λ (y : Memo). is_cycle y.outcome) same ∙ fine) ∙ cy.0)
                | inr ok ↦
                    let mv : some_moved m.memos (frame_names fs) x.memo.sources ≡ false =
                    ap (λ (y : Memo). some_moved m.memos (frame_names fs) y.sources) (sym same) ∙ ok.2 in
                    let mv0 : some_moved m.memos [] x.memo.sources ≡ false = moved_less m.memos (frame_names fs) x.memo.sources mv in
                    let at_s : is_moved m.memos (frame_names fs) s ≡ false = here (frame_names fs) mv in
                    elim (either (differs m.memos s) (is_in s.name evaluating) moved) [
                      | inl d ↦ cc (sym d ∙ or_fst (differs m.memos s) (is_in s.name (frame_names fs)) at_s)
                      | inr on ↦ elim (either (s.name == f.name) (is_in s.name (frame_names fs)) on) [
                        | inr p ↦ cc (sym p ∙ or_snd (differs m.memos s) (is_in s.name (frame_names fs)) at_s)
                        | inl self ↦
                            let k : Keeps w m.memos f.name f.name = record {
                              computed = c;
                              stands = h.frame.stands;
                              memo = x.memo;
                              at = x.at;
                              fine = fine;
                              calm = ap (λ y. must_run_by m.memos y []) x.at
                                  ∙ (λ i. cond (fine i) (not (x.memo.generation == m.memos.generation)) (unwired fine i || mv0 i));
                              kept = subst (λ j. is_in j (source_names x.memo.sources) ≡ true) (eqb-true s.name f.name self)
                                  (subst (λ l. is_in s.name (source_names l) ≡ true) (ap (λ l. x.done ++ l) (sym e) ∙ x.split) (is_kept x.done));
                            } in
                            absurd (h.state.kept.sound.acyclic f.name (f.name ∷ []) (k, tt) (in_head f.name []))
                      ]
                    ]
              ]

      -- a look is one step
      looks : (l : List Source) → x.left ≡ l →
          Holds (after_move m f.name fs (looked w m.memos evaluating m.visited (is_cycle x.memo.outcome) place' l))
      looks [] e = look_end e
      looks (s ∷ ss) e = go (is_ready (standing w s.name) (is_in s.name evaluating) (is_in s.name m.visited)) refl
        where
          decides : is_ready (standing w s.name) (is_in s.name evaluating) (is_in s.name m.visited) ≡ true → (a b : Bool) →
              is_cycle x.memo.outcome ≡ a → is_moved m.memos evaluating s ≡ b → Holds (after_move m f.name fs (decided a b place'))
          decides r true true ea eb = again (Looking (place' + 1)) (look_more place' x s ss e r (inl ea))
          decides r true false ea eb = again (Looking (place' + 1)) (look_more place' x s ss e r (inl ea))
          decides r false true ea eb = again (Running [] []) (record { due = look_due s ss e ea eb; going = refl; passed = λ y d on st. cc })
          decides r false false ea eb = again (Looking (place' + 1)) (look_more place' x s ss e r (inr (ea, eb)))

          go : (b : Bool) → is_ready (standing w s.name) (is_in s.name evaluating) (is_in s.name m.visited) ≡ b →
              Holds (after_move m f.name fs
              (cond b (decided (is_cycle x.memo.outcome) (is_moved m.memos evaluating s) place') (Needs s.name (LookedAt place'))))
          go true r = decides r (is_cycle x.memo.outcome) (is_moved m.memos evaluating s) refl refl
          go false r = first s.name (LookedAt place') (source_names x.done) x (look_next s ss e) x.passed r

      -- a step of a frame that looks
      look_step : Holds (after_move m f.name fs
          (looked w m.memos evaluating m.visited (holds_cycle m.memos f.name) place' (drop place' (sources_of m.memos f.name))))
      look_step =
          let left : drop place' (sources_of m.memos f.name) ≡ x.left = (λ i. drop (sym x.place_is i) (sources_in (x.at i)))
          ∙ ap (drop (length x.done)) (sym x.split) ∙ drop-append_seam x.done x.left in
          subst (λ mv. Holds (after_move m f.name fs mv))
          (λ i. looked w m.memos evaluating m.visited (memo_is_cycle (sym x.at i)) place' (sym left i)) (looks x.left refl)

    -- ---- it runs

    -- what it reads from scratch
    abbrev source : ℕ → Outcome
    source = λ j. value_of hosts w j (c.name ∷ [])

    -- what a ready source is read as is what it is from scratch
    ready_is : (s : ℕ) → IsRead s (reads_of hosts w c) → is_ready (standing w s) (is_in s evaluating) (is_in s m.visited) ≡ true →
        ready_outcome (standing w s) (is_in s evaluating) (standing_outcome w m.memos s) ≡ Some (source s)
    ready_is s read r = go (standing w s) refl
      where
        scratch : Some (value_of hosts w s []) ≡ Some (source s)
        scratch = ap (λ y. Some y) (sym (read_value hosts w f.name c s h.frame.stands read))

        go : (st : Stands) → standing w s ≡ st → ready_outcome st (is_in s evaluating) (standing_outcome w m.memos s) ≡ Some (source s)
        go IsGone e = right_source hosts w m.memos s (λ d st. cc (sym e ∙ st)) ∙ scratch
        go (IsCell d) e = right_source hosts w m.memos s (λ d' st. cc (sym e ∙ st)) ∙ scratch
        go (IsComputed d) e = by (is_in s evaluating) refl
          where
            by : (b : Bool) → is_in s evaluating ≡ b → cond b (Some (Bad Cycle)) (standing_outcome w m.memos s) ≡ Some (source s)
            by true on =
                let mine : Reads hosts w f.name s = record { computed = c; stands = h.frame.stands; read = read } in
                let loop : Leads hosts w s s = elim (either (s == f.name) (is_in s (frame_names fs)) on) [
                  | inl q ↦ subst (λ j. Leads hosts w j s) (sym (eqb-true s f.name q)) (one mine)
                  | inr q ↦ goes_on hosts w (chain_goes hosts w (frame_names fs) f.name s h.frame.chain q) (one mine)
                ] in
                ap (λ y. Some y) (sym (cycle_law hosts w s s (c.name ∷ []) (inl refl) loop))
            by false off =
                let was : is_in s (visited h.vs) ≡ true = (λ i. sym off i || is_in s (visited h.vs)) ∙ ready_passed s d r e in
                right_source hosts w m.memos s (λ y st. (h.state.done s y (seen_is s [] h.vs ∙ was) st).right) ∙ scratch

    module _ (known : List Known) (reads : List Seen) (x : RunHolds hosts w m.memos h.vs (frame_names fs) f.name c known reads) where
      -- its recipe has answered
      answers : (st : Step) → recipe_answer hosts c.recipe known ≡ st → Holds (after_move m f.name fs (answered st known reads))
      answers (Done v) e = ends (record { reads = reads; outcome = Good v }) (
          (λ i. record { reads = sym (append-nil reads) i; outcome = Good v })
          ∙ ap (prefixed reads) (sym (step_is hosts w m.memos c.recipe source known (Done v) e)) ∙ x.going
          ) x.passed x.due
      answers (Fail z) e = ends (record { reads = reads; outcome = Bad z }) (
          (λ i. record { reads = sym (append-nil reads) i; outcome = Bad z })
          ∙ ap (prefixed reads) (sym (step_is hosts w m.memos c.recipe source known (Fail z) e)) ∙ x.going
          ) x.passed x.due
      answers (Read s) e = again (Waiting s known reads) (x, e)

      module _ (slot : ℕ) (asks : recipe_answer hosts c.recipe known ≡ Read slot) where
        -- the name of the slot
        abbrev s : ℕ
        s = slice_index c.recipe.slots slot

        -- the slot that it waits for is its next read
        wait_next : NextKept (reads_of hosts w c) (names_of reads) s
        wait_next =
            let q : (rest : List Seen)
            × (record { name = s; outcome = source s } ∷ rest
            ≡ (after_read s (source s) (λ v. asked_from hosts c.recipe source (learnt known slot v))).reads) =
            first_of s (source s) (λ v. asked_from hosts c.recipe source (learnt known slot v)) in
            record {
              before = reads;
              seen = record { name = s; outcome = source s };
              rest = q.0;
              whole = ap (λ l. reads ++ l) q.1
                  ∙ ap (λ (e : Evaluation). reads ++ e.reads) (sym (step_is hosts w m.memos c.recipe source known (Read slot) asks))
                  ∙ ap (λ (e : Evaluation). e.reads) x.going;
              names = refl;
              name = refl;
            }

        -- one read more is passed too
        more_passed : (o : Outcome) → is_ready (standing w s) (is_in s evaluating) (is_in s m.visited) ≡ true →
            ArePassed hosts w evaluating h.vs (names_of (reads ++ record { name = s; outcome = o } ∷ []))
        more_passed o r y d on st = elim (names_snoc reads (record { name = s; outcome = o }) y on) [
          | inl was ↦ x.passed y d was st
          | inr is ↦ subst (λ j. (is_in j evaluating || is_in j (visited h.vs)) ≡ true) (sym is) (ready_passed s d r (ap (standing w) (sym is) ∙ st))
        ]

        -- it is read
        reads_it : (o : Outcome) → source s ≡ o → is_ready (standing w s) (is_in s evaluating) (is_in s m.visited) ≡ true →
            Holds (after_move m f.name fs (slot_read slot s (Some o) known reads))
        reads_it (Good v) e r = again (Running (learnt known slot v) (reads ++ record { name = s; outcome = Good v } ∷ [])) (record {
          due = x.due;
          going = good_read hosts c.recipe source known reads slot v asks e ∙ x.going;
          passed = more_passed (Good v) r;
        })
        reads_it (Bad z) e r = ends (record { reads = reads ++ record { name = s; outcome = Bad z } ∷ []; outcome = Bad z })
            (sym (bad_read hosts c.recipe source known reads slot z asks e) ∙ x.going) (more_passed (Bad z) r) x.due

        -- a step of a frame that waits
        waits : Holds (after_move m f.name fs (waited w m.memos evaluating m.visited slot s known reads))
        waits = go (is_ready (standing w s) (is_in s evaluating) (is_in s m.visited)) refl
          where
            go : (b : Bool) → is_ready (standing w s) (is_in s evaluating) (is_in s m.visited) ≡ b →
                Holds (after_move m f.name fs
                (cond b (slot_read slot s (ready_outcome (standing w s) (is_in s evaluating) (standing_outcome w m.memos s)) known reads)
                (Needs s (Waiting slot known reads))))
            go true r =
                subst (λ o. Holds (after_move m f.name fs (slot_read slot s o known reads)))
                (sym (ready_is s (next_read (reads_of hosts w c) (names_of reads) s wait_next) r)) (reads_it (source s) refl r)
            go false r = first s (Waiting slot known reads) (names_of reads) (x, asks) wait_next x.passed r

    -- a step of the innermost frame
    frame_step : Holds (after_move m f.name fs (frame_move hosts w m.memos (frame_names fs) m.visited f (standing w f.name)))
    frame_step = subst (λ st. Holds (after_move m f.name fs (frame_move hosts w m.memos (frame_names fs) m.visited f st))) (sym h.frame.stands)
        (go f.phase h.frame.phase)
      where
        go : (p : Phase) → PhaseHolds hosts w m.memos h.vs (frame_names fs) f.name c p →
            Holds (after_move m f.name fs (move_of hosts w m.memos evaluating m.visited f.name c p))
        go (Looking place') x = look_step place' x
        go (LookedAt place') x = look_step place' x
        go (Running known reads) x = answers known reads x (recipe_answer hosts c.recipe known) refl
        go (Waiting slot known reads) x = waits known reads x.0 slot x.1

  -- ---- a step

  -- a step with no frame
  asked_step : (m : Underway) → Holds m → m.stack ≡ [] → (ns : List ℕ) → m.asked ≡ ns → Holds (asked_next w m ns)
  asked_step m i none [] e = i
  asked_step m i none (n ∷ ns) e = go (is_ready (standing w n) false (is_in n m.visited)) refl
    where
      in_seen : is_in n m.visited ≡ is_in n (visited i.vs)
      in_seen = ap (is_in n) i.seen ∙ seen_is n [] i.vs

      order : order_after hosts w ns (visit hosts w [] n i.vs) ≡ evaluation_order hosts w names
      order = (λ j. order_after hosts w (sym e j) (completed hosts w (sym none j) i.vs)) ∙ i.order

      go : (b : Bool) → is_ready (standing w n) false (is_in n m.visited) ≡ b →
          Holds (cond b (record m { asked = ns }) (record m { asked = ns; stack = new_frame m.memos n ∷ [] }))
      go true r = record {
        vs = i.vs;
        seen = i.seen;
        state = i.state;
        settled = i.settled;
        frames = i.frames;
        order = ap (λ fs. order_after hosts w ns (completed hosts w fs i.vs)) none
            ∙ ap (order_after hosts w ns)
            (sym (visit_passed hosts w [] n i.vs (λ d st. sym in_seen ∙ (λ j. is_ready (sym st j) false (is_in n m.visited)) ∙ r))) ∙ order;
      }
      go false r = by (unready (standing w n) false (is_in n m.visited) r)
        where
          by : (d : Computed) × (standing w n ≡ IsComputed d) × (false ≡ false) × (is_in n m.visited ≡ false) →
              Holds (record m { asked = ns; stack = new_frame m.memos n ∷ [] })
          by u =
              let new : is_in n (visited i.vs) ≡ false = sym in_seen ∙ u.3 in
              record {
                vs = i.vs;
                seen = i.seen;
                state = i.state;
                settled = i.settled;
                frames = (
                  record {
                    computed = u.0;
                    stands = u.1;
                    off = refl;
                    new = new;
                    chain = tt;
                    phase =
                        new_frame_holds hosts w m.memos i.vs [] n u.0;
                  },
                  tt,
                );
                order = ap (order_after hosts w ns) (sym (visit_new hosts w [] n u.0 i.vs u.1 new)) ∙ order;
              }

  -- each step
  pub step_holds : (m : Underway) → Holds m → Holds (stepped hosts w m)
  step_holds m i = go m.stack refl
    where
      go : (st : List Frame) → m.stack ≡ st → Holds (stack_step hosts w m st)
      go [] e = asked_step m i e m.asked refl
      go (f ∷ fs) e =
          let frames : StackHolds hosts w m.memos i.vs (f ∷ fs) = subst (StackHolds hosts w m.memos i.vs) e i.frames in
          frame_step m f fs (record {
            vs = i.vs;
            seen = i.seen;
            state = i.state;
            settled = i.settled;
            frame = frames.0;
            rest = frames.1;
            order = ap (λ st. order_after hosts w m.asked (completed hosts w st i.vs)) (sym e) ∙ i.order;
          })

-- after any number of steps it holds
steps_hold : (hosts : Hosts) (w : Signals) (start : Memos) (names : List ℕ) (turns : ℕ) (m : Underway) → Holds hosts w start names m →
    Holds hosts w start names (stepped_times turns hosts w m)
steps_hold hosts w start names zero m i = i
steps_hold hosts w start names (suc turns) m i = steps_hold hosts w start names turns (stepped hosts w m) (step_holds hosts w start names m i)

-- it holds at the beginning
pub begun_holds : (hosts : Hosts) (w : Signals) (k : Memos) (asked : List ℕ) → AreKept hosts w k → Holds hosts w k asked (begun k asked)
begun_holds hosts w k asked kept = record { vs = []; seen = refl; state = first_state hosts w k kept; settled = refl; frames = tt; order = refl }

-- what was visited shows its value from scratch
pub shown_visited : (hosts : Hosts) (w : Signals) (start : Memos) (names : List ℕ) (m : Underway) → Holds hosts w start names m →
    (n : ℕ) (d : Computed) → is_in n m.visited ≡ true → standing w n ≡ IsComputed d → standing_outcome w m.memos n ≡ Some (value_of hosts w n [])
shown_visited hosts w start names m h n d on stands =
    right_source hosts w m.memos n (λ y st. (h.state.done n y (ap (is_in n) (sym h.seen) ∙ on) st).right)

-- and at the end all is settled
pub over_settled : (hosts : Hosts) (w : Signals) (k : Memos) (asked : List ℕ) (m : Underway) → AreKept hosts w k → Holds hosts w k asked m →
    IsOver m → IsSettled hosts w k asked m
over_settled hosts w k asked m kept i over =
    let order : i.vs ≡ evaluation_order hosts w asked = (λ j. order_after hosts w (sym over.asked j) (completed hosts w (sym over.stack j) i.vs))
    ∙ i.order in
    let whole : settled hosts w k asked ≡ record { memos = m.memos; runs = m.runs } =
    ap (λ vs. settle_visits hosts w vs (record { memos = k; runs = [] })) (sym order) ∙ i.settled in
    record {
      whole = whole;
      kept = i.state.kept;
      value = λ n on. ap (λ (s : Settled). standing_outcome w s.memos n) (sym whole) ∙ asked_law hosts w k asked n kept on;
    }

-- what steps come to
pub steps_settle_law : StepsSettleLaw
steps_settle_law hosts w k asked turns kept over =
    over_settled hosts w k asked (stepped_times turns hosts w (begun k asked)) kept
    (steps_hold hosts w k asked turns (begun k asked) (begun_holds hosts w k asked kept)) over
