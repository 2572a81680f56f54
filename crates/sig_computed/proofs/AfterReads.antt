-- What holds of the frames and of the loop once the innermost frame has read on.
use Rattle.std.proofs.Common.{◌≡◌, ℕ, suc, ◌+◌, ◌≤◌, Bool, true, false, cond, List, [], ◌∷◌, append_assoc, append-nil, map, length, Option, None, Some, refl, sym, ap, ◌∙◌, subst, arith, inl, inr}
use Rattle.sig_base.specs.declared.value.Step.{Step}
use Rattle.sig_base.specs.declared.value.Value.TheVariants.{Bool as truth}
use Rattle.sig_base.specs.declared.value.Known.{Known}
use Rattle.sig_formula.specs.Evaluation.{step_by}
use Rattle.signal_model.specs.Recipes.{Hosts, IsUnknownSlot}
use Rattle.signal_model.specs.Signals.{Signals, Stands, IsGone, IsCell, IsComputed, standing}
use Rattle.signal_model.specs.Values.{learnt, unknown_slots}
use Rattle.signal_model.specs.Memos.{Memos}
use Rattle.signal_model.specs.Kept.{AreKept}
use Rattle.signal_model.specs.Asks.{asks_host, good_reads}
use Rattle.signal_model.proofs.Shared.{unknown_less}
use Rattle.sig_host.specs.Hosts.{HostPlace}
use Rattle.sig_base.specs.declared.value.Fault.TheVariants.{Cycle}
use Rattle.sig_base.specs.declared.value.Outcome.TheVariants.{Bad}
use Rattle.sig_nodes.specs.declared.answers.Asked.TheVariants.{Slot as SlotAsked, Ended}
use Rattle.sig_nodes.specs.Answers.{host_here, slots_here}
use Rattle.sig_graph.specs.Reading.{SlotRead, AreReadNext}
use Rattle.sig_graph.specs.States as states
use Rattle.sig_graph.specs.States.{Progress, State}
use Rattle.sig_computed.specs.declared.frames.Doing.{Doing}
use Rattle.sig_computed.specs.declared.frames.Doing.TheVariants as doing
use Rattle.sig_computed.specs.declared.frames.Open.{Open}
use Rattle.sig_computed.specs.Asked.{places_by}
use Rattle.sig_computed.specs.Lessons.{Lesson}
use Rattle.sig_computed.specs.Notes.{Note}
use Rattle.sig_computed.specs.Reading.{known_after, phase_after, phase_left, phase_on, read_steps, reads_after, seen_of, steps_on, CanLeave, CanRead, HasEnded, HasGoneOn, HasTurned, IsLearntBy, IsTold}
use Rattle.sig_computed.specs.Skips.{passed_over}
use Rattle.sig_computed.specs.StepLaws.{left_here}
use Rattle.sig_computed.specs.Steps.{Phase, Looking, LookedAt, Running, Waiting, Frame, Move, GoesOn, Needs, Stops, Ends, answered}
use Rattle.sig_computed.specs.Turns.{move_by, move_reads, phase_reads, progress_by, turn_steps, AreReadsGiven, Fits, IsMove, IsProgressBy}
use Rattle.sig_computed.specs.Views.{evaluating, evaluation_of, phase_of, Stays}
use Rattle.sig_computed.proofs.Asks.{phase_asked, HasAsked}
use Rattle.sig_computed.proofs.Leaves.{end_answer, ended_judged, ended_move, slot_answer, unasked}
use Rattle.sig_computed.proofs.Looks.{evaluating_stays, stays_here}
use Rattle.sig_computed.proofs.Loops.{IsTurn}
use Rattle.sig_computed.proofs.Measure.{work, work_left}
use Rattle.sig_computed.proofs.SlotReads.{left_whole, reads_good, reads_unknown, reads_whole, waited_unknown, waited_whole}
use Rattle.sig_computed.proofs.Stacks.{HasStack, fits_stays, frames_are, given_stays, known_more, stack_stays}
use Rattle.sig_computed.proofs.StepsEnd.{unknown_any}
use Rattle.sig_computed.proofs.Wholes.{IsWhole}

-- the graph, where so many steps more were counted
abbrev pub said_on : states.Seen → ℕ → states.Seen
said_on g steps = record g { state = record g.state { looked = g.state.looked + steps } }

-- a frame once these were read, where it may wait for the next
abbrev pub frame_on : Frame → List SlotRead → Option ℕ → Frame
frame_on f more left = record { name = f.name; phase = phase_on f.phase more left }

-- ---- the frames

-- the frame fits in its phase then
fits_on : (g : states.Seen) (n : ℕ) (p : Phase) (more : List SlotRead) → Fits g (record { name = n; phase = p }) → CanRead g.state n p more →
    AreReadsGiven g (phase_reads (phase_after p more)) → Fits g (record { name = n; phase = phase_after p more })
fits_on g n (Looking place) more fit can given = fit
fits_on g n (LookedAt place) more fit can given = fit
fits_on g n (Waiting slot known reads) [] fit can given = fit
fits_on g n (Waiting slot known reads) (r ∷ rs) fit can given =
    let count : ℕ = length fit.computed.recipe.slots in
    let unknown : unknown_slots count (known_after known (r ∷ rs)) + length rs ≡ unknown_slots count (learnt known r.known.slot r.known.value) =
    subst (λ (st : Stands). unknown_slots (length (slots_here st)) (known_after known (r ∷ rs)) + length rs
    ≡ unknown_slots (length (slots_here st)) (learnt known r.known.slot r.known.value)) fit.stands (waited_unknown g.state n known r rs can.3) in
    let less : unknown_slots count known ≡ suc (unknown_slots count (learnt known r.known.slot r.known.value)) =
    unknown_less count r.known.slot r.known.value known (subst (λ m. IsUnknownSlot count m known) (sym can.1) fit.slot) in
    let good : good_reads (reads_after reads (r ∷ rs)) ≡ good_reads reads + length (r ∷ rs) = reads_good reads (r ∷ rs) in
    let few : good_reads reads + unknown_slots count known ≤ count = fit.few in
    record {
      computed = fit.computed;
      stands = fit.stands;
      earlier = fit.earlier;
      begun = fit.begun;
      known = known_more fit.earlier known (map (λ (q : SlotRead). q.known) (r ∷ rs)) fit.known;
      slot = tt;
      few = omega (arith, unknown, less, good, few);
      given = given;
    }
fits_on g n (Running known reads) more fit can given =
    let unknown : unknown_slots (length fit.computed.recipe.slots) (known_after known more) + length more ≡ unknown_slots (length fit.computed.recipe.slots) known =
    subst (λ (st : Stands). unknown_slots (length (slots_here st)) (known_after known more) + length more ≡ unknown_slots (length (slots_here st)) known)
    fit.stands (reads_unknown g.state n known more can) in
    let good : good_reads (reads_after reads more) ≡ good_reads reads + length more = reads_good reads more in
    let few : good_reads reads + unknown_slots (length fit.computed.recipe.slots) known ≤ length fit.computed.recipe.slots = fit.few in
    record {
      computed = fit.computed;
      stands = fit.stands;
      earlier = fit.earlier;
      begun = fit.begun;
      known = known_more fit.earlier known (map (λ (r : SlotRead). r.known) more) fit.known;
      slot = tt;
      few = omega (arith, unknown, good, few);
      given = given;
    }

-- it fits where it waits then
fits_left : (g : states.Seen) (n : ℕ) (left : Option ℕ) (p : Phase) → Fits g (record { name = n; phase = p }) → CanLeave g.state n left p →
    Fits g (record { name = n; phase = phase_left left p })
fits_left g n None p fit can = fit
fits_left g n (Some slot) (Looking place) fit can = absurd can
fits_left g n (Some slot) (LookedAt place) fit can = absurd can
fits_left g n (Some slot) (Waiting other known reads) fit can = absurd can
fits_left g n (Some slot) (Running known reads) fit can = record {
  computed = fit.computed;
  stands = fit.stands;
  earlier = fit.earlier;
  begun = fit.begun;
  known = fit.known;
  slot = subst (λ (st : Stands). IsUnknownSlot (length (slots_here st)) slot known) fit.stands can.1;
  few = fit.few;
  given = fit.given;
}

-- it fits the graph after the reads
pub fits_gone : (g h : states.Seen) (n m : ℕ) (p q : Phase) (ended : Bool) → Fits g (record { name = n; phase = p }) → HasGoneOn g h n p q ended → m ≡ n →
    Fits h (record { name = m; phase = q })
fits_gone g h n m p q ended fit on same =
    subst (λ (f : Frame). Fits h f) (λ i. record { name = sym same i; phase = sym on.phase i })
    (fits_stays g h on.stays.signals on.stays.given (record { name = n; phase = phase_on p on.more on.left })
    (λ i. states.progress_at n (on.stays.progress i))
    (fits_left g n on.left (phase_after p on.more) (fits_on g n p on.more fit on.next (on.given fit.given)) on.leaves))

-- the frames have what they need
stack_on : (g : states.Seen) (steps : ℕ) (f : Frame) (rest : List Frame) (more : List SlotRead) (left : Option ℕ) → HasStack g (f ∷ rest) →
    CanRead g.state f.name f.phase more → CanLeave g.state f.name left (phase_after f.phase more) →
    AreReadsGiven g (phase_reads (phase_after f.phase more)) → HasStack (said_on g steps) (frame_on f more left ∷ rest)
stack_on g steps f rest more left h can leaves given = record {
  fits = (
    fits_stays g (said_on g steps) refl refl (frame_on f more left) refl
        (fits_left g f.name left (phase_after f.phase more) (fits_on g f.name f.phase more h.fits.0 can given) leaves),
    h.fits.1,
    stack_stays g (said_on g steps) refl refl f.name rest h.fits.1 (λ m off. refl) h.fits.2,
  );
  idle = h.idle;
}

-- ---- what the loop keeps

-- no less was asked
asked_more : (p : Phase) (more : List SlotRead) → phase_asked p ≤ phase_asked (phase_after p more)
asked_more (Looking place) more = omega arith
asked_more (LookedAt place) more = omega arith
asked_more (Running known reads) more = let e : good_reads (reads_after reads more) ≡ good_reads reads + length more = reads_good reads more in omega (arith, e)
asked_more (Waiting slot known reads) [] = omega arith
asked_more (Waiting slot known reads) (r ∷ rs) =
    let e : good_reads (reads_after reads (r ∷ rs)) ≡ good_reads reads + length (r ∷ rs) = reads_good reads (r ∷ rs) in
    omega (arith, e)

asked_left : (left : Option ℕ) (p : Phase) → phase_asked p ≤ phase_asked (phase_left left p)
asked_left None p = omega arith
asked_left (Some slot) (Looking place) = omega arith
asked_left (Some slot) (LookedAt place) = omega arith
asked_left (Some slot) (Running known reads) = omega arith
asked_left (Some slot) (Waiting other known reads) = omega arith

-- what is known of the places
pub asked_on : (w : Signals) (old new : List HostPlace) (before after : ℕ) (f : Frame) (rest : List Frame) (more : List SlotRead) (left : Option ℕ) →
    HasAsked w old new before after (f ∷ rest) → HasAsked w old new before after (frame_on f more left ∷ rest)
asked_on w old new before after f rest more left h = record {
  there = h.there;
  places = h.places;
  rise = λ place.
      let one = by (asks_host place (standing w f.name)) in
      let rise = h.rise place in
      omega (arith, one, rise);
}
  where
    by : (b : Bool) → cond b (phase_asked f.phase) 0 ≤ cond b (phase_asked (phase_on f.phase more left)) 0
    by true =
        let read = asked_more f.phase more in
        let waits = asked_left left (phase_after f.phase more) in
        omega (arith, read, waits)
    by false = omega arith

-- the asks of the turn are those of the phase before
places_read : (s : State) (n : ℕ) (p : Phase) (more : List SlotRead) (asked : List HostPlace) → CanRead s n p more →
    places_by (standing s.signals n) p asked ≡ places_by (standing s.signals n) (phase_after p more) asked
places_read s n (Looking place) more asked can = refl
places_read s n (LookedAt place) more asked can = refl
places_read s n (Running known reads) more asked can = refl
places_read s n (Waiting slot known reads) [] asked can = refl
places_read s n (Waiting slot known reads) (r ∷ rs) asked can = unasked (host_here (standing s.signals n)) asked can.0

places_left : (s : State) (n : ℕ) (left : Option ℕ) (p : Phase) (asked : List HostPlace) → CanLeave s n left p →
    places_by (standing s.signals n) p asked ≡ places_by (standing s.signals n) (phase_left left p) asked
places_left s n None p asked can = refl
places_left s n (Some slot) (Looking place) asked can = refl
places_left s n (Some slot) (LookedAt place) asked can = refl
places_left s n (Some slot) (Waiting other known reads) asked can = refl
places_left s n (Some slot) (Running known reads) asked can =
    sym (unasked (host_here (standing s.signals n)) asked
    (slot_answer (standing s.signals n) known (SlotAsked slot) (Bad Cycle) slot refl (can.0 (Bad Cycle))).0)

pub places_on : (s : State) (n : ℕ) (p : Phase) (more : List SlotRead) (left : Option ℕ) (asked : List HostPlace) → CanRead s n p more →
    CanLeave s n left (phase_after p more) → places_by (standing s.signals n) p asked ≡ places_by (standing s.signals n) (phase_on p more left) asked
places_on s n p more left asked can leaves = places_read s n p more asked can ∙ places_left s n left (phase_after p more) asked leaves

-- what a frame has left
left_on : (k : Memos) (s : State) (n : ℕ) (p : Phase) (more : List SlotRead) → CanRead s n p more →
    left_here k n (phase_after p more) (standing s.signals n) ≤ left_here k n p (standing s.signals n)
left_on k s n (Looking place) more can = omega arith
left_on k s n (LookedAt place) more can = omega arith
left_on k s n (Waiting slot known reads) [] can = omega arith
left_on k s n (Waiting slot known reads) (r ∷ rs) can =
    subst (λ m. left_here k n (Running (known_after known (r ∷ rs)) (reads_after reads (r ∷ rs))) (standing s.signals n)
    ≤ left_here k n (Waiting m known reads) (standing s.signals n)) can.1 (go (standing s.signals n) (waited_unknown s n known r rs can.3))
  where
    go : (st : Stands) → unknown_slots (length (slots_here st)) (known_after known (r ∷ rs)) + length rs
        ≡ unknown_slots (length (slots_here st)) (learnt known r.known.slot r.known.value) →
        left_here k n (Running (known_after known (r ∷ rs)) (reads_after reads (r ∷ rs))) st ≤ left_here k n (Waiting r.known.slot known reads) st
    go IsGone e = omega arith
    go (IsCell c) e = omega arith
    go (IsComputed c) e = let any = unknown_any (length c.recipe.slots) r.known.slot r.known.value (truth true) known in omega (arith, e, any)
left_on k s n (Running known reads) more can = go (standing s.signals n) (reads_unknown s n known more can)
  where
    go : (st : Stands) → unknown_slots (length (slots_here st)) (known_after known more) + length more ≡ unknown_slots (length (slots_here st)) known →
        left_here k n (Running (known_after known more) (reads_after reads more)) st ≤ left_here k n (Running known reads) st
    go IsGone e = omega arith
    go (IsCell c) e = omega arith
    go (IsComputed c) e = omega (arith, e)

-- and where it waits then
left_less : (k : Memos) (s : State) (n : ℕ) (left : Option ℕ) (p : Phase) → CanLeave s n left p →
    left_here k n (phase_left left p) (standing s.signals n) ≤ left_here k n p (standing s.signals n)
left_less k s n None p can = omega arith
left_less k s n (Some slot) (Looking place) can = absurd can
left_less k s n (Some slot) (LookedAt place) can = absurd can
left_less k s n (Some slot) (Waiting other known reads) can = absurd can
left_less k s n (Some slot) (Running known reads) can = go (standing s.signals n) can.1
  where
    go : (st : Stands) → IsUnknownSlot (length (slots_here st)) slot known →
        left_here k n (Waiting slot known reads) st ≤ left_here k n (Running known reads) st
    go IsGone h = omega arith
    go (IsCell c) h = omega arith
    go (IsComputed c) h =
        let less : unknown_slots (length c.recipe.slots) known ≡ suc (unknown_slots (length c.recipe.slots) (learnt known slot (truth true))) =
        unknown_less (length c.recipe.slots) slot (truth true) known h in
        omega (arith, less)

-- no more is left to do
pub work_on : (start g : states.Seen) (f : Frame) (rest : List Frame) (visited : List ℕ) (more : List SlotRead) (left : Option ℕ) →
    g.state.signals ≡ start.state.signals → CanRead g.state f.name f.phase more → CanLeave g.state f.name left (phase_after f.phase more) →
    work start.state.signals g.state.memos (frame_on f more left ∷ rest) visited ≤ work start.state.signals g.state.memos (f ∷ rest) visited
work_on start g f rest visited more left same can leaves =
    let k = g.state.memos in
    let read = left_on k g.state f.name f.phase more can in
    let waits = left_less k g.state f.name left (phase_after f.phase more) leaves in
    let both : left_here k f.name (phase_on f.phase more left) (standing g.state.signals f.name) ≤ left_here k f.name f.phase (standing g.state.signals f.name) =
    omega (arith, read, waits) in
    work_left start.state.signals k f.name f.phase (phase_on f.phase more left) rest visited
    (subst (λ (w : Signals). left_here k f.name (phase_on f.phase more left) (standing w f.name) ≤ left_here k f.name f.phase (standing w f.name)) same both)

module _ (start g : states.Seen) (f : Frame) (rest : List Frame) (visited : List ℕ) (more : List SlotRead) (left : Option ℕ)
    (same : g.state.signals ≡ start.state.signals) (stack : HasStack g (f ∷ rest)) (can : CanRead g.state f.name f.phase more)
    (leaves : CanLeave g.state f.name left (phase_after f.phase more)) (hosts : Hosts) (k0 : Memos) (kept0 : AreKept hosts start.state.signals k0) (steps0 : ℕ)
    (places0 places : List HostPlace) (asked : List ℕ) (before after : List Note) where
  -- the whole, with the innermost frame in a phase
  abbrev WholeBy : ℕ → Phase → Type 0
  WholeBy steps p = IsWhole hosts start.state.signals k0 kept0 steps0 places0 asked g.state.memos steps places before after visited (record { name = f.name; phase = p } ∷ rest)

  -- where nothing is read
  none_whole : (p : Phase) → more ≡ [] → WholeBy g.state.looked p → WholeBy (g.state.looked + length more) p
  none_whole p e x = let n : length more ≡ 0 = ap length e in subst (λ steps. WholeBy steps p) (omega (arith, n)) x

  phase_whole : (p : Phase) → CanRead g.state f.name p more → WholeBy g.state.looked p → WholeBy (g.state.looked + read_steps p more) (phase_after p more)
  phase_whole (Looking place) e x = none_whole (Looking place) e x
  phase_whole (LookedAt place) e x = none_whole (LookedAt place) e x
  phase_whole (Waiting slot known reads) all x =
      waited_whole hosts start g same k0 kept0 steps0 places0 places asked before after visited rest f.name stack.fits.0.computed
      (ap (λ w. standing w f.name) (sym same) ∙ stack.fits.0.stands) (frames_are g (f ∷ rest) stack) g.state.looked slot known reads more all x
  phase_whole (Running known reads) all x =
      reads_whole hosts start g same k0 kept0 steps0 places0 places asked before after visited rest f.name stack.fits.0.computed
      (ap (λ w. standing w f.name) (sym same) ∙ stack.fits.0.stands) (frames_are g (f ∷ rest) stack) g.state.looked known reads more all x

  -- the whole stays the whole
  pub whole_on : IsWhole hosts start.state.signals k0 kept0 steps0 places0 asked g.state.memos g.state.looked places before after visited (f ∷ rest) →
      IsWhole hosts start.state.signals k0 kept0 steps0 places0 asked g.state.memos (g.state.looked + steps_on f.phase more left) places before after visited
      (frame_on f more left ∷ rest)
  whole_on x =
      subst (λ steps. WholeBy steps (phase_on f.phase more left)) (omega arith)
      (left_whole hosts start g same k0 kept0 steps0 places0 places asked before after visited rest f.name stack.fits.0.computed
      (ap (λ w. standing w f.name) (sym same) ∙ stack.fits.0.stands) (frames_are g (f ∷ rest) stack) (g.state.looked + read_steps f.phase more) left
      (phase_after f.phase more) leaves (phase_whole f.phase can x))

-- ---- a frame that comes to run

-- where nothing is read, all stays
looks_on : (g : states.Seen) (n : ℕ) (p : Phase) → CanRead g.state n p [] → p ≡ phase_after p [] →
    (AreReadsGiven g (phase_reads p) → AreReadsGiven g (phase_reads (phase_after p []))) → Stays g g g.state.progress (steps_on p [] None + 0) →
    HasGoneOn g g n p p false
looks_on g n p next phase given stays = record {
  more = [];
  left = None;
  next = next;
  leaves = tt;
  phase = phase;
  given = given;
  stays = stays;
}

-- it may stay as it is
pub none_on : (g : states.Seen) (n : ℕ) (p : Phase) → HasGoneOn g g n p p false
none_on g n (Looking place) = looks_on g n (Looking place) refl refl (λ all. all) (stays_here g 0)
none_on g n (LookedAt place) = looks_on g n (LookedAt place) refl refl (λ all. all) (stays_here g 0)
none_on g n (Waiting slot known reads) = looks_on g n (Waiting slot known reads) tt refl (λ all. all) (stays_here g 0)
none_on g n (Running known reads) = looks_on g n (Running known reads) tt (λ i. Running (sym (append-nil known) i) (sym (append-nil reads) i))
    (subst (AreReadsGiven g) (sym (append-nil reads))) (stays_here g 0)

-- it reads the slot that it waits for, and then reads on
told_on : (g h : states.Seen) (n slot : ℕ) (old new : Lesson) (q : Phase) (ended : Bool) → IsTold g n slot old new →
    HasGoneOn g h n (Running new.known new.reads) q ended → HasGoneOn g h n (Waiting slot old.known old.reads) q ended
told_on g h n slot old new q ended t on =
    let reads = (λ i. reads_after (t.reads i) on.more) ∙ append_assoc old.reads (seen_of t.read ∷ []) (map seen_of on.more) in
    let known = (λ i. known_after (t.known i) on.more) ∙ append_assoc old.known (t.read.known ∷ []) (map (λ (r : SlotRead). r.known) on.more) in
    record {
      more = t.read ∷ on.more;
      left = on.left;
      leaves = subst (λ (p : Phase). CanLeave g.state n on.left p) (λ i. Running (known i) (reads i)) on.leaves;
      next = (t.formula, t.same, t.ready, subst (λ (ks : List Known). AreReadNext g.state n ks on.more) t.known on.next);
      phase = on.phase ∙ (λ i. phase_left on.left (Running (known i) (reads i)));
      given = λ all. subst (AreReadsGiven g) reads (on.given (t.given all));
      stays = on.stays;
    }

-- what it reads on from is what it has learnt
pub learnt_by : (g h : states.Seen) (n : ℕ) (d : Doing) (old new : Lesson) (q : Phase) (ended : Bool) → IsLearntBy d g n old new →
    HasGoneOn g h n (Running new.known new.reads) q ended → HasGoneOn g h n (phase_of d old) q ended
learnt_by g h n (doing.Looking place) old new q ended l on = absurd l
learnt_by g h n (doing.LookedAt place) old new q ended l on = absurd l
learnt_by g h n doing.Running old new q ended l on = subst (λ (m : Lesson). HasGoneOn g h n (Running m.known m.reads) q ended) l on
learnt_by g h n (doing.Waiting slot) old new q ended l on = told_on g h n slot old new q ended l on

-- ---- a turn

-- the turn is one of the frame in its phase after the reads, over a graph that has counted these
pub turn_on : (start g h : states.Seen) (answers : Hosts → Type 0) (f : Frame) (rest : List Frame) (visited : List ℕ) (mv : Move) → g.state.signals ≡ start.state.signals →
    HasStack g (f ∷ rest) → (t : HasTurned g h answers f visited mv) → IsTurn start (said_on g (steps_on f.phase t.more t.left)) h (frame_on f t.more t.left) rest visited mv
turn_on start g h answers f rest visited mv same stack t =
    let steps = t.stays.steps in
    record {
      signals = same;
      frames = stack_on g (steps_on f.phase t.more t.left) f rest t.more t.left stack t.next t.leaves t.on;
      some = t.some;
      given = given_stays g (said_on g (steps_on f.phase t.more t.left)) (move_reads mv) refl t.given;
      progress = t.progress;
      stays = record {
        signals = t.stays.signals;
        memos = t.stays.memos;
        progress = refl;
        worn = t.stays.worn;
        seats = t.stays.seats;
        given = t.stays.given;
        steps = omega (arith, steps);
      };
    }

-- what was read is the same where a frame waits then
reads_left : (g : states.Seen) (left : Option ℕ) (p : Phase) → AreReadsGiven g (phase_reads p) → AreReadsGiven g (phase_reads (phase_left left p))
reads_left g None p all = all
reads_left g (Some slot) (Looking place) all = all
reads_left g (Some slot) (LookedAt place) all = all
reads_left g (Some slot) (Running known reads) all = all
reads_left g (Some slot) (Waiting other known reads) all = all

-- a run whose formula has come to its end
pub ended_turn : (old new : states.Seen) (answers : Hosts → Type 0) (n : ℕ) (p : Phase) (visited : List ℕ) (f : Open) → AreReadsGiven old (phase_reads p) →
    HasGoneOn old new n p (phase_of f.doing f.learnt) true → HasEnded (standing old.state.signals n) f →
    HasTurned old new answers (record { name = n; phase = p }) visited (Ends (evaluation_of f.learnt.reads f.outcome))
ended_turn old new answers n p visited f given on ended =
    let w = old.state.signals in
    let k = old.state.memos in
    let over = passed_over w k visited in
    let known = f.learnt.known in
    let reads = f.learnt.reads in
    let mv : Move = Ends (evaluation_of reads f.outcome) in
    let run : phase_on p on.more on.left ≡ Running known reads = sym on.phase ∙ ended.runs in
    let steps = on.stays.steps in
    let one : turn_steps w k (evaluating old.state) visited n (phase_on p on.more on.left) mv ≡ 1 = ap (λ q. turn_steps w k (evaluating old.state) visited n q mv) run in
    record {
      more = on.more;
      left = on.left;
      next = on.next;
      leaves = on.leaves;
      on = on.given given;
      turn = λ hosts all. ended_move f.outcome known reads
          ∙ ap (λ (s : Step). answered s known reads) ((end_answer (standing w n) known Ended f.outcome refl ended.answer).1 hosts)
          ∙ ap (λ q. move_by hosts w k (evaluating old.state) over n q) (sym run);
      some = subst (λ q. IsMove w k (evaluating old.state) over n q mv) (sym run) (record {
        answer = step_by None f.outcome;
        judged = ended_judged f.outcome (length (slots_here (standing w n))) known;
        move = ended_move f.outcome known reads;
      });
      given = subst (λ q. AreReadsGiven old (phase_reads q)) run (reads_left old on.left (phase_after p on.more) (on.given given));
      progress = inr on.stays.progress;
      stays = record {
        signals = on.stays.signals;
        memos = on.stays.memos;
        progress = refl;
        worn = on.stays.worn;
        seats = on.stays.seats;
        given = on.stays.given;
        steps = omega (arith, steps, one);
      };
    }

-- what a phase leaves of the progress is what its move leaves
progress_asked : (n : ℕ) (p : Phase) (mv : Move) (old new : List Progress) → new ≡ progress_by n p old → IsProgressBy n p mv old new
progress_asked n p (GoesOn q) old new e = e
progress_asked n p (Needs m q) old new e = e
progress_asked n p Stops old new e = e
progress_asked n p (Ends r) old new e = inl e

-- any other turn
pub gone_turn : (old mid new : states.Seen) (answers : Hosts → Type 0) (n m : ℕ) (p q : Phase) (visited : List ℕ) (mv : Move) → AreReadsGiven old (phase_reads p) →
    HasGoneOn old mid n p q false → m ≡ n →
    ((hosts : Hosts) → answers hosts →
    mv ≡ move_by hosts mid.state.signals mid.state.memos (evaluating mid.state) (passed_over mid.state.signals mid.state.memos visited) m q) →
    IsMove mid.state.signals mid.state.memos (evaluating mid.state) (passed_over mid.state.signals mid.state.memos visited) m q mv → AreReadsGiven mid (move_reads mv) →
    Stays mid new (progress_by m q mid.state.progress) (turn_steps mid.state.signals mid.state.memos (evaluating mid.state) visited m q mv) →
    HasTurned old new answers (record { name = n; phase = p }) visited mv
gone_turn old mid new answers n m p q visited mv given on same turn some reads s =
    let a = on.stays in
    let ev = evaluating_stays old mid (steps_on p on.more on.left + 0) a in
    let steps : turn_steps mid.state.signals mid.state.memos (evaluating mid.state) visited m q mv
    ≡ turn_steps old.state.signals old.state.memos (evaluating old.state) visited n (phase_on p on.more on.left) mv =
    (λ i. turn_steps (a.signals i) (a.memos i) (ev i) visited (same i) (on.phase i) mv) in
    let first = a.steps in
    let second = s.steps in
    record {
      more = on.more;
      left = on.left;
      next = on.next;
      leaves = on.leaves;
      on = on.given given;
      turn = λ hosts all. turn hosts all ∙ (λ i. move_by hosts (a.signals i) (a.memos i) (ev i) (passed_over (a.signals i) (a.memos i) visited) (same i) (on.phase i));
      some = subst (λ z. z) (λ i. IsMove (a.signals i) (a.memos i) (ev i) (passed_over (a.signals i) (a.memos i) visited) (same i) (on.phase i) mv) some;
      given = given_stays mid old (move_reads mv) (sym a.given) reads;
      progress = progress_asked n (phase_on p on.more on.left) mv old.state.progress new.state.progress
          (s.progress ∙ (λ i. progress_by (same i) (on.phase i) (a.progress i)));
      stays = record {
        signals = s.signals ∙ a.signals;
        memos = s.memos ∙ a.memos;
        progress = refl;
        worn = s.worn ∙ a.worn;
        seats = s.seats ∙ a.seats;
        given = s.given ∙ a.given;
        steps = omega (arith, first, second, steps);
      };
    }

-- what was asked then, where a formula has come to its end
pub ended_asked : (old new : states.Seen) (n : ℕ) (p : Phase) (ended : Bool) (f : Open) (asked : List HostPlace) →
    HasGoneOn old new n p (phase_of f.doing f.learnt) ended → HasEnded (standing old.state.signals n) f → asked ≡ places_by (standing old.state.signals n) p asked
ended_asked old new n p ended f asked on end =
    let st = standing old.state.signals n in
    unasked (host_here st) asked (end_answer st f.learnt.known Ended f.outcome refl end.answer).0
    ∙ sym (places_on old.state n p on.more on.left asked on.next on.leaves ∙ ap (λ q. places_by st q asked) (sym on.phase ∙ end.runs))

-- and in any other turn
pub gone_asked : (old mid : states.Seen) (n m : ℕ) (p q : Phase) (ended : Bool) (asked : List HostPlace) → HasGoneOn old mid n p q ended → m ≡ n →
    places_by (standing mid.state.signals m) q asked ≡ places_by (standing old.state.signals n) p asked
gone_asked old mid n m p q ended asked on same =
    (λ i. places_by (standing (on.stays.signals i) (same i)) (on.phase i) asked) ∙ sym (places_on old.state n p on.more on.left asked on.next on.leaves)
