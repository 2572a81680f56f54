-- What the frames of a stack have in the graph, and what a step leaves of it.
use Rattle.std.proofs.Common.{◌≡◌, ℕ, suc, ◌+◌, ◌≤◌, ◌==◌, ◌||◌, ◌&&◌, not, Bool, true, false, cond, List, [], ◌∷◌, ◌++◌, length, take}
use Rattle.std.proofs.Common.{Some, None, refl, sym, ap, ◌∙◌, subst, arith, inl, inr}
use Rattle.std.specs.Prelude.{is_some}
use Rattle.std.proofs.Math.Seq.{take-length}
use Rattle.std.proofs.lemmas.List.{length-take, take-append-le}
use Rattle.std.proofs.lemmas.List.Elements.{All-cons, All-nil, All-map, All-weaker}
use Rattle.std.specs.List.{All}
use Rattle.std.proofs.lemmas.Bool.{eqb-true}
use Rattle.sig_base.specs.declared.value.Known.{Known}
use Rattle.sig_base.specs.declared.value.Step.{Step}
use Rattle.sig_base.specs.declared.value.Step.TheVariants.{Read, Done, Fail}
use Rattle.sig_base.specs.declared.value.Outcome.{Outcome}
use Rattle.sig_base.specs.declared.value.Outcome.TheVariants.{Good, Bad}
use Rattle.signal_model.specs.Recipes.{IsJudged, IsUnknownSlot}
use Rattle.signal_model.specs.Signals.{Computed, Stands, IsGone, IsCell, IsComputed, is_computed, is_in, standing}
use Rattle.signal_model.specs.Values.{Seen, learnt, unknown_slots}
use Rattle.signal_model.specs.Asks.{good_reads}
use Rattle.signal_model.specs.Memos.{Source, Memos, is_moved, is_stale}
use Rattle.signal_model.specs.Sound.{names_of, standing_outcome}
use Rattle.signal_model.proofs.Shared.{tested, unknown_less}
use Rattle.signal_laws.proofs.Shared.{in_head, or_fst, or_snd}
use Rattle.sig_nodes.specs.Answers.{slots_here}
use Rattle.sig_graph.specs.States as states
use Rattle.sig_graph.specs.States.{Progress, progress_at, is_computing, is_given}
use Rattle.sig_graph.proofs.Shared.{given_same}
use Rattle.sig_computed.specs.Steps.{Phase, Looking, LookedAt, Running, Waiting, Frame, frame_names, new_frame, is_ready, ready_outcome}
use Rattle.sig_computed.specs.Steps.{Move, GoesOn, Needs, Stops, Ends, looked, slot_read, answered}
use Rattle.sig_computed.proofs.StepsEnd.{few_unknown}
use Rattle.sig_computed.proofs.StepsHold.{unready}
use Rattle.sig_computed.specs.Notes.{Note, AreNotesGiven, IsNoteGiven}
use Rattle.sig_computed.specs.Views.{evaluating, progressed, or_cycle, Stays}
use Rattle.sig_computed.specs.Turns.{evaluation_note, notes_of, waits, phase_known, phase_reads, move_reads, progress_by, stack_after, AreReadsGiven, HasSlot, Fits, AreFit, IsProgressBy}
use Rattle.sig_computed.specs.Turns.{CanMove, IsAnswered, IsMove, IsMoved, HasFirst}
use Rattle.sig_computed.proofs.Asks.{reads_more}
use Rattle.sig_computed.proofs.Progresses.{in_evaluating, progress_other, progress_same, progress_ended}

-- reads that were given are given still
pub given_stays : (g h : states.Seen) (reads : List Seen) → h.given ≡ g.given → AreReadsGiven g reads → AreReadsGiven h reads
given_stays g h reads same all =
    All-weaker (λ (r : Seen). is_given g r.name ≡ true) (λ r. is_given h r.name ≡ true) (λ r on. given_same g h r.name same ∙ on) reads all

-- so were the names of what was read
pub names_given : (g : states.Seen) (reads : List Seen) → AreReadsGiven g reads → All (λ n. is_given g n ≡ true) (names_of reads)
names_given g reads all = All-map (λ n. is_given g n ≡ true) (λ (s : Seen). s.name) reads all

-- nothing was read
none_given : (g : states.Seen) → AreReadsGiven g []
none_given g = All-nil (λ (r : Seen). is_given g r.name ≡ true)

-- the computed that stands
computed_there : (st : Stands) → is_computed st ≡ true → (c : Computed) × (st ≡ IsComputed c)
computed_there IsGone e = cc
computed_there (IsCell d) e = cc
computed_there (IsComputed d) e = (d, refl)

-- a new frame fits
pub new_fits : (g : states.Seen) (k : Memos) (n : ℕ) (c : Computed) → standing g.state.signals n ≡ IsComputed c →
    progress_at n g.state.progress ≡ Some [] → Fits g (new_frame k n)
new_fits g k n c stands begun = go (is_stale k n)
  where
    none : 0 + unknown_slots (length c.recipe.slots) [] ≤ length c.recipe.slots
    none = let few : unknown_slots (length c.recipe.slots) [] ≤ length c.recipe.slots = few_unknown (length c.recipe.slots) [] in omega (arith, few)

    go : (b : Bool) → Fits g (record { name = n; phase = cond b (Running [] []) (Looking 0) })
    go true = record { computed = c; stands = stands; earlier = []; begun = begun; known = refl; slot = tt; few = none; given = none_given g }
    go false = record { computed = c; stands = stands; earlier = []; begun = begun; known = refl; slot = tt; few = none; given = none_given g }

-- ---- what stays

module _ (g h : states.Seen) (signals : h.state.signals ≡ g.state.signals) (given : h.given ≡ g.given) where
  -- a frame fits still where its computed's progress stays
  pub fits_stays : (f : Frame) → progress_at f.name h.state.progress ≡ progress_at f.name g.state.progress → Fits g f → Fits h f
  fits_stays f same fit = record {
    computed = fit.computed;
    stands = ap (λ w. standing w f.name) signals ∙ fit.stands;
    earlier = fit.earlier;
    begun = same ∙ fit.begun;
    known = fit.known;
    slot = fit.slot;
    few = fit.few;
    given = given_stays g h (phase_reads f.phase) given fit.given;
  }

  -- so do the frames of others than n
  pub stack_stays : (n : ℕ) (fs : List Frame) → is_in n (frame_names fs) ≡ false →
      ((m : ℕ) → (m == n) ≡ false → progress_at m h.state.progress ≡ progress_at m g.state.progress) → AreFit g fs → AreFit h fs
  stack_stays n [] off same fit = tt
  stack_stays n (f ∷ fs) off same fit =
      let away : (f.name == n) ≡ false = elim (tested (f.name == n)) [
        | inr z ↦ z
        | inl z ↦ cc (sym (in_head n (frame_names fs)) ∙ ap (λ y. is_in n (y ∷ frame_names fs)) (sym (eqb-true f.name n z)) ∙ off)
      ] in (fits_stays f (same f.name away) fit.0, fit.1, stack_stays n fs (or_snd (n == f.name) (is_in n (frame_names fs)) off) same fit.2)

-- ---- a step of the innermost frame

-- the frame in its next phase fits
abbrev pub MoveFits : states.Seen → ℕ → Move → Type 0
MoveFits g n (GoesOn p) = Fits g (record { name = n; phase = p })
MoveFits g n (Needs s p) = Fits g (record { name = n; phase = p })
MoveFits g n Stops = Unit {0}
MoveFits g n (Ends e) = Unit {0}

-- some of what is known is some of what is known then
pub known_more : (l : List Known) (known more : List Known) → take (length l) known ≡ l → take (length l) (known ++ more) ≡ l
known_more l known more h =
    let n : length (take (length l) known) ≡ length l = ap length h in
    let le : length l ≤ length known = short (length l) known n in
    take-append-le (length l) known more le ∙ h
  where
    short : (i : ℕ) (k : List Known) → length (take i k) ≡ i → i ≤ length k
    short i k e = let m = length-take i k in omega (arith, e, m)

module _ (g : states.Seen) (f : Frame) (fit : Fits g f) where
  -- it fits in another phase
  moves_on : (p : Phase) → take (length fit.earlier) (phase_known p) ≡ fit.earlier → HasSlot (length fit.computed.recipe.slots) p →
      good_reads (phase_reads p) + unknown_slots (length fit.computed.recipe.slots) (phase_known p) ≤ length fit.computed.recipe.slots →
      AreReadsGiven g (phase_reads p) → Fits g (record { name = f.name; phase = p })
  moves_on p known slot few given = record {
    computed = fit.computed;
    stands = fit.stands;
    earlier = fit.earlier;
    begun = fit.begun;
    known = known;
    slot = slot;
    few = few;
    given = given;
  }

  -- nothing was read yet
  none_few : 0 + unknown_slots (length fit.computed.recipe.slots) [] ≤ length fit.computed.recipe.slots
  none_few =
      let few : unknown_slots (length fit.computed.recipe.slots) [] ≤ length fit.computed.recipe.slots = few_unknown (length fit.computed.recipe.slots) [] in
      omega (arith, few)

  -- what isn't ready can be begun
  can_need : (s : ℕ) (visited : Bool) → is_ready (standing g.state.signals s) (is_in s (evaluating g.state)) visited ≡ false →
      (is_computed (standing g.state.signals s) ≡ true) × (is_computing g.state s ≡ false)
  can_need s visited r =
      let u = unready (standing g.state.signals s) (is_in s (evaluating g.state)) visited r in
      (ap is_computed u.1, sym (in_evaluating g.state s) ∙ u.2)

  module _ (none : take (length fit.earlier) [] ≡ fit.earlier) (k : Memos) (visited : List ℕ) (cycle : Bool) (place : ℕ) where
    -- a look
    look_moves : (l : List Source) → MoveFits g f.name (looked g.state.signals k (evaluating g.state) visited cycle place l)
    look_moves [] = tt
    look_moves (s ∷ ss) =
        go (is_ready (standing g.state.signals s.name) (is_in s.name (evaluating g.state)) (is_in s.name visited))
        (not cycle && is_moved k (evaluating g.state) s)
      where
        go : (a b : Bool) → MoveFits g f.name
            (cond a (cond b (GoesOn (Running [] [])) (GoesOn (Looking (place + 1)))) (Needs s.name (LookedAt place)))
        go true true = moves_on (Running [] []) none tt none_few (none_given g)
        go true false = moves_on (Looking (place + 1)) none tt none_few (none_given g)
        go false b = moves_on (LookedAt place) none tt none_few (none_given g)

    look_can : (l : List Source) → CanMove g (looked g.state.signals k (evaluating g.state) visited cycle place l)
    look_can [] = tt
    look_can (s ∷ ss) =
        go (is_ready (standing g.state.signals s.name) (is_in s.name (evaluating g.state)) (is_in s.name visited)) refl
        (not cycle && is_moved k (evaluating g.state) s)
      where
        go : (a : Bool) → is_ready (standing g.state.signals s.name) (is_in s.name (evaluating g.state)) (is_in s.name visited) ≡ a → (b : Bool) →
            CanMove g (cond a (cond b (GoesOn (Running [] [])) (GoesOn (Looking (place + 1)))) (Needs s.name (LookedAt place)))
        go true r true = tt
        go true r false = tt
        go false r b = can_need s.name (is_in s.name visited) r

  module _ (k : Memos) (visited : List ℕ) (slot : ℕ) (known : List Known) (reads : List Seen) (unknown : IsUnknownSlot (length fit.computed.recipe.slots) slot known)
      (few : good_reads reads + unknown_slots (length fit.computed.recipe.slots) known ≤ length fit.computed.recipe.slots) (some : take (length fit.earlier) known ≡ fit.earlier) where
    -- a slot that was waited for
    wait_moves : (m : ℕ) → AreReadsGiven g (move_reads (waits g.state.signals k (evaluating g.state) visited slot m known reads)) →
        MoveFits g f.name (waits g.state.signals k (evaluating g.state) visited slot m known reads)
    wait_moves m =
        go (is_ready (standing g.state.signals m) (is_in m (evaluating g.state)) (is_in m visited))
        (or_cycle (ready_outcome (standing g.state.signals m) (is_in m (evaluating g.state)) (standing_outcome g.state.signals k m)))
      where
        go : (b : Bool) (o : Outcome) →
            AreReadsGiven g (move_reads (cond b (slot_read slot m (Some o) known reads) (Needs m (Waiting slot known reads)))) →
            MoveFits g f.name (cond b (slot_read slot m (Some o) known reads) (Needs m (Waiting slot known reads)))
        go true (Good v) all =
            moves_on (Running (learnt known slot v) (reads ++ record { name = m; outcome = Good v } ∷ []))
            (known_more fit.earlier known (record { slot = slot; value = v } ∷ []) some) tt
            (let less : unknown_slots (length fit.computed.recipe.slots) known ≡ suc (unknown_slots (length fit.computed.recipe.slots) (learnt known slot v)) =
            unknown_less (length fit.computed.recipe.slots) slot v known unknown in
            let more : good_reads (reads ++ record { name = m; outcome = Good v } ∷ []) ≡ good_reads reads + 1 =
            reads_more reads (record { name = m; outcome = Good v }) in
            omega (arith, less, more, few)) all
        go true (Bad z) all = tt
        go false o all = moves_on (Waiting slot known reads) some unknown few all

    wait_can : (m : ℕ) → AreReadsGiven g (move_reads (waits g.state.signals k (evaluating g.state) visited slot m known reads)) →
        CanMove g (waits g.state.signals k (evaluating g.state) visited slot m known reads)
    wait_can m =
        go (is_ready (standing g.state.signals m) (is_in m (evaluating g.state)) (is_in m visited)) refl
        (or_cycle (ready_outcome (standing g.state.signals m) (is_in m (evaluating g.state)) (standing_outcome g.state.signals k m)))
      where
        go : (b : Bool) → is_ready (standing g.state.signals m) (is_in m (evaluating g.state)) (is_in m visited) ≡ b → (o : Outcome) →
            AreReadsGiven g (move_reads (cond b (slot_read slot m (Some o) known reads) (Needs m (Waiting slot known reads)))) →
            CanMove g (cond b (slot_read slot m (Some o) known reads) (Needs m (Waiting slot known reads)))
        go true r (Good v) all = tt
        go true r (Bad z) all = all
        go false r o all = can_need m (is_in m visited) r

-- an answer, where the graph has noted what the recipe was asked with
module _ (g : states.Seen) (n : ℕ) (c : Computed) (stands : standing g.state.signals n ≡ IsComputed c) (known : List Known) (reads : List Seen)
    (noted : progress_at n g.state.progress ≡ Some known) (few : good_reads reads + unknown_slots (length c.recipe.slots) known ≤ length c.recipe.slots)
    (given : AreReadsGiven g reads) where
  answer_moves : (st : Step) → IsJudged (length c.recipe.slots) known st → MoveFits g n (answered st known reads)
  answer_moves (Done v) j = tt
  answer_moves (Fail e) j = tt
  answer_moves (Read s) j = record {
    computed = c;
    stands = stands;
    earlier = known;
    begun = noted;
    known = take-length known;
    slot = j;
    few = few;
    given = given;
  }

  answer_can : (st : Step) → CanMove g (answered st known reads)
  answer_can (Done v) = given
  answer_can (Fail e) = given
  answer_can (Read s) = tt

-- a move that can be made can be made still
can_stays : (g h : states.Seen) → h.state.signals ≡ g.state.signals → h.state.progress ≡ g.state.progress →
    h.given ≡ g.given → (mv : Move) → CanMove g mv → CanMove h mv
can_stays g h signals progress given (GoesOn p) can = tt
can_stays g h signals progress given (Needs s p) can =
    (ap (λ w. is_computed (standing w s)) signals ∙ can.0, ap (λ ps. is_some (progress_at s ps)) progress ∙ can.1)
can_stays g h signals progress given Stops can = tt
can_stays g h signals progress given (Ends e) can = given_stays g h e.reads given can

-- and its frame fits still
move_stays : (g h : states.Seen) → h.state.signals ≡ g.state.signals → h.state.progress ≡ g.state.progress →
    h.given ≡ g.given → (n : ℕ) (mv : Move) → MoveFits g n mv → MoveFits h n mv
move_stays g h signals progress given n (GoesOn p) fit = fits_stays g h signals given (record { name = n; phase = p }) (ap (progress_at n) progress) fit
move_stays g h signals progress given n (Needs s p) fit = fits_stays g h signals given (record { name = n; phase = p }) (ap (progress_at n) progress) fit
move_stays g h signals progress given n Stops fit = tt
move_stays g h signals progress given n (Ends e) fit = tt

-- What holds once the innermost frame has come to a move, and before it is made.
pub record HasMove (g : states.Seen) (n : ℕ) (fs : List Frame) (mv : Move) : Type 0 where
  pub computed : Computed
  pub stands : standing g.state.signals n ≡ IsComputed computed
  pub computing : is_computing g.state n ≡ true
  pub fits : MoveFits g n mv
  pub can : CanMove g mv
  pub off : is_in n (frame_names fs) ≡ false
  pub rest : AreFit g fs
  pub idle : (m : ℕ) → is_in m (n ∷ frame_names fs) ≡ false → is_computing g.state m ≡ false

-- a computed with progress is being evaluated
some_computing : (g : states.Seen) (n : ℕ) (l : List Known) → progress_at n g.state.progress ≡ Some l → is_computing g.state n ≡ true
some_computing g n l e = ap is_some e

-- the progress told otherwise
progress_told : {g h : states.Seen} {ps qs : List Progress} {most : ℕ} → Stays g h qs most → h.state.progress ≡ ps → Stays g h ps most
progress_told s e = record { signals = s.signals; memos = s.memos; progress = e; worn = s.worn; seats = s.seats; given = s.given; steps = s.steps }

module _ (g h : states.Seen) (f : Frame) (fs : List Frame) (fit : AreFit g (f ∷ fs))
    (idle : (m : ℕ) → is_in m (frame_names (f ∷ fs)) ≡ false → is_computing g.state m ≡ false) where
  -- a frame that has looked or waited
  quiet_turn : {most : ℕ} → Stays g h g.state.progress most → (mv : Move) → MoveFits g f.name mv → CanMove g mv → HasMove h f.name fs mv
  quiet_turn s mv fits can = record {
    computed = fit.0.computed;
    stands = ap (λ w. standing w f.name) s.signals ∙ fit.0.stands;
    computing = ap (λ ps. is_some (progress_at f.name ps)) s.progress ∙ some_computing g f.name fit.0.earlier fit.0.begun;
    fits = move_stays g h s.signals s.progress s.given f.name mv fits;
    can = can_stays g h s.signals s.progress s.given mv can;
    off = fit.1;
    rest = stack_stays g h s.signals s.given f.name fs fit.1 (λ m off. ap (progress_at m) s.progress) fit.2;
    idle = λ m off. ap (λ ps. is_some (progress_at m ps)) s.progress ∙ idle m off;
  }

  -- one that has asked its recipe
  asked_turn : {most : ℕ} (known : List Known) (reads : List Seen) →
      good_reads reads + unknown_slots (length fit.0.computed.recipe.slots) known ≤ length fit.0.computed.recipe.slots → AreReadsGiven g reads → Stays g h (progressed f.name (Some known) g.state.progress) most → (mv : Move) →
      IsAnswered (slots_here (standing g.state.signals f.name)) known reads mv → HasMove h f.name fs mv
  asked_turn known reads few given s mv a =
      let stands : standing h.state.signals f.name ≡ IsComputed fit.0.computed = ap (λ w. standing w f.name) s.signals ∙ fit.0.stands in
      let on : is_some (progress_at f.name g.state.progress) ≡ true = some_computing g f.name fit.0.earlier fit.0.begun in
      let noted : progress_at f.name h.state.progress ≡ Some known =
      ap (progress_at f.name) s.progress ∙ progress_same f.name (Some known) g.state.progress on in
      let given' : AreReadsGiven h reads = given_stays g h reads s.given given in
      let judged : IsJudged (length fit.0.computed.recipe.slots) known a.answer =
      subst (λ st. IsJudged (length (slots_here st)) known a.answer) fit.0.stands a.judged in
      let other : (m : ℕ) → (m == f.name) ≡ false → progress_at m h.state.progress ≡ progress_at m g.state.progress =
      λ m off. ap (progress_at m) s.progress ∙ progress_other f.name m (Some known) g.state.progress off in
      record {
        computed = fit.0.computed;
        stands = stands;
        computing = some_computing h f.name known noted;
        fits = subst (MoveFits h f.name) (sym a.move) (answer_moves h f.name fit.0.computed stands known reads noted few given' a.answer judged);
        can = subst (CanMove h) (sym a.move) (answer_can h f.name fit.0.computed stands known reads noted few given' a.answer);
        off = fit.1;
        rest = stack_stays g h s.signals s.given f.name fs fit.1 other fit.2;
        idle = λ m off. ap is_some (other m (or_fst (m == f.name) (is_in m (frame_names fs)) off)) ∙ idle m off;
      }

  -- any
  after_turn : {most : ℕ} (visited : List ℕ) (p : Phase) → f.phase ≡ p → (mv : Move) →
      IsMove g.state.signals g.state.memos (evaluating g.state) visited f.name p mv → AreReadsGiven g (move_reads mv) →
      Stays g h (progress_by f.name p g.state.progress) most → HasMove h f.name fs mv
  after_turn visited (Looking place) e mv is given s =
      let none : take (length fit.0.earlier) [] ≡ fit.0.earlier = ap (λ x. take (length fit.0.earlier) (phase_known x)) (sym e) ∙ fit.0.known in
      quiet_turn s mv (subst (MoveFits g f.name) (sym is) (look_moves g f fit.0 none g.state.memos visited _ place _))
      (subst (CanMove g) (sym is) (look_can g f fit.0 none g.state.memos visited _ place _))
  after_turn visited (LookedAt place) e mv is given s =
      let none : take (length fit.0.earlier) [] ≡ fit.0.earlier = ap (λ x. take (length fit.0.earlier) (phase_known x)) (sym e) ∙ fit.0.known in
      quiet_turn s mv (subst (MoveFits g f.name) (sym is) (look_moves g f fit.0 none g.state.memos visited _ place _))
      (subst (CanMove g) (sym is) (look_can g f fit.0 none g.state.memos visited _ place _))
  after_turn visited (Running known reads) e mv is given s =
      let all : AreReadsGiven g reads = subst (λ x. AreReadsGiven g (phase_reads x)) e fit.0.given in
      let few : good_reads reads + unknown_slots (length fit.0.computed.recipe.slots) known ≤ length fit.0.computed.recipe.slots =
      subst (λ x. good_reads (phase_reads x) + unknown_slots (length fit.0.computed.recipe.slots) (phase_known x) ≤ length fit.0.computed.recipe.slots) e fit.0.few in
      asked_turn known reads few all s mv is
  after_turn visited (Waiting slot known reads) e mv is given s =
      let some : take (length fit.0.earlier) known ≡ fit.0.earlier = ap (λ x. take (length fit.0.earlier) (phase_known x)) (sym e) ∙ fit.0.known in
      let unknown : IsUnknownSlot (length fit.0.computed.recipe.slots) slot known = subst (HasSlot (length fit.0.computed.recipe.slots)) e fit.0.slot in
      let few : good_reads reads + unknown_slots (length fit.0.computed.recipe.slots) known ≤ length fit.0.computed.recipe.slots =
      subst (λ x. good_reads (phase_reads x) + unknown_slots (length fit.0.computed.recipe.slots) (phase_known x) ≤ length fit.0.computed.recipe.slots) e fit.0.few in
      let given' = subst (λ x. AreReadsGiven g (move_reads x)) is given in
      quiet_turn s mv
      (subst (MoveFits g f.name) (sym is) (wait_moves g f fit.0 g.state.memos visited slot known reads unknown few some _ given'))
      (subst (CanMove g) (sym is) (wait_can g f fit.0 g.state.memos visited slot known reads unknown few some _ given'))

  -- the same, where a run that ends may have come to its end without asking
  pub after_turned : {most : ℕ} (visited : List ℕ) (mv : Move) → IsMove g.state.signals g.state.memos (evaluating g.state) visited f.name f.phase mv →
      AreReadsGiven g (move_reads mv) → IsProgressBy f.name f.phase mv g.state.progress h.state.progress → Stays g h h.state.progress most → HasMove h f.name fs mv
  after_turned visited (GoesOn p) is given e s = after_turn visited f.phase refl (GoesOn p) is given (progress_told s e)
  after_turned visited (Needs n p) is given e s = after_turn visited f.phase refl (Needs n p) is given (progress_told s e)
  after_turned visited Stops is given e s = after_turn visited f.phase refl Stops is given (progress_told s e)
  after_turned visited (Ends r) is given (inl e) s = after_turn visited f.phase refl (Ends r) is given (progress_told s e)
  after_turned visited (Ends r) is given (inr e) s = quiet_turn (progress_told s e) (Ends r) tt given

-- ---- the move is made

-- what holds of the frames once the move is made
pub record HasStack (g : states.Seen) (fs : List Frame) : Type 0 where
  pub fits : AreFit g fs
  pub idle : (m : ℕ) → is_in m (frame_names fs) ≡ false → is_computing g.state m ≡ false

-- what isn't being evaluated isn't among the frames
frame_computing : (g : states.Seen) (fs : List Frame) (m : ℕ) → AreFit g fs → is_in m (frame_names fs) ≡ true → is_computing g.state m ≡ true
frame_computing g [] m fit on = cc
frame_computing g (f ∷ fs) m fit on = go (m == f.name) refl on (frame_computing g fs m fit.2)
  where
    go : (b : Bool) → (m == f.name) ≡ b → (b || is_in m (frame_names fs)) ≡ true →
        (is_in m (frame_names fs) ≡ true → is_computing g.state m ≡ true) → is_computing g.state m ≡ true
    go true e q more = ap (is_computing g.state) (eqb-true m f.name e) ∙ some_computing g f.name fit.0.earlier fit.0.begun
    go false e q more = more q

-- the frames are those that are being evaluated
pub frames_are : (g : states.Seen) (fs : List Frame) → HasStack g fs → (m : ℕ) → is_in m (evaluating g.state) ≡ is_in m (frame_names fs)
frames_are g fs h m = in_evaluating g.state m ∙ go (is_in m (frame_names fs)) refl
  where
    go : (b : Bool) → is_in m (frame_names fs) ≡ b → is_computing g.state m ≡ b
    go true e = frame_computing g fs m h.fits e
    go false e = h.idle m e

-- where the innermost computed has come to its end
ended : (g h : states.Seen) (n : ℕ) (fs : List Frame) → is_in n (frame_names fs) ≡ false → AreFit g fs →
    ((m : ℕ) → is_in m (n ∷ frame_names fs) ≡ false → is_computing g.state m ≡ false) → h.state.signals ≡ g.state.signals →
    h.given ≡ g.given → h.state.progress ≡ progressed n None g.state.progress → HasStack h fs
ended g h n fs off rest idle signals given progress = record {
  fits = stack_stays g h signals given n fs off (λ m away. ap (progress_at m) progress ∙ progress_other n m None g.state.progress away) rest;
  idle = λ m out. go m out (m == n) refl;
}
  where
    go : (m : ℕ) → is_in m (frame_names fs) ≡ false → (b : Bool) → (m == n) ≡ b → is_computing h.state m ≡ false
    go m out true e =
        ap (is_computing h.state) (eqb-true m n e) ∙ ap (λ ps. is_some (progress_at n ps)) progress ∙ ap is_some (progress_ended n g.state.progress)
    go m out false e =
        ap (λ ps. is_some (progress_at m ps)) progress ∙ ap is_some (progress_other n m None g.state.progress e)
        ∙ idle m ((λ i. e i || is_in m (frame_names fs)) ∙ out)

-- the move is made
pub after_move : (g h : states.Seen) (k : Memos) (n : ℕ) (fs : List Frame) (mv : Move) → HasMove g n fs mv → IsMoved g h n mv →
    HasStack h (stack_after k n mv fs)
after_move g h k n fs (GoesOn p) x y = record {
  fits = (
    fits_stays g h y.signals y.given (record { name = n; phase = p }) (ap (progress_at n) y.progress) x.fits,
    x.off,
    stack_stays g h y.signals y.given n fs x.off (λ m off. ap (progress_at m) y.progress) x.rest,
  );
  idle = λ m off. ap (λ ps. is_some (progress_at m ps)) y.progress ∙ x.idle m off;
}
after_move g h k n fs (Needs s p) x y =
    let c = computed_there (standing g.state.signals s) x.can.0 in
    let other : (m : ℕ) → (m == s) ≡ false → progress_at m h.state.progress ≡ progress_at m g.state.progress =
    λ m off. ap (progress_at m) y.progress ∙ progress_other s m (Some []) g.state.progress off in
    let out : is_in s (n ∷ frame_names fs) ≡ false = not_frame in
    record {
      fits = (
        new_fits h k s c.0 (ap (λ w. standing w s) y.signals ∙ c.1) y.begun,
        out,
        stack_stays g h y.signals y.given s (record { name = n; phase = p } ∷ fs) out other (x.fits, x.off, x.rest),
      );
      idle = λ m off. ap is_some (other m (or_fst (m == s) (is_in m (n ∷ frame_names fs)) off))
          ∙ x.idle m (or_snd (m == s) (is_in m (n ∷ frame_names fs)) off);
    }
  where
    not_frame : is_in s (n ∷ frame_names fs) ≡ false
    not_frame = elim (tested (is_in s (n ∷ frame_names fs))) [
      | inr z ↦ z
      | inl z ↦ cc (sym (frame_computing g (record { name = n; phase = p } ∷ fs) s (x.fits, x.off, x.rest) z) ∙ x.can.1)
    ]
after_move g h k n fs Stops x y = ended g h n fs x.off x.rest x.idle y.signals y.given y.progress
after_move g h k n fs (Ends e) x y = ended g h n fs x.off x.rest x.idle y.signals y.given y.progress

-- at the beginning
pub first_move : (start g h : states.Seen) (n : ℕ) (fs : List Frame) → ((m : ℕ) → is_computing start.state m ≡ false) →
    is_computed (standing start.state.signals n) ≡ true → Stays start g start.state.progress 1 → fs ≡ new_frame g.state.memos n ∷ [] →
    Stays g h (progressed n (Some []) g.state.progress) 1 → progress_at n h.state.progress ≡ Some [] → HasFirst start h n fs
first_move start g h n fs still there look is s begun =
    let idle : (m : ℕ) → is_computing g.state m ≡ false = λ m. ap (λ ps. is_some (progress_at m ps)) look.progress ∙ still m in
    let live : is_computed (standing g.state.signals n) ≡ true = ap (λ w. is_computed (standing w n)) look.signals ∙ there in
    let one : length fs ≡ 1 = ap length is in
    let a = look.steps in
    let b = s.steps in
    let c = computed_there (standing g.state.signals n) live in
    let stack : HasStack h (new_frame g.state.memos n ∷ []) = record {
      fits = (new_fits h g.state.memos n c.0 (ap (λ w. standing w n) s.signals ∙ c.1) begun, refl, tt);
      idle = λ m off. ap (λ ps. is_some (progress_at m ps)) s.progress
          ∙ ap is_some (progress_other n m (Some []) g.state.progress (or_fst (m == n) false off)) ∙ idle m;
    } in
    let stack' : HasStack h fs = subst (HasStack h) (sym is) stack in
    record {
      signals = s.signals ∙ look.signals;
      memos = s.memos ∙ look.memos;
      worn = s.worn ∙ look.worn;
      seats = s.seats ∙ look.seats;
      given = s.given ∙ look.given;
      steps = omega (arith, a, b, one);
      fits = stack'.fits;
      idle = stack'.idle;
    }

-- ---- notes

-- notes that were given are given still
pub notes_stay : (g h : states.Seen) (ns : List Note) → h.given ≡ g.given → AreNotesGiven g ns → AreNotesGiven h ns
notes_stay g h ns same all = All-weaker (IsNoteGiven g) (IsNoteGiven h) still ns all
  where
    still : (n : Note) → IsNoteGiven g n → IsNoteGiven h n
    still n on = record {
      name = given_same g h n.name same ∙ on.name;
      reads = All-weaker (λ m. is_given g m ≡ true) (λ m. is_given h m ≡ true) (λ m b. given_same g h m same ∙ b) n.reads on.reads;
    }

-- the notes of a move of a computed that was given are given, where what was read was
pub move_given : (g : states.Seen) (n : ℕ) (mv : Move) → is_given g n ≡ true → AreReadsGiven g (move_reads mv) → AreNotesGiven g (notes_of n mv)
move_given g n (GoesOn p) on reads = All-nil (IsNoteGiven g)
move_given g n (Needs s p) on reads = All-nil (IsNoteGiven g)
move_given g n Stops on reads = All-nil (IsNoteGiven g)
move_given g n (Ends e) on reads =
    All-cons (IsNoteGiven g) (evaluation_note n e) [] (record { name = on; reads = names_given g e.reads reads }) (All-nil (IsNoteGiven g))
