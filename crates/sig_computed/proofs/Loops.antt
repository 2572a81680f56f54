-- One turn of the loop.
use Rattle.std.proofs.Common.{◌≡◌, ℕ, ◌+◌, ◌^◌, ◌<◌, ◌≤◌, ◌==◌, ◌||◌, cond, List, ◌∷◌, ◌++◌, map, reverse, length, refl, sym, ap, ◌∙◌, subst, arith}
use Rattle.std.proofs.lemmas.List.{length-append, length-map, length-reverse}
use Rattle.signal_model.specs.Recipes.{Hosts}
use Rattle.signal_model.specs.Kept.{AreGiven, AreKept}
use Rattle.signal_laws.proofs.Shared.{in_append, or_left}
use Rattle.sig_computed.specs.Skips.{clean_among, passed_over}
use Rattle.signal_model.specs.Signals.{is_in, is_there, standing}
use Rattle.signal_model.specs.Memos.{Memos}
use Rattle.signal_model.specs.Asks.{asks_host}
use Rattle.sig_host.specs.Hosts.{HostPlace, count_at, most_asked}
use Rattle.sig_nodes.specs.Answers.{host_here}
use Rattle.sig_graph.specs.HostUse.{HaveFewSlots}
use Rattle.sig_graph.specs.States as states
use Rattle.sig_graph.specs.States.{is_given}
use Rattle.sig_computed.specs.Steps.{Frame, Move, GoesOn, Needs, Stops, Ends, frame_names}
use Rattle.sig_computed.specs.declared.frames.Open.{Open}
use Rattle.sig_computed.specs.declared.frames.Outer.{Outer}
use Rattle.sig_computed.specs.declared.notes.RunNote.{RunNote}
use Rattle.sig_computed.specs.Notes.{Note, note_of, AreNotesGiven}
use Rattle.sig_computed.specs.Views.{evaluating, frame_of, outer_of, tops, Stays}
use Rattle.sig_computed.specs.Asked.{places_by, AreThere, CanAsk}
use Rattle.sig_computed.specs.Turns.{memos_after, move_by, move_reads, move_steps, notes_of, runs_of, stack_after, turn_steps, visited_after, AreReadsGiven, IsMove, IsMoved, IsProgressBy}
use Rattle.sig_computed.proofs.Asks.{can_ask, move_asked, move_counts, phase_asked, phase_asks, places_count, step_asked, HasAsked}
use Rattle.sig_computed.proofs.Stacks.{HasMove, HasStack, after_turned, after_move, frames_are, given_stays, move_given}
use Rattle.sig_computed.proofs.Measure.{work, turn_lowers}
use Rattle.sig_computed.proofs.Wholes.{IsWhole, step_whole}

-- the host formula of a frame can be asked
pub frame_can : (start g : states.Seen) (f : Open) (fs : List Outer) (n : ℕ) (old new : List HostPlace) (before after : ℕ) → g.state.signals ≡ start.state.signals →
    HaveFewSlots start.state.signals → HasStack g (frame_of f ∷ tops fs) → AreThere start.state.signals old → most_asked old < 2 ^ 127 → length fs < 2 ^ 64 → after < 2 ^ 64 →
    HasAsked start.state.signals old new before after (frame_of f ∷ tops fs) → CanAsk (host_here (standing g.state.signals n)) new
frame_can start g f fs n old new before after signals slots frames are room few notes h =
    let a : length (tops fs) ≡ length (reverse fs) = length-map (reverse fs) outer_of in
    let b : length (reverse fs) ≡ length fs = length-reverse fs in
    can_ask g old new n before after (frame_of f ∷ tops fs) (subst HaveFewSlots (sym signals) slots) frames.fits (subst (λ w. AreThere w old) (sym signals) are) room
    (omega (arith, a, b, few)) notes (subst (λ w. HasAsked w old new before after (frame_of f ∷ tops fs)) (sym signals) h)

-- The innermost frame f, within others, has come to a move: the graph g is h by then.
pub record IsTurn (start g h : states.Seen) (f : Frame) (rest : List Frame) (visited : List ℕ) (mv : Move) : Type 0 where
  pub signals : g.state.signals ≡ start.state.signals
  pub frames : HasStack g (f ∷ rest)
  pub some : IsMove g.state.signals g.state.memos (evaluating g.state) (passed_over g.state.signals g.state.memos visited) f.name f.phase mv
  pub given : AreReadsGiven g (move_reads mv)
  pub progress : IsProgressBy f.name f.phase mv g.state.progress h.state.progress
  pub stays : Stays g h h.state.progress (turn_steps g.state.signals g.state.memos (evaluating g.state) visited f.name f.phase mv)

-- The move is made: h is i.
pub record IsMade (h i : states.Seen) (f : Frame) (rest next : List Frame) (visited visited' : List ℕ) (mv : Move) : Type 0 where
  pub stack : next ≡ stack_after h.state.memos f.name mv rest
  pub visits : (m : ℕ) → is_in m visited' ≡ is_in m (visited_after f.name mv visited)
  pub graph : IsMoved h i f.name mv

-- who was visited after a move, where the same were before it
pub visits_same : (n m : ℕ) (mv : Move) (a b : List ℕ) → is_in m a ≡ is_in m b → is_in m (visited_after n mv a) ≡ is_in m (visited_after n mv b)
visits_same n m (GoesOn p) a b e = e
visits_same n m (Needs s p) a b e = e
visits_same n m Stops a b e = ap (λ x. m == n || x) e
visits_same n m (Ends v) a b e = ap (λ x. m == n || x) e

-- the same of a frame whose name is told otherwise
pub made_by : (h i : states.Seen) (f : Frame) (rest next : List Frame) (visited visited' : List ℕ) (mv : Move) (n : ℕ) → n ≡ f.name →
    next ≡ stack_after h.state.memos n mv rest → ((m : ℕ) → is_in m visited' ≡ is_in m (visited_after n mv visited)) → IsMoved h i n mv →
    IsMade h i f rest next visited visited' mv
made_by h i f rest next visited visited' mv n same stack visits moved = record {
  stack = stack ∙ ap (λ m. stack_after h.state.memos m mv rest) same;
  visits = λ m. visits m ∙ ap (λ x. is_in m (visited_after x mv visited)) same;
  graph = subst (λ x. IsMoved h i x mv) same moved;
}

-- steps of a turn and of its move, where those of the turn are told otherwise
steps_by : (a b c turn turn' more : ℕ) → a ≤ c + turn → b ≤ a + more → turn ≡ turn' → b ≤ c + turn' + more
steps_by a b c turn turn' more x y e = omega (arith, x, y, e)

module _ (start g h : states.Seen) (f : Frame) (rest : List Frame) (visited : List ℕ) (mv : Move) (t : IsTurn start g h f rest visited mv) where
  -- the move takes the asks of its frame along
  counts : phase_asked f.phase + phase_asks f.phase ≡ move_asked mv
  counts = move_counts g.state.signals g.state.memos (evaluating g.state) (passed_over g.state.signals g.state.memos visited) f.name f.phase mv t.some

  -- what the move needs
  pub turn_move : HasMove h f.name rest mv
  turn_move = after_turned g h f rest t.frames.fits t.frames.idle (passed_over g.state.signals g.state.memos visited) mv t.some t.given t.progress t.stays

  -- who is being evaluated
  who : (m : ℕ) → is_in m (evaluating g.state) ≡ is_in m (f.name ∷ frame_names rest)
  who = frames_are g (f ∷ rest) t.frames

  -- the notes of the move are of what was given
  pub turn_given : g.given ≡ start.given → AreGiven (is_given start) start.state.signals start.state.memos → AreNotesGiven start (notes_of f.name mv)
  turn_given same used =
      let stands = ap (λ w. standing w f.name) (sym t.signals) ∙ t.frames.fits.0.stands in
      move_given start f.name mv (used.names f.name (ap is_there stands)) (given_stays g start (move_reads mv) (sym same) t.given)

  module _ (i : states.Seen) (stack' : List Frame) (visited' : List ℕ) (d : IsMade h i f rest stack' visited visited' mv) where
    -- the frames have what they need
    pub turn_frames : HasStack i stack'
    turn_frames = subst (HasStack i) (sym d.stack) (after_move h i h.state.memos f.name rest mv turn_move d.graph)

    -- the same stack, by what was kept before
    stack_is : stack' ≡ stack_after g.state.memos f.name mv rest
    stack_is = d.stack ∙ ap (λ k. stack_after k f.name mv rest) t.stays.memos

    memos_is : i.state.memos ≡ memos_after g.state.memos f.name mv
    memos_is = d.graph.memos ∙ ap (λ k. memos_after k f.name mv) t.stays.memos

    -- the move, over the signals at the start
    move_is : IsMove start.state.signals g.state.memos (evaluating g.state) (passed_over start.state.signals g.state.memos visited) f.name f.phase mv
    move_is = subst (λ x. IsMove x g.state.memos (evaluating g.state) (passed_over x g.state.memos visited) f.name f.phase mv) t.signals t.some

    -- less is left to do
    pub turn_less : work start.state.signals i.state.memos stack' visited'
        < work start.state.signals g.state.memos (f ∷ rest) visited
    turn_less =
        let stands = ap (λ w. standing w f.name) (sym t.signals) ∙ t.frames.fits.0.stands in
        let low : work start.state.signals (memos_after g.state.memos f.name mv) (stack_after g.state.memos f.name mv rest) visited'
        < work start.state.signals g.state.memos (f ∷ rest) visited =
        turn_lowers start.state.signals g.state.memos (evaluating g.state) (passed_over start.state.signals g.state.memos visited) visited
        visited' f rest mv t.frames.fits.0.computed stands t.frames.fits.1 who
        (λ m on. in_append m visited (clean_among start.state.signals g.state.memos start.state.signals.computeds)
        ∙ or_left (is_in m visited) (is_in m (clean_among start.state.signals g.state.memos start.state.signals.computeds)) on) move_is d.visits in
        let a : work start.state.signals i.state.memos stack' visited'
        ≡ work start.state.signals (memos_after g.state.memos f.name mv) (stack_after g.state.memos f.name mv rest) visited' =
        (λ j. work start.state.signals (memos_is j) (stack_is j) visited') in
        omega (arith, low, a)

    -- the steps of the turn and of its move
    steps_more : i.state.looked ≤ g.state.looked + turn_steps start.state.signals g.state.memos (evaluating g.state) visited f.name f.phase mv + move_steps mv
    steps_more =
        let a = t.stays.steps in
        let b = d.graph.steps in
        let same : turn_steps g.state.signals g.state.memos (evaluating g.state) visited f.name f.phase mv
        ≡ turn_steps start.state.signals g.state.memos (evaluating g.state) visited f.name f.phase mv =
        (λ j. turn_steps (t.signals j) g.state.memos (evaluating g.state) visited f.name f.phase mv) in
        steps_by h.state.looked i.state.looked g.state.looked
        (turn_steps g.state.signals g.state.memos (evaluating g.state) visited f.name f.phase mv)
        (turn_steps start.state.signals g.state.memos (evaluating g.state) visited f.name f.phase mv) (move_steps mv) a b same

    -- the whole stays the whole
    pub turn_whole : (hosts : Hosts) (k0 : Memos) (kept0 : AreKept hosts start.state.signals k0) (steps0 : ℕ) (places0 places places' : List HostPlace) (asked : List ℕ) (before after after' : List Note) →
        after' ≡ after ++ notes_of f.name mv → CanAsk (host_here (standing g.state.signals f.name)) places →
        places' ≡ places_by (standing g.state.signals f.name) f.phase places →
        mv ≡ move_by hosts g.state.signals g.state.memos (evaluating g.state) (passed_over g.state.signals g.state.memos visited) f.name f.phase →
        IsWhole hosts start.state.signals k0 kept0 steps0 places0 asked g.state.memos g.state.looked places before after visited (f ∷ rest) →
        IsWhole hosts start.state.signals k0 kept0 steps0 places0 asked i.state.memos i.state.looked places' before after' visited' stack'
    turn_whole hosts k0 kept0 steps0 places0 places places' asked before after after' notes can once is x =
        let stands = ap (λ w. standing w f.name) (sym t.signals) ∙ t.frames.fits.0.stands in
        let is' : mv ≡ move_by hosts start.state.signals g.state.memos (evaluating g.state) (passed_over start.state.signals g.state.memos visited) f.name f.phase =
        is ∙ (λ j. move_by hosts (t.signals j) g.state.memos (evaluating g.state) (passed_over (t.signals j) g.state.memos visited) f.name f.phase) in
        let more : (q : ℕ) → count_at places' q ≡ count_at places q + cond (asks_host q (standing start.state.signals f.name)) (phase_asks f.phase) 0 =
        λ q. ap (λ l. count_at l q) once ∙ places_count (standing g.state.signals f.name) f.phase places q can
        ∙ ap (λ v. count_at places q + cond (asks_host q (standing v f.name)) (phase_asks f.phase) 0) t.signals in
        let y : IsWhole hosts start.state.signals k0 kept0 steps0 places0 asked (memos_after g.state.memos f.name mv) i.state.looked places' before (after ++ notes_of f.name mv)
        visited' (stack_after g.state.memos f.name mv rest) =
        step_whole hosts start.state.signals k0 kept0 steps0 places0 asked g.state.memos g.state.looked i.state.looked places places' before after (evaluating g.state)
        visited visited' f rest mv t.frames.fits.0.computed stands x who is' d.visits steps_more counts more in
        subst (λ z. z)
        (λ j. IsWhole hosts start.state.signals k0 kept0 steps0 places0 asked (sym memos_is j) i.state.looked places' before (sym notes j) visited' (sym stack_is j)) y

    -- what is known of the places
    pub turn_asked : (old new new' : List HostPlace) (before after after' : ℕ) → HaveFewSlots start.state.signals →
        CanAsk (host_here (standing g.state.signals f.name)) new → new' ≡ places_by (standing g.state.signals f.name) f.phase new → after' ≡ after + runs_of mv →
        HasAsked start.state.signals old new before after (f ∷ rest) → HasAsked start.state.signals old new' before after' stack'
    turn_asked old new new' before after after' slots can once runs h =
        let h' : HasAsked g.state.signals old new before after (f ∷ rest) =
        subst (λ v. HasAsked v old new before after (f ∷ rest)) (sym t.signals) h in
        let r : HasAsked g.state.signals old new' before after' (stack_after g.state.memos f.name mv rest) =
        step_asked g g.state.memos f rest mv old new new' before after after' (subst HaveFewSlots (sym t.signals) slots) t.frames.fits.0 counts can once runs h' in
        subst (λ y. HasAsked start.state.signals old new' before after' y) (sym stack_is)
        (subst (λ v. HasAsked v old new' before after' (stack_after g.state.memos f.name mv rest)) t.signals r)

-- as many notes as runs
pub notes_count : (n : ℕ) (mv : Move) (before after : List RunNote) → map note_of after ≡ map note_of before ++ notes_of n mv →
    length after ≡ length before + runs_of mv
notes_count n mv before after e =
    let a : length (map note_of after) ≡ length (map note_of before ++ notes_of n mv) = ap length e in
    let b : length (map note_of before ++ notes_of n mv) ≡ length (map note_of before) + length (notes_of n mv) = length-append (map note_of before) (notes_of n mv) in
    let x : length (map note_of after) ≡ length after = length-map after note_of in
    let y : length (map note_of before) ≡ length before = length-map before note_of in
    let z : length (notes_of n mv) ≡ runs_of mv = go mv in
    omega (arith, a, b, x, y, z)
  where
    go : (m : Move) → length (notes_of n m) ≡ runs_of m
    go (GoesOn p) = refl
    go (Needs s p) = refl
    go Stops = refl
    go (Ends r) = refl
