use Rattle.std.proofs.Common.{◌≡◌, ℕ, ◌+◌, ◌<◌, ◌≤◌, ◌++◌, true, false, List, [], ◌∷◌, map, length, is_some, sym, ap, ◌∙◌, subst, arith}
use Rattle.std.proofs.lemmas.List.{length-map}
use Rattle.std.proofs.lemmas.List.Elements.{All-append, All-same}
use Rattle.signal_model.specs.Signals.{is_computed, is_in, standing}
use Rattle.signal_model.specs.Sound.{standing_outcome}
use Rattle.signal_model.specs.Kept.{AreKept}
use Rattle.signal_model.specs.Settling.{settled}
use Rattle.signal_model.specs.Recipes.{Hosts}
use Rattle.sig_host.specs.Hosts.{HostPlace}
use Rattle.sig_graph.specs.States as states
use Rattle.sig_graph.specs.States.{is_computing}
use Rattle.sig_computed.specs.Steps.{Frame, frame_names}
use Rattle.sig_computed.specs.Notes.{Note, note_of, IsNoteGiven}
use Rattle.sig_computed.specs.Reading.{steps_on}
use Rattle.sig_computed.specs.Scenes.{Scene, Settles}
use Rattle.sig_computed.specs.Turns.{first_stack, notes_of, HasFirst}
use Rattle.sig_computed.specs.Views.{frame_of, held, move_of, tops}
use Rattle.sig_computed.proofs.Stacks.{HasStack, frames_are, notes_stay}
use Rattle.sig_computed.proofs.Progresses.{in_evaluating}
use Rattle.sig_computed.proofs.Asks.{HasAsked, asked_most, exact_places, none_asked}
use Rattle.sig_computed.proofs.Measure.{work}
use Rattle.sig_computed.proofs.Loops.{IsTurn, frame_can, made_by, notes_count, turn_asked, turn_frames, turn_given, turn_less, turn_move, turn_whole, visits_same}
use Rattle.sig_computed.proofs.AfterReads.{asked_on, frame_on, places_on, said_on, turn_on, whole_on, work_on}
use Rattle.sig_computed.proofs.Wholes.{IsWhole, first_whole, last_whole}
use Rattle.sig_computed.proofs.Names.{can_still}
use Rattle.sig_computed.proofs.settler.bring_up.Goals as goal

-- the same of a graph that is the same
first_same : (g h x : states.Seen) (n : ℕ) (fs : List Frame) → g ≡ x → HasFirst g h n fs → HasFirst x h n fs
first_same g h x n fs e first = subst (λ (y : states.Seen). HasFirst y h n fs) e first

settles_same : (old : Scene) (g h : states.Seen) (asked : List HostPlace) (notes : List Note) (before after : Hosts → Type 0) (names : Hosts → List ℕ) → g ≡ h →
    Settles old (record { graph = h; asked = asked; notes = notes }) before after names → Settles old (record { graph = g; asked = asked; notes = notes }) before after names
settles_same old g h asked notes before after names e s =
    subst (λ (y : states.Seen). Settles old (record { graph = y; asked = asked; notes = notes }) before after names) (sym e) s

pub first-going-requires-clause-live : goal.first-going-requires-clause-live
first-going-requires-clause-live g c =
    (λ i. is_computed (standing (c.swap_lists.ensures.graph i).state.signals (c.new-frame.ensures i))) ∙ c.requires.live

pub first-going-requires-clause-idle : goal.first-going-requires-clause-idle
first-going-requires-clause-idle g c = λ m. (λ i. is_computing (c.swap_lists.ensures.graph i).state m) ∙ c.requires.idle m

pub loop-going-init : goal.loop-going-init
loop-going-init g c =
    let swapped = c.swap_lists.ensures.graph in
    let e = first_same c.swap_lists.new.graph c.first-going.new.graph c.args.graph.now _ _ swapped c.first-going.ensures.graph in
    let none : tops c.new-stack.result.items ≡ [] = ap tops c.new-stack.ensures.items in
    let w = c.args.graph.now.state.signals in
    let k = c.args.graph.now.state.memos in
    let here = ap (held c.first-going.result c.first-going.new.frame) none in
    let is = here ∙ c.first-going.ensures.stack ∙ (λ i. first_stack (swapped i).state.signals (swapped i).state.memos (c.new-frame.ensures i)) in
    record {
      signals = e.signals;
      seats = e.seats;
      given = e.given;
      named = λ all. all;
      worn = ap (λ x. x + length c.args.notes.now.items) e.worn;
      frames = subst (HasStack c.first-going.new.graph) (sym here) (record { fits = e.fits; idle = e.idle });
      counted = c.requires.counted;
      answers = λ hosts all. all;
      asked = none_asked w _ (length c.args.notes.now.items) _;
      whole = λ hosts all kept.
          let places : List HostPlace = map (λ p. record { there = is_some p.host; asks = p.count }) c.args.shelf.now.places.items in
          subst (λ x. x)
          (λ i. IsWhole hosts w k kept c.args.graph.now.state.looked places (c.args.id ∷ []) (sym e.memos i) c.first-going.new.graph.state.looked places
          (map note_of c.args.notes.now.items) (map note_of c.args.notes.now.items)
          c.swap_lists.new.self (sym is i))
          (first_whole hosts w k c.args.graph.now.state.looked c.first-going.new.graph.state.looked places c.args.id (map note_of c.args.notes.now.items)
          c.swap_lists.new.self kept (c.swap_lists.ensures.none c.new-visited.ensures)
          c.requires.live
          (subst (λ fs. c.first-going.new.graph.state.looked ≤ c.args.graph.now.state.looked + 1 + length fs) (sym here ∙ is) e.steps));
    }

pub next_turn-requires-clause-fits : goal.next_turn-requires-clause-fits
next_turn-requires-clause-fits g c =
    let i = c.loop-going.invariant in
    let up = ap (λ b. held b c.loop-going.frame (tops c.loop-going.stack.items)) c.loop-going-test.true in
    (subst (HasStack c.loop-going.graph) up i.frames).fits.0

pub next_turn-requires-clause-host : goal.next_turn-requires-clause-host
next_turn-requires-clause-host g c =
    let i = c.loop-going.invariant in
    let up = ap (λ b. held b c.loop-going.frame (tops c.loop-going.stack.items)) c.loop-going-test.true in
    frame_can c.args.graph.now c.loop-going.graph c.loop-going.frame c.loop-going.stack.items c.loop-going.frame.id _ _ (length c.args.notes.now.items) (length c.loop-going.notes.items) i.signals
    c.made-made.ensures.few (subst (HasStack c.loop-going.graph) up i.frames) c.requires.there c.requires.room (omega arith) (omega arith)
    (subst (HasAsked c.args.graph.now.state.signals _ _ (length c.args.notes.now.items) (length c.loop-going.notes.items)) up i.asked)

pub apply-requires-clause-computing : goal.apply-requires-clause-computing
apply-requires-clause-computing g c =
    let i = c.loop-going.invariant in
    let up = ap (λ b. held b c.loop-going.frame (tops c.loop-going.stack.items)) c.loop-going-test.true in
    let f = frame_of c.loop-going.frame in
    let rest = tops c.loop-going.stack.items in
    let mv = move_of c.in_ok-turn.turn c.next_turn.new.frame in
    let e = c.in_ok-turn.ensures.turned in
    subst (λ n. is_computing c.next_turn.new.graph.state n ≡ true) (sym c.in_ok-turn.ensures.id)
    (turn_move c.args.graph.now (said_on c.loop-going.graph (steps_on f.phase e.more e.left)) c.next_turn.new.graph (frame_on f e.more e.left) rest c.loop-going.visited mv
    (turn_on c.args.graph.now c.loop-going.graph c.next_turn.new.graph _ f rest c.loop-going.visited mv i.signals (subst (HasStack c.loop-going.graph) up i.frames) e)).computing

pub apply-requires-clause-can : goal.apply-requires-clause-can
apply-requires-clause-can g c =
    let i = c.loop-going.invariant in
    let up = ap (λ b. held b c.loop-going.frame (tops c.loop-going.stack.items)) c.loop-going-test.true in
    let f = frame_of c.loop-going.frame in
    let rest = tops c.loop-going.stack.items in
    let mv = move_of c.in_ok-turn.turn c.next_turn.new.frame in
    let e = c.in_ok-turn.ensures.turned in
    (turn_move c.args.graph.now (said_on c.loop-going.graph (steps_on f.phase e.more e.left)) c.next_turn.new.graph (frame_on f e.more e.left) rest c.loop-going.visited mv
    (turn_on c.args.graph.now c.loop-going.graph c.next_turn.new.graph _ f rest c.loop-going.visited mv i.signals (subst (HasStack c.loop-going.graph) up i.frames) e)).can

pub loop-going-smaller : goal.loop-going-smaller
loop-going-smaller g c =
    let i = c.loop-going.invariant in
    let up = ap (λ b. held b c.loop-going.frame (tops c.loop-going.stack.items)) c.loop-going-test.true in
    let f = frame_of c.loop-going.frame in
    let rest = tops c.loop-going.stack.items in
    let mv = move_of c.in_ok-turn.turn c.next_turn.new.frame in
    let e = c.in_ok-turn.ensures.turned in
    let said = said_on c.loop-going.graph (steps_on f.phase e.more e.left) in
    let next = held c.in_ok-going.going c.apply.new.frame (tops c.apply.new.stack.items) in
    let less : work c.args.graph.now.state.signals c.apply.new.graph.state.memos next c.apply.new.visited
    < work c.args.graph.now.state.signals c.loop-going.graph.state.memos (frame_on f e.more e.left ∷ rest) c.loop-going.visited =
    turn_less c.args.graph.now said c.next_turn.new.graph (frame_on f e.more e.left) rest c.loop-going.visited mv
    (turn_on c.args.graph.now c.loop-going.graph c.next_turn.new.graph _ f rest c.loop-going.visited mv i.signals (subst (HasStack c.loop-going.graph) up i.frames) e)
    c.apply.new.graph next c.apply.new.visited
    (made_by c.next_turn.new.graph c.apply.new.graph (frame_on f e.more e.left) rest next c.loop-going.visited c.apply.new.visited mv c.next_turn.new.frame.id
    c.in_ok-turn.ensures.id c.in_ok-going.ensures.stack
    (λ m. c.in_ok-going.ensures.visited m ∙ visits_same c.next_turn.new.frame.id m mv c.next_turn.new.visited c.loop-going.visited (c.in_ok-turn.ensures.visited m)) c.in_ok-going.ensures.graph) in
    let most : work c.args.graph.now.state.signals c.loop-going.graph.state.memos (frame_on f e.more e.left ∷ rest) c.loop-going.visited
    ≤ work c.args.graph.now.state.signals c.loop-going.graph.state.memos (f ∷ rest) c.loop-going.visited =
    work_on c.args.graph.now c.loop-going.graph f rest c.loop-going.visited e.more e.left i.signals e.next e.leaves in
    subst (λ fs. work c.args.graph.now.state.signals c.apply.new.graph.state.memos next c.apply.new.visited
    < work c.args.graph.now.state.signals c.loop-going.graph.state.memos fs c.loop-going.visited) (sym up)
    (omega (arith, less, most))

pub loop-going-preserved : goal.loop-going-preserved
loop-going-preserved g c =
    let i = c.loop-going.invariant in
    let up = ap (λ b. held b c.loop-going.frame (tops c.loop-going.stack.items)) c.loop-going-test.true in
    let f = frame_of c.loop-going.frame in
    let rest = tops c.loop-going.stack.items in
    let mv = move_of c.in_ok-turn.turn c.next_turn.new.frame in
    let e = c.in_ok-turn.ensures.turned in
    let s = e.stays in
    let m = c.in_ok-going.ensures.graph in
    let next = held c.in_ok-going.going c.apply.new.frame (tops c.apply.new.stack.items) in
    let stack = subst (HasStack c.loop-going.graph) up i.frames in
    let said = said_on c.loop-going.graph (steps_on f.phase e.more e.left) in
    let on = frame_on f e.more e.left in
    let t : IsTurn c.args.graph.now said c.next_turn.new.graph on rest c.loop-going.visited mv =
    turn_on c.args.graph.now c.loop-going.graph c.next_turn.new.graph _ f rest c.loop-going.visited mv i.signals stack e in
    let d = made_by c.next_turn.new.graph c.apply.new.graph on rest next c.loop-going.visited c.apply.new.visited mv c.next_turn.new.frame.id c.in_ok-turn.ensures.id
    c.in_ok-going.ensures.stack
    (λ m. c.in_ok-going.ensures.visited m ∙ visits_same c.next_turn.new.frame.id m mv c.next_turn.new.visited c.loop-going.visited (c.in_ok-turn.ensures.visited m)) c.in_ok-going.ensures.graph in
    let asked = subst (HasAsked c.args.graph.now.state.signals _ _ (length c.args.notes.now.items) (length c.loop-going.notes.items)) up i.asked in
    let can = frame_can c.args.graph.now c.loop-going.graph c.loop-going.frame c.loop-going.stack.items c.loop-going.frame.id _ _ (length c.args.notes.now.items) (length c.loop-going.notes.items) i.signals
    c.made-made.ensures.few stack c.requires.there c.requires.room (omega arith) (omega arith) asked in
    let places = c.in_ok-turn.ensures.asked ∙ places_on c.loop-going.graph.state c.loop-going.frame.id f.phase e.more e.left _ e.next e.leaves in
    let noted : map note_of c.apply.new.notes.items ≡ map note_of c.loop-going.notes.items ++ notes_of c.loop-going.frame.id mv =
    c.in_ok-going.ensures.notes ∙ ap (λ n. map note_of c.loop-going.notes.items ++ notes_of n mv) c.in_ok-turn.ensures.id in
    let count = notes_count c.loop-going.frame.id mv c.loop-going.notes.items c.apply.new.notes.items noted in
    record {
      signals = m.signals ∙ s.signals ∙ i.signals;
      seats = m.seats ∙ s.seats ∙ i.seats;
      given = m.given ∙ s.given ∙ i.given;
      named = λ all. All-same (IsNoteGiven c.args.graph.now) (map note_of c.apply.new.notes.items)
          (map note_of c.loop-going.notes.items ++ notes_of c.loop-going.frame.id mv) noted
          (All-append (IsNoteGiven c.args.graph.now) (map note_of c.loop-going.notes.items)
          (notes_of c.loop-going.frame.id mv) (i.named all)
          (turn_given c.args.graph.now said c.next_turn.new.graph on rest c.loop-going.visited mv t i.given c.made-made.ensures.used));
      worn = let a = m.worn in let b = s.worn in let x = i.worn in omega (arith, a, b, x, count);
      frames = turn_frames c.args.graph.now said c.next_turn.new.graph on rest c.loop-going.visited mv t c.apply.new.graph next c.apply.new.visited d;
      counted = c.in_ok-turn.ensures.counted;
      answers = λ hosts all. c.in_ok-turn.ensures.answers hosts (i.answers hosts all);
      asked = turn_asked c.args.graph.now said c.next_turn.new.graph on rest c.loop-going.visited mv t c.apply.new.graph next
          c.apply.new.visited d _ _ _ (length c.args.notes.now.items) (length c.loop-going.notes.items) (length c.apply.new.notes.items)
          c.made-made.ensures.few can places count
          (asked_on c.args.graph.now.state.signals _ _ (length c.args.notes.now.items) (length c.loop-going.notes.items) f rest e.more e.left asked);
      whole = λ hosts all kept. turn_whole c.args.graph.now said c.next_turn.new.graph on rest c.loop-going.visited mv t c.apply.new.graph next
          c.apply.new.visited d hosts c.args.graph.now.state.memos kept c.args.graph.now.state.looked _ _ _ (c.args.id ∷ [])
          (map note_of c.args.notes.now.items) (map note_of c.loop-going.notes.items) (map note_of c.apply.new.notes.items) noted
          can places (e.turn hosts (i.answers hosts all))
          (whole_on c.args.graph.now c.loop-going.graph f rest c.loop-going.visited e.more e.left i.signals stack e.next e.leaves hosts c.args.graph.now.state.memos kept
          c.args.graph.now.state.looked _ _ (c.args.id ∷ []) (map note_of c.args.notes.now.items) (map note_of c.loop-going.notes.items)
          (subst (IsWhole hosts c.args.graph.now.state.signals c.args.graph.now.state.memos kept c.args.graph.now.state.looked _ (c.args.id ∷ [])
          c.loop-going.graph.state.memos c.loop-going.graph.state.looked _ (map note_of c.args.notes.now.items) (map note_of c.loop-going.notes.items) c.loop-going.visited) up (i.whole hosts all kept)));
    }

pub returns-clause-value : goal.returns-clause-value
returns-clause-value g c = λ hosts all kept.
    let w = c.args.graph.now.state.signals in
    let i = c.loop-going.invariant in
    let none = ap (λ b. held b c.loop-going.frame (tops c.loop-going.stack.items)) c.loop-going-test.false in
    let x = last_whole hosts w c.args.graph.now.state.memos c.loop-going.graph.state.memos c.args.graph.now.state.looked c.loop-going.graph.state.looked _ _ c.args.id
    (map note_of c.args.notes.now.items) (map note_of c.loop-going.notes.items) c.loop-going.visited
    (held c.loop-going.going c.loop-going.frame (tops c.loop-going.stack.items)) kept none (i.whole hosts all kept) in
    (λ j. standing_outcome (c.swap_lists-2.ensures.graph j).state.signals (c.swap_lists-2.ensures.graph j).state.memos c.args.id)
    ∙ ap (λ y. standing_outcome y c.loop-going.graph.state.memos c.args.id) i.signals ∙ x.value

pub returns-clause-settles : goal.returns-clause-settles
returns-clause-settles g c =
    let w = c.args.graph.now.state.signals in
    let k = c.args.graph.now.state.memos in
    let i = c.loop-going.invariant in
    let now = held c.loop-going.going c.loop-going.frame (tops c.loop-going.stack.items) in
    let none = ap (λ b. held b c.loop-going.frame (tops c.loop-going.stack.items)) c.loop-going-test.false in
    let old = length-map c.args.notes.now.items note_of in
    let new = length-map c.loop-going.notes.items note_of in
    let most = asked_most w _ _ (length c.args.notes.now.items) (length c.loop-going.notes.items) now none i.asked in
    let worn = i.worn in
    settles_same _ c.swap_lists-2.new.graph c.loop-going.graph _ _ _ _ _ c.swap_lists-2.ensures.graph (record {
      settled = λ hosts all kept. (last_whole hosts w k c.loop-going.graph.state.memos c.args.graph.now.state.looked c.loop-going.graph.state.looked _ _ c.args.id
          (map note_of c.args.notes.now.items) (map note_of c.loop-going.notes.items) c.loop-going.visited now kept none (i.whole hosts all kept)).settling;
      kept = λ hosts all kept. subst (λ s. AreKept hosts s c.loop-going.graph.state.memos) (sym i.signals) (last_whole hosts w k c.loop-going.graph.state.memos c.args.graph.now.state.looked c.loop-going.graph.state.looked _ _ c.args.id
          (map note_of c.args.notes.now.items) (map note_of c.loop-going.notes.items) c.loop-going.visited now kept none (i.whole hosts all kept)).kept;
      asked = λ hosts all kept. record {
        places = exact_places w (settled hosts w k (c.args.id ∷ [])).runs _ _ (length c.args.notes.now.items) (length c.loop-going.notes.items) now
            c.requires.there i.asked (last_whole hosts w k c.loop-going.graph.state.memos c.args.graph.now.state.looked c.loop-going.graph.state.looked _ _ c.args.id
            (map note_of c.args.notes.now.items) (map note_of c.loop-going.notes.items) c.loop-going.visited now kept none (i.whole hosts all kept)).asks;
      };
      steps = λ hosts all kept. (last_whole hosts w k c.loop-going.graph.state.memos c.args.graph.now.state.looked c.loop-going.graph.state.looked _ _ c.args.id
          (map note_of c.args.notes.now.items) (map note_of c.loop-going.notes.items) c.loop-going.visited now kept none (i.whole hosts all kept)).counted;
      answers = i.answers;
      there = i.asked.there;
      most = omega (arith, most, old, new);
      signals = i.signals;
      idle = λ m. sym (in_evaluating c.loop-going.graph.state m) ∙ frames_are c.loop-going.graph now i.frames m ∙ ap (λ fs. is_in m (frame_names fs)) none;
      seats = i.seats;
      given = i.given;
      named = λ all.
          notes_stay c.args.graph.now c.loop-going.graph (map note_of c.loop-going.notes.items) i.given (i.named all);
      worn = omega (arith, worn, old, new);
    })

pub returns-clause-can : goal.returns-clause-can
returns-clause-can g c = λ can. can_still _ _ _ _ _ (returns-clause-settles g c) can
