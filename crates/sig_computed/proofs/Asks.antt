-- How often host formulas are asked: exactly by the runs and the frames so far, and never often.
use Rattle.std.proofs.Common.{◌≡◌, ℕ, suc, ◌+◌, ◌-◌, ◌*◌, ◌^◌, ◌<◌, ◌≤◌, ◌==◌, ◌&&◌, not, Bool, true, false, cond, List, [], ◌∷◌, ◌++◌, drop, length}
use Rattle.std.proofs.Common.{Option, Some, None, IsTrue, refl, sym, ap, ◌∙◌, arith, true≢false}
use Rattle.std.specs.Prelude.{slice_index, if◌then◌else◌}
use Rattle.std.proofs.lemmas.Bool.Decides.{nat_tests}
use Rattle.sig_base.specs.declared.value.Known.{Known}
use Rattle.sig_base.specs.declared.value.Step.{Step}
use Rattle.sig_base.specs.declared.value.Step.TheVariants.{Read, Done, Fail}
use Rattle.sig_base.specs.declared.value.Outcome.{Outcome}
use Rattle.sig_base.specs.declared.value.Outcome.TheVariants.{Good, Bad}
use Rattle.signal_model.specs.Recipes.{Expression, formula, host}
use Rattle.signal_model.specs.Signals.{Signals, Stands, IsGone, IsCell, IsComputed, is_in, standing}
use Rattle.signal_model.specs.Values.{Seen, unknown_slots}
use Rattle.signal_model.specs.Memos.{Source, Memos, holds_cycle, is_moved, is_stale, sources_of}
use Rattle.signal_model.specs.Sound.{standing_outcome}
use Rattle.signal_model.specs.Settling.{Run}
use Rattle.signal_model.specs.Asks.{Moment, asks_host, asks_of, good_reads, is_good, is_host, moments}
use Rattle.sig_host.specs.Hosts.{HostPlace, count_at, is_there, last_ask, most_asked, places_after}
use Rattle.sig_host.proofs.Shared.{count_at-asked, count_at-most, is_there-more, length-asked, most_asked-least}
use Rattle.sig_graph.specs.States as states
use Rattle.sig_graph.proofs.Shared.{uses_standing}
use Rattle.sig_nodes.specs.Answers.{host_here, slots_here, HasFewSlots}
use Rattle.sig_graph.specs.HostUse.{HaveFewSlots}
use Rattle.sig_computed.specs.Steps.{Phase, Looking, LookedAt, Running, Waiting, Frame, new_frame, is_ready, ready_outcome}
use Rattle.sig_computed.specs.Steps.{Move, GoesOn, Needs, Stops, Ends, looked, slot_read, answered}
use Rattle.sig_computed.specs.Skips.{passed_over}
use Rattle.sig_computed.specs.Views.{or_cycle}
use Rattle.sig_computed.specs.Asked.{asked_once, places_by, AreThere, CanAsk, StayThere}
use Rattle.sig_computed.specs.Turns.{first_stack, phase_known, phase_reads, runs_of, stack_after, waits, AreFit, Fits, IsMove}

-- how often a frame has asked its recipe so far
abbrev pub phase_asked : Phase → ℕ
phase_asked (Looking place) = 0
phase_asked (LookedAt place) = 0
phase_asked (Running known reads) = good_reads reads
phase_asked (Waiting slot known reads) = good_reads reads + 1

-- how often it asks in a step
abbrev pub phase_asks : Phase → ℕ
phase_asks (Looking place) = 0
phase_asks (LookedAt place) = 0
phase_asks (Running known reads) = 1
phase_asks (Waiting slot known reads) = 0

-- how often it has asked once it comes to a move
abbrev pub move_asked : Move → ℕ
move_asked (GoesOn p) = phase_asked p
move_asked (Needs s p) = phase_asked p
move_asked Stops = 0
move_asked (Ends e) = good_reads e.reads + 1

-- how often the frames have asked the host formula at a place
abbrev pub stack_asked : ℕ → Signals → List Frame → ℕ
stack_asked place w [] = 0
stack_asked place w (f ∷ fs) = cond (asks_host place (standing w f.name)) (phase_asked f.phase) 0 + stack_asked place w fs

-- the runs after a move
abbrev pub runs_after : ℕ → Move → List Run → List Run
runs_after n (GoesOn p) rs = rs
runs_after n (Needs s p) rs = rs
runs_after n Stops rs = rs
runs_after n (Ends e) rs = rs ++ record { name = n; evaluation = e } ∷ []

-- one read more
pub reads_more : (ss : List Seen) (s : Seen) → good_reads (ss ++ s ∷ []) ≡ good_reads ss + cond (is_good s.outcome) 1 0
reads_more [] s = omega arith
reads_more (r ∷ rs) s = let q : good_reads (rs ++ s ∷ []) ≡ good_reads rs + cond (is_good s.outcome) 1 0 = reads_more rs s in omega (arith, q)

-- ---- a move takes the asks of its frame along

look_counts : (w : Signals) (k : Memos) (evaluating visited : List ℕ) (cycle : Bool) (place : ℕ) (l : List Source) →
    0 ≡ move_asked (looked w k evaluating visited cycle place l)
look_counts w k evaluating visited cycle place [] = refl
look_counts w k evaluating visited cycle place (s ∷ ss) =
    go (is_ready (standing w s.name) (is_in s.name evaluating) (is_in s.name visited)) (not cycle && is_moved k evaluating s)
  where
    go : (a b : Bool) → 0 ≡ move_asked (cond a (cond b (GoesOn (Running [] [])) (GoesOn (Looking (place + 1)))) (Needs s.name (LookedAt place)))
    go true true = refl
    go true false = refl
    go false b = refl

answer_counts : (st : Step) (known : List Known) (reads : List Seen) → good_reads reads + 1 ≡ move_asked (answered st known reads)
answer_counts (Done v) known reads = refl
answer_counts (Fail z) known reads = refl
answer_counts (Read s) known reads = refl

told_counts : (slot m : ℕ) (o : Outcome) (known : List Known) (reads : List Seen) → good_reads reads + 1 ≡ move_asked (slot_read slot m (Some o) known reads)
told_counts slot m (Good v) known reads = sym (reads_more reads (record { name = m; outcome = Good v }))
told_counts slot m (Bad z) known reads =
    let q : good_reads (reads ++ record { name = m; outcome = Bad z } ∷ []) ≡ good_reads reads + 0 = reads_more reads (record { name = m; outcome = Bad z }) in
    omega (arith, q)

wait_counts : (w : Signals) (k : Memos) (evaluating visited : List ℕ) (slot m : ℕ) (known : List Known) (reads : List Seen) →
    good_reads reads + 1 ≡ move_asked (waits w k evaluating visited slot m known reads)
wait_counts w k evaluating visited slot m known reads =
    go (is_ready (standing w m) (is_in m evaluating) (is_in m visited))
    (or_cycle (ready_outcome (standing w m) (is_in m evaluating) (standing_outcome w k m)))
  where
    go : (b : Bool) (o : Outcome) → good_reads reads + 1 ≡ move_asked (cond b (slot_read slot m (Some o) known reads) (Needs m (Waiting slot known reads)))
    go true o = told_counts slot m o known reads
    go false o = refl

-- any
pub move_counts : (w : Signals) (k : Memos) (evaluating visited : List ℕ) (n : ℕ) (p : Phase) (mv : Move) → IsMove w k evaluating visited n p mv →
    phase_asked p + phase_asks p ≡ move_asked mv
move_counts w k evaluating visited n (Looking place) mv is =
    look_counts w k evaluating visited (holds_cycle k n) place (drop place (sources_of k n)) ∙ ap move_asked (sym is)
move_counts w k evaluating visited n (LookedAt place) mv is =
    look_counts w k evaluating visited (holds_cycle k n) place (drop place (sources_of k n)) ∙ ap move_asked (sym is)
move_counts w k evaluating visited n (Running known reads) mv is = answer_counts is.answer known reads ∙ ap move_asked (sym is.move)
move_counts w k evaluating visited n (Waiting slot known reads) mv is =
    let q : good_reads reads + 1 ≡ move_asked mv =
    wait_counts w k evaluating visited slot (slice_index (slots_here (standing w n)) slot) known reads ∙ ap move_asked (sym is) in
    omega (arith, q)

-- a new frame has asked nothing
new_none : (place : ℕ) (w : Signals) (k : Memos) (s : ℕ) → cond (asks_host place (standing w s)) (phase_asked (new_frame k s).phase) 0 ≡ 0
new_none place w k s = go (asks_host place (standing w s)) (is_stale k s)
  where
    go : (a b : Bool) → cond a (phase_asked (cond b (Running [] []) (Looking 0))) 0 ≡ 0
    go true true = refl
    go true false = refl
    go false b = refl

-- so the stack at the beginning has
pub first_asks : (place : ℕ) (w : Signals) (k : Memos) (n : ℕ) → stack_asked place w (first_stack w k n) ≡ 0
first_asks place w k n = go (is_ready (standing w n) false (is_in n (passed_over w k [])))
  where
    go : (b : Bool) → stack_asked place w (cond b [] (new_frame k n ∷ [])) ≡ 0
    go true = refl
    go false = let z : cond (asks_host place (standing w n)) (phase_asked (new_frame k n).phase) 0 ≡ 0 = new_none place w k n in omega (arith, z)

-- the asks of a run more
asks_more : (place : ℕ) (w : Signals) (rs : List Run) (r : Run) →
    asks_of place (moments w (rs ++ r ∷ [])) ≡ asks_of place (moments w rs) + cond (asks_host place (standing w r.name)) (good_reads r.evaluation.reads + 1) 0
asks_more place w [] r = omega arith
asks_more place w (q ∷ qs) r =
    let t : asks_of place (moments w (qs ++ r ∷ [])) ≡ asks_of place (moments w qs) + cond (asks_host place (standing w r.name)) (good_reads r.evaluation.reads + 1) 0 =
    asks_more place w qs r in
    omega (arith, t)

-- runs and frames together count what the move had
after_counts : (place : ℕ) (w : Signals) (k : Memos) (n : ℕ) (mv : Move) (rs : List Run) (fs : List Frame) →
    asks_of place (moments w (runs_after n mv rs)) + stack_asked place w (stack_after k n mv fs)
    ≡ asks_of place (moments w rs) + stack_asked place w fs + cond (asks_host place (standing w n)) (move_asked mv) 0
after_counts place w k n (GoesOn q) rs fs = omega arith
after_counts place w k n (Needs s q) rs fs =
    let z : cond (asks_host place (standing w s)) (phase_asked (new_frame k s).phase) 0 ≡ 0 = new_none place w k s in omega (arith, z)
after_counts place w k n Stops rs fs = let z : ◌≡◌ {A = ℕ} (cond (asks_host place (standing w n)) 0 0) 0 = go (asks_host place (standing w n)) in omega (arith, z)
  where
    go : (b : Bool) → ◌≡◌ {A = ℕ} (cond b 0 0) 0
    go true = refl
    go false = refl
after_counts place w k n (Ends e) rs fs =
    let t : asks_of place (moments w (rs ++ record { name = n; evaluation = e } ∷ []))
    ≡ asks_of place (moments w rs) + cond (asks_host place (standing w n)) (good_reads e.reads + 1) 0 = asks_more place w rs (record { name = n; evaluation = e }) in
    omega (arith, t)

both : (b : Bool) (x y z : ℕ) → x + y ≡ z → cond b x 0 + cond b y 0 ≡ cond b z 0
both true x y z e = e
both false x y z e = refl

-- so a step keeps the exact count
pub step_counts : (place : ℕ) (w : Signals) (k : Memos) (f : Frame) (fs : List Frame) (mv : Move) (rs : List Run) (a0 a a' : ℕ) →
    phase_asked f.phase + phase_asks f.phase ≡ move_asked mv → a ≡ a0 + (asks_of place (moments w rs) + stack_asked place w (f ∷ fs)) →
    a' ≡ a + cond (asks_host place (standing w f.name)) (phase_asks f.phase) 0 →
    a' ≡ a0 + (asks_of place (moments w (runs_after f.name mv rs)) + stack_asked place w (stack_after k f.name mv fs))
step_counts place w k f fs mv rs a0 a a' counts old more =
    let after : asks_of place (moments w (runs_after f.name mv rs)) + stack_asked place w (stack_after k f.name mv fs)
    ≡ asks_of place (moments w rs) + stack_asked place w fs + cond (asks_host place (standing w f.name)) (move_asked mv) 0 = after_counts place w k f.name mv rs fs in
    let sum : cond (asks_host place (standing w f.name)) (phase_asked f.phase) 0 + cond (asks_host place (standing w f.name)) (phase_asks f.phase) 0
    ≡ cond (asks_host place (standing w f.name)) (move_asked mv) 0 =
    both (asks_host place (standing w f.name)) (phase_asked f.phase) (phase_asks f.phase) (move_asked mv) counts in
    omega (arith, after, sum, old, more)

-- ---- no host formula is asked often

-- what a recipe asks, it asks of a host formula with few arguments
few_arguments : (place : ℕ) (e : Expression) (slots : List ℕ) → is_host place e ≡ true → HasFewSlots e slots → length slots ≤ 64
few_arguments place (formula row t) slots is few = cc
few_arguments place (host p) slots is few = few

-- by one frame
frame_few : (g : states.Seen) (f : Frame) → HaveFewSlots g.state.signals → Fits g f → (place : ℕ) → asks_host place (standing g.state.signals f.name) ≡ true →
    phase_asked f.phase + phase_asks f.phase ≤ 65
frame_few g f slots fit place is =
    let asks : is_host place fit.computed.recipe.expression ≡ true = ap (asks_host place) (sym fit.stands) ∙ is in
    let most : length fit.computed.recipe.slots ≤ 64 =
    few_arguments place fit.computed.recipe.expression fit.computed.recipe.slots asks (slots.each f.name fit.computed fit.stands) in
    go f.phase (length fit.computed.recipe.slots) most fit.few
  where
    go : (p : Phase) (count : ℕ) → count ≤ 64 → good_reads (phase_reads p) + unknown_slots count (phase_known p) ≤ count → phase_asked p + phase_asks p ≤ 65
    go (Looking place') count m h = omega arith
    go (LookedAt place') count m h = omega arith
    go (Running known reads) count m h = omega (arith, m, h)
    go (Waiting slot known reads) count m h = omega (arith, m, h)

-- by all
stack_few : (g : states.Seen) (fs : List Frame) → HaveFewSlots g.state.signals → AreFit g fs → (place : ℕ) → stack_asked place g.state.signals fs ≤ 65 * length fs
stack_few g [] slots fit place = omega arith
stack_few g (f ∷ fs) slots fit place =
    go (asks_host place (standing g.state.signals f.name)) refl (stack_few g fs slots fit.2 place)
  where
    go : (b : Bool) → asks_host place (standing g.state.signals f.name) ≡ b → stack_asked place g.state.signals fs ≤ 65 * length fs →
        cond b (phase_asked f.phase) 0 + stack_asked place g.state.signals fs ≤ 65 * suc (length fs)
    go true e h = let x : phase_asked f.phase + phase_asks f.phase ≤ 65 = frame_few g f slots fit.0 place e in omega (arith, x, h)
    go false e h = omega (arith, h)

-- What is known of the places, whatever host formulas mean: no count has risen by more than 65 for each note, and by what the frames
-- have asked.
pub record HasAsked (w : Signals) (old new : List HostPlace) (before after : ℕ) (fs : List Frame) : Type 0 where
  pub there : StayThere old new
  pub places : length new ≡ length old
  pub rise : (place : ℕ) → count_at new place + 65 * before ≤ count_at old place + 65 * after + stack_asked place w fs

-- at the beginning
pub none_asked : (w : Signals) (asked : List HostPlace) (notes : ℕ) (fs : List Frame) → HasAsked w asked asked notes notes fs
none_asked w asked notes fs = record { there = λ place. refl; places = refl; rise = λ place. omega arith }

-- at the end
pub asked_most : (w : Signals) (old new : List HostPlace) (before after : ℕ) (fs : List Frame) → fs ≡ [] → HasAsked w old new before after fs →
    most_asked new + 65 * before ≤ most_asked old + 65 * after
asked_most w old new before after fs none h =
    by (most_asked old + 65 * after) (65 * before) (λ place.
    let a : count_at new place + 65 * before ≤ count_at old place + 65 * after + stack_asked place w fs = h.rise place in
    let b : count_at old place ≤ most_asked old = count_at-most old place in
    let s : stack_asked place w fs ≡ 0 = ap (stack_asked place w) none in
    omega (arith, a, b, s))
  where
    by : (most less : ℕ) → ((place : ℕ) → count_at new place + less ≤ most) → most_asked new + less ≤ most
    by most less each =
        let zeroth : count_at new 0 + less ≤ most = each 0 in
        let e : (most - less) + less ≡ most = omega (arith, zeroth) in
        let l : most_asked new ≤ most - less =
        most_asked-least new (most - less) (λ place. let x : count_at new place + less ≤ most = each place in omega (arith, x)) in
        omega (arith, e, l)

-- ---- the places

same_test : (a b : ℕ) → (a == b) ≡ (b == a)
same_test a b = grind (arith, nat_tests)

-- the count of each place after a step
pub places_count : (st : Stands) (p : Phase) (asked : List HostPlace) (q : ℕ) → CanAsk (host_here st) asked →
    count_at (places_by st p asked) q ≡ count_at asked q + cond (asks_host q st) (phase_asks p) 0
places_count st (Looking place) asked q can = none (asks_host q st) (count_at asked q)
  where
    none : (b : Bool) (n : ℕ) → n ≡ n + cond b 0 0
    none true n = omega arith
    none false n = omega arith
places_count st (LookedAt place) asked q can = none (asks_host q st) (count_at asked q)
  where
    none : (b : Bool) (n : ℕ) → n ≡ n + cond b 0 0
    none true n = omega arith
    none false n = omega arith
places_count st (Waiting slot known reads) asked q can = none (asks_host q st) (count_at asked q)
  where
    none : (b : Bool) (n : ℕ) → n ≡ n + cond b 0 0
    none true n = omega arith
    none false n = omega arith
places_count IsGone (Running known reads) asked q can = omega arith
places_count (IsCell c) (Running known reads) asked q can = omega arith
places_count (IsComputed c) (Running known reads) asked q can = go c.recipe.expression can
  where
    go : (e : Expression) → CanAsk (host_here (IsComputed (record c { recipe = record c.recipe { expression = e } }))) asked →
        count_at (asked_once (host_here (IsComputed (record c { recipe = record c.recipe { expression = e } }))) asked) q ≡ count_at asked q + cond (is_host q e) 1 0
    go (formula row t) x = omega arith
    go (host place) x = count_at-asked asked place 1 q x.0 ∙ ap (λ b. count_at asked q + cond b 1 0) (same_test q place)

-- the formulas that are there stay there
once_there : (o : Option ℕ) (asked : List HostPlace) (q : ℕ) → CanAsk o asked → is_there (asked_once o asked) q ≡ is_there asked q
once_there None asked q can = refl
once_there (Some place) asked q can = is_there-more asked place 1 q can.0

places_there : (st : Stands) (p : Phase) (asked : List HostPlace) (q : ℕ) → CanAsk (host_here st) asked → is_there (places_by st p asked) q ≡ is_there asked q
places_there st (Looking place) asked q can = refl
places_there st (LookedAt place) asked q can = refl
places_there st (Running known reads) asked q can = once_there (host_here st) asked q can
places_there st (Waiting slot known reads) asked q can = refl

once_length : (o : Option ℕ) (asked : List HostPlace) → length (asked_once o asked) ≡ length asked
once_length None asked = refl
once_length (Some place) asked = length-asked asked place 1

places_length : (st : Stands) (p : Phase) (asked : List HostPlace) → length (places_by st p asked) ≡ length asked
places_length st (Looking place) asked = refl
places_length st (LookedAt place) asked = refl
places_length st (Running known reads) asked = once_length (host_here st) asked
places_length st (Waiting slot known reads) asked = refl

-- a step
pub step_asked : (g : states.Seen) (k : Memos) (f : Frame) (fs : List Frame) (mv : Move) (old new new' : List HostPlace) (before after after' : ℕ) →
    HaveFewSlots g.state.signals → Fits g f → phase_asked f.phase + phase_asks f.phase ≡ move_asked mv → CanAsk (host_here (standing g.state.signals f.name)) new →
    new' ≡ places_by (standing g.state.signals f.name) f.phase new → after' ≡ after + runs_of mv →
    HasAsked g.state.signals old new before after (f ∷ fs) → HasAsked g.state.signals old new' before after' (stack_after k f.name mv fs)
step_asked g k f fs mv old new new' before after after' slots fit counts can is runs h = record {
  there = λ q. ap (λ l. is_there l q) is ∙ places_there st f.phase new q can ∙ h.there q;
  places = ap length is ∙ places_length st f.phase new ∙ h.places;
  rise = λ q.
      let more : count_at new' q ≡ count_at new q + cond (asks_host q st) (phase_asks f.phase) 0 = ap (λ l. count_at l q) is ∙ places_count st f.phase new q can in
      by q mv (asks_host q st) refl counts runs more (h.rise q);
}
  where
    st : Stands
    st = standing g.state.signals f.name

    by : (q : ℕ) (m : Move) (b : Bool) → asks_host q st ≡ b → phase_asked f.phase + phase_asks f.phase ≡ move_asked m → after' ≡ after + runs_of m →
        count_at new' q ≡ count_at new q + cond b (phase_asks f.phase) 0 →
        count_at new q + 65 * before ≤ count_at old q + 65 * after + (cond b (phase_asked f.phase) 0 + stack_asked q g.state.signals fs) →
        count_at new' q + 65 * before ≤ count_at old q + 65 * after' + stack_asked q g.state.signals (stack_after k f.name m fs)
    by q (GoesOn p) true e c r more rise = rw e (omega (arith, c, r, more, rise))
    by q (GoesOn p) false e c r more rise = rw e (omega (arith, c, r, more, rise))
    by q (Needs s p) true e c r more rise =
        let z : cond (asks_host q (standing g.state.signals s)) (phase_asked (new_frame k s).phase) 0 ≡ 0 = new_none q g.state.signals k s in
        rw e (omega (arith, c, r, more, rise, z))
    by q (Needs s p) false e c r more rise =
        let z : cond (asks_host q (standing g.state.signals s)) (phase_asked (new_frame k s).phase) 0 ≡ 0 = new_none q g.state.signals k s in
        rw e (omega (arith, c, r, more, rise, z))
    by q Stops true e c r more rise = omega (arith, c, r, more, rise)
    by q Stops false e c r more rise = omega (arith, c, r, more, rise)
    by q (Ends v) true e c r more rise =
        let x : phase_asked f.phase + phase_asks f.phase ≤ 65 = frame_few g f slots fit q e in omega (arith, c, r, more, rise, x)
    by q (Ends v) false e c r more rise = omega (arith, c, r, more, rise)

-- ---- what may be asked

-- the host formula of what stands can be asked
can_here : (w : Signals) (n : ℕ) (new : List HostPlace) (st : Stands) → ((place : ℕ) → asks_host place st ≡ true → IsTrue (is_there new place)) →
    ((place : ℕ) → count_at new place < last_ask) → CanAsk (host_here st) new
can_here w n new IsGone there room = tt
can_here w n new (IsCell c) there room = tt
can_here w n new (IsComputed c) there room = go c.recipe.expression there
  where
    go : (e : Expression) → ((place : ℕ) → is_host place e ≡ true → IsTrue (is_there new place)) →
        CanAsk (host_here (IsComputed (record c { recipe = record c.recipe { expression = e } }))) new
    go (formula row t) h = tt
    go (host place) h = (h place (grind (arith, nat_tests)), room place)

pub can_ask : (g : states.Seen) (old new : List HostPlace) (n before after : ℕ) (fs : List Frame) → HaveFewSlots g.state.signals → AreFit g fs → AreThere g.state.signals old →
    most_asked old < 2 ^ 127 → length fs < 2 ^ 65 → after < 2 ^ 64 → HasAsked g.state.signals old new before after fs → CanAsk (host_here (standing g.state.signals n)) new
can_ask g old new n before after fs slots fit are room frames notes h =
    can_here g.state.signals n new (standing g.state.signals n) (λ place is. h.there place ∙ are.each place (uses_standing g.state.signals place n is)) (λ place.
    let a : count_at new place + 65 * before ≤ count_at old place + 65 * after + stack_asked place g.state.signals fs = h.rise place in
    let b : count_at old place ≤ most_asked old = count_at-most old place in
    let s : stack_asked place g.state.signals fs ≤ 65 * length fs = stack_few g fs slots fit place in
    omega (arith, a, b, s, room, frames, notes))

-- ---- the exact count

-- a formula that isn't there is asked by no run
none_asks : (w : Signals) (old : List HostPlace) (place : ℕ) (rs : List Run) → AreThere w old → is_there old place ≡ false → asks_of place (moments w rs) ≡ 0
none_asks w old place [] are off = refl
none_asks w old place (r ∷ rs) are off = go (asks_host place (standing w r.name)) refl (none_asks w old place rs are off)
  where
    go : (b : Bool) → asks_host place (standing w r.name) ≡ b → asks_of place (moments w rs) ≡ 0 →
        cond b (good_reads r.evaluation.reads + 1) 0 + asks_of place (moments w rs) ≡ 0
    go true e h = absurd (true≢false (sym (are.each place (uses_standing w place r.name e)) ∙ off))
    go false e h = omega (arith, h)

-- places that are there as before, with these counts
places_are : (runs : List Moment) (first : ℕ) (old new : List HostPlace) → length new ≡ length old → StayThere old new →
    ((place named : ℕ) → named ≡ first + place → count_at new place ≡ count_at old place + asks_of named runs) →
    ((place named : ℕ) → named ≡ first + place → is_there old place ≡ false → asks_of named runs ≡ 0) → new ≡ places_after runs first old
places_are runs first [] [] same there counts none = refl
places_are runs first [] (y ∷ ys) same there counts none = absurd (omega (arith, same))
places_are runs first (x ∷ xs) [] same there counts none = absurd (omega (arith, same))
places_are runs first (x ∷ xs) (y ∷ ys) same there counts none =
    let head : first ≡ first + 0 = omega arith in
    let rest : ys ≡ places_after runs (suc first) xs =
    places_are runs (suc first) xs ys (omega (arith, same)) (λ place. there (suc place)) (λ place named e. counts (suc place) named (omega (arith, e)))
    (λ place named e off. none (suc place) named (omega (arith, e)) off) in
    (λ i. one x.there refl (there 0) (counts 0 first head) (λ off. none 0 first head off) i ∷ rest i)
  where
    one : (b : Bool) → x.there ≡ b → y.there ≡ x.there → y.asks ≡ x.asks + asks_of first runs → (x.there ≡ false → asks_of first runs ≡ 0) →
        y ≡ (if x.there then record x { asks = x.asks + asks_of first runs } else x)
    one true e t n z =
        (λ i. record { there = (t ∙ e) i; asks = n i })
        ∙ (λ i. cond (sym e i) (record { there = sym e i; asks = x.asks + asks_of first runs }) x)
    one false e t n z =
        let q : asks_of first runs ≡ 0 = z e in
        let m : y.asks ≡ x.asks = omega (arith, n, q) in
        (λ i. record { there = t i; asks = m i }) ∙ (λ i. cond (sym e i) (record x { asks = x.asks + asks_of first runs }) x)

pub exact_places : (w : Signals) (rs : List Run) (old new : List HostPlace) (before after : ℕ) (fs : List Frame) → AreThere w old →
    HasAsked w old new before after fs → ((place : ℕ) → count_at new place ≡ count_at old place + (asks_of place (moments w rs) + 0)) →
    new ≡ places_after (moments w rs) 0 old
exact_places w rs old new before after fs are h counts =
    places_are (moments w rs) 0 old new h.places h.there
    (λ place named e.
    let a : count_at new place ≡ count_at old place + (asks_of place (moments w rs) + 0) = counts place in
    let same : named ≡ place = omega (arith, e) in
    let n : asks_of named (moments w rs) ≡ asks_of place (moments w rs) = ap (λ m. asks_of m (moments w rs)) same in
    omega (arith, a, n))
    (λ place named e off.
    let same : named ≡ place = omega (arith, e) in
    ap (λ m. asks_of m (moments w rs)) same ∙ none_asks w old place rs are off)
