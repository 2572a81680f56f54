-- What the steps of a settling are counted for.
use Rattle.std.proofs.Common.{◌≡◌, ℕ, ◌+◌, ◌*◌, ◌-◌, ◌≤◌, ◌&&◌, not, Bool, true, false, cond, List, [], ◌∷◌, ◌++◌, Option, Some, None, drop, length, arith, length-append}
use Rattle.std.specs.Prelude.{slice_index, if◌then◌else◌}
use Rattle.sig_base.specs.declared.value.Known.{Known}
use Rattle.sig_base.specs.declared.value.Step.{Step}
use Rattle.sig_base.specs.declared.value.Step.TheVariants.{Read, Done, Fail}
use Rattle.sig_base.specs.declared.value.Outcome.{Outcome}
use Rattle.sig_base.specs.declared.value.Outcome.TheVariants.{Good, Bad}
use Rattle.signal_model.specs.Signals.{Signals, Stands, IsGone, IsCell, IsComputed, is_in, standing}
use Rattle.signal_model.specs.Orders.{Visit}
use Rattle.signal_model.specs.Values.{Seen}
use Rattle.signal_model.specs.Memos.{Source, Memos, is_moved, is_stale, sources_of}
use Rattle.signal_model.specs.Settling.{Run}
use Rattle.signal_laws.specs.OrderLaws.{seen_after}
use Rattle.sig_computed.specs.Steps.{Phase, Looking, LookedAt, Running, Waiting, Frame, new_frame, is_ready}
use Rattle.sig_computed.specs.Steps.{Move, GoesOn, Needs, Stops, Ends, answered, looked, slot_read}
use Rattle.sig_computed.specs.Costs.{kept_count, name_steps, run_steps, visit_steps}
use Rattle.sig_computed.specs.Skips.{compare_steps, look_steps, source_steps}

-- ---- sums

-- the steps of names that were visited
abbrev pub all_steps : Signals → Memos → List ℕ → ℕ
all_steps w k [] = 0
all_steps w k (n ∷ ns) = name_steps w k n + all_steps w k ns

-- a run more
pub run_more : (rs : List Run) (r : Run) → run_steps (rs ++ r ∷ []) ≡ run_steps rs + (1 + 3 * length r.evaluation.reads)
run_more [] r = omega arith
run_more (q ∷ rs) r = omega (arith, run_more rs r)

-- visits more
pub visits_more : (w : Signals) (k : Memos) (us vs : List Visit) → visit_steps w k (us ++ vs) ≡ visit_steps w k us + visit_steps w k vs
visits_more w k [] vs = omega arith
visits_more w k (u ∷ us) vs = omega (arith, visits_more w k us vs)

-- the names of visits, the last one first
pub seen_steps : (w : Signals) (k : Memos) (ns : List ℕ) (vs : List Visit) → all_steps w k (seen_after ns vs) ≡ all_steps w k ns + visit_steps w k vs
seen_steps w k ns [] = omega arith
seen_steps w k ns (v ∷ vs) = omega (arith, seen_steps w k (v.computed.name ∷ ns) vs)

-- ---- frames

-- the name of the first source
abbrev pub first_name : List Source → Option ℕ
first_name [] = None
first_name (s ∷ ss) = Some s.name

-- the signal of a slot
abbrev pub slot_name : Stands → ℕ → Option ℕ
slot_name (IsComputed c) slot = Some (slice_index c.recipe.slots slot)
slot_name _ slot = None

-- the name that a frame waits for, by the sources that its computed keeps
abbrev pub waited : List Source → Stands → Phase → Option ℕ
waited ss st (Looking place) = None
waited ss st (LookedAt place) = first_name (drop place ss)
waited ss st (Running known reads) = None
waited ss st (Waiting slot known reads) = slot_name st slot

-- whether it was visited
abbrev pub was_visited : List ℕ → Option ℕ → Bool
was_visited visited None = false
was_visited visited (Some m) = is_in m visited

-- what a frame has counted so far at most, by how many sources its computed kept, and whether the look for which it waits was paid
abbrev pub phase_most : ℕ → Bool → Phase → ℕ
phase_most kept paid (Looking place) = 1 + 3 * (kept - (kept - place))
phase_most kept paid (LookedAt place) = (1 + 3 * (kept - (kept - place))) + (if paid then 1 else 0)
phase_most kept paid (Running known reads) = (1 + 3 * kept) + 3 * length reads
phase_most kept paid (Waiting slot known reads) = ((2 + 3 * kept) + 3 * length reads) + (if paid then 1 else 0)

-- the innermost frame
abbrev pub top_most : Signals → Memos → List ℕ → Frame → ℕ
top_most w k visited f = phase_most (kept_count k f.name) (was_visited visited (waited (sources_of k f.name) (standing w f.name) f.phase)) f.phase

-- those below, each of which has looked at what it waits for
abbrev pub under_most : Memos → List Frame → ℕ
under_most k [] = 0
under_most k (f ∷ fs) = phase_most (kept_count k f.name) true f.phase + under_most k fs

-- all frames
abbrev pub stack_most : Signals → Memos → List ℕ → List Frame → ℕ
stack_most w k visited [] = 0
stack_most w k visited (f ∷ fs) = top_most w k visited f + under_most k fs

-- a new frame has counted the test of its memo
pub new_most : (k : Memos) (n kept : ℕ) (paid : Bool) → 1 ≤ phase_most kept paid (new_frame k n).phase
new_most k n kept paid = go (is_stale k n)
  where
    go : (b : Bool) → 1 ≤ phase_most kept paid (cond b (Running [] []) (Looking 0))
    go true = omega arith
    go false = omega arith

-- the more is paid, the more was counted
pub paid_most : (kept : ℕ) (paid : Bool) (p : Phase) → phase_most kept false p ≤ phase_most kept paid p
paid_most kept paid (Looking place) = omega arith
paid_most kept true (LookedAt place) = omega arith
paid_most kept false (LookedAt place) = omega arith
paid_most kept paid (Running known reads) = omega arith
paid_most kept true (Waiting slot known reads) = omega arith
paid_most kept false (Waiting slot known reads) = omega arith

-- ---- a turn

-- the steps of a turn are among what the frame may have counted then, or what a visit and its run may count
abbrev pub Pays : ℕ → Bool → Phase → ℕ → Move → Type 0
Pays kept paid p steps (GoesOn q) = steps + phase_most kept paid p ≤ phase_most kept false q
Pays kept paid p steps (Needs s q) = steps + phase_most kept paid p ≤ phase_most kept true q
Pays kept paid p steps Stops = steps + phase_most kept paid p ≤ 1 + 3 * kept
Pays kept paid p steps (Ends e) = steps + phase_most kept paid p ≤ (1 + 3 * kept) + (1 + 3 * length e.reads)

-- what was visited isn't looked at
pub look_once : (st : Stands) (a b : Bool) → look_steps st a b + (if b then 1 else 0) ≤ 1
look_once IsGone a true = omega arith
look_once IsGone a false = omega arith
look_once (IsCell c) a true = omega arith
look_once (IsCell c) a false = omega arith
look_once (IsComputed c) true true = omega arith
look_once (IsComputed c) true false = omega arith
look_once (IsComputed c) false true = omega arith
look_once (IsComputed c) false false = omega arith

-- a look
pub look_pays : (w : Signals) (k : Memos) (evaluating over visited : List ℕ) (cycle : Bool) (kept place : ℕ) (l : List Source) → length l ≡ kept - place →
    Pays kept false (Looking place) (source_steps w evaluating visited l (looked w k evaluating over cycle place l)) (looked w k evaluating over cycle place l)
look_pays w k evaluating over visited cycle kept place [] e = omega arith
look_pays w k evaluating over visited cycle kept place (s ∷ ss) e =
    let a : look_steps (standing w s.name) (is_in s.name evaluating) (is_in s.name visited) + (if is_in s.name visited then 1 else 0) ≤ 1 =
    look_once (standing w s.name) (is_in s.name evaluating) (is_in s.name visited) in
    go (is_ready (standing w s.name) (is_in s.name evaluating) (is_in s.name over)) (not cycle && is_moved k evaluating s)
    (look_steps (standing w s.name) (is_in s.name evaluating) (is_in s.name visited)) (omega (arith, a))
  where
    go : (a b : Bool) (n : ℕ) → n ≤ 1 → Pays kept false (Looking place)
        (n + compare_steps (cond a (cond b (GoesOn (Running [] [])) (GoesOn (Looking (place + 1)))) (Needs s.name (LookedAt place))))
        (cond a (cond b (GoesOn (Running [] [])) (GoesOn (Looking (place + 1)))) (Needs s.name (LookedAt place)))
    go true true n h = omega (arith, e, h)
    go true false n h = omega (arith, e, h)
    go false b n h = omega (arith, h)

-- the same after a source was waited for
pub looked_pays : (w : Signals) (k : Memos) (evaluating over visited : List ℕ) (cycle : Bool) (kept place : ℕ) (l : List Source) → length l ≡ kept - place →
    Pays kept (was_visited visited (first_name l)) (LookedAt place) (source_steps w evaluating visited l (looked w k evaluating over cycle place l))
    (looked w k evaluating over cycle place l)
looked_pays w k evaluating over visited cycle kept place [] e = omega arith
looked_pays w k evaluating over visited cycle kept place (s ∷ ss) e =
    go (is_ready (standing w s.name) (is_in s.name evaluating) (is_in s.name over)) (not cycle && is_moved k evaluating s)
    (look_steps (standing w s.name) (is_in s.name evaluating) (is_in s.name visited)) (if is_in s.name visited then 1 else 0)
    (look_once (standing w s.name) (is_in s.name evaluating) (is_in s.name visited))
  where
    base : ℕ
    base = 1 + 3 * (kept - (kept - place))

    PaysFor : ℕ → ℕ → Move → Type 0
    PaysFor n paid (GoesOn q) = n + (base + paid) ≤ phase_most kept false q
    PaysFor n paid (Needs x q) = n + (base + paid) ≤ phase_most kept true q
    PaysFor n paid Stops = n + (base + paid) ≤ 1 + 3 * kept
    PaysFor n paid (Ends r) = n + (base + paid) ≤ (1 + 3 * kept) + (1 + 3 * length r.reads)

    go : (a b : Bool) (n paid : ℕ) → n + paid ≤ 1 →
        PaysFor (n + compare_steps (cond a (cond b (GoesOn (Running [] [])) (GoesOn (Looking (place + 1)))) (Needs s.name (LookedAt place)))) paid
        (cond a (cond b (GoesOn (Running [] [])) (GoesOn (Looking (place + 1)))) (Needs s.name (LookedAt place)))
    go true true n paid h = omega (arith, e, h)
    go true false n paid h = omega (arith, e, h)
    go false b n paid h = omega (arith, h)

-- an answer
pub answer_pays : (kept : ℕ) (paid : Bool) (st : Step) (known : List Known) (reads : List Seen) → Pays kept paid (Running known reads) 1 (answered st known reads)
answer_pays kept paid (Done v) known reads = omega arith
answer_pays kept paid (Fail e) known reads = omega arith
answer_pays kept paid (Read s) known reads = omega arith

-- a slot that was waited for
pub wait_pays : (kept : ℕ) (paid : Bool) (n slot m : ℕ) (known : List Known) (reads : List Seen) (ready : Bool) (o : Outcome) → n + (if paid then 1 else 0) ≤ 1 →
    Pays kept paid (Waiting slot known reads) n (cond ready (slot_read slot m (Some o) known reads) (Needs m (Waiting slot known reads)))
wait_pays kept paid n slot m known reads true (Good v) h =
    let more : length (reads ++ record { name = m; outcome = Good v } ∷ []) ≡ length reads + 1 = length-append reads (record { name = m; outcome = Good v } ∷ []) in
    omega (arith, more, h)
wait_pays kept paid n slot m known reads true (Bad e) h =
    let more : length (reads ++ record { name = m; outcome = Bad e } ∷ []) ≡ length reads + 1 = length-append reads (record { name = m; outcome = Bad e } ∷ []) in
    omega (arith, more, h)
wait_pays kept paid n slot m known reads false o h = omega (arith, h)
