-- A slot that is ready is read in two moves of a frame: its formula asks for the slot, and the slot that is waited for is told.
use Rattle.std.proofs.Common.{◌≡◌, ℕ, suc, ◌+◌, ◌≤◌, Bool, true, false, cond, List, [], ◌∷◌, ◌++◌, map, length, Option, None, Some, refl, sym, ap, ◌∙◌, subst, arith, append_assoc, append-nil}
use Rattle.std.specs.Prelude.{slice_index}
use Rattle.sig_base.specs.declared.value.Known.{Known}
use Rattle.sig_base.specs.declared.value.Step.{Step}
use Rattle.sig_base.specs.declared.value.Step.TheVariants.{Read}
use Rattle.sig_base.specs.declared.value.Fault.TheVariants.{Cycle}
use Rattle.sig_base.specs.declared.value.Outcome.TheVariants.{Bad, Good}
use Rattle.signal_model.specs.Recipes.{Expression, Hosts, formula, host}
use Rattle.signal_model.specs.Signals.{Signals, Computed, Stands, IsGone, IsCell, IsComputed, is_computed, is_in, standing}
use Rattle.signal_model.specs.Values.{Seen, learnt, unknown_slots}
use Rattle.signal_model.specs.Memos.{Memos, memo_of}
use Rattle.signal_model.specs.Marks.{mark_of}
use Rattle.signal_model.specs.Kept.{AreKept}
use Rattle.signal_model.specs.Asks.{asks_host, good_reads, is_host}
use Rattle.signal_model.proofs.Shared.{unknown_less}
use Rattle.sig_host.specs.Hosts.{HostPlace}
use Rattle.sig_nodes.specs.declared.answers.Asked.TheVariants.{Slot as SlotAsked}
use Rattle.sig_nodes.specs.Answers.{answer_here, host_here, host_place, slots_here}
use Rattle.sig_graph.specs.Looks.{is_clean_mark}
use Rattle.sig_graph.specs.Reading.{SlotRead, AreReadNext, IsReadNext, IsSlotReady}
use Rattle.sig_graph.specs.States as states
use Rattle.sig_graph.specs.States.{State, is_computing}
use Rattle.sig_computed.specs.Notes.{Note}
use Rattle.sig_computed.specs.Reading.{known_after, left_steps, phase_after, phase_left, read_steps, reads_after, seen_of, CanLeave, CanRead}
use Rattle.sig_computed.specs.Skips.{passed_over}
use Rattle.sig_computed.specs.Steps.{Phase, Looking, LookedAt, Running, Waiting, Frame, GoesOn, answered, frame_names, is_ready}
use Rattle.sig_computed.specs.Turns.{move_by, turn_steps, waits}
use Rattle.sig_computed.specs.Views.{evaluating}
use Rattle.sig_computed.proofs.Asks.{phase_asked, phase_asks, reads_more}
use Rattle.sig_computed.proofs.Leaves.{shown_read, slot_answer}
use Rattle.sig_computed.proofs.Looks.{over_clean, over_visited, waits_read}
use Rattle.sig_computed.proofs.Progresses.{in_evaluating}
use Rattle.sig_computed.proofs.Wholes.{IsWhole, step_whole}

-- ---- one slot

-- what is clean may be passed over, whatever was visited
clean_over : (w : Signals) (k : Memos) (visited : List ℕ) (n : ℕ) → is_computed (standing w n) ≡ true → is_clean_mark (mark_of w k n) ≡ true →
    is_in n (passed_over w k visited) ≡ true
clean_over w k visited n live clean = go (is_in n visited) refl
  where
    go : (b : Bool) → is_in n visited ≡ b → is_in n (passed_over w k visited) ≡ true
    go true on = over_visited w k visited n on
    go false off = sym (over_clean w k visited n live off) ∙ clean

-- a computed that may be passed over is ready, and so is what is none
ready_over : (st : Stands) (e v : Bool) → (is_computed st ≡ true → v ≡ true) → is_ready st e v ≡ true
ready_over IsGone e v over = refl
ready_over (IsCell c) e v over = refl
ready_over (IsComputed c) true v over = refl
ready_over (IsComputed c) false v over = over refl

-- where a formula is asked no host formula is
no_host : (place : ℕ) (st : Stands) → host_here st ≡ None → asks_host place st ≡ false
no_host place IsGone e = refl
no_host place (IsCell c) e = refl
no_host place (IsComputed c) e = go c.recipe.expression e
  where
    go : (x : Expression) → host_place x ≡ None → is_host place x ≡ false
    go (formula row t) q = refl
    go (host p) q = cc

module _ (s : State) (n : ℕ) (known : List Known) (r : SlotRead) (h : IsReadNext s n known r) where
  -- the formula asks for the slot, whatever host formulas mean
  next_asks : (host_here (standing s.signals n) ≡ None) × ((hosts : Hosts) → Read r.known.slot ≡ answer_here hosts (standing s.signals n) known)
  next_asks = slot_answer (standing s.signals n) known (SlotAsked r.known.slot) (Good r.known.value) r.known.slot refl (h.asked (Good r.known.value))

  -- it is read at once
  next_ready : IsSlotReady s n r
  next_ready = record { name = h.name; ready = h.ready; shown = h.shown }

-- a slot that is waited for and read at once is told
slot_waits : (s : State) (n : ℕ) (r : SlotRead) → IsSlotReady s n r → (visited : List ℕ) (known : List Known) (reads : List Seen) →
    GoesOn (Running (learnt known r.known.slot r.known.value) (reads ++ seen_of r ∷ []))
    ≡ waits s.signals s.memos (evaluating s) (passed_over s.signals s.memos visited) r.known.slot (slice_index (slots_here (standing s.signals n)) r.known.slot) known reads
slot_waits s n r h visited known reads =
    waits_read s.signals s.memos (evaluating s) (passed_over s.signals s.memos visited) r.known.slot r.name (Good r.known.value) known reads
    (ready_over (standing s.signals r.name) (is_in r.name (evaluating s)) (is_in r.name (passed_over s.signals s.memos visited))
    (λ live. clean_over s.signals s.memos visited r.name live (h.ready live).1))
    (sym h.shown ∙ shown_read (standing s.signals r.name) (is_computing s r.name) (is_in r.name (evaluating s)) (memo_of s.memos r.name) (in_evaluating s r.name))
    ∙ ap (λ m. waits s.signals s.memos (evaluating s) (passed_over s.signals s.memos visited) r.known.slot m known reads) h.name

-- ---- counts

-- each read was good
pub reads_good : (reads : List Seen) (more : List SlotRead) → good_reads (reads_after reads more) ≡ good_reads reads + length more
reads_good [] more = let e : good_reads (map seen_of more) ≡ length more = all more in omega (arith, e)
  where
    all : (rs : List SlotRead) → good_reads (map seen_of rs) ≡ length rs
    all [] = refl
    all (r ∷ rs) = omega (arith, all rs)
reads_good (q ∷ qs) more = let e : good_reads (reads_after qs more) ≡ good_reads qs + length more = reads_good qs more in omega (arith, e)

-- and made one slot more known
pub reads_unknown : (s : State) (n : ℕ) (known : List Known) (more : List SlotRead) → AreReadNext s n known more →
    unknown_slots (length (slots_here (standing s.signals n))) (known_after known more) + length more ≡ unknown_slots (length (slots_here (standing s.signals n))) known
reads_unknown s n known [] all =
    let e : unknown_slots (length (slots_here (standing s.signals n))) (known ++ []) ≡ unknown_slots (length (slots_here (standing s.signals n))) known =
    ap (unknown_slots (length (slots_here (standing s.signals n)))) (append-nil known) in
    omega (arith, e)
reads_unknown s n known (r ∷ rs) all =
    let count : ℕ = length (slots_here (standing s.signals n)) in
    let next : unknown_slots count (known_after (learnt known r.known.slot r.known.value) rs) + length rs ≡ unknown_slots count (learnt known r.known.slot r.known.value) =
    reads_unknown s n (learnt known r.known.slot r.known.value) rs all.1 in
    let less : unknown_slots count known ≡ suc (unknown_slots count (learnt known r.known.slot r.known.value)) =
    unknown_less count r.known.slot r.known.value known all.0.judged in
    let same : unknown_slots count (known_after (learnt known r.known.slot r.known.value) rs) ≡ unknown_slots count (known_after known (r ∷ rs)) =
    ap (unknown_slots count) (append_assoc known (r.known ∷ []) (map (λ (q : SlotRead). q.known) rs)) in
    omega (arith, next, less, same)

-- the same behind a slot that was waited for
pub waited_unknown : (s : State) (n : ℕ) (known : List Known) (r : SlotRead) (rs : List SlotRead) → AreReadNext s n (learnt known r.known.slot r.known.value) rs →
    unknown_slots (length (slots_here (standing s.signals n))) (known_after known (r ∷ rs)) + length rs
    ≡ unknown_slots (length (slots_here (standing s.signals n))) (learnt known r.known.slot r.known.value)
waited_unknown s n known r rs all =
    let count : ℕ = length (slots_here (standing s.signals n)) in
    let next : unknown_slots count (known_after (learnt known r.known.slot r.known.value) rs) + length rs ≡ unknown_slots count (learnt known r.known.slot r.known.value) =
    reads_unknown s n (learnt known r.known.slot r.known.value) rs all in
    let same : unknown_slots count (known_after (learnt known r.known.slot r.known.value) rs) ≡ unknown_slots count (known_after known (r ∷ rs)) =
    ap (unknown_slots count) (append_assoc known (r.known ∷ []) (map (λ (q : SlotRead). q.known) rs)) in
    omega (arith, next, same)

-- ---- the whole

module _ (hosts : Hosts) (start g : states.Seen) (signals : g.state.signals ≡ start.state.signals) (k0 : Memos) (kept0 : AreKept hosts start.state.signals k0) (steps0 : ℕ)
    (places0 places : List HostPlace) (asked : List ℕ) (before after : List Note) (visited : List ℕ) (rest : List Frame) (n : ℕ) (c : Computed)
    (stands : standing start.state.signals n ≡ IsComputed c) (who : (m : ℕ) → is_in m (evaluating g.state) ≡ is_in m (n ∷ frame_names rest)) where
  -- the whole, with the innermost frame in a phase
  abbrev WholeIn : ℕ → Phase → Type 0
  WholeIn steps p = IsWhole hosts start.state.signals k0 kept0 steps0 places0 asked g.state.memos steps places before after visited (record { name = n; phase = p } ∷ rest)

  -- a move of that frame to another phase, where no host formula is asked
  goes_on : (steps steps' : ℕ) (p q : Phase) → host_here (standing g.state.signals n) ≡ None →
      GoesOn q ≡ move_by hosts g.state.signals g.state.memos (evaluating g.state) (passed_over g.state.signals g.state.memos visited) n p →
      steps' ≤ steps + turn_steps start.state.signals g.state.memos (evaluating g.state) visited n p (GoesOn q) → phase_asked p + phase_asks p ≡ phase_asked q →
      WholeIn steps p → WholeIn steps' q
  goes_on steps steps' p q none is more counts x =
      subst (λ a. IsWhole hosts start.state.signals k0 kept0 steps0 places0 asked g.state.memos steps' places before a visited (record { name = n; phase = q } ∷ rest))
      (append-nil after)
      (step_whole hosts start.state.signals k0 kept0 steps0 places0 asked g.state.memos steps steps' places places before after (evaluating g.state) visited visited
      (record { name = n; phase = p }) rest (GoesOn q) c stands x who
      (is ∙ (λ j. move_by hosts (signals j) g.state.memos (evaluating g.state) (passed_over (signals j) g.state.memos visited) n p))
      (λ m. refl) (omega (arith, more)) counts (λ place.
      let z : cond (asks_host place (standing start.state.signals n)) (phase_asks p) 0 ≡ 0 =
      ap (λ b. cond b (phase_asks p) 0) (no_host place (standing start.state.signals n) (ap (λ w. host_here (standing w n)) (sym signals) ∙ none)) in
      omega (arith, z)))

  -- one slot is read
  one_whole : (steps : ℕ) (known : List Known) (reads : List Seen) (r : SlotRead) → IsReadNext g.state n known r → WholeIn steps (Running known reads) →
      WholeIn (steps + 1) (Running (learnt known r.known.slot r.known.value) (reads ++ seen_of r ∷ []))
  one_whole steps known reads r h x =
      let asks = next_asks g.state n known r h in
      let more : good_reads (reads ++ seen_of r ∷ []) ≡ good_reads reads + 1 = reads_more reads (seen_of r) in
      goes_on (steps + 1) (steps + 1) (Waiting r.known.slot known reads) (Running (learnt known r.known.slot r.known.value) (reads ++ seen_of r ∷ [])) asks.0
      (slot_waits g.state n r (next_ready g.state n known r h) visited known reads) (omega arith) (omega (arith, more))
      (goes_on steps (steps + 1) (Running known reads) (Waiting r.known.slot known reads) asks.0 (ap (λ (a : Step). answered a known reads) (asks.1 hosts))
      (omega arith) refl x)

  -- the same of a run that is told otherwise
  whole_same : (steps steps' : ℕ) (known known' : List Known) (reads reads' : List Seen) → steps ≡ steps' → known ≡ known' → reads ≡ reads' →
      WholeIn steps (Running known reads) → WholeIn steps' (Running known' reads')
  whole_same steps steps' known known' reads reads' a b d x = subst (λ z. z) (λ i. WholeIn (a i) (Running (b i) (d i))) x

  -- slots are read one after the other
  pub reads_whole : (steps : ℕ) (known : List Known) (reads : List Seen) (more : List SlotRead) → AreReadNext g.state n known more →
      WholeIn steps (Running known reads) → WholeIn (steps + length more) (Running (known_after known more) (reads_after reads more))
  reads_whole steps known reads [] all x =
      whole_same steps (steps + 0) known (known ++ []) reads (reads ++ []) (omega arith) (sym (append-nil known)) (sym (append-nil reads)) x
  reads_whole steps known reads (r ∷ rs) all x =
      whole_same (steps + 1 + length rs) (steps + length (r ∷ rs)) (known_after (learnt known r.known.slot r.known.value) rs) (known_after known (r ∷ rs))
      (reads_after (reads ++ seen_of r ∷ []) rs) (reads_after reads (r ∷ rs)) (omega arith)
      (append_assoc known (r.known ∷ []) (map (λ (q : SlotRead). q.known) rs)) (append_assoc reads (seen_of r ∷ []) (map seen_of rs))
      (reads_whole (steps + 1) (learnt known r.known.slot r.known.value) (reads ++ seen_of r ∷ []) rs all.1 (one_whole steps known reads r all.0 x))

  -- a slot that was waited for is read
  told_whole : (steps : ℕ) (known : List Known) (reads : List Seen) (r : SlotRead) → host_here (standing g.state.signals n) ≡ None → IsSlotReady g.state n r →
      WholeIn steps (Waiting r.known.slot known reads) → WholeIn steps (Running (learnt known r.known.slot r.known.value) (reads ++ seen_of r ∷ []))
  told_whole steps known reads r none h x =
      let more : good_reads (reads ++ seen_of r ∷ []) ≡ good_reads reads + 1 = reads_more reads (seen_of r) in
      goes_on steps steps (Waiting r.known.slot known reads) (Running (learnt known r.known.slot r.known.value) (reads ++ seen_of r ∷ [])) none
      (slot_waits g.state n r h visited known reads) (omega arith) (omega (arith, more)) x

  -- and others behind it
  pub waited_whole : (steps slot : ℕ) (known : List Known) (reads : List Seen) (more : List SlotRead) → CanRead g.state n (Waiting slot known reads) more →
      WholeIn steps (Waiting slot known reads) → WholeIn (steps + read_steps (Waiting slot known reads) more) (phase_after (Waiting slot known reads) more)
  waited_whole steps slot known reads [] can x = subst (λ m. WholeIn m (Waiting slot known reads)) (omega arith) x
  waited_whole steps slot known reads (r ∷ rs) can x =
      whole_same (steps + length rs) (steps + length rs) (known_after (learnt known r.known.slot r.known.value) rs) (known_after known (r ∷ rs))
      (reads_after (reads ++ seen_of r ∷ []) rs) (reads_after reads (r ∷ rs)) refl
      (append_assoc known (r.known ∷ []) (map (λ (q : SlotRead). q.known) rs)) (append_assoc reads (seen_of r ∷ []) (map seen_of rs))
      (reads_whole steps (learnt known r.known.slot r.known.value) (reads ++ seen_of r ∷ []) rs can.3
      (told_whole steps known reads r can.0 can.2 (subst (λ m. WholeIn steps (Waiting m known reads)) (sym can.1) x)))

  -- the slot that its formula needs next is waited for
  pub left_whole : (steps : ℕ) (left : Option ℕ) (p : Phase) → CanLeave g.state n left p → WholeIn steps p →
      WholeIn (steps + left_steps left) (phase_left left p)
  left_whole steps None p can x = subst (λ m. WholeIn m p) (omega arith) x
  left_whole steps (Some slot) (Looking place) can x = absurd can
  left_whole steps (Some slot) (LookedAt place) can x = absurd can
  left_whole steps (Some slot) (Running known reads) can x =
      let asks = slot_answer (standing g.state.signals n) known (SlotAsked slot) (Bad Cycle) slot refl (can.0 (Bad Cycle)) in
      goes_on steps (steps + 1) (Running known reads) (Waiting slot known reads) asks.0 (ap (λ (a : Step). answered a known reads) (asks.1 hosts))
      (omega arith) refl x
  left_whole steps (Some slot) (Waiting other known reads) can x = absurd can
