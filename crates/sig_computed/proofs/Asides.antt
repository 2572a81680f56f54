-- What a run has learnt.
use Rattle.std.proofs.Common.{◌≡◌, ℕ, ◌+◌, ◌≤◌, Bool, true, false, cond, List, [], ◌∷◌, ◌++◌, Option, Some, None, map, length, refl, ap, ◌∙◌, subst, arith}
use Rattle.std.specs.List.{All}
use Rattle.std.proofs.lemmas.List.{length-append, length-map}
use Rattle.std.proofs.lemmas.List.Elements.{All-cons, All-head, All-nil, All-tail}
use Rattle.sig_base.specs.declared.value.Known.{Known}
use Rattle.sig_base.specs.declared.value.Outcome.{Outcome}
use Rattle.sig_base.specs.declared.value.Outcome.TheVariants.{Good}
use Rattle.signal_model.specs.Signals.{Stands, standing}
use Rattle.signal_model.specs.Sound.{names_of}
use Rattle.signal_model.specs.Values.{Seen}
use Rattle.sig_nodes.specs.declared.answers.Asked.TheVariants.{Ended}
use Rattle.sig_nodes.specs.Answers.{IsAnswerHere}
use Rattle.sig_graph.specs.declared.reading.Reached.{Reached}
use Rattle.sig_graph.specs.declared.reading.Reached.TheVariants as reached
use Rattle.sig_graph.specs.Reading.{SlotRead, HasReadOn, IsReachedHere, IsReadOne, reached_steps}
use Rattle.sig_graph.specs.States as states
use Rattle.sig_graph.specs.States.{is_given}
use Rattle.sig_computed.specs.Steps.{Phase, Running, Waiting}
use Rattle.sig_computed.specs.Turns.{AreReadsGiven}
use Rattle.sig_computed.specs.Reading.{known_after, reads_after, seen_of, CanLeave, HasGoneOn, IsToldWhere, is_ended, left_steps, phase_left, reached_phase}
use Rattle.sig_computed.proofs.Stacks.{names_given}
use Rattle.sig_computed.specs.Lessons.{Lesson, good_seen}
use Rattle.sig_computed.specs.Views.{blank_phase, phase_of}
use Rattle.sig_computed.specs.declared.frames.Doing.{Doing}
use Rattle.sig_computed.specs.declared.frames.Doing.TheVariants as doing

-- who has learnt nothing is in a blank phase
pub learnt_nothing : (d : Doing) (l : Lesson) → l.known ≡ [] → l.reads ≡ [] → phase_of d l ≡ blank_phase d
learnt_nothing (doing.Looking place) l known reads = refl
learnt_nothing (doing.LookedAt place) l known reads = refl
learnt_nothing doing.Running l known reads = (λ i. Running (known i) (reads i))
learnt_nothing (doing.Waiting slot) l known reads = (λ i. Waiting slot (known i) (reads i))

-- where nothing is known nothing was read
pub unseen : (ns : List ℕ) → good_seen ns [] ≡ []
unseen [] = refl
unseen (n ∷ ns) = refl

-- the ids of what was read are those
pub seen_names : (ns : List ℕ) (ks : List Known) → length ns ≡ length ks → names_of (good_seen ns ks) ≡ ns
seen_names [] ks h = refl
seen_names (n ∷ ns) [] h = absurd (omega arith)
seen_names (n ∷ ns) (k ∷ ks) h = let l : length ns ≡ length ks = omega arith in ap (λ (r : List ℕ). n ∷ r) (seen_names ns ks l)

-- some more were read
pub seen_all : (ns : List ℕ) (ks : List Known) (more : List SlotRead) → length ns ≡ length ks →
    good_seen (ns ++ map (λ (r : SlotRead). r.name) more) (known_after ks more) ≡ reads_after (good_seen ns ks) more
seen_all [] [] more h = all more
  where
    all : (rs : List SlotRead) → good_seen (map (λ (r : SlotRead). r.name) rs) (map (λ (r : SlotRead). r.known) rs) ≡ map seen_of rs
    all [] = refl
    all (r ∷ rs) = ap (λ (l : List Seen). seen_of r ∷ l) (all rs)
seen_all [] (j ∷ ks) more h = absurd (omega arith)
seen_all (m ∷ ns) [] more h = absurd (omega arith)
seen_all (m ∷ ns) (j ∷ ks) more h =
    let l : length ns ≡ length ks = omega arith in
    ap (λ (r : List Seen). record { name = m; outcome = Good j.value } ∷ r) (seen_all ns ks more l)

-- what was read was given where its ids were
pub seen_given : (g : states.Seen) (ns : List ℕ) (ks : List Known) → All (λ n. is_given g n ≡ true) ns → AreReadsGiven g (good_seen ns ks)
seen_given g [] ks all = All-nil (λ (r : Seen). is_given g r.name ≡ true)
seen_given g (n ∷ ns) [] all = All-nil (λ (r : Seen). is_given g r.name ≡ true)
seen_given g (n ∷ ns) (k ∷ ks) all =
    All-cons (λ (r : Seen). is_given g r.name ≡ true) (record { name = n; outcome = Good k.value }) (good_seen ns ks)
    (All-head (λ m. is_given g m ≡ true) n ns all) (seen_given g ns ks (All-tail (λ m. is_given g m ≡ true) n ns all))

-- the slot that reading on has told
abbrev told_slot : Reached → Option ℕ
told_slot reached.Ended = None
told_slot (reached.Needs slot) = Some slot
told_slot reached.Left = None

-- where it came to its end, that is the answer
pub reached_end : (r : Reached) (st : Stands) (ks : List Known) (o : Outcome) → IsReachedHere r st ks o → is_ended r ≡ true → IsAnswerHere st ks Ended o
reached_end reached.Ended st ks o h e = h
reached_end (reached.Needs slot) st ks o h e = cc
reached_end reached.Left st ks o h e = cc

-- the frame may wait for the slot then
reached_leaves : (r : Reached) (s : states.State) (n : ℕ) (ks : List Known) (seen : List Seen) (o : Outcome) → IsReachedHere r (standing s.signals n) ks o →
    CanLeave s n (told_slot r) (Running ks seen)
reached_leaves reached.Ended s n ks seen o h = tt
reached_leaves (reached.Needs slot) s n ks seen o h = h
reached_leaves reached.Left s n ks seen o h = tt

-- and its phase is that
reached_left : (r : Reached) (l : Lesson) → reached_phase r l ≡ phase_left (told_slot r) (Running l.known l.reads)
reached_left reached.Ended l = refl
reached_left (reached.Needs slot) l = refl
reached_left reached.Left l = refl

-- one step counts, for the end or for the slot
steps_reached : (r : Reached) → reached_steps r ≡ left_steps (told_slot r) + cond (is_ended r) 1 0
steps_reached reached.Ended = refl
steps_reached (reached.Needs slot) = refl
steps_reached reached.Left = refl

-- A run has read on, as the graph tells it of its two lists.
pub learnt_on : (old new : states.Seen) (n : ℕ) (ks : List Known) (ns : List ℕ) (ks' : List Known) (ns' : List ℕ) (r : Reached) (o : Outcome) →
    length ns ≡ length ks → HasReadOn old.state n ks ns ks' ns' → IsReachedHere r (standing old.state.signals n) ks' o → (All (λ m. is_given old m ≡ true) ns → All (λ m. is_given old m ≡ true) ns') →
    states.Becomes old new (record old.state { looked = new.state.looked }) → new.seats ≡ old.seats →
    new.state.looked + length ks ≤ old.state.looked + length ks' + reached_steps r →
    HasGoneOn old new n (Running ks (good_seen ns ks)) (reached_phase r (record { known = ks'; reads = good_seen ns' ks' })) (is_ended r)
learnt_on old new n ks ns ks' ns' r o even h is given after seats steps =
    let seen : good_seen ns' ks' ≡ reads_after (good_seen ns ks) h.more =
    (λ i. good_seen (h.names i) (h.knows i)) ∙ seen_all ns ks h.more even in
    let more : length ks' ≡ length ks + length (map (λ (r : SlotRead). r.known) h.more) =
    ap length h.knows ∙ length-append ks (map (λ (r : SlotRead). r.known) h.more) in
    let many : length (map (λ (r : SlotRead). r.known) h.more) ≡ length h.more = length-map h.more (λ (r : SlotRead). r.known) in
    let counts = steps_reached r in
    record {
      more = h.more;
      left = told_slot r;
      next = h.next;
      leaves = subst (λ (q : Phase). CanLeave old.state n (told_slot r) q) (λ i. Running (h.knows i) (seen i))
          (reached_leaves r old.state n ks' (good_seen ns' ks') o is);
      phase = reached_left r (record { known = ks'; reads = good_seen ns' ks' }) ∙ (λ i. phase_left (told_slot r) (Running (h.knows i) (seen i)));
      given = λ all. subst (AreReadsGiven old) seen (seen_given old ns' ks'
          (given (subst (All (λ m. is_given old m ≡ true)) (seen_names ns ks even) (names_given old (good_seen ns ks) all))));
      stays = record {
        signals = ap (λ (s : states.State). s.signals) after.state;
        memos = ap (λ (s : states.State). s.memos) after.state;
        progress = ap (λ (s : states.State). s.progress) after.state;
        worn = ap (λ (s : states.State). s.worn) after.state;
        seats = seats;
        given = after.given;
        steps = omega (arith, steps, more, many, counts);
      };
    }

-- The slot that was waited for was read, where it was, as the graph tells it of the two lists.
pub learnt_told : (b : Bool) (g : states.Seen) (n slot : ℕ) (ks : List Known) (ns : List ℕ) (ks' : List Known) (ns' : List ℕ) → length ns ≡ length ks →
    IsReadOne b g.state n slot ks ns ks' ns' → (All (λ m. is_given g m ≡ true) ns → All (λ m. is_given g m ≡ true) ns') →
    IsToldWhere b g n slot (record { known = ks; reads = good_seen ns ks }) (record { known = ks'; reads = good_seen ns' ks' })
learnt_told true g n slot ks ns ks' ns' even h given = record {
  read = h.read;
  same = h.same;
  formula = h.formula;
  ready = h.ready;
  known = h.knows;
  reads = (λ i. good_seen (h.names i) (h.knows i)) ∙ seen_all ns ks (h.read ∷ []) even;
  given = λ all. seen_given g ns' ks'
      (given (subst (All (λ m. is_given g m ≡ true)) (seen_names ns ks even) (names_given g (good_seen ns ks) all)));
}
learnt_told false g n slot ks ns ks' ns' even h given = (λ i. record { known = h.0 i; reads = good_seen (h.1 i) (h.0 i) })
