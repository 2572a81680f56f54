-- Each step lowers the measure, whatever the hosts answer and whatever is kept.
use Rattle.std.proofs.Common.{Option, Some, None}
use Rattle.std.proofs.Common.{◌≡◌, ℕ, zero, suc, ◌+◌, ◌-◌, ◌<◌, ◌≤◌, ◌==◌, ◌||◌, ◌&&◌, not, Bool, true, false, cond, List, [], ◌∷◌, ◌++◌, drop}
use Rattle.std.proofs.Common.{length, refl, sym, ap, ◌∙◌, subst, arith, ◌⊎◌, inl, inr}
use Rattle.std.specs.Prelude.{slice_index}
use Rattle.std.proofs.lemmas.List.{length-drop}
use Rattle.sig_base.specs.declared.value.Value.{Value}
use Rattle.sig_base.specs.declared.value.Value.TheVariants.{Bool as truth}
use Rattle.sig_base.specs.declared.value.Known.{Known}
use Rattle.sig_base.specs.declared.value.Step.{Step}
use Rattle.sig_base.specs.declared.value.Step.TheVariants.{Read, Done, Fail}
use Rattle.sig_base.specs.declared.value.Outcome.{Outcome}
use Rattle.sig_base.specs.declared.value.Outcome.TheVariants.{Good, Bad}
use Rattle.signal_model.specs.Recipes.{Hosts, is_known, given_answer, recipe_answer}
use Rattle.signal_model.specs.Signals.{Signals, Computed, Stands, IsGone, IsCell, IsComputed, is_computed, is_in, computed_at, or_gone, standing}
use Rattle.signal_model.specs.Values.{Seen, learnt, unknown_slots, names_left}
use Rattle.signal_model.specs.Memos.{Source, Memos, holds_cycle, sources_of, is_moved}
use Rattle.signal_model.specs.Sound.{standing_outcome}
use Rattle.signal_model.specs.Recipes.{IsUnknownSlot}
use Rattle.signal_model.proofs.Shared.{read_new, unknown_less, name_is, left_less}
use Rattle.signal_laws.proofs.Shared.{in_append, or_none}
use Rattle.sig_computed.specs.Steps.{Phase, Looking, LookedAt, Running, Waiting, Frame, Underway, frame_names, new_frame, is_ready, ready_outcome}
use Rattle.sig_computed.specs.Steps.{Move, GoesOn, Needs, Stops, Ends, decided, looked, slot_read, waited, answered, move_of, frame_move, after_move}
use Rattle.sig_computed.specs.Steps.{asked_next, stack_step, stepped}
use Rattle.sig_computed.specs.StepLaws.{stepped_times, IsOver, phase_left, left_here, top_left, names_free, IsLower, StepsLowerLaw, StepsEndLaw}
use Rattle.sig_computed.proofs.StepsHold.{unready}

-- the measure, against a settling with this stack
abbrev LowerBy : Signals → Underway → Underway → List Frame → Type 0
LowerBy w a b st = (length a.asked < length b.asked)
    ⊎ ((length a.asked ≡ length b.asked)
    × ((names_free w a < names_left w.computeds (frame_names st ++ b.visited))
    ⊎ ((names_free w a ≡ names_left w.computeds (frame_names st ++ b.visited))
    × ((length a.stack < length st) ⊎ ((length a.stack ≡ length st) × (top_left w a.memos a.stack < top_left w b.memos st))))))

-- ---- slots

-- no more slots are unknown than there are
pub few_unknown : (n : ℕ) (known : List Known) → unknown_slots n known ≤ n
few_unknown zero known = omega arith
few_unknown (suc n) known = go (is_known n known) (few_unknown n known)
  where
    go : (b : Bool) → unknown_slots n known ≤ n → cond b 0 1 + unknown_slots n known ≤ suc n
    go true h = omega (arith, h)
    go false h = omega (arith, h)

-- which slots are known doesn't rest on their values
known_any : (n s : ℕ) (u v : Value) (known : List Known) → is_known n (learnt known s u) ≡ is_known n (learnt known s v)
known_any n s u v [] = refl
known_any n s u v (k ∷ ks) = ap (λ b. k.slot == n || b) (known_any n s u v ks)

-- nor does their number
pub unknown_any : (n s : ℕ) (u v : Value) (known : List Known) → unknown_slots n (learnt known s u) ≡ unknown_slots n (learnt known s v)
unknown_any zero s u v known = refl
unknown_any (suc n) s u v known = (λ i. cond (known_any n s u v known i) 0 1 + unknown_any n s u v known i)

-- ---- names

-- a name stands in the middle as in front
pub middle : (m n : ℕ) (xs ys : List ℕ) → is_in m (xs ++ n ∷ ys) ≡ is_in m (n ∷ xs ++ ys)
middle m n xs ys = in_append m xs (n ∷ ys) ∙ shift (is_in m xs) (m == n) (is_in m ys) ∙ ap (λ b. m == n || b) (sym (in_append m xs ys))
  where
    shift : (a b c : Bool) → (a || (b || c)) ≡ (b || (a || c))
    shift true true c = refl
    shift true false c = refl
    shift false b c = refl

-- the same names leave as many
left_same : (cs : List Computed) (P Q : List ℕ) → ((m : ℕ) → is_in m P ≡ is_in m Q) → names_left cs P ≡ names_left cs Q
left_same [] P Q f = refl
left_same (c ∷ cs) P Q f = (λ i. cond (f c.name i || is_computed (or_gone (computed_at c.name cs))) 0 1 + left_same cs P Q f i)

-- ---- moves

-- a frame has less left after a move, or needs a computed that is free
abbrev pub MoveLowers : Signals → Memos → List ℕ → List ℕ → ℕ → Phase → Move → Type 0
MoveLowers w k evaluating seen n p (GoesOn q) = left_here k n q (standing w n) < left_here k n p (standing w n)
MoveLowers w k evaluating seen n p (Needs s q) =
    (left_here k n q (standing w n) ≡ left_here k n p (standing w n))
    × ((d : Computed) × (standing w s ≡ IsComputed d) × (is_in s evaluating ≡ false) × (is_in s seen ≡ false))
MoveLowers w k evaluating seen n p Stops = Unit {0}
MoveLowers w k evaluating seen n p (Ends e) = Unit {0}

module _ (w : Signals) (k : Memos) (evaluating seen : List ℕ) (n : ℕ) (c : Computed) (stands : standing w n ≡ IsComputed c) where
  -- less for a computed is less here
  less : (p q : Phase) → phase_left k n c q < phase_left k n c p → left_here k n q (standing w n) < left_here k n p (standing w n)
  less p q h = subst (λ st. left_here k n q st < left_here k n p st) (sym stands) h

  -- a look
  pub look_lowers : (p : Phase) (cycle : Bool) (place : ℕ) (l : List Source) → drop place (sources_of k n) ≡ l →
      phase_left k n c p ≡ phase_left k n c (LookedAt place) →
      MoveLowers w k evaluating seen n p (looked w k evaluating seen cycle place l)
  look_lowers p cycle place [] e is = tt
  look_lowers p cycle place (s ∷ ss) e is = go (is_ready (standing w s.name) (is_in s.name evaluating) (is_in s.name seen)) refl
    where
      len : length (sources_of k n) - place ≡ suc (length ss)
      len = sym (length-drop place (sources_of k n)) ∙ ap length e

      by : (b : Bool) → MoveLowers w k evaluating seen n p (cond b (GoesOn (Running [] [])) (GoesOn (Looking (place + 1))))
      by true = let few : unknown_slots (length c.recipe.slots) [] ≤ length c.recipe.slots =
          few_unknown (length c.recipe.slots) [] in less p (Running [] []) (omega (arith, few, is))
      by false = less p (Looking (place + 1)) (omega (arith, len, is))

      go : (b : Bool) → is_ready (standing w s.name) (is_in s.name evaluating) (is_in s.name seen) ≡ b →
          MoveLowers w k evaluating seen n p (cond b (decided cycle (is_moved k evaluating s) place) (Needs s.name (LookedAt place)))
      go true r = by (not cycle && is_moved k evaluating s)
      go false r = (
        (λ i. left_here k n (LookedAt place) (stands i)) ∙ sym is ∙ (λ i. left_here k n p (sym stands i)),
        unready (standing w s.name) (is_in s.name evaluating) (is_in s.name seen) r,
      )

  -- an answer
  pub answer_lowers : (known : List Known) (reads : List Seen) (st : Step) → ((s : ℕ) → st ≡ Read s → IsUnknownSlot (length c.recipe.slots) s known) →
      MoveLowers w k evaluating seen n (Running known reads) (answered st known reads)
  answer_lowers known reads (Done v) e = tt
  answer_lowers known reads (Fail z) e = tt
  answer_lowers known reads (Read s) e =
      let u : unknown_slots (length c.recipe.slots) known ≡ suc (unknown_slots (length c.recipe.slots) (learnt known s (truth true))) =
      unknown_less (length c.recipe.slots) s (truth true) known (e s refl) in
      less (Running known reads) (Waiting s known reads) (omega (arith, u))

  -- a read
  pub read_lowers : (slot m : ℕ) (o : Option Outcome) (known : List Known) (reads : List Seen) →
      MoveLowers w k evaluating seen n (Waiting slot known reads) (slot_read slot m o known reads)
  read_lowers slot m None known reads = tt
  read_lowers slot m (Some (Bad z)) known reads = tt
  read_lowers slot m (Some (Good v)) known reads =
      let u : unknown_slots (length c.recipe.slots) (learnt known slot v) ≡ unknown_slots (length c.recipe.slots)
      (learnt known slot (truth true)) = unknown_any (length c.recipe.slots) slot v (truth true) known in
      less (Waiting slot known reads) (Running (learnt known slot v) (reads ++ record { name = m; outcome = Good v } ∷ [])) (omega (arith, u))

  -- a slot that is waited for
  pub wait_lowers : (slot m : ℕ) (known : List Known) (reads : List Seen) →
      MoveLowers w k evaluating seen n (Waiting slot known reads) (waited w k evaluating seen slot m known reads)
  wait_lowers slot m known reads = go (is_ready (standing w m) (is_in m evaluating) (is_in m seen)) refl
    where
      go : (b : Bool) → is_ready (standing w m) (is_in m evaluating) (is_in m seen) ≡ b →
          MoveLowers w k evaluating seen n (Waiting slot known reads)
          (cond b (slot_read slot m (ready_outcome (standing w m) (is_in m evaluating) (standing_outcome w k m)) known reads)
          (Needs m (Waiting slot known reads)))
      go true r = read_lowers slot m (ready_outcome (standing w m) (is_in m evaluating) (standing_outcome w k m)) known reads
      go false r = (refl, unready (standing w m) (is_in m evaluating) (is_in m seen) r)

  -- each phase
  phase_lowers : (hosts : Hosts) (p : Phase) → MoveLowers w k evaluating seen n p (move_of hosts w k evaluating seen n c p)
  phase_lowers hosts (Looking place) =
      look_lowers (Looking place) (holds_cycle k n) place (drop place (sources_of k n)) refl refl
  phase_lowers hosts (LookedAt place) =
      look_lowers (LookedAt place) (holds_cycle k n) place (drop place (sources_of k n)) refl refl
  phase_lowers hosts (Running known reads) =
      answer_lowers known reads (recipe_answer hosts c.recipe known)
      (λ s e. read_new (length c.recipe.slots) known (given_answer hosts c.recipe.expression known) s e)
  phase_lowers hosts (Waiting slot known reads) = wait_lowers slot (slice_index c.recipe.slots slot) known reads

-- and each frame
frame_lowers : (hosts : Hosts) (w : Signals) (k : Memos) (path seen : List ℕ) (f : Frame) (st : Stands) → standing w f.name ≡ st →
    MoveLowers w k (f.name ∷ path) seen f.name f.phase (frame_move hosts w k path seen f st)
frame_lowers hosts w k path seen f IsGone e = tt
frame_lowers hosts w k path seen f (IsCell d) e = tt
frame_lowers hosts w k path seen f (IsComputed c) e = phase_lowers w k (f.name ∷ path) seen f.name c e hosts f.phase

-- so a move lowers the measure
move_lowers : (hosts : Hosts) (w : Signals) (m : Underway) (f : Frame) (fs : List Frame) (mv : Move) →
    MoveLowers w m.memos (f.name ∷ frame_names fs) m.visited f.name f.phase mv → LowerBy w (after_move m f.name fs mv) m (f ∷ fs)
move_lowers hosts w m f fs (GoesOn q) h = inr (refl, inr (refl, inr (refl, h)))
move_lowers hosts w m f fs (Needs s q) h =
    let Q : List ℕ = (f.name ∷ frame_names fs) ++ m.visited in
    let off : is_in s Q ≡ false = in_append s (f.name ∷ frame_names fs) m.visited
    ∙ or_none (is_in s (f.name ∷ frame_names fs)) (is_in s m.visited) h.1.2 h.1.3 in
    let fewer : names_left w.computeds Q ≡ suc (names_left w.computeds (s ∷ Q)) = left_less hosts w s Q h.1.0 h.1.1 off
    ∙ ap (λ y. suc (names_left w.computeds (y ∷ Q))) (sym (name_is hosts w s h.1.0 h.1.1)) in
    inr (refl, inl (omega (arith, fewer)))
move_lowers hosts w m f fs Stops h =
    inr (
      refl,
      inr (
        left_same w.computeds (frame_names fs ++ f.name ∷ m.visited) ((f.name ∷ frame_names fs) ++ m.visited)
            (λ x. middle x f.name (frame_names fs) m.visited),
        inl (omega arith),
      ),
    )
move_lowers hosts w m f fs (Ends e) h =
    inr (
      refl,
      inr (
        left_same w.computeds (frame_names fs ++ f.name ∷ m.visited) ((f.name ∷ frame_names fs) ++ m.visited)
            (λ x. middle x f.name (frame_names fs) m.visited),
        inl (omega arith),
      ),
    )

-- each step
pub steps_lower_law : StepsLowerLaw
steps_lower_law hosts w m = go m.stack refl
  where
    asks : (ns : List ℕ) → m.stack ≡ [] → m.asked ≡ ns → IsOver m ⊎ LowerBy w (asked_next w m ns) m []
    asks [] e q = inl (record { stack = e; asked = q })
    asks (n ∷ ns) e q = inr (by (is_ready (standing w n) false (is_in n m.visited)))
      where
        len : length m.asked ≡ suc (length ns)
        len = ap length q

        by : (b : Bool) → LowerBy w (cond b (record m { asked = ns }) (record m { asked = ns; stack = new_frame m.memos n ∷ [] })) m []
        by true = inl (omega (arith, len))
        by false = inl (omega (arith, len))

    go : (st : List Frame) → m.stack ≡ st → IsOver m ⊎ IsLower w (stack_step hosts w m st) m
    go [] e = subst (λ st. IsOver m ⊎ LowerBy w (stack_step hosts w m []) m st) (sym e) (asks m.asked e refl)
    go (f ∷ fs) e = subst (λ st. IsOver m ⊎ LowerBy w (stack_step hosts w m (f ∷ fs)) m st) (sym e)
        (inr (move_lowers hosts w m f fs (frame_move hosts w m.memos (frame_names fs) m.visited f (standing w f.name))
        (frame_lowers hosts w m.memos (frame_names fs) m.visited f (standing w f.name) refl)))

-- ---- the end

-- the steps come to an end
abbrev ComesToEnd : Hosts → Signals → Underway → Type 0
ComesToEnd hosts w m = (turns : ℕ) × IsOver (stepped_times turns hosts w m)

module _ (hosts : Hosts) (w : Signals) where
  -- by what the innermost frame has left
  end_top : (far a b l : ℕ) →
      ((m : Underway) → (length m.asked < a) ⊎ ((length m.asked ≡ a) × ((names_free w m < b) ⊎ ((names_free w m ≡ b) × (length m.stack < l)))) →
      ComesToEnd hosts w m) →
      (m : Underway) → length m.asked ≡ a → names_free w m ≡ b → length m.stack ≡ l → top_left w m.memos m.stack < far → ComesToEnd hosts w m
  end_top zero a b l ih m ea eb el lt = absurd (omega (arith, lt))
  end_top (suc far) a b l ih m ea eb el lt = elim (steps_lower_law hosts w m) [
    | inl over ↦ (0, over)
    | inr low ↦ after (elim low [
      | inl x ↦ ih next (inl (subst (λ y. length next.asked < y) ea x))
      | inr x ↦ elim x.1 [
        | inl y ↦ ih next (inr (x.0 ∙ ea, inl (subst (λ z. names_free w next < z) eb y)))
        | inr y ↦ elim y.1 [
          | inl z ↦ ih next (inr (x.0 ∙ ea, inr (y.0 ∙ eb, subst (λ u. length next.stack < u) el z)))
          | inr z ↦ let less : top_left w next.memos next.stack < far =
              omega (arith, lt, z.1) in end_top far a b l ih next (x.0 ∙ ea) (y.0 ∙ eb) (z.0 ∙ el) less
        ]
      ]
    ])
  ]
    where
      next : Underway
      next = stepped hosts w m

      after : ComesToEnd hosts w (stepped hosts w m) → ComesToEnd hosts w m
      after e = (suc e.0, e.1)

  -- by the frames
  end_stack : (far a b : ℕ) → ((m : Underway) → (length m.asked < a) ⊎ ((length m.asked ≡ a) × (names_free w m < b)) → ComesToEnd hosts w m) →
      (m : Underway) → length m.asked ≡ a → names_free w m ≡ b → length m.stack < far → ComesToEnd hosts w m
  end_stack zero a b ih m ea eb lt = absurd (omega (arith, lt))
  end_stack (suc far) a b ih m ea eb lt =
      let more : top_left w m.memos m.stack < suc (top_left w m.memos m.stack) = omega arith in
      end_top (suc (top_left w m.memos m.stack)) a b (length m.stack) (λ m' r. elim r [
        | inl x ↦ ih m' (inl x)
        | inr x ↦ elim x.1 [
          | inl y ↦ ih m' (inr (x.0, y))
          | inr y ↦ let less : length m'.stack < far = omega (arith, lt, y.1) in end_stack far a b ih m' x.0 y.0 less
        ]
      ]) m ea eb refl more

  -- by the computeds that are free
  end_free : (far a : ℕ) → ((m : Underway) → length m.asked < a → ComesToEnd hosts w m) → (m : Underway) → length m.asked ≡ a →
      names_free w m < far → ComesToEnd hosts w m
  end_free zero a ih m ea lt = absurd (omega (arith, lt))
  end_free (suc far) a ih m ea lt =
      let more : length m.stack < suc (length m.stack) = omega arith in
      end_stack (suc (length m.stack)) a (names_free w m) (λ m' r. elim r [
        | inl x ↦ ih m' x
        | inr x ↦ let less : names_free w m' < far = omega (arith, lt, x.1) in end_free far a ih m' x.0 less
      ]) m ea refl more

  -- by the names that are asked for
  end_asked : (far : ℕ) (m : Underway) → length m.asked < far → ComesToEnd hosts w m
  end_asked zero m lt = absurd (omega (arith, lt))
  end_asked (suc far) m lt =
      let more : names_free w m < suc (names_free w m) = omega arith in
      end_free (suc (names_free w m)) (length m.asked)
      (λ m' x. let less : length m'.asked < far = omega (arith, lt, x) in end_asked far m' less) m refl more

-- so they do
pub steps_end_law : StepsEndLaw
steps_end_law hosts w m = let more : length m.asked < suc (length m.asked) = omega arith in end_asked hosts w (suc (length m.asked)) m more
