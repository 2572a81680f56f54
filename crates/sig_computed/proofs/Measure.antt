-- The measure as one number, which speaks of no host and no soundness.
use Rattle.std.proofs.Common.{◌≡◌, ℕ, suc, ◌+◌, ◌*◌, ◌-◌, ◌<◌, ◌≤◌, ◌==◌, ◌||◌, Bool, true, false, cond, List, [], ◌∷◌, ◌++◌, map, drop, length, Option, Some, None, refl, sym, ap, ◌∙◌, subst, arith, inl, inr}
use Rattle.std.proofs.lemmas.Bool.{eqb-true, eq-eqb}
use Rattle.signal_model.specs.Signals.{Signals, Computed, Stands, IsGone, IsCell, IsComputed, Cell, is_in, cell_at, computed_at, or_computed, standing}
use Rattle.std.specs.Prelude.{slice_index}
use Rattle.sig_base.specs.declared.value.Known.{Known}
use Rattle.sig_base.specs.declared.value.Step.{Step}
use Rattle.sig_base.specs.declared.value.Step.TheVariants.{Read, Done, Fail}
use Rattle.signal_model.specs.Recipes.{IsJudged, IsUnknownSlot}
use Rattle.signal_model.specs.Sound.{standing_outcome}
use Rattle.signal_model.specs.Values.{Seen, unknown_slots}
use Rattle.signal_model.specs.Memos.{Memos, holds_cycle, is_stale, memo_of, memo_in, sources_of, sources_in}
use Rattle.signal_model.specs.Settling.{source_now}
use Rattle.signal_model.proofs.Shared.{tested}
use Rattle.signal_laws.proofs.Shared.{in_append, in_head, or_none, or_snd, run_other}
use Rattle.sig_computed.specs.Steps.{Phase, Looking, LookedAt, Running, Waiting, Frame, frame_names, is_ready, ready_outcome, new_frame}
use Rattle.sig_computed.specs.Steps.{Move, GoesOn, Needs, Stops, Ends, slot_read}
use Rattle.sig_computed.specs.StepLaws.{phase_left, left_here}
use Rattle.sig_computed.proofs.StepsEnd.{MoveLowers, look_lowers, answer_lowers, read_lowers, few_unknown, middle}
use Rattle.sig_computed.proofs.StepsHold.{unready}
use Rattle.sig_nodes.specs.Answers.{slots_here}
use Rattle.sig_computed.specs.Views.{or_cycle}
use Rattle.sig_computed.specs.Turns.{stack_after, visited_after, memos_after, waits, IsMove}

-- more than a new frame has left
abbrev weight_here : Memos → ℕ → Stands → ℕ
weight_here k n (IsComputed c) = 2 * length c.recipe.slots + 4 + length (sources_of k n)
weight_here k n _ = 0

abbrev free_weight : Signals → Memos → List Computed → List ℕ → ℕ
free_weight w k [] P = 0
free_weight w k (c ∷ cs) P = cond (is_in c.name P) 0 (weight_here k c.name (standing w c.name)) + free_weight w k cs P

abbrev stack_weight : Signals → Memos → List Frame → ℕ
stack_weight w k [] = 0
stack_weight w k (f ∷ fs) = suc (left_here k f.name f.phase (standing w f.name)) + stack_weight w k fs

abbrev pub work : Signals → Memos → List Frame → List ℕ → ℕ
work w k fs visited = stack_weight w k fs + free_weight w k w.computeds (frame_names fs ++ visited)

-- the same names leave the same
free_same : (w : Signals) (k : Memos) (cs : List Computed) (P Q : List ℕ) → ((m : ℕ) → is_in m P ≡ is_in m Q) → free_weight w k cs P ≡ free_weight w k cs Q
free_same w k [] P Q f = refl
free_same w k (c ∷ cs) P Q f = (λ i. cond (f c.name i) 0 (weight_here k c.name (standing w c.name)) + free_same w k cs P Q f i)

-- a name more is no more
free_less : (w : Signals) (k : Memos) (cs : List Computed) (P : List ℕ) (s : ℕ) → free_weight w k cs (s ∷ P) ≤ free_weight w k cs P
free_less w k [] P s = omega arith
free_less w k (c ∷ cs) P s = go (c.name == s) (is_in c.name P) (free_less w k cs P s)
  where
    go : (a b : Bool) → free_weight w k cs (s ∷ P) ≤ free_weight w k cs P → cond (a || b) 0 (weight_here k c.name (standing w c.name)) + free_weight w k cs (s ∷ P) ≤ cond b 0 (weight_here k c.name (standing w c.name)) + free_weight w k cs P
    go true true h = omega (arith, h)
    go true false h = omega (arith, h)
    go false true h = omega (arith, h)
    go false false h = omega (arith, h)

-- a free computed that isn't free any more takes its weight along
free_taken : (w : Signals) (k : Memos) (cs : List Computed) (P : List ℕ) (s : ℕ) (d : Computed) → computed_at s cs ≡ Some d → is_in s P ≡ false →
    weight_here k s (standing w s) + free_weight w k cs (s ∷ P) ≤ free_weight w k cs P
free_taken w k [] P s d at off = cc
free_taken w k (c ∷ cs) P s d at off = go (s == c.name) refl at (free_taken w k cs P s d)
  where
    go : (b : Bool) → (s == c.name) ≡ b → cond b (Some c) (computed_at s cs) ≡ Some d → (computed_at s cs ≡ Some d → is_in s P ≡ false → weight_here k s (standing w s) + free_weight w k cs (s ∷ P) ≤ free_weight w k cs P) →
        weight_here k s (standing w s) + (cond (is_in c.name (s ∷ P)) 0 (weight_here k c.name (standing w c.name)) + free_weight w k cs (s ∷ P)) ≤ cond (is_in c.name P) 0 (weight_here k c.name (standing w c.name)) + free_weight w k cs P
    go true e q f =
        let same : s ≡ c.name = eqb-true s c.name e in
        let on : is_in c.name (s ∷ P) ≡ true = ap (λ y. is_in y (s ∷ P)) (sym same) ∙ in_head s P in
        let out : is_in c.name P ≡ false = ap (λ y. is_in y P) (sym same) ∙ off in
        let le : free_weight w k cs (s ∷ P) ≤ free_weight w k cs P = free_less w k cs P s in
        let h : weight_here k s (standing w s) ≡ weight_here k c.name (standing w c.name) = ap (λ y. weight_here k y (standing w y)) same in
        subst (λ b. weight_here k s (standing w s) + (cond b 0 (weight_here k c.name (standing w c.name)) + free_weight w k cs (s ∷ P)) ≤ cond (is_in c.name P) 0 (weight_here k c.name (standing w c.name)) + free_weight w k cs P) (sym on)
        (subst (λ b. weight_here k s (standing w s) + (0 + free_weight w k cs (s ∷ P)) ≤ cond b 0 (weight_here k c.name (standing w c.name)) + free_weight w k cs P) (sym out) (omega (arith, le, h)))
    go false e q f = by (c.name == s) (is_in c.name P) (f q off) (λ h. cc (sym e ∙ eq-eqb s c.name (sym (eqb-true c.name s h))))
      where
        by : (a b : Bool) → weight_here k s (standing w s) + free_weight w k cs (s ∷ P) ≤ free_weight w k cs P → (a ≡ true → ⊥) →
            weight_here k s (standing w s) + (cond (a || b) 0 (weight_here k c.name (standing w c.name)) + free_weight w k cs (s ∷ P)) ≤ cond b 0 (weight_here k c.name (standing w c.name)) + free_weight w k cs P
        by true b h g = absurd (g refl)
        by false true h g = omega (arith, h)
        by false false h g = omega (arith, h)

-- a new frame has less than its weight
new_less : (w : Signals) (k : Memos) (s : ℕ) (d : Computed) → standing w s ≡ IsComputed d → suc (left_here k s (new_frame k s).phase (standing w s)) < weight_here k s (standing w s)
new_less w k s d e = subst (λ st. suc (left_here k s (new_frame k s).phase st) < weight_here k s st) (sym e) (go (is_stale k s))
  where
    go : (b : Bool) → suc (phase_left k s d (cond b (Running [] []) (Looking 0))) < 2 * length d.recipe.slots + 4 + length (sources_of k s)
    go true = let few : unknown_slots (length d.recipe.slots) [] ≤ length d.recipe.slots = few_unknown (length d.recipe.slots) [] in omega (arith, few)
    go false = omega arith

-- ---- what lasts when n is kept anew

module _ (w : Signals) (k k' : Memos) (n : ℕ) (same : (x : ℕ) → (x == n) ≡ false → memo_of k' x ≡ memo_of k x) where
  left_lasts : (x : ℕ) (p : Phase) (st : Stands) → (x == n) ≡ false → left_here k' x p st ≡ left_here k x p st
  left_lasts x p IsGone off = refl
  left_lasts x p (IsCell c) off = refl
  left_lasts x (Looking place) (IsComputed c) off = (λ i. 2 * length c.recipe.slots + 2 + (length (sources_in (same x off i)) - place))
  left_lasts x (LookedAt place) (IsComputed c) off = (λ i. 2 * length c.recipe.slots + 2 + (length (sources_in (same x off i)) - place))
  left_lasts x (Running known reads) (IsComputed c) off = refl
  left_lasts x (Waiting slot known reads) (IsComputed c) off = refl

  weight_lasts : (x : ℕ) (st : Stands) → (x == n) ≡ false → weight_here k' x st ≡ weight_here k x st
  weight_lasts x IsGone off = refl
  weight_lasts x (IsCell c) off = refl
  weight_lasts x (IsComputed c) off = (λ i. 2 * length c.recipe.slots + 4 + length (sources_in (same x off i)))

  free_lasts : (cs : List Computed) (P : List ℕ) → is_in n P ≡ true → free_weight w k' cs P ≡ free_weight w k cs P
  free_lasts [] P on = refl
  free_lasts (c ∷ cs) P on = go (is_in c.name P) refl (free_lasts cs P on)
    where
      go : (b : Bool) → is_in c.name P ≡ b → free_weight w k' cs P ≡ free_weight w k cs P →
          cond b 0 (weight_here k' c.name (standing w c.name)) + free_weight w k' cs P ≡ cond b 0 (weight_here k c.name (standing w c.name)) + free_weight w k cs P
      go true e h = omega (arith, h)
      go false e h =
          let off : (c.name == n) ≡ false = elim (tested (c.name == n)) [ inr z ↦ z | inl z ↦ cc (sym e ∙ ap (λ y. is_in y P) (eqb-true c.name n z) ∙ on) ] in
          (λ i. weight_lasts c.name (standing w c.name) off i + h i)

  stack_lasts : (fs : List Frame) → is_in n (frame_names fs) ≡ false → stack_weight w k' fs ≡ stack_weight w k fs
  stack_lasts [] off = refl
  stack_lasts (f ∷ fs) off =
      let away : (f.name == n) ≡ false = elim (tested (f.name == n)) [
        | inr z ↦ z
        | inl z ↦ cc (sym (in_head n (frame_names fs)) ∙ ap (λ y. is_in n (y ∷ frame_names fs)) (sym (eqb-true f.name n z)) ∙ off)
      ] in
      let rest : stack_weight w k' fs ≡ stack_weight w k fs = stack_lasts fs (or_snd (n == f.name) (is_in n (frame_names fs)) off) in
      (λ i. suc (left_lasts f.name f.phase (standing w f.name) away i) + rest i)

-- in the middle, the whole is there
in_middle : (n : ℕ) (xs ys : List ℕ) → is_in n (xs ++ n ∷ ys) ≡ true
in_middle n xs ys = middle n n xs ys ∙ in_head n (xs ++ ys)

-- what stands as a computed is that computed
stands_at : (w : Signals) (n : ℕ) (c : Computed) → standing w n ≡ IsComputed c → computed_at n w.computeds ≡ Some c
stands_at w n c h = go (cell_at n w.cells) (computed_at n w.computeds) h
  where
    go : (x : Option Cell) (y : Option Computed) → or_computed x y ≡ IsComputed c → y ≡ Some c
    go (Some d) y e = cc
    go None None e = cc
    go None (Some d) e = cc

-- neither among the one nor among the other
apart : (m : ℕ) (xs ys : List ℕ) → is_in m xs ≡ false → is_in m ys ≡ false → is_in m (xs ++ ys) ≡ false
apart m xs ys a b = in_append m xs ys ∙ or_none (is_in m xs) (is_in m ys) a b

-- work rests on which names were visited, and not on their order
pub work_same : (w : Signals) (k : Memos) (fs : List Frame) (u v : List ℕ) → ((m : ℕ) → is_in m u ≡ is_in m v) → work w k fs u ≡ work w k fs v
work_same w k fs u v same = ap (λ x. stack_weight w k fs + x) (free_same w k w.computeds (frame_names fs ++ u) (frame_names fs ++ v) (λ m.
    in_append m (frame_names fs) u ∙ ap (λ b. is_in m (frame_names fs) || b) (same m) ∙ sym (in_append m (frame_names fs) v)))

-- a frame that has no more left leaves no more
pub work_left : (w : Signals) (k : Memos) (n : ℕ) (p q : Phase) (fs : List Frame) (visited : List ℕ) → left_here k n q (standing w n) ≤ left_here k n p (standing w n) →
    work w k (record { name = n; phase = q } ∷ fs) visited ≤ work w k (record { name = n; phase = p } ∷ fs) visited
work_left w k n p q fs visited h = omega (arith, h)

-- a move leaves less work
pub move_lowers : (w : Signals) (k : Memos) (n : ℕ) (p : Phase) (fs : List Frame) (visited : List ℕ) (mv : Move) → is_in n (frame_names fs) ≡ false →
    MoveLowers w k (n ∷ frame_names fs) visited n p mv →
    work w (memos_after k n mv) (stack_after k n mv fs) (visited_after n mv visited) < work w k (record { name = n; phase = p } ∷ fs) visited
move_lowers w k n p fs visited (GoesOn q) off h = omega (arith, h)
move_lowers w k n p fs visited (Needs s q) off h =
    let P : List ℕ = (n ∷ frame_names fs) ++ visited in
    let out : is_in s P ≡ false = apart s (n ∷ frame_names fs) visited h.1.2 h.1.3 in
    let taken : weight_here k s (standing w s) + free_weight w k w.computeds (s ∷ P) ≤ free_weight w k w.computeds P =
    free_taken w k w.computeds P s h.1.0 (stands_at w s h.1.0 h.1.1) out in
    let fl : suc (left_here k s (new_frame k s).phase (standing w s)) < weight_here k s (standing w s) = new_less w k s h.1.0 h.1.1 in
    let same : left_here k n q (standing w n) ≡ left_here k n p (standing w n) = h.0 in
    omega (arith, taken, fl, same)
move_lowers w k n p fs visited Stops off h =
    let free : free_weight w k w.computeds (frame_names fs ++ n ∷ visited) ≡ free_weight w k w.computeds ((n ∷ frame_names fs) ++ visited) =
    free_same w k w.computeds (frame_names fs ++ n ∷ visited) ((n ∷ frame_names fs) ++ visited) (λ x. middle x n (frame_names fs) visited) in
    omega (arith, free)
move_lowers w k n p fs visited (Ends e) off h =
    let k' : Memos = memos_after k n (Ends e) in
    let same : (x : ℕ) → (x == n) ≡ false → memo_of k' x ≡ memo_of k x = λ x away. ap memo_in (run_other k n e.outcome (map (source_now k) e.reads) x away) in
    let free : free_weight w k w.computeds (frame_names fs ++ n ∷ visited) ≡ free_weight w k w.computeds ((n ∷ frame_names fs) ++ visited) =
    free_same w k w.computeds (frame_names fs ++ n ∷ visited) ((n ∷ frame_names fs) ++ visited) (λ x. middle x n (frame_names fs) visited) in
    let free' : free_weight w k' w.computeds (frame_names fs ++ n ∷ visited) ≡ free_weight w k w.computeds (frame_names fs ++ n ∷ visited) =
    free_lasts w k k' n same w.computeds (frame_names fs ++ n ∷ visited) (in_middle n (frame_names fs) visited) in
    let rest : stack_weight w k' fs ≡ stack_weight w k fs = stack_lasts w k k' n same fs off in
    omega (arith, free, free', rest)

-- ---- each move lowers

-- whichever list says who is being evaluated
lowers_same : (w : Signals) (k : Memos) (a b visited : List ℕ) (n : ℕ) (p : Phase) (mv : Move) → ((m : ℕ) → is_in m a ≡ is_in m b) →
    MoveLowers w k a visited n p mv → MoveLowers w k b visited n p mv
lowers_same w k a b visited n p (GoesOn q) same h = h
lowers_same w k a b visited n p (Needs s q) same h = (h.0, (h.1.0, h.1.1, sym (same s) ∙ h.1.2, h.1.3))
lowers_same w k a b visited n p Stops same h = tt
lowers_same w k a b visited n p (Ends e) same h = tt

-- a slot that is waited for
waits_lowers : (w : Signals) (k : Memos) (evaluating visited : List ℕ) (n : ℕ) (c : Computed) → standing w n ≡ IsComputed c → (slot m : ℕ)
    (known : List Known) (reads : List Seen) →
    MoveLowers w k evaluating visited n (Waiting slot known reads) (waits w k evaluating visited slot m known reads)
waits_lowers w k evaluating visited n c stands slot m known reads = go (is_ready (standing w m) (is_in m evaluating) (is_in m visited)) refl
  where
    go : (b : Bool) → is_ready (standing w m) (is_in m evaluating) (is_in m visited) ≡ b →
        MoveLowers w k evaluating visited n (Waiting slot known reads)
        (cond b (slot_read slot m (Some (or_cycle (ready_outcome (standing w m) (is_in m evaluating) (standing_outcome w k m)))) known reads)
        (Needs m (Waiting slot known reads)))
    go true r = read_lowers w k evaluating visited n c stands slot m
        (Some (or_cycle (ready_outcome (standing w m) (is_in m evaluating) (standing_outcome w k m)))) known reads
    go false r = (refl, unready (standing w m) (is_in m evaluating) (is_in m visited) r)

-- a judged read is of a slot that isn't known
judged_unknown : (count : ℕ) (known : List Known) (st : Step) (s : ℕ) → IsJudged count known st → st ≡ Read s → IsUnknownSlot count s known
judged_unknown count known (Done v) s j e = cc
judged_unknown count known (Fail z) s j e = cc
judged_unknown count known (Read m) s j e = let q : m ≡ s = cc in subst (λ x. IsUnknownSlot count x known) q j

-- the move of a frame
is_move_lowers : (w : Signals) (k : Memos) (evaluating visited : List ℕ) (n : ℕ) (p : Phase) (mv : Move) (c : Computed) → standing w n ≡ IsComputed c →
    IsMove w k evaluating visited n p mv → MoveLowers w k evaluating visited n p mv
is_move_lowers w k evaluating visited n (Looking place) mv c stands is =
    subst (MoveLowers w k evaluating visited n (Looking place)) (sym is)
    (look_lowers w k evaluating visited n c stands (Looking place) (holds_cycle k n) place (drop place (sources_of k n)) refl refl)
is_move_lowers w k evaluating visited n (LookedAt place) mv c stands is =
    subst (MoveLowers w k evaluating visited n (LookedAt place)) (sym is)
    (look_lowers w k evaluating visited n c stands (LookedAt place) (holds_cycle k n) place (drop place (sources_of k n)) refl refl)
is_move_lowers w k evaluating visited n (Running known reads) mv c stands is =
    subst (MoveLowers w k evaluating visited n (Running known reads)) (sym is.move)
    (answer_lowers w k evaluating visited n c stands known reads is.answer
    (λ s e. judged_unknown (length c.recipe.slots) known is.answer s (subst (λ st. IsJudged (length (slots_here st)) known is.answer) stands is.judged) e))
is_move_lowers w k evaluating visited n (Waiting slot known reads) mv c stands is =
    subst (MoveLowers w k evaluating visited n (Waiting slot known reads)) (sym is)
    (waits_lowers w k evaluating visited n c stands slot (slice_index (slots_here (standing w n)) slot) known reads)

-- where fewer names were visited
lowers_fewer : (w : Signals) (k : Memos) (evaluating over visited : List ℕ) (n : ℕ) (p : Phase) (mv : Move) → ((m : ℕ) → is_in m visited ≡ true → is_in m over ≡ true) →
    MoveLowers w k evaluating over n p mv → MoveLowers w k evaluating visited n p mv
lowers_fewer w k evaluating over visited n p (GoesOn q) within h = h
lowers_fewer w k evaluating over visited n p (Needs s q) within h = (h.0, (h.1.0, h.1.1, h.1.2, less (is_in s visited) (is_in s over) (within s) h.1.3))
  where
    less : (a b : Bool) → (a ≡ true → b ≡ true) → b ≡ false → a ≡ false
    less true b f e = cc (sym (f refl) ∙ e)
    less false b f e = refl
lowers_fewer w k evaluating over visited n p Stops within h = tt
lowers_fewer w k evaluating over visited n p (Ends e) within h = tt

-- so each turn of the loop leaves less work
pub turn_lowers : (w : Signals) (k : Memos) (evaluating over visited visited' : List ℕ) (f : Frame) (fs : List Frame) (mv : Move) (c : Computed) →
    standing w f.name ≡ IsComputed c → is_in f.name (frame_names fs) ≡ false → ((m : ℕ) → is_in m evaluating ≡ is_in m (f.name ∷ frame_names fs)) →
    ((m : ℕ) → is_in m visited ≡ true → is_in m over ≡ true) →
    IsMove w k evaluating over f.name f.phase mv → ((m : ℕ) → is_in m visited' ≡ is_in m (visited_after f.name mv visited)) →
    work w (memos_after k f.name mv) (stack_after k f.name mv fs) visited' < work w k (f ∷ fs) visited
turn_lowers w k evaluating over visited visited' f fs mv c stands off ev within is vi =
    subst (λ x. x < work w k (f ∷ fs) visited)
    (sym (work_same w (memos_after k f.name mv) (stack_after k f.name mv fs) visited' (visited_after f.name mv visited) vi))
    (move_lowers w k f.name f.phase fs visited mv off
    (lowers_fewer w k (f.name ∷ frame_names fs) over visited f.name f.phase mv within
    (lowers_same w k evaluating (f.name ∷ frame_names fs) over f.name f.phase mv ev
    (is_move_lowers w k evaluating over f.name f.phase mv c stands is))))
