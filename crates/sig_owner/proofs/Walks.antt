-- A walk loses nothing from step to step.
use Rattle.std.proofs.Common.{◌≡◌, ℕ, zero, suc, ◌+◌, ◌<◌, ◌≤◌, ◌==◌, true, List, [], ◌∷◌, ◌++◌, length, get_or, take, eq-eqb, refl, sym, ap, subst, ◌∙◌, arith, append_assoc, append-nil, length-append}
use Rattle.std.proofs.lemmas.Bool.{or_left, or_right}
use Rattle.std.proofs.lemmas.List.{map-append, take_more}
use Rattle.std.proofs.Math.Seq.{take-length}
use Rattle.effect_model.specs.Owners.{Thing, Undoing, ends}
use Rattle.sig_owner.specs.declared.walk.Pending.{Pending}
use Rattle.sig_owner.specs.Tables.{Item, held, leaf, noted, Row, items_at, live_at, thing_at}
use Rattle.sig_owner.specs.declared.thing.Undoing.{Undoing as AnUndoing}
use Rattle.sig_owner.specs.declared.walk.Walk.{Walk}
use Rattle.sig_owner.specs.Walks.{Step, does, leaves, ArePending, GoesOn, IsPending, IsTable, IsWalk, rest, work, closed, is_held, item_steps, items_steps, left_in, pending_steps, rest_of, steps_at, steps_under, steps_undoings, steps_within, walk_undoings, undoing_of, undoings_of, unwound}
use Rattle.sig_owner.proofs.Rows.{row_past}

-- one item more
pub items_more : (names : ℕ → Thing) (below : ℕ → List Step) (n : ℕ) (is : List Item) (i : Item) → items_steps names below n (is ++ i ∷ []) ≡ item_steps names below n i ++ items_steps names below n is
items_more names below n [] i = sym (append-nil (item_steps names below n i))
items_more names below n (j ∷ is) i = ap (λ (ss : List Step). ss ++ item_steps names below n j) (items_more names below n is i) ∙ append_assoc (item_steps names below n i) (items_steps names below n is) (item_steps names below n j)

pub steps_more : (rows : List Row) (n k : ℕ) (i : Item) → k < length (items_at rows n) → i ≡ get_or (items_at rows n) k i →
    steps_at rows n (k + 1) ≡ item_steps (thing_at rows) (steps_under rows) n i ++ steps_at rows n k
steps_more rows n k i lt is =
    ap (items_steps (thing_at rows) (steps_under rows) n) (take_more (items_at rows n) k i lt ∙ ap (λ (j : Item). take k (items_at rows n) ++ j ∷ []) (sym is))
    ∙ items_more (thing_at rows) (steps_under rows) n (take k (items_at rows n)) i

-- ---- levels

-- the steps at items look only at what is held there
pub items_same : (names : ℕ → Thing) (f g : ℕ → List Step) (n : ℕ) (is : List Item) → ((m : ℕ) → is_held m is ≡ true → f m ≡ g m) → items_steps names f n is ≡ items_steps names g n is
items_same names f g n [] h = refl
items_same names f g n (held k ∷ is) h =
    let tail = items_same names f g n is (λ m q. h m (or_right (m == k) (is_held m is) q)) in
    let here = h k (or_left (k == k) (is_held k is) (eq-eqb k k refl)) in
    (λ j. tail j ++ (here j ++ leaves k ∷ []))
items_same names f g n (leaf t ∷ is) h = ap (λ (ss : List Step). ss ++ item_steps names f n (leaf t)) (items_same names f g n is h)
items_same names f g n (noted c ∷ is) h = ap (λ (ss : List Step). ss ++ item_steps names f n (noted c)) (items_same names f g n is h)

-- one level more changes nothing where there are as many as rows from here on
pub levels_more : (rows : List Row) → IsTable rows → (levels n : ℕ) → length rows ≤ levels + n → steps_within (suc levels) rows n ≡ steps_within levels rows n
levels_more rows t zero n h = ap (λ (r : Row). items_steps (thing_at rows) (steps_within zero rows) n r.items) (row_past rows n (omega (arith, h)))
levels_more rows t (suc levels) n h =
    items_same (thing_at rows) (steps_within (suc levels) rows) (steps_within levels rows) n (items_at rows n)
    (λ m q. levels_more rows t levels m (let l : n < m = t.later n m q in omega arith))

-- the steps under a holder are those at its items
pub steps_here : (rows : List Row) → IsTable rows → (n : ℕ) → steps_under rows n ≡ steps_at rows n (length (items_at rows n))
unfolding steps_under
steps_here rows t n =
    sym (levels_more rows t (length rows) n (omega arith)) ∙ ap (items_steps (thing_at rows) (steps_within (length rows) rows) n) (sym (take-length (items_at rows n)))

-- ---- the stack

pub unwound_more : (rows : List Row) (later : List Step) (ps : List Pending) (p : Pending) → unwound rows later (ps ++ p ∷ []) ≡ pending_steps rows p (unwound rows later ps)
unwound_more rows later [] p = refl
unwound_more rows later (q ∷ ps) p = unwound_more rows (pending_steps rows q later) ps p

pub unwound_length : (rows : List Row) (later : List Step) (ps : List Pending) → length ps + length later ≤ length (unwound rows later ps)
unwound_length rows later [] = omega arith
unwound_length rows later (q ∷ ps) =
    omega (arith, unwound_length rows (pending_steps rows q later) ps, length-append (steps_at rows q.holder q.left) later)

-- a walk enters an inner holder
pub enters : (rows : List Row) → IsTable rows → (n k m : ℕ) (ps : List Pending) → k < length (items_at rows n) → held m ≡ get_or (items_at rows n) k (held m) →
    rest_of rows m (length (items_at rows m)) (ps ++ record { holder = n; left = k; inner = m } ∷ []) ≡ rest_of rows n (k + 1) ps
enters rows t n k m ps lt is =
    (λ i. sym (steps_here rows t m) i ++ unwound_more rows [] ps (record { holder = n; left = k; inner = m }) i)
    ∙ sym (ap (λ (ss : List Step). ss ++ unwound rows [] ps) (steps_more rows n k (held m) lt is)
    ∙ (append_assoc (steps_under rows m ++ leaves m ∷ []) (steps_at rows n k) (unwound rows [] ps)
    ∙ append_assoc (steps_under rows m) (leaves m ∷ []) (steps_at rows n k ++ unwound rows [] ps)))

-- ---- one step

-- what stands among the items at a place is held
pub held_at : (is : List Item) (k m : ℕ) → k < length is → held m ≡ get_or is k (held m) → is_held m is ≡ true
held_at [] k m lt e = absurd (omega arith)
held_at (i ∷ is) zero m lt e = rw (← e) (or_left (m == m) (is_held m is) (eq-eqb m m refl))
held_at (held j ∷ is) (suc k) m lt e = or_right (m == j) (is_held m is) (held_at is k m (let l : k < length is = omega arith in l) e)
held_at (leaf t ∷ is) (suc k) m lt e = held_at is k m (let l : k < length is = omega arith in l) e
held_at (noted c ∷ is) (suc k) m lt e = held_at is k m (let l : k < length is = omega arith in l) e

pub pending_more : (rows : List Row) (ps : List Pending) (p : Pending) → ArePending rows ps → IsPending rows p → ArePending rows (ps ++ p ∷ [])
pending_more rows [] p all one = (one, tt)
pending_more rows (q ∷ ps) p all one = (all.0, pending_more rows ps p all.1 one)

-- the last of them, and the others
pub pending_last : (rows : List Row) (ps : List Pending) (p : Pending) → ArePending rows (ps ++ p ∷ []) → ArePending rows ps × IsPending rows p
pending_last rows [] p all = (tt, all.0)
pending_last rows (q ∷ ps) p all = let h = pending_last rows ps p all.1 in ((all.0, h.0), h.1)

-- where nothing is told and the same is left
pub nothing_told : (rows : List Row) (ua ub : List AnUndoing) (ea eb : List ℕ) (before after : List Step) → ub ≡ ua → eb ≡ ea → after ≡ before → GoesOn rows ua ub ea eb before after
nothing_told rows ua ub ea eb before after u e r = record { told = λ i. walk_undoings rows (u i) (r i); closed = λ i. closed (e i) (r i) }

-- where one step is told
pub undoing_told : (rows : List Row) (ua ub : List AnUndoing) (ea : List ℕ) (u : AnUndoing) (before after : List Step) → ub ≡ ua ++ u ∷ [] → before ≡ does (undoing_of (thing_at rows) u) ∷ after → GoesOn rows ua ub ea ea before after
undoing_told rows ua ub ea u before after e r = record {
  told =
      ap (λ (xs : List AnUndoing). walk_undoings rows xs after) e
      ∙ (ap (λ (xs : List Undoing). xs ++ steps_undoings (thing_at rows) after) (map-append (undoing_of (thing_at rows)) ua (u ∷ []))
      ∙ (append_assoc (undoings_of (thing_at rows) ua) (undoing_of (thing_at rows) u ∷ []) (steps_undoings (thing_at rows) after)
      ∙ ap (λ (ss : List Step). walk_undoings rows ua ss) (sym r)));
  closed = ap (λ (ss : List Step). closed ea ss) (sym r);
}

-- where a holder ends
pub holder_told : (rows : List Row) (ua ub : List AnUndoing) (ea eb : List ℕ) (m : ℕ) (before after : List Step) →
    undoings_of (thing_at rows) ub ≡ undoings_of (thing_at rows) ua ++ ends (thing_at rows m) ∷ [] → eb ≡ ea ++ m ∷ [] → before ≡ leaves m ∷ after → GoesOn rows ua ub ea eb before after
holder_told rows ua ub ea eb m before after u e r = record {
  told =
      ap (λ (xs : List Undoing). xs ++ steps_undoings (thing_at rows) after) u
      ∙ (append_assoc (undoings_of (thing_at rows) ua) (ends (thing_at rows m) ∷ []) (steps_undoings (thing_at rows) after)
      ∙ ap (λ (ss : List Step). walk_undoings rows ua ss) (sym r));
  closed =
      ap (λ (xs : List ℕ). xs ++ left_in after) e
      ∙ (append_assoc ea (m ∷ []) (left_in after) ∙ ap (λ (ss : List Step). closed ea ss) (sym r));
}

-- as much is left at least as waits
pub waits : (rows : List Row) (n k : ℕ) (ps : List Pending) → length ps ≤ length (rest_of rows n k ps)
waits rows n k ps = omega (arith, unwound_length rows [] ps, length-append (steps_at rows n k) (unwound rows [] ps))

-- an item is known to be what it is
pub known_item : (is : List Item) (k : ℕ) (i j : Item) → i ≡ j → i ≡ get_or is k i → j ≡ get_or is k j
known_item is k i j e h = sym e ∙ (h ∙ ap (get_or is k) e)

-- a walk that entered an inner holder has the same left
pub entered_rest : (rows : List Row) → IsTable rows → (w v : Walk) (m : ℕ) → w.left < length (items_at rows w.at) → held m ≡ get_or (items_at rows w.at) w.left (held m) →
    v.at ≡ m → v.left ≡ length (items_at rows m) → v.pending.items ≡ w.pending.items ++ record { holder = w.at; left = w.left; inner = m } ∷ [] →
    rest rows v ≡ rest_of rows w.at (w.left + 1) w.pending.items
entered_rest rows t w v m lt is a l p = (λ i. rest_of rows (a i) (l i) (p i)) ∙ enters rows t w.at w.left m w.pending.items lt is

-- and speaks of rows that are there
pub entered_walk : (rows : List Row) → IsTable rows → (w v : Walk) (m : ℕ) → IsWalk rows w → w.left < length (items_at rows w.at) → held m ≡ get_or (items_at rows w.at) w.left (held m) →
    v.at ≡ m → v.left ≡ length (items_at rows m) → v.pending.items ≡ w.pending.items ++ record { holder = w.at; left = w.left; inner = m } ∷ [] → IsWalk rows v
entered_walk rows t w v m ok lt is a l p =
    let there : live_at rows m ≡ true = t.lives w.at m (held_at (items_at rows w.at) w.left m lt is) in
    record {
      left = let e : v.left ≡ length (items_at rows v.at) = l ∙ ap (λ n. length (items_at rows n)) (sym a) in omega (arith, e);
      pending = subst (ArePending rows) (sym p) (pending_more rows w.pending.items (record { holder = w.at; left = w.left; inner = m }) ok.pending (omega arith, there));
    }

-- and less work
pub entered_work : (rows : List Row) (w v : Walk) (p : Pending) (before : List Step) → rest rows v ≡ before → v.pending.items ≡ w.pending.items ++ p ∷ [] → work (rest rows v) v.pending.items < work before w.pending.items
entered_work rows w v p before e ps =
    omega (arith, waits rows v.at v.left v.pending.items, ap (λ (ss : List Step). length ss) e, ap (λ (qs : List Pending). length qs) ps, length-append w.pending.items (p ∷ []))

-- what is left after a thing without holdings or a cleanup
pub done_rest : (rows : List Row) (w : Walk) (u : Undoing) (i : Item) → w.left < length (items_at rows w.at) → i ≡ get_or (items_at rows w.at) w.left i →
    item_steps (thing_at rows) (steps_under rows) w.at i ≡ does u ∷ [] → rest_of rows w.at (w.left + 1) w.pending.items ≡ does u ∷ rest rows w
done_rest rows w u i lt is e =
    ap (λ (ss : List Step). ss ++ unwound rows [] w.pending.items) (steps_more rows w.at w.left i lt is ∙ ap (λ (ss : List Step). ss ++ steps_at rows w.at w.left) e)

-- and less work
pub done_work : (rows : List Row) (w : Walk) (u : Undoing) (before : List Step) → before ≡ does u ∷ rest rows w → work (rest rows w) w.pending.items < work before w.pending.items
done_work rows w u before e = omega (arith, waits rows w.at w.left w.pending.items, ap (λ (ss : List Step). length ss) e)

-- a walk that leaves an inner holder has one step less before it
pub left_rest : (rows : List Row) (w v : Walk) (ps : List Pending) (p : Pending) → w.left ≡ 0 → w.pending.items ≡ ps ++ p ∷ [] → v.at ≡ p.holder → v.left ≡ p.left → v.pending.items ≡ ps →
    rest rows w ≡ leaves p.inner ∷ rest rows v
left_rest rows w v ps p z wp a l vp =
    (λ i. rest_of rows w.at (z i) (wp i)) ∙ (unwound_more rows [] ps p ∙ sym (ap (λ (ss : List Step). leaves p.inner ∷ ss) (λ i. rest_of rows (a i) (l i) (vp i))))

-- and speaks of rows that are there
pub left_walk : (rows : List Row) (w v : Walk) (ps : List Pending) (p : Pending) → IsWalk rows w → w.pending.items ≡ ps ++ p ∷ [] → v.at ≡ p.holder → v.left ≡ p.left → v.pending.items ≡ ps → IsWalk rows v
left_walk rows w v ps p ok wp a l vp =
    let h = pending_last rows ps p (subst (ArePending rows) wp ok.pending) in
    record {
      left = let e = ap (λ n. length (items_at rows n)) a in omega (arith, e, l, h.1.0);
      pending = subst (ArePending rows) (sym vp) h.0;
    }

-- and less work
pub left_work : (rows : List Row) (w v : Walk) (ps : List Pending) (p : Pending) → rest rows w ≡ leaves p.inner ∷ rest rows v → w.pending.items ≡ ps ++ p ∷ [] → v.pending.items ≡ ps →
    work (rest rows v) v.pending.items < work (rest rows w) w.pending.items
left_work rows w v ps p e wp vp =
    omega (arith, waits rows v.at v.left v.pending.items, ap (λ (ss : List Step). length ss) e, ap (λ (qs : List Pending). length qs) wp, ap (λ (qs : List Pending). length qs) vp, length-append ps (p ∷ []))

-- ---- the whole walk

-- a walk begins with all steps
pub starts : (rows : List Row) → IsTable rows → (w : Walk) (n : ℕ) → w.at ≡ n → w.left ≡ length (items_at rows n) → w.pending.items ≡ [] → rest rows w ≡ steps_under rows n
starts rows t w n a l p = (λ i. rest_of rows (a i) (l i) (p i)) ∙ (append-nil (steps_at rows n (length (items_at rows n))) ∙ sym (steps_here rows t n))

pub starts_walk : (rows : List Row) (w : Walk) (n : ℕ) → w.at ≡ n → w.left ≡ length (items_at rows n) → w.pending.items ≡ [] → IsWalk rows w
starts_walk rows w n a l p = record {
  left = let e : w.left ≡ length (items_at rows w.at) = l ∙ ap (λ m. length (items_at rows m)) (sym a) in omega (arith, e);
  pending = subst (ArePending rows) (sym p) tt;
}

-- one state after another
pub goes_on : (rows : List Row) (ua ub uc : List AnUndoing) (ea eb ec : List ℕ) (x y z : List Step) → GoesOn rows ua ub ea eb x y → GoesOn rows ub uc eb ec y z → GoesOn rows ua uc ea ec x z
goes_on rows ua ub uc ea eb ec x y z p q = record { told = q.told ∙ p.told; closed = q.closed ∙ p.closed }

-- where nothing is left all was undone
pub all_undone : (rows : List Row) (u : List AnUndoing) (e : List ℕ) (steps after : List Step) → GoesOn rows [] u [] e steps after → after ≡ [] → undoings_of (thing_at rows) u ≡ steps_undoings (thing_at rows) steps
all_undone rows u e steps after g none = sym (append-nil (undoings_of (thing_at rows) u)) ∙ (ap (λ (ss : List Step). walk_undoings rows u ss) (sym none) ∙ g.told)

-- and all that end have ended
pub all_ended : (rows : List Row) (u : List AnUndoing) (e : List ℕ) (steps after : List Step) → GoesOn rows [] u [] e steps after → after ≡ [] → e ≡ left_in steps
all_ended rows u e steps after g none = sym (append-nil e) ∙ (ap (λ (ss : List Step). closed e ss) (sym none) ∙ g.closed)
