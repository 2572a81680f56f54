-- The steps of one parent, as operations on the whole tree.
use Rattle.std.proofs.Common.{◌≡◌, ℕ, suc, zero, ◌+◌, ◌≤◌, ◌==◌, Bool, true, false, ◌&&◌, ◌||◌, not, refl, sym, ap, ◌∙◌, arith, leb, ltb, eqb-true, eq-eqb, inl, inr, List, [], ◌∷◌, map, Some, None}
use Rattle.std.proofs.lemmas.Bool.{cases_Bool, false≢true, and_parts, or_left, or_right}
use Rattle.page_model.specs.Forest.{Forest, none, node, after, count, has, only, without, put, moved, on, at, tally, kids, parent, label_in, depth}
use Rattle.page_model.specs.Labels.{Root, Kind, holds}
use Rattle.page_model.specs.Replay.{Done, first_used, first_deep, do_op, replay}
use Rattle.page_model.proofs.Facts.{take_step, take_steps, Step, Insert, Move, op_at}
use Rattle.page_model.proofs.Lists.{when, split, not_ltb}
use Rattle.page_model.proofs.Tally.{tally_off, parent_is, at_at, at_id, on_at, kids_at, at_named, tally_at, has_on}
use Rattle.page_model.proofs.Depths.{Fits, Brought, AllBrought, fits_at, fits_kids, fits_depth, fits_hold, fits_deep, fits_step}

pub tally_after : {A : Type 0} (j : ℕ) (xs ys : Forest A) → tally j (after xs ys) ≡ tally j xs + tally j ys
tally_after j none ys = omega arith
tally_after j (node m x k r) ys = omega (arith, tally_after j r ys)

pub tally_put : {A : Type 0} (i j : ℕ) (xs ys : Forest A) → tally j (put i xs ys) ≡ tally j xs + tally j ys
tally_put zero j xs ys = tally_after j xs ys
tally_put (suc i) j xs none = omega arith
tally_put (suc i) j xs (node m x k r) = omega (arith, tally_put i j xs r)

pub tally_taken : {A : Type 0} (n j : ℕ) (xs : Forest A) → has n xs ≡ true → tally j (only n xs) + tally j (without n xs) ≡ tally j xs
tally_taken n j none h = absurd (false≢true h)
tally_taken n j (node m x k r) h = elim (cases_Bool (m == n)) [
  | inl e ↦ rw e (omega arith)
  | inr e ↦ (let i = tally_taken n j r (rw e at h) in rw e (omega arith))
]

tally_moved : {A : Type 0} (n i j : ℕ) (xs : Forest A) → has n xs ≡ true → tally j (moved n i xs) ≡ tally j xs
tally_moved n i j xs h = tally_put i j (only n xs) (without n xs) ∙ tally_taken n j xs h

step_grows : {A : Type 0} (s : Step A) (xs ys : Forest A) (j : ℕ) → take_step s xs ≡ Some ys → tally j xs ≤ tally j ys
step_grows (Insert i n x k) xs ys j e =
    let w = when (leb i (count xs) && not (has n xs)) (put i (node n x k none) xs) ys e in
    let t = ap (tally j) w.1 in
    let p = tally_put i j (node n x k none) xs in
    omega (arith, t, p)
step_grows (Move n i) xs ys j e =
    let w = when (has n xs && ltb i (count xs)) (moved n i xs) ys e in
    let t = ap (tally j) w.1 in
    let p = tally_moved n i j xs (and_parts (has n xs) (ltb i (count xs)) w.0).0 in
    omega (arith, t, p)

pub steps_grow : {A : Type 0} (ss : List (Step A)) (xs ys : Forest A) (j : ℕ) → take_steps ss xs ≡ Some ys → tally j xs ≤ tally j ys
steps_grow [] xs ys j e = (let d : xs ≡ ys = cc in let t = ap (tally j) d in omega arith)
steps_grow (s ∷ ss) xs ys j e =
    let p = split (take_step s xs) (take_steps ss) ys e in
    let a = step_grows s xs p.0 j p.1 in
    let b = steps_grow ss p.0 ys j p.2 in
    omega arith

-- keys of which each stands once in the whole, and not on the tree, are unused
all_unused : {A : Type 0} (whole xs now : Forest A) → ((j : ℕ) → 1 ≤ tally j xs → (tally j whole ≤ 1) × (tally j now ≡ 0)) → first_used whole xs now ≡ None
all_unused whole none now h = refl
all_unused whole (node n x k r) now h =
    let here : (n == n) ≡ true = eq-eqb n n refl in
    let f = h n (rw here (omega arith)) in
    let a : ltb 1 (tally n whole) ≡ false = not_ltb 1 (tally n whole) f.0 in
    let b : on n now ≡ false = tally_off n now f.1 in
    let c = all_unused whole k now (λ j i. h j (omega arith)) in
    let d = all_unused whole r now (λ j i. h j (omega arith)) in
    rw (b, a, c, d) refl

-- a child isn't the root
not_root : (lev : ℕ → ℕ) (n p : ℕ) → lev 0 ≡ 0 → lev n ≡ suc (lev p) → not (n == 0) ≡ true
not_root lev n p z e = elim (cases_Bool (n == 0)) [
  | inl f ↦ (let q : n ≡ 0 = eqb-true n 0 f in let s = ap lev q in absurd (omega arith))
  | inr f ↦ rw f refl
]

has_level : (lev : ℕ → ℕ) (hold : ℕ → Bool) (d n : ℕ) (t : Forest Kind) → has n t ≡ true → Fits lev hold d t → lev n ≡ d
has_level lev hold d n none h f = absurd (false≢true h)
has_level lev hold d n (node m x k r) h f = elim (cases_Bool (m == n)) [
  | inl e ↦ (let q : m ≡ n = eqb-true m n e in ap lev (sym q) ∙ f.0)
  | inr e ↦ has_level lev hold d n r (rw e at h) f.3
]

child_on : {A : Type 0} (n p : ℕ) (t : Forest A) → has n (kids p t) ≡ true → on n t ≡ true
child_on n p none h = h
child_on n p (node m x k r) h = elim (cases_Bool (m == p)) [
  | inl e ↦ (let h' : has n k ≡ true = rw e at h in or_right (m == n) (on n k || on n r) (or_left (on n k) (on n r) (has_on n k h')))
  | inr e ↦ elim (cases_Bool (on p k)) [
    | inl f ↦ (let h' = rw (e, f) at h in or_right (m == n) (on n k || on n r) (or_left (on n k) (on n r) (child_on n p k h')))
    | inr f ↦ (let h' = rw (e, f) at h in or_right (m == n) (on n k || on n r) (or_right (on n k) (on n r) (child_on n p r h')))
  ]
]

-- one step
step_lifts : (lev : ℕ → ℕ) (hold : ℕ → Bool) (p : ℕ) (s : Step Kind) (t : Forest Kind) (ks : Forest Kind) → lev 0 ≡ 0 → Fits lev hold 0 t → Brought lev hold p s → on p t ≡ true → ((j : ℕ) → tally j t ≤ 1) → take_step s (kids p t) ≡ Some ks → ((j : ℕ) → tally j t + tally j ks ≤ 1 + tally j (kids p t)) → do_op (op_at p s) t ≡ Done (at p (λ _. ks) t)
step_lifts lev hold p (Insert i n x k) t ks z g q o l e b =
    let sub = node n x k none in
    let w = when (leb i (count (kids p t)) && not (has n (kids p t))) (put i sub (kids p t)) ks e in
    let room : leb i (count (kids p t)) ≡ true = (and_parts (leb i (count (kids p t))) (not (has n (kids p t))) w.0).0 in
    let can : holds (label_in Root p t) ≡ true = fits_hold lev hold 0 p t o g ∙ q.0 in
    let f : first_used sub sub t ≡ None = all_unused sub sub t (λ j h. (
    let y = ap (tally j) w.1 in
    let u = tally_put i j sub (kids p t) in
    let v = b j in
    (omega (arith, y, u, v), omega (arith, y, u, v)))) in
    let here : depth p t ≡ lev p = omega (arith, fits_depth lev hold 0 p t o g) in
    let deep : first_deep (suc (depth p t)) sub ≡ None = ap (λ d. first_deep (suc d) sub) here ∙ fits_deep lev hold (suc (lev p)) sub q.1 q.2 in
    rw (o, can, room, f, deep) (ap Done (at_named p (put i sub) t (l p) ∙ ap (λ zs. at p (λ _. zs) t) w.1))
step_lifts lev hold p (Move n i) t ks z g q o l e b =
    let w = when (has n (kids p t) && ltb i (count (kids p t))) (moved n i (kids p t)) ks e in
    let h = and_parts (has n (kids p t)) (ltb i (count (kids p t))) w.0 in
    let y : parent n t ≡ p = parent_is p n t (l n) o h.0 in
    let there : on n t ≡ true = child_on n p t h.0 in
    let below : not (n == 0) ≡ true = not_root lev n p z (has_level lev hold (suc (lev p)) n (kids p t) h.0 (fits_kids lev hold 0 p t o g)) in
    rw (there, below, y, h.1) (ap Done (at_named p (moved n i) t (l p) ∙ ap (λ zs. at p (λ _. zs) t) w.1))

pub lifted : (lev : ℕ → ℕ) (hold : ℕ → Bool) (p : ℕ) (ss : List (Step Kind)) (t ks : Forest Kind) → lev 0 ≡ 0 → Fits lev hold 0 t → AllBrought lev hold p ss → on p t ≡ true → ((j : ℕ) → tally j t ≤ 1) → take_steps ss (kids p t) ≡ Some ks → ((j : ℕ) → tally j t + tally j ks ≤ 1 + tally j (kids p t)) → replay (map (op_at p) ss) t ≡ Done (at p (λ _. ks) t)
lifted lev hold p [] t ks z g q o l e b =
    let d : kids p t ≡ ks = cc in
    ap Done (sym (at_id p t) ∙ at_named p (λ k. k) t (l p) ∙ ap (λ zs. at p (λ _. zs) t) d)
lifted lev hold p (s ∷ ss) t ks z g q o l e b =
    let w = split (take_step s (kids p t)) (take_steps ss) ks e in
    let k1 = w.0 in
    let t1 = at p (λ _. k1) t in
    let grow : (j : ℕ) → tally j k1 ≤ tally j ks = λ j. steps_grow ss k1 ks j w.2 in
    let one_step = step_lifts lev hold p s t k1 z g q.0 o l w.1 (λ j. (let v = b j in let i = grow j in omega (arith, v, i))) in
    let same : kids p t1 ≡ k1 = kids_at p (λ _. k1) t o in
    let g1 : Fits lev hold 0 t1 = fits_at lev hold 0 p (λ _. k1) t (λ _ _. fits_step lev hold p s (kids p t) k1 q.0 (fits_kids lev hold 0 p t o g) w.1) g in
    let more = lifted lev hold p ss t1 ks z g1 q.1 (on_at p (λ _. k1) t ∙ o)
    (λ j. (let v = b j in let i = grow j in let y = tally_at p j k1 t (l p) o in omega (arith, v, i, y)))
    (ap (take_steps ss) same ∙ w.2)
    (λ j. (let v = b j in let y = tally_at p j k1 t (l p) o in let u = ap (tally j) same in omega (arith, v, y, u))) in
    rw one_step (more ∙ ap Done (at_at p (λ _. ks) (λ _. k1) t))
