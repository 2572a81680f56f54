-- All parents' operations are replayed.
use Rattle.std.proofs.Common.{◌≡◌, ℕ, zero, suc, ◌+◌, ◌<◌, ◌≤◌, ◌==◌, Bool, true, false, ◌||◌, refl, sym, ap, subst, ◌∙◌, arith, if◌then◌else◌, eqb-true, eq-eqb, inl, inr, List, [], ◌∷◌, ◌++◌, map, Some}
use Rattle.std.proofs.lemmas.Bool.{cases_Bool, false≢true, or_right}
use Rattle.std.specs.List.{flat_map}
use Rattle.page_model.specs.Labels.{Kind}
use Rattle.page_model.specs.Replay.{Op, OpInsert, OpMove, Answer, Done, Refused, then_on, do_op, replay}
use Rattle.page_model.specs.Forest.{Forest, none, node, after, count, has, only, without, put, stands, moved, on, at, tally, kids}
use Rattle.page_model.specs.Edits.{listed, placed, put_at, taken, siblings, child_edits}
use Rattle.page_model.proofs.Facts.{led, Apart, arrange, Clear, Once, newly, all_newly, Ready, steps, led_by, op_at, plan}
use Rattle.page_model.proofs.Siblings.{has_without, only_without}
use Rattle.page_model.proofs.Arrive.{other, gone, apart_without, empty, arrive, later_in}
use Rattle.page_model.proofs.Everywhere.{or_false, at_away, not_same}
use Rattle.page_model.proofs.Tally.{off_tally, on_tally, tally_off, tally_on, at_named, tally_at}
use Rattle.page_model.proofs.Lifted.{tally_after, tally_taken, lifted}
use Rattle.page_model.proofs.Depths.{Fits, fits_led, fits_at, steps_brought}

pub newly_clear : {A : Type 0} (kept : ℕ → Bool) (q : ℕ) (new : Forest A) → Clear kept q new → newly kept q new ≡ 0
newly_clear kept q none c = refl
newly_clear kept q (node n x k r) c =
    let i = newly_clear kept q r c.1 in
    elim (cases_Bool (kept n)) [
      | inl e ↦ rw (e, i) refl
      | inr e ↦ (let z = off_tally q (node n x k none) (c.0 e) in rw (e, i) (omega arith))
    ]

led_by_same : {A : Type 0} (kept : ℕ → Bool) (now now' new : Forest A) → ((m : ℕ) → has m new ≡ true → only m now' ≡ only m now) → led_by kept now' new ≡ led_by kept now new
led_by_same kept now now' none o = refl
led_by_same kept now now' (node n x k r) o =
    let on_n = o n (rw (eq-eqb n n refl) refl) in
    rw (on_n, led_by_same kept now now' r (λ m e. o m (later_in n m x k r e))) refl

led_is_by : {A : Type 0} (kept : ℕ → Bool) (now new : Forest A) → ((m : ℕ) → has m new ≡ true → has m now ≡ kept m) → led now new ≡ led_by kept now new
led_is_by kept now none h = refl
led_is_by kept now (node n x k r) h =
    let hn = h n (rw (eq-eqb n n refl) refl) in
    rw (hn, led_is_by kept now r (λ m e. h m (later_in n m x k r e))) refl

-- what is left to be led once the first new child has its place
ready_kept : {A : Type 0} (kept : ℕ → Bool) (now : Forest A) (n : ℕ) (x : A) (k r : Forest A) → Ready kept now (node n x k r) → kept n ≡ true → Ready kept (without n now) r
ready_kept kept now n x k r y e = record {
  apart = apart_without n now y.apart;
  apart_new = y.apart_new.1;
  cover = λ m h. (let d = other n m (without n now) (gone n now y.apart) h in rw d at (y.cover m (sym (has_without n m now d) ∙ h)));
  known = λ m h. has_without n m now (other n m r y.apart_new.0 h) ∙ y.known m (later_in n m x k r h);
}

ready_new : {A : Type 0} (kept : ℕ → Bool) (now : Forest A) (n : ℕ) (x : A) (k r : Forest A) → Ready kept now (node n x k r) → kept n ≡ false → Ready kept now r
ready_new kept now n x k r y e =
    let z : has n now ≡ false = y.known n (rw (eq-eqb n n refl) refl) ∙ e in
    record {
      apart = y.apart;
      apart_new = y.apart_new.1;
      cover = λ m h. (let d = other n m now z h in rw d at (y.cover m h));
      known = λ m h. y.known m (later_in n m x k r h);
    }

led_less : {A : Type 0} (kept : ℕ → Bool) (now : Forest A) (n : ℕ) (x : A) (k r : Forest A) → Ready kept now (node n x k r) → led_by kept now r ≡ led_by kept (without n now) r
led_less kept now n x k r y = led_by_same kept (without n now) now r (λ m h. sym (only_without n m now (other n m r y.apart_new.0 h)))

tally_led : {A : Type 0} (kept : ℕ → Bool) (j : ℕ) (now new : Forest A) → Ready kept now new → tally j (led_by kept now new) ≡ tally j now + newly kept j new
tally_led kept j now none y = (let e = empty now y.cover in rw e refl)
tally_led kept j now (node n x k r) y = elim (cases_Bool (kept n)) [
  | inl e ↦ (
      let h : has n now ≡ true = y.known n (rw (eq-eqb n n refl) refl) ∙ e in
      let i = tally_led kept j (without n now) r (ready_kept kept now n x k r y e) in
      let a = tally_after j (only n now) (led_by kept (without n now) r) in
      let t = tally_taken n j now h in
      rw e (rw (led_less kept now n x k r y) (omega arith)))
  | inr e ↦ (
      let i = tally_led kept j now r (ready_new kept now n x k r y e) in
      let a = tally_after j (node n x k none) (led_by kept now r) in
      rw e (omega arith))
]

on_same : {A : Type 0} (q : ℕ) (a b : Forest A) → tally q a ≡ tally q b → on q a ≡ on q b
on_same q a b e = elim (cases_Bool (on q b)) [
  | inl h ↦ (let i = on_tally q b h in tally_on q a (omega arith) ∙ sym h)
  | inr h ↦ (let i = off_tally q b h in tally_off q a (omega arith) ∙ sym h)
]

kids_after : {A : Type 0} (q : ℕ) (xs ys : Forest A) → kids q (after xs ys) ≡ (if on q xs then kids q xs else kids q ys)
kids_after q none ys = refl
kids_after q (node m x k r) ys = elim (cases_Bool (m == q)) [
  | inl e ↦ rw e refl
  | inr e ↦ elim (cases_Bool (on q k)) [ inl f ↦ rw (e, f) refl | inr f ↦ rw (e, f) (kids_after q r ys) ]
]

only_le : {A : Type 0} (n q : ℕ) (xs : Forest A) → tally q (only n xs) ≤ tally q xs
only_le n q none = omega arith
only_le n q (node m x k r) = elim (cases_Bool (m == n)) [
  | inl e ↦ rw e (omega arith)
  | inr e ↦ (let i = only_le n q r in rw e (omega arith))
]

kids_first : {A : Type 0} (n q : ℕ) (xs : Forest A) → tally q xs ≤ 1 → on q (only n xs) ≡ true → kids q (only n xs) ≡ kids q xs
kids_first n q none l o = refl
kids_first n q (node m x k r) l o = elim (cases_Bool (m == n)) [
  | inl e ↦ (let o' = rw e at o in rw e (elim (cases_Bool (m == q)) [
    | inl f ↦ rw f refl
    | inr f ↦ elim (cases_Bool (on q k)) [ inl g ↦ rw (f, g) refl | inr g ↦ absurd (false≢true (rw (f, g) at o')) ]
  ]))
  | inr e ↦ (
      let o' = rw e at o in
      let i = on_tally q (only n r) o' in
      let t = only_le n q r in
      rw e (elim (cases_Bool (m == q)) [
        | inl f ↦ (let l' = rw f at l in absurd (omega arith))
        | inr f ↦ (let z : on q k ≡ false = tally_off q k (omega arith) in rw (f, z) (kids_first n q r (omega arith) o'))
      ]))
]

kids_rest : {A : Type 0} (n q : ℕ) (xs : Forest A) → tally q xs ≤ 1 → on q (only n xs) ≡ false → kids q (without n xs) ≡ kids q xs
kids_rest n q none l o = refl
kids_rest n q (node m x k r) l o = elim (cases_Bool (m == n)) [
  | inl e ↦ (let o' = rw e at o in let a = or_false (m == q) (on q k) false o' in rw e (rw (a.0, a.1) refl))
  | inr e ↦ (
      let o' = rw e at o in
      rw e (elim (cases_Bool (m == q)) [
        | inl f ↦ rw f refl
        | inr f ↦ elim (cases_Bool (on q k)) [ inl g ↦ rw (f, g) refl | inr g ↦ rw (f, g) (kids_rest n q r (omega arith) o') ]
      ]))
]

-- leading the children keeps the children of each kept node below
kids_led : {A : Type 0} (kept : ℕ → Bool) (q : ℕ) (now new : Forest A) → Ready kept now new → Clear kept q new → tally q now ≤ 1 → on q now ≡ true → kids q (led_by kept now new) ≡ kids q now
kids_led kept q now none y c l o = (let e = empty now y.cover in absurd (false≢true (rw e at o)))
kids_led kept q now (node n x k r) y c l o = elim (cases_Bool (kept n)) [
  | inl e ↦ (
      let h : has n now ≡ true = y.known n (rw (eq-eqb n n refl) refl) ∙ e in
      let t = tally_taken n q now h in
      let w = led_less kept now n x k r y in
      let a = kids_after q (only n now) (led_by kept (without n now) r) in
      rw e (rw w (a ∙ elim (cases_Bool (on q (only n now))) [
        | inl f ↦ rw f (kids_first n q now l f)
        | inr f ↦ (
            let z = off_tally q (only n now) f in
            let p = on_tally q now o in
            let o' : on q (without n now) ≡ true = tally_on q (without n now) (omega arith) in
            rw f (kids_led kept q (without n now) r (ready_kept kept now n x k r y e) c.1 (omega arith) o' ∙ kids_rest n q now l f))
      ])))
  | inr e ↦ (
      let z = c.0 e in
      let a = kids_after q (node n x k none) (led_by kept now r) in
      let b : kids q (after (node n x k none) (led_by kept now r)) ≡ kids q (led_by kept now r) = rw z at a in
      rw e (b ∙ kids_led kept q now r (ready_new kept now n x k r y e) c.1 l o))
]

pub off_kids : {A : Type 0} (p q : ℕ) (t : Forest A) → on p t ≡ false → on p (kids q t) ≡ false
off_kids p q none h = refl
off_kids p q (node m x k r) h =
    let a = or_false (m == p) (on p k) (on p r) h in
    elim (cases_Bool (m == q)) [
      | inl e ↦ rw e a.1
      | inr e ↦ elim (cases_Bool (on q k)) [ inl f ↦ rw (e, f) (off_kids p q k a.1) | inr f ↦ rw (e, f) (off_kids p q r a.2) ]
    ]

tally_at_led : {A : Type 0} (kept : ℕ → Bool) (p j : ℕ) (new t : Forest A) → on p t ≡ true → tally p t ≤ 1 → Ready kept (kids p t) new → tally j (at p (λ k. led_by kept k new) t) ≡ tally j t + newly kept j new
tally_at_led kept p j new t o l y =
    let a = tally_at p j (led_by kept (kids p t) new) t l o in
    let b = tally_led kept j (kids p t) new y in
    let c = ap (tally j) (at_named p (λ k. led_by kept k new) t l) in
    omega arith

still_on : {A : Type 0} (kept : ℕ → Bool) (p q : ℕ) (new t : Forest A) → Clear kept q new → on p t ≡ true → tally p t ≤ 1 → Ready kept (kids p t) new → on q (at p (λ k. led_by kept k new) t) ≡ on q t
still_on kept p q new t c o l y =
    let a = tally_at_led kept p q new t o l y in
    let z = newly_clear kept q new c in
    on_same q (at p (λ k. led_by kept k new) t) t (omega arith)

-- leading one node's children, seen from another node
other_kids : {A : Type 0} (kept : ℕ → Bool) (p q : ℕ) (new t : Forest A) → (p == q) ≡ false → Clear kept q new → on p t ≡ true → on q t ≡ true → tally p t ≤ 1 → tally q t ≤ 1 → Ready kept (kids p t) new → kids q (at p (λ k. led_by kept k new) t) ≡ at p (λ k. led_by kept k new) (kids q t)
other_kids kept p q new none d c op oq lp lq y = refl
other_kids kept p q new (node m x k r) d c op oq lp lq y =
    elim (cases_Bool (m == p)) [
      | inl e ↦ (
          let lp' = rw e at lp in
          let zk : on p k ≡ false = tally_off p k (omega arith) in
          let zr : on p r ≡ false = tally_off p r (omega arith) in
          let y' : Ready kept k new = rw e at y in
          let same : m ≡ p = eqb-true m p e in
          let nq : (m == q) ≡ false = ap (λ i. i == q) same ∙ d in
          let t = tally_led kept q k new y' in
          let n0 = newly_clear kept q new c in
          let s : on q (led_by kept k new) ≡ on q k = on_same q (led_by kept k new) k (omega arith) in
          rw (e, nq) (rw (s, at_away p (λ ks. led_by kept ks new) r zr) (elim (cases_Bool (on q k)) [
            | inl g ↦ rw g (kids_led kept q k new y' c (omega arith) g ∙ sym (at_away p (λ ks. led_by kept ks new) (kids q k) (off_kids p q k zk)))
            | inr g ↦ rw g (sym (at_away p (λ ks. led_by kept ks new) (kids q r) (off_kids p q r zr)))
          ])))
      | inr e ↦ elim (cases_Bool (m == q)) [
        | inl g ↦ rw (e, g) refl
        | inr g ↦ elim (cases_Bool (on p k)) [
          | inl u ↦ (
              let iu = on_tally p k u in
              let zr : on p r ≡ false = tally_off p r (omega arith) in
              let y' : Ready kept (kids p k) new = rw (e, u) at y in
              let s = still_on kept p q new k c u (omega arith) y' in
              rw (e, g) (rw (s, at_away p (λ ks. led_by kept ks new) r zr) (elim (cases_Bool (on q k)) [
                | inl v ↦ rw v (other_kids kept p q new k d c u v (omega arith) (omega arith) y')
                | inr v ↦ rw v (sym (at_away p (λ ks. led_by kept ks new) (kids q r) (off_kids p q r zr)))
              ])))
          | inr u ↦ (
              let op' : on p r ≡ true = rw (e, u) at op in
              let y' : Ready kept (kids p r) new = rw (e, u) at y in
              rw (e, g) (rw (at_away p (λ ks. led_by kept ks new) k u) (elim (cases_Bool (on q k)) [
                | inl v ↦ rw v (sym (at_away p (λ ks. led_by kept ks new) (kids q k) (off_kids p q k u)))
                | inr v ↦ (let oq' : on q r ≡ true = rw (g, v) at oq in rw v (other_kids kept p q new r d c op' oq' (omega arith) (omega arith) y'))
              ])))
        ]
      ]
    ]

-- ---- an edit below doesn't change what the steps are judged by

has_at : {A : Type 0} (p : ℕ) (f : Forest A → Forest A) (n : ℕ) (t : Forest A) → has n (at p f t) ≡ has n t
has_at p f n none = refl
has_at p f n (node m x k r) = ap (λ b. (m == n) || b) (has_at p f n r)

apart_at : {A : Type 0} (p : ℕ) (f : Forest A → Forest A) (t : Forest A) → Apart t → Apart (at p f t)
apart_at p f none a = a
apart_at p f (node m x k r) a = (has_at p f m r ∙ a.0, apart_at p f r a.1)

ready_at : {A : Type 0} (kept : ℕ → Bool) (p : ℕ) (f : Forest A → Forest A) (t new : Forest A) → Ready kept t new → Ready kept (at p f t) new
ready_at kept p f t new y = record {
  apart = apart_at p f t y.apart;
  apart_new = y.apart_new;
  cover = λ m h. y.cover m (sym (has_at p f m t) ∙ h);
  known = λ m h. has_at p f m t ∙ y.known m h;
}

more_from : (o : Answer) (xs ys : List Op) (t1 : Forest Kind) → then_on o (replay xs) ≡ Done t1 → ((t t1 : Forest Kind) → replay xs t ≡ Done t1 → replay (xs ++ ys) t ≡ replay ys t1) → then_on o (replay (xs ++ ys)) ≡ replay ys t1
more_from (Refused why) xs ys t1 e h = cc
more_from (Done x) xs ys t1 e h = h x t1 e

pub replay_more : (xs ys : List Op) (t t1 : Forest Kind) → replay xs t ≡ Done t1 → replay (xs ++ ys) t ≡ replay ys t1
replay_more [] ys t t1 e = (let d : t ≡ t1 = cc in ap (replay ys) d)
replay_more (o ∷ xs) ys t t1 e = more_from (do_op o t) xs ys t1 e (replay_more xs ys)

-- the parents that have their operations still to come
pub record Waiting (lev : ℕ → ℕ) (hold : ℕ → Bool) (kept : ℕ → Bool) (new : ℕ → Forest Kind) (ps : List ℕ) (now : Forest Kind) : Type 0 where
  pub there : (p : ℕ) → listed p ps ≡ true → on p now ≡ true
  pub ready : (p : ℕ) → listed p ps ≡ true → Ready kept (kids p now) (new p)
  pub clear : (p q : ℕ) → listed p ps ≡ true → Clear kept p (new q)
  pub once : (j : ℕ) → tally j now + all_newly kept new j ps ≤ 1
  pub fits : Fits lev hold 0 now
  pub fits_new : (p : ℕ) → listed p ps ≡ true → Fits lev hold (suc (lev p)) (new p)
  pub low : (p j : ℕ) → listed p ps ≡ true → on j (new p) ≡ true → lev j ≤ 32
  pub open_new : (p : ℕ) → listed p ps ≡ true → 0 < count (new p) → hold p ≡ true

-- the first parent has its new children
next_waiting : (lev : ℕ → ℕ) (hold : ℕ → Bool) (kept : ℕ → Bool) (new : ℕ → Forest Kind) (p : ℕ) (ps : List ℕ) (t : Forest Kind) → Once (p ∷ ps) → Waiting lev hold kept new (p ∷ ps) t → Waiting lev hold kept new ps (at p (λ k. led_by kept k (new p)) t)
next_waiting lev hold kept new p ps t o w =
    let here : listed p (p ∷ ps) ≡ true = rw (eq-eqb p p refl) refl in
    let ns = new p in
    let op = w.there p here in
    let y = w.ready p here in
    let lp : tally p t ≤ 1 = (let i = w.once p in omega arith) in
    record {
      there = λ q h. (let h' = or_right (p == q) (listed q ps) h in still_on kept p q ns t (w.clear q p h') op lp y ∙ w.there q h');
      ready = λ q h. (
          let h' = or_right (p == q) (listed q ps) h in
          let e = other_kids kept p q ns t (not_same p q ps o.0 h) (w.clear q p h') op (w.there q h') lp (let i = w.once q in omega arith) y in
          let z = ready_at kept p (λ k. led_by kept k ns) (kids q t) (new q) (w.ready q h') in
          subst (λ zs. Ready kept zs (new q)) (sym e) z);
      clear = λ q m h. w.clear q m (or_right (p == q) (listed q ps) h);
      once = λ j. (let i = w.once j in let q = tally_at_led kept p j ns t op lp y in omega arith);
      fits = fits_at lev hold 0 p (λ k. led_by kept k ns) t (λ k g. fits_led lev hold (suc (lev p)) kept k ns g (w.fits_new p here)) w.fits;
      fits_new = λ q h. w.fits_new q (or_right (p == q) (listed q ps) h);
      low = λ q j h e. w.low q j (or_right (p == q) (listed q ps) h) e;
      open_new = λ q h e. w.open_new q (or_right (p == q) (listed q ps) h) e;
    }

pub replayed : (lev : ℕ → ℕ) (hold : ℕ → Bool) (kept : ℕ → Bool) (new : ℕ → Forest Kind) (ps : List ℕ) (t : Forest Kind) → lev 0 ≡ 0 → Once ps → Waiting lev hold kept new ps t → replay (plan kept new ps t) t ≡ Done (arrange kept new ps t)
replayed lev hold kept new [] t z o w = refl
replayed lev hold kept new (p ∷ ps) t z o w =
    let here : listed p (p ∷ ps) ≡ true = rw (eq-eqb p p refl) refl in
    let ks = kids p t in
    let ns = new p in
    let op = w.there p here in
    let y = w.ready p here in
    let lp : tally p t ≤ 1 = (let i = w.once p in omega arith) in
    let t1 = at p (λ k. led_by kept k ns) t in
    let taken = arrive none ks ns y.apart y.apart_new (λ m h. refl) y.cover ∙ ap Some (led_is_by kept ks ns y.known) in
    let brought = steps_brought lev hold p 0 ks ns (w.open_new p here) (w.fits_new p here) (λ j e. w.low p j here e) in
    let lift = lifted lev hold p (steps 0 ks ns) t (led_by kept ks ns) z w.fits brought op (λ j. (let i = w.once j in omega arith)) taken
    (λ j. (let i = w.once j in let q = tally_led kept j ks ns y in omega arith)) in
    let named : at p (λ k. led_by kept k ns) t ≡ at p (λ _. led_by kept ks ns) t = at_named p (λ k. led_by kept k ns) t lp in
    let first = lift ∙ ap Done (sym named) in
    replay_more (map (op_at p) (steps 0 ks ns)) (plan kept new ps t1) t t1 first ∙ replayed lev hold kept new ps t1 z o.1 (next_waiting lev hold kept new p ps t o w)

-- ---- the steps look at the numbers of the children alone

pub has_listed : {A : Type 0} (n : ℕ) (t : Forest A) → has n t ≡ listed n (siblings t)
has_listed n none = refl
has_listed n (node m x k r) = ap (λ b. (m == n) || b) (has_listed n r)

stands_placed : {A : Type 0} (n i : ℕ) (t : Forest A) → stands n i t ≡ placed n i (siblings t)
stands_placed n i none = refl
stands_placed n zero (node m x k r) = refl
stands_placed n (suc i) (node m x k r) = stands_placed n i r

pub siblings_without : {A : Type 0} (n : ℕ) (t : Forest A) → siblings (without n t) ≡ taken n (siblings t)
siblings_without n none = refl
siblings_without n (node m x k r) = elim (cases_Bool (m == n)) [ inl e ↦ rw e refl | inr e ↦ rw e (ap (λ z. m ∷ z) (siblings_without n r)) ]

pub siblings_put : {A : Type 0} (i n : ℕ) (x : A) (k t : Forest A) → siblings (put i (node n x k none) t) ≡ put_at i n (siblings t)
siblings_put zero n x k t = refl
siblings_put (suc i) n x k none = refl
siblings_put (suc i) n x k (node m y l r) = ap (λ z. m ∷ z) (siblings_put i n x k r)

one_only : {A : Type 0} (n : ℕ) (t : Forest A) → has n t ≡ true → (x : A) × (k : Forest A) × (only n t ≡ node n x k none)
one_only n none h = absurd (false≢true h)
one_only n (node m x k r) h = elim (cases_Bool (m == n)) [
  | inl e ↦ (let q : m ≡ n = eqb-true m n e in (x, k, rw e (ap (λ i. node i x k none) q)))
  | inr e ↦ (let i = one_only n r (rw e at h) in (i.0, i.1, rw e i.2))
]

pub siblings_moved : {A : Type 0} (n i : ℕ) (t : Forest A) → has n t ≡ true → siblings (moved n i t) ≡ put_at i n (taken n (siblings t))
siblings_moved n i t h =
    let o = one_only n t h in
    ap (λ z. siblings (put i z (without n t))) o.2 ∙ (siblings_put i n o.0 o.1 (without n t) ∙ ap (put_at i n) (siblings_without n t))

pub siblings_at : {A : Type 0} (p : ℕ) (f : Forest A → Forest A) (t : Forest A) → siblings (at p f t) ≡ siblings t
siblings_at p f none = refl
siblings_at p f (node m x k r) = ap (λ z. m ∷ z) (siblings_at p f r)

steps_edits : (p i : ℕ) (now new : Forest Kind) → map (op_at p) (steps i now new) ≡ child_edits p i (siblings now) new
steps_edits p i now none = refl
steps_edits p i now (node n x k r) = rw (sym (has_listed n now), sym (stands_placed n i now)) (elim (cases_Bool (has n now)) [
  | inl e ↦ elim (cases_Bool (stands n i now)) [
    | inl s ↦ rw (e, s) (steps_edits p (suc i) now r)
    | inr s ↦ rw (e, s) (ap (λ z. OpMove n i ∷ z) (steps_edits p (suc i) (moved n i now) r ∙ ap (λ z. child_edits p (suc i) z r) (siblings_moved n i now e)))
  ]
  | inr e ↦ rw e (ap (λ z. OpInsert p i n x k ∷ z) (steps_edits p (suc i) (put i (node n x k none) now) r ∙ ap (λ z. child_edits p (suc i) z r) (siblings_put i n x k now)))
])

pub plan_edits : (lev : ℕ → ℕ) (hold : ℕ → Bool) (kept : ℕ → Bool) (new : ℕ → Forest Kind) (ps : List ℕ) (left t : Forest Kind) → Once ps → Waiting lev hold kept new ps t → ((p : ℕ) → listed p ps ≡ true → siblings (kids p t) ≡ siblings (kids p left)) → flat_map (λ p. child_edits p 0 (siblings (kids p left)) (new p)) ps ≡ plan kept new ps t
plan_edits lev hold kept new [] left t o w h = refl
plan_edits lev hold kept new (p ∷ ps) left t o w h =
    let here : listed p (p ∷ ps) ≡ true = rw (eq-eqb p p refl) refl in
    let op = w.there p here in
    let lp : tally p t ≤ 1 = (let i = w.once p in omega arith) in
    let first : child_edits p 0 (siblings (kids p left)) (new p) ≡ map (op_at p) (steps 0 (kids p t) (new p)) = ap (λ z. child_edits p 0 z (new p)) (sym (h p here)) ∙ sym (steps_edits p 0 (kids p t) (new p)) in
    let f : Forest Kind → Forest Kind = λ k. led_by kept k (new p) in
    let rest = plan_edits lev hold kept new ps left (at p f t) o.1 (next_waiting lev hold kept new p ps t o w)
    (λ q e. (
    let e' = or_right (p == q) (listed q ps) e in
    let k = other_kids kept p q (new p) t (not_same p q ps o.0 e) (w.clear q p e') op (w.there q e') lp (let i = w.once q in omega arith) (w.ready p here) in
    ap siblings k ∙ (siblings_at p f (kids q t) ∙ h q e'))) in
    rw (first, rest) refl
