-- The steps lead from the old children to the new ones.
use Rattle.std.proofs.Common.{◌≡◌, ℕ, suc, ◌+◌, ◌==◌, true, false, ◌||◌, refl, sym, ap, ◌∙◌, arith, Some, leb, ltb, if◌then◌else◌, eqb-true, eq-eqb, inl, inr}
use Rattle.std.proofs.lemmas.Bool.{cases_Bool, false≢true, le-leb, lt-ltb, or_right}
use Rattle.page_model.specs.Forest.{Forest, none, node, after, count, has, only, without, stands}
use Rattle.page_model.proofs.Facts.{take_steps, led, Apart, steps}
use Rattle.page_model.proofs.Siblings.{after_assoc, count_after, has_after, put_after, stands_after, only_after, without_after, count_only, has_only, has_without, only_without, front_again, some_there}
use Rattle.page_model.proofs.Everywhere.{flipped}

pub later_in : {A : Type 0} (n m : ℕ) (x : A) (k r : Forest A) → has m r ≡ true → has m (node n x k r) ≡ true
later_in n m x k r e = or_right (n == m) (has m r) e

-- `led` looks only at the keys of the new children
pub led_same : {A : Type 0} (now now' new : Forest A) → ((m : ℕ) → has m new ≡ true → has m now' ≡ has m now) → ((m : ℕ) → has m new ≡ true → only m now' ≡ only m now) → led now' new ≡ led now new
led_same now now' none h o = refl
led_same now now' (node n x k r) h o =
    let here : (n == n) ≡ true = eq-eqb n n refl in
    let hn : has n now' ≡ has n now = h n (rw here refl) in
    let on : only n now' ≡ only n now = o n (rw here refl) in
    let later : (m : ℕ) → has m r ≡ true → has m (node n x k r) ≡ true = λ m e. later_in n m x k r e in
    rw (hn, on) (ap (after (if has n now then only n now else node n x k none)) (led_same now now' r (λ m e. h m (later m e)) (λ m e. o m (later m e))))

-- a key of the later children isn't that of the first
pub other : {A : Type 0} (n m : ℕ) (r : Forest A) → has n r ≡ false → has m r ≡ true → (n == m) ≡ false
other n m r a e = elim (cases_Bool (n == m)) [
  | inl d ↦ (let s : n ≡ m = eqb-true n m d in absurd (false≢true (sym a ∙ ap (λ i. has i r) s ∙ e)))
  | inr d ↦ d
]

-- none of the siblings
pub empty : {A : Type 0} (xs : Forest A) → ((m : ℕ) → has m xs ≡ true → false ≡ true) → xs ≡ none
empty none h = refl
empty (node n x k r) h = absurd (false≢true (h n (rw (eq-eqb n n refl) refl)))

pub apart_without : {A : Type 0} (n : ℕ) (xs : Forest A) → Apart xs → Apart (without n xs)
apart_without n none a = a
apart_without n (node m x k r) a = elim (cases_Bool (m == n)) [
  | inl d ↦ rw d a.1
  | inr d ↦ rw d (has_without n m r (flipped m n d) ∙ a.0, apart_without n r a.1)
]

-- a key taken out of distinct ones is there no more
pub gone : {A : Type 0} (n : ℕ) (xs : Forest A) → Apart xs → has n (without n xs) ≡ false
gone n none a = refl
gone n (node m x k r) a = elim (cases_Bool (m == n)) [
  | inl d ↦ (let s : m ≡ n = eqb-true m n d in rw d (ap (λ i. has i r) (sym s) ∙ a.0))
  | inr d ↦ rw d (rw d (gone n r a.1))
]

onward : {A : Type 0} (done sub rest' rest r : Forest A) → count sub ≡ 1 → led rest' r ≡ led rest r →
    take_steps (steps (count (after done sub)) (after (after done sub) rest') r) (after (after done sub) rest') ≡ Some (after (after done sub) (led rest' r)) →
    take_steps (steps (suc (count done)) (after done (after sub rest')) r) (after done (after sub rest')) ≡ Some (after done (after sub (led rest r)))
onward done sub rest' rest r c l ih =
    let e : count (after done sub) ≡ suc (count done) = omega (arith, count_after done sub) in
    let a = rw e at ih in
    let b = rw (after_assoc done sub rest') at a in
    let d = rw (after_assoc done sub (led rest' r)) at b in
    rw l at d

pub arrive : {A : Type 0} (done rest new : Forest A) → Apart rest → Apart new → ((m : ℕ) → has m new ≡ true → has m done ≡ false) → ((m : ℕ) → has m rest ≡ true → has m new ≡ true) → take_steps (steps (count done) (after done rest) new) (after done rest) ≡ Some (after done (led rest new))
arrive done rest none ar an clear cover = ap (λ r. Some (after done r)) (empty rest cover)
arrive done rest (node n x k r) ar an clear cover =
    let cn : has n done ≡ false = clear n (rw (eq-eqb n n refl) refl) in
    let hn : has n (after done rest) ≡ has n rest = has_after n done rest ∙ ap (λ b. b || has n rest) cn in
    let total : count (after done rest) ≡ count done + count rest = count_after done rest in
    elim (cases_Bool (has n rest)) [
      | inl e ↦ (
          let h : has n (after done rest) ≡ true = hn ∙ e in
          let sub = only n rest in
          let rest' = without n rest in
          let g : has n rest' ≡ false = gone n rest ar in
          let same : led rest' r ≡ led rest r = led_same rest rest' r (λ m i. has_without n m rest (other n m r an.0 i)) (λ m i. only_without n m rest (other n m r an.0 i)) in
          let ih = arrive (after done sub) rest' r (apart_without n rest ar) an.1
          (λ m i. has_after m done sub ∙ (rw (clear m (later_in n m x k r i)) (has_only n m rest e ∙ other n m r an.0 i)))
          (λ m i. let d : (n == m) ≡ false = other n m rest' g i in rw d at (cover m (sym (has_without n m rest d) ∙ i))) in
          let next = onward done sub rest' rest r (count_only n rest e) same ih in
          rw (h, e) (elim (cases_Bool (stands n 0 rest)) [
            | inl s ↦ rw (stands_after n done rest ∙ s) (rw (front_again n rest s) at next)
            | inr s ↦ (
                let room : ltb (count done) (count (after done rest)) ≡ true = lt-ltb _ _ (omega (arith, total, some_there n rest e)) in
                rw (stands_after n done rest ∙ s) (rw (h, room, only_after n done rest cn, without_after n done rest cn, put_after done sub rest') next))
          ]))
      | inr e ↦ (
          let h : has n (after done rest) ≡ false = hn ∙ e in
          let sub = node n x k none in
          let ih = arrive (after done sub) rest r ar an.1
          (λ m i. has_after m done sub ∙ (rw (clear m (later_in n m x k r i)) (rw (other n m r an.0 i) refl)))
          (λ m i. rw (other n m rest e i) at (cover m i)) in
          let next = onward done sub rest rest r refl refl ih in
          let room : leb (count done) (count (after done rest)) ≡ true = le-leb _ _ (omega (arith, total)) in
          rw (h, e) (rw (h, room, put_after done sub rest) next))
    ]
