-- Lists of marks.
use Rattle.std.proofs.Common.{◌≡◌, ℕ, zero, suc, ◌+◌, ◌<◌, ◌≤◌, ◌==◌, ◌||◌, Bool, true, false, cond, if◌then◌else◌, List, [], ◌∷◌, ◌++◌, length, drop, refl, sym, ap, ◌∙◌, subst, arith, ◌⊎◌, inl, inr, Option, Some, None, is_some, append_assoc, nat_lt}
use Rattle.std.specs.Prelude.{slice_set, get_or}
use Rattle.std.specs.List.{All}
use Rattle.std.proofs.lemmas.Bool.{eqb-true, eq-eqb}
use Rattle.std.proofs.lemmas.Bool.Decides.{nat_tests}
use Rattle.signal_model.specs.Signals.{is_in}
use Rattle.sig_marks.specs.Tables.{AreFresh, AreListed, Reached, Spreads, dependants_at, first, marked_at, next}
use Rattle.sig_store.specs.Stored.{entry}
use Rattle.sig_marks.specs.Sets.{mark_in, marks_of, newly_marked, standing_count, stands_of, unmarked_count, with_marks}
use Rattle.sig_marks.proofs.LinkedSets.{stands_same}
use Rattle.signal_model.proofs.Shared.{either, or_right, tested}

pub set_here : (t : List Bool) (d : ℕ) → d < length t → marked_at (slice_set t d true) d ≡ true
set_here [] d h = absurd (omega arith)
set_here (x ∷ xs) zero h = refl
set_here (x ∷ xs) (suc d) h = let l : d < length xs = omega arith in set_here xs d l

pub set_more : (t : List Bool) (d m : ℕ) → marked_at t m ≡ true → marked_at (slice_set t d true) m ≡ true
set_more [] d m h = cc
set_more (x ∷ xs) zero zero h = refl
set_more (x ∷ xs) zero (suc m) h = h
set_more (x ∷ xs) (suc d) zero h = h
set_more (x ∷ xs) (suc d) (suc m) h = set_more xs d m h

pub set_only : (t : List Bool) (d m : ℕ) → marked_at (slice_set t d true) m ≡ true → (marked_at t m ≡ true) ⊎ (m ≡ d)
set_only [] d m h = cc
set_only (x ∷ xs) zero zero h = inr refl
set_only (x ∷ xs) zero (suc m) h = inl h
set_only (x ∷ xs) (suc d) zero h = inl h
set_only (x ∷ xs) (suc d) (suc m) h = elim (set_only xs d m h) [ inl a ↦ inl a | inr e ↦ inr (ap suc e) ]

pub set_same : (t : List Bool) (d : ℕ) → marked_at t d ≡ true → slice_set t d true ≡ t
set_same [] d h = cc
set_same (x ∷ xs) zero h = ap (λ b. b ∷ xs) (sym h)
set_same (x ∷ xs) (suc d) h = ap (λ ys. x ∷ ys) (set_same xs d h)

pub set_fewer : (t : List Bool) (d : ℕ) → d < length t → marked_at t d ≡ false → unmarked_count (slice_set t d true) + 1 ≡ unmarked_count t
set_fewer [] d l h = absurd (omega arith)
set_fewer (true ∷ xs) zero l h = cc
set_fewer (false ∷ xs) zero l h = omega arith
set_fewer (true ∷ xs) (suc d) l h = let k : d < length xs = omega arith in omega (arith, set_fewer xs d k h)
set_fewer (false ∷ xs) (suc d) l h = let k : d < length xs = omega arith in omega (arith, set_fewer xs d k h)

pub set_length : (t : List Bool) (d : ℕ) → length (slice_set t d true) ≡ length t
set_length [] d = refl
set_length (x ∷ xs) zero = refl
set_length (x ∷ xs) (suc d) = ap suc (set_length xs d)

pub marked_length : (ds : List ℕ) (t : List Bool) → length (with_marks ds t) ≡ length t
marked_length [] t = refl
marked_length (d ∷ ds) t = marked_length ds (slice_set t d true) ∙ set_length t d

pub marked_more : (ds : List ℕ) (t : List Bool) (m : ℕ) → marked_at t m ≡ true → marked_at (with_marks ds t) m ≡ true
marked_more [] t m h = h
marked_more (d ∷ ds) t m h = marked_more ds (slice_set t d true) m (set_more t d m h)

pub marked_in : (ds : List ℕ) (t : List Bool) (m : ℕ) → m < length t → is_in m ds ≡ true → marked_at (with_marks ds t) m ≡ true
marked_in [] t m l h = cc
marked_in (d ∷ ds) t m l h = go (m == d) refl h (marked_in ds (slice_set t d true) m (subst (λ x. m < x) (sym (set_length t d)) l))
  where
    go : (b : Bool) → (m == d) ≡ b → (b || is_in m ds) ≡ true → (is_in m ds ≡ true → marked_at (with_marks ds (slice_set t d true)) m ≡ true) → marked_at (with_marks ds (slice_set t d true)) m ≡ true
    go true e q r = let me : m ≡ d = eqb-true m d e in marked_more ds (slice_set t d true) m (subst (λ x. marked_at (slice_set t x true) m ≡ true) me (set_here t m l))
    go false e q r = r q

pub marked_only : (ds : List ℕ) (t : List Bool) (m : ℕ) → marked_at (with_marks ds t) m ≡ true → (marked_at t m ≡ true) ⊎ (is_in m ds ≡ true)
marked_only [] t m h = inl h
marked_only (d ∷ ds) t m h = elim (marked_only ds (slice_set t d true) m h) [
  | inr there ↦ inr (or_right (m == d) (is_in m ds) there)
  | inl was ↦ elim (set_only t d m was) [ inl a ↦ inl a | inr e ↦ inr (let q : (m == d) ≡ true = eq-eqb m d e in rw q refl) ]
]

pub pushed_new : (ds : List ℕ) (t : List Bool) (m : ℕ) → is_in m (newly_marked ds t) ≡ true → (is_in m ds ≡ true) × (marked_at t m ≡ false)
pushed_new [] t m h = cc
pushed_new (d ∷ ds) t m h = go (marked_at t d) refl h (pushed_new ds t m) (pushed_new ds (slice_set t d true) m)
  where
    go : (b : Bool) → marked_at t d ≡ b → is_in m (cond b (newly_marked ds t) (d ∷ newly_marked ds (slice_set t d true))) ≡ true → (is_in m (newly_marked ds t) ≡ true → (is_in m ds ≡ true) × (marked_at t m ≡ false)) →
        (is_in m (newly_marked ds (slice_set t d true)) ≡ true → (is_in m ds ≡ true) × (marked_at (slice_set t d true) m ≡ false)) → (is_in m (d ∷ ds) ≡ true) × (marked_at t m ≡ false)
    go true e q f g = let r : (is_in m ds ≡ true) × (marked_at t m ≡ false) = f q in (or_right (m == d) (is_in m ds) r.0, r.1)
    go false e q f g = by (m == d) refl q
      where
        by : (b : Bool) → (m == d) ≡ b → (b || is_in m (newly_marked ds (slice_set t d true))) ≡ true → ((b || is_in m ds) ≡ true) × (marked_at t m ≡ false)
        by true f' z = (refl, ap (marked_at t) (eqb-true m d f') ∙ e)
        by false f' z =
            let r : (is_in m ds ≡ true) × (marked_at (slice_set t d true) m ≡ false) = g z in
            (r.0, elim (tested (marked_at t m)) [ inr no' ↦ no' | inl is_on ↦ cc (sym (set_more t d m is_on) ∙ r.1) ])

pub pushed_all : (ds : List ℕ) (t : List Bool) (m : ℕ) → is_in m ds ≡ true → marked_at t m ≡ false → is_in m (newly_marked ds t) ≡ true
pushed_all [] t m h n = cc
pushed_all (d ∷ ds) t m h n = go (marked_at t d) refl (λ z. pushed_all ds t m z n) (λ z q. pushed_all ds (slice_set t d true) m z q)
  where
    go : (b : Bool) → marked_at t d ≡ b → (is_in m ds ≡ true → is_in m (newly_marked ds t) ≡ true) → (is_in m ds ≡ true → marked_at (slice_set t d true) m ≡ false → is_in m (newly_marked ds (slice_set t d true)) ≡ true) →
        is_in m (cond b (newly_marked ds t) (d ∷ newly_marked ds (slice_set t d true))) ≡ true
    go true e f g = by (m == d) refl h
      where
        by : (b : Bool) → (m == d) ≡ b → (b || is_in m ds) ≡ true → is_in m (newly_marked ds t) ≡ true
        by true f' z = cc (sym (ap (marked_at t) (eqb-true m d f') ∙ e) ∙ n)
        by false f' z = f z
    go false e f g = by (m == d) refl h
      where
        by : (b : Bool) → (m == d) ≡ b → (b || is_in m ds) ≡ true → (b || is_in m (newly_marked ds (slice_set t d true))) ≡ true
        by true f' z = refl
        by false f' z = g z (elim (tested (marked_at (slice_set t d true) m)) [
          | inr no' ↦ no'
          | inl is_on ↦ elim (set_only t d m is_on) [ inl a ↦ cc (sym a ∙ n) | inr q ↦ cc (sym (eq-eqb m d q) ∙ f') ]
        ])

-- ---- lists of the code

drop_suc : (xs : List ℕ) (i d : ℕ) → i < length xs → drop i xs ≡ get_or xs i d ∷ drop (suc i) xs
drop_suc [] i d h = absurd (omega arith)
drop_suc (x ∷ xs) zero d h = refl
drop_suc (x ∷ xs) (suc i) d h = let l : i < length xs = omega arith in drop_suc xs i d l

pub drop_here : (xs : List ℕ) (i : ℕ) → i < length xs → drop i xs ≡ get_or xs i 0 ∷ drop (i + 1) xs
drop_here xs i h = let e : suc i ≡ i + 1 = omega arith in drop_suc xs i 0 h ∙ ap (λ j. get_or xs i 0 ∷ drop j xs) e

pub here_within : (xs : List ℕ) (i n : ℕ) → i < length xs → All (λ d. d < n) (drop i xs) → get_or xs i 0 < n
here_within xs i n l h =
    let e : drop i xs ≡ get_or xs i 0 ∷ drop (i + 1) xs = drop_here xs i l in
    let z : 0 < suc (length (drop (i + 1) xs)) = omega arith in
    subst (λ (ys : List ℕ). get_or ys 0 0 < n) e (h 0 0 (subst (λ (ys : List ℕ). 0 < length ys) (sym e) z))

pub rest_within : (xs : List ℕ) (i n m : ℕ) → i < length xs → n ≡ m → All (λ d. d < n) (drop i xs) → All (λ d. d < m) (drop (i + 1) xs)
rest_within xs i n m l q h = λ k d lt.
    let e : drop i xs ≡ get_or xs i 0 ∷ drop (i + 1) xs = drop_here xs i l in
    let z : suc k < suc (length (drop (i + 1) xs)) = omega (arith, lt) in
    subst (λ y. get_or (drop (i + 1) xs) k d < y) q (subst (λ (ys : List ℕ). get_or ys (suc k) d < n) e (h (suc k) d (subst (λ (ys : List ℕ). suc k < length ys) (sym e) z)))

-- what is new among several is new at the first, or among the others
pub newly_step : (d : ℕ) (ds : List ℕ) (t : List Bool) → newly_marked (d ∷ ds) t ≡ newly_marked (d ∷ []) t ++ newly_marked ds (slice_set t d true)
newly_step d ds t = go (marked_at t d) refl
  where
    go : (b : Bool) → marked_at t d ≡ b → cond b (newly_marked ds t) (d ∷ newly_marked ds (slice_set t d true)) ≡ cond b [] (d ∷ []) ++ newly_marked ds (slice_set t d true)
    go true e = ap (newly_marked ds) (sym (set_same t d e))
    go false e = refl

-- what is left to mark after one more
pub onward : (rs : List ℕ) (i : ℕ) (t u : List Bool) → i < length rs → u ≡ slice_set t (get_or rs i 0) true → with_marks (drop (i + 1) rs) u ≡ with_marks (drop i rs) t
onward rs i t u l e = ap (with_marks (drop (i + 1) rs)) e ∙ sym (ap (λ ds. with_marks ds t) (drop_here rs i l))

pub onward_new : (rs : List ℕ) (i : ℕ) (t u : List Bool) (st st' : List ℕ) → i < length rs → u ≡ slice_set t (get_or rs i 0) true → st' ≡ st ++ newly_marked (get_or rs i 0 ∷ []) t →
    st' ++ newly_marked (drop (i + 1) rs) u ≡ st ++ newly_marked (drop i rs) t
onward_new rs i t u st st' l e f =
    (λ j. f j ++ newly_marked (drop (i + 1) rs) (e j))
    ∙ append_assoc st (newly_marked (get_or rs i 0 ∷ []) t) (newly_marked (drop (i + 1) rs) (slice_set t (get_or rs i 0) true))
    ∙ ap (λ ys. st ++ ys) (sym (newly_step (get_or rs i 0) (drop (i + 1) rs) t) ∙ sym (ap (λ ds. newly_marked ds t) (drop_here rs i l)))

-- ---- marks of what stands

pub marks_len : (ms : List (Option Bool)) → length (marks_of ms) ≡ length ms
marks_len [] = refl
marks_len (m ∷ ms) = ap suc (marks_len ms)

pub marks_set : (ms : List (Option Bool)) (i : ℕ) (x : Option Bool) → marks_of (slice_set ms i x) ≡ slice_set (marks_of ms) i (mark_in x)
marks_set [] i x = refl
marks_set (m ∷ ms) zero x = refl
marks_set (m ∷ ms) (suc i) x = ap (λ ts. mark_in m ∷ ts) (marks_set ms i x)

pub marks_at : (ms : List (Option Bool)) (i : ℕ) (x : Option Bool) → i < length ms → entry ms i ≡ x → marked_at (marks_of ms) i ≡ mark_in x
marks_at [] i x l h = absurd (omega arith)
marks_at (m ∷ ms) zero x l h = ap mark_in h
marks_at (m ∷ ms) (suc i) x l h = let k : i < length ms = omega arith in marks_at ms i x k h

-- what is gone counts as marked
pub marks_gap : (ms : List (Option Bool)) (i : ℕ) → is_some (entry ms i) ≡ false → marks_of ms ≡ slice_set (marks_of ms) i true
marks_gap [] i h = refl
marks_gap (None ∷ ms) zero h = refl
marks_gap (Some b ∷ ms) zero h = cc
marks_gap (m ∷ ms) (suc i) h = ap (λ ts. mark_in m ∷ ts) (marks_gap ms i h)

-- a mark is another where one stands
pub marks_replaced : (ms ms' : List (Option Bool)) (i : ℕ) (b : Bool) → ms' ≡ (if is_some (entry ms i) then slice_set ms i (Some b) else ms) →
    marks_of ms' ≡ (if is_some (entry ms i) then slice_set (marks_of ms) i b else marks_of ms)
marks_replaced ms ms' i b e = ap marks_of e ∙ go (is_some (entry ms i))
  where
    go : (t : Bool) → marks_of (if t then slice_set ms i (Some b) else ms) ≡ (if t then slice_set (marks_of ms) i b else marks_of ms)
    go true = marks_set ms i (Some b)
    go false = refl

-- the same signals stand then
pub stands_replaced : (ms ms' : List (Option Bool)) (i : ℕ) (b : Bool) → ms' ≡ (if is_some (entry ms i) then slice_set ms i (Some b) else ms) →
    stands_of ms' ≡ stands_of ms
stands_replaced ms ms' i b e = ap stands_of e ∙ go (entry ms i) refl
  where
    go : (o : Option Bool) → entry ms i ≡ o → stands_of (if is_some o then slice_set ms i (Some b) else ms) ≡ stands_of ms
    go None is = refl
    go (Some x) is = stands_same ms i b x is

-- what doesn't stand counts as marked already
pub marked_replaced : (ms ms' : List (Option Bool)) (i : ℕ) → ms' ≡ (if is_some (entry ms i) then slice_set ms i (Some true) else ms) →
    marks_of ms' ≡ slice_set (marks_of ms) i true
marked_replaced ms ms' i e = marks_replaced ms ms' i true e ∙ go (is_some (entry ms i)) refl
  where
    go : (t : Bool) → is_some (entry ms i) ≡ t → (if t then slice_set (marks_of ms) i true else marks_of ms) ≡ slice_set (marks_of ms) i true
    go true there = refl
    go false gone = marks_gap ms i gone

-- no more are unmarked than stand
pub unmarked_few : (ms : List (Option Bool)) → unmarked_count (marks_of ms) ≤ standing_count (stands_of ms)
unmarked_few [] = omega arith
unmarked_few (None ∷ ms) = omega (arith, unmarked_few ms)
unmarked_few (Some true ∷ ms) = omega (arith, unmarked_few ms)
unmarked_few (Some false ∷ ms) = omega (arith, unmarked_few ms)

-- ---- the invariant

abbrev pub AllMarked : List Bool → List ℕ → Type 0
AllMarked t ds = (m : ℕ) → is_in m ds ≡ true → marked_at t m ≡ true

pub record Spreading (deps : List (List ℕ)) (t0 : List Bool) (n : ℕ) (t : List Bool) (S : List ℕ) : Type 0 where
  pub len : length t ≡ length t0
  pub more : (m : ℕ) → marked_at t0 m ≡ true → marked_at t m ≡ true
  pub only : (m : ℕ) → marked_at t m ≡ true → (marked_at t0 m ≡ true) ⊎ Reached deps t0 n m
  pub stack : (x : ℕ) → is_in x S ≡ true → Reached deps t0 n x
  pub done : (p : ℕ) → (p ≡ n) ⊎ ((marked_at t p ≡ true) × (marked_at t0 p ≡ false)) → (is_in p S ≡ true) ⊎ AllMarked t (dependants_at deps p)

pub is_in_append : (m : ℕ) (xs ys : List ℕ) → is_in m (xs ++ ys) ≡ (is_in m xs || is_in m ys)
is_in_append m [] ys = refl
is_in_append m (x ∷ xs) ys = ap (λ b. m == x || b) (is_in_append m xs ys) ∙ shift (m == x) (is_in m xs) (is_in m ys)
  where
    shift : (a b c : Bool) → (a || (b || c)) ≡ ((a || b) || c)
    shift true b c = refl
    shift false b c = refl

or_left : (a b : Bool) → a ≡ true → (a || b) ≡ true
or_left a b h = rw h refl

abbrev Within : List (List ℕ) → ℕ → Type 0
Within deps len = (p m : ℕ) → is_in m (dependants_at deps p) ≡ true → m < len

-- one turn: x's dependants are with_marks and newly_marked
turned : (deps : List (List ℕ)) (t0 : List Bool) (n : ℕ) (t : List Bool) (S S' : List ℕ) (x : ℕ) → Within deps (length t0) → Spreading deps t0 n t S → ((p : ℕ) → is_in p S ≡ true → (is_in p S' ≡ true) ⊎ (p ≡ x)) → ((p : ℕ) → is_in p S' ≡ true → is_in p S ≡ true) →
    (x ≡ n) ⊎ Reached deps t0 n x → Spreading deps t0 n (with_marks (dependants_at deps x) t) (S' ++ newly_marked (dependants_at deps x) t)
turned deps t0 n t S S' x within i split sub from =
    let ds : List ℕ = dependants_at deps x in
    let reach : (m : ℕ) → is_in m ds ≡ true → marked_at t0 m ≡ false → Reached deps t0 n m = λ m on off. elim from [ inl e ↦ first (ap (λ y. is_in m (dependants_at deps y)) (sym e) ∙ on) off | inr r ↦ next r on off ] in
    record {
      len = marked_length ds t ∙ i.len;
      more = λ m h. marked_more ds t m (i.more m h);
      only = λ m h. elim (marked_only ds t m h) [
        | inl was ↦ i.only m was
        | inr on ↦ elim (tested (marked_at t0 m)) [ inl a ↦ inl a | inr off ↦ inr (reach m on off) ]
      ];
      stack = λ y h. elim (either (is_in y S') (is_in y (newly_marked ds t)) (sym (is_in_append y S' (newly_marked ds t)) ∙ h)) [
        | inl old ↦ i.stack y (sub y old)
        | inr new ↦
            let q : (is_in y ds ≡ true) × (marked_at t y ≡ false) = pushed_new ds t y new in
            elim (tested (marked_at t0 y)) [ inl a ↦ cc (sym (i.more y a) ∙ q.1) | inr off ↦ reach y q.0 off ]
      ];
      done = λ p h.
          let old : (p ≡ n) ⊎ ((marked_at t p ≡ true) × (marked_at t0 p ≡ false)) → (is_in p (S' ++ newly_marked ds t) ≡ true) ⊎ AllMarked (with_marks ds t) (dependants_at deps p) = λ g. elim (i.done p g) [
            | inl on ↦ elim (split p on) [
              | inl keep ↦ inl (is_in_append p S' (newly_marked ds t) ∙ or_left (is_in p S') (is_in p (newly_marked ds t)) keep)
              | inr e ↦ inr (λ m q.
                  let on : is_in m ds ≡ true = ap (λ y. is_in m (dependants_at deps y)) (sym e) ∙ q in
                  let l : m < length t = subst (λ z. m < z) (sym i.len) (within x m on) in
                  marked_in ds t m l on)
            ]
            | inr all ↦ inr (λ m q. marked_more ds t m (all m q))
          ] in
          elim h [
            | inl e ↦ old (inl e)
            | inr g ↦ elim (tested (marked_at t p)) [
              | inl was ↦ old (inr (was, g.1))
              | inr off ↦ elim (marked_only ds t p g.0) [
                | inl was ↦ cc (sym was ∙ off)
                | inr on ↦ inl (is_in_append p S' (newly_marked ds t) ∙ or_right (is_in p S') (is_in p (newly_marked ds t)) (pushed_all ds t p on off))
              ]
            ]
          ];
    }

-- the first turn, of the signal itself, over an empty stack
pub begun : (deps : List (List ℕ)) (t0 : List Bool) (n : ℕ) → Within deps (length t0) → Spreading deps t0 n (with_marks (dependants_at deps n) t0) ([] ++ newly_marked (dependants_at deps n) t0)
begun deps t0 n within =
    let ds : List ℕ = dependants_at deps n in
    record {
      len = marked_length ds t0;
      more = λ m h. marked_more ds t0 m h;
      only = λ m h. elim (marked_only ds t0 m h) [
        | inl was ↦ inl was
        | inr on ↦ elim (tested (marked_at t0 m)) [ inl a ↦ inl a | inr off ↦ inr (first on off) ]
      ];
      stack = λ y h. let q : (is_in y ds ≡ true) × (marked_at t0 y ≡ false) = pushed_new ds t0 y h in first q.0 q.1;
      done = λ p h. elim h [
        | inl e ↦ inr (λ m q.
            let on : is_in m ds ≡ true = ap (λ y. is_in m (dependants_at deps y)) (sym e) ∙ q in
            marked_in ds t0 m (within n m on) on)
        | inr g ↦ elim (marked_only ds t0 p g.0) [
          | inl was ↦ cc (sym was ∙ g.1)
          | inr on ↦ inl (pushed_all ds t0 p on g.1)
        ]
      ];
    }

-- those from a place on, with more behind them
more_behind : (xs ys : List ℕ) (i : ℕ) → i ≤ length xs → drop i (xs ++ ys) ≡ drop i xs ++ ys
more_behind xs ys zero l = refl
more_behind [] ys (suc i) l = absurd (omega arith)
more_behind (x ∷ xs) ys (suc i) l = let k : i ≤ length xs = omega arith in more_behind xs ys i k

-- a turn of the one at a place of the list
pub went_on : (deps : List (List ℕ)) (t0 : List Bool) (n : ℕ) (t : List Bool) (fs : List ℕ) (i d x : ℕ) → Within deps (length t0) → i < length fs → get_or fs i d ≡ x →
    Spreading deps t0 n t (drop i fs) → Spreading deps t0 n (with_marks (dependants_at deps x) t) (drop (i + 1) (fs ++ newly_marked (dependants_at deps x) t))
went_on deps t0 n t fs i d x within l here on =
    let rest : List ℕ = drop (i + 1) fs in
    let e : suc i ≡ i + 1 = omega arith in
    let at : drop i fs ≡ x ∷ rest = drop_suc fs i d l ∙ (λ j. here j ∷ drop (e j) fs) in
    let k : i + 1 ≤ length fs = omega (arith, l) in
    let s : Spreading deps t0 n t (x ∷ rest) = subst (Spreading deps t0 n t) at on in
    subst (Spreading deps t0 n (with_marks (dependants_at deps x) t)) (sym (more_behind fs (newly_marked (dependants_at deps x) t) (i + 1) k))
    (turned deps t0 n t (x ∷ rest) rest x within s
    (λ p q. elim (either (p == x) (is_in p rest) q) [ inl a ↦ inr (eqb-true p x a) | inr b ↦ inl b ])
    (λ p q. or_right (p == x) (is_in p rest) q)
    (inr (s.stack x (or_left (x == x) (is_in x rest) (eq-eqb x x refl)))))

-- what was listed before that turn, and what it lists, came after n
pub listed_on : (deps : List (List ℕ)) (t0 : List Bool) (n : ℕ) (u : List Bool) (fs ys : List ℕ) (i : ℕ) → i < length fs → AreFresh deps t0 n fs →
    Spreading deps t0 n u (drop (i + 1) (fs ++ ys)) → AreFresh deps t0 n (fs ++ ys)
listed_on deps t0 n u fs ys i l all on = λ m q. elim (either (is_in m fs) (is_in m ys) (sym (is_in_append m fs ys) ∙ q)) [
  | inl old ↦ all m old
  | inr new ↦
      let k : i + 1 ≤ length fs = omega (arith, l) in
      on.stack m (ap (is_in m) (more_behind fs ys (i + 1) k) ∙ is_in_append m (drop (i + 1) fs) ys ∙ or_right (is_in m (drop (i + 1) fs)) (is_in m ys) new)
]

-- with what several more mark newly, all that was marked newly is listed
pub all_listed : (ds : List ℕ) (t0 t : List Bool) (fs : List ℕ) → AreListed t0 t fs → AreListed t0 (with_marks ds t) (fs ++ newly_marked ds t)
all_listed ds t0 t fs old = λ m off on.
    let there : (is_in m fs ≡ true) ⊎ (is_in m (newly_marked ds t) ≡ true) = elim (tested (marked_at t m)) [
      | inl was ↦ inl (old m off was)
      | inr new ↦ elim (marked_only ds t m on) [ inl was ↦ cc (sym was ∙ new) | inr one ↦ inr (pushed_all ds t m one new) ]
    ] in
    is_in_append m fs (newly_marked ds t) ∙ elim there [
      | inl a ↦ or_left (is_in m fs) (is_in m (newly_marked ds t)) a
      | inr b ↦ or_right (is_in m fs) (is_in m (newly_marked ds t)) b
    ]

-- past the end of the list nothing is left
pub none_behind : (fs : List ℕ) (i : ℕ) → length fs ≤ i → drop i fs ≡ []
none_behind [] zero l = refl
none_behind [] (suc i) l = refl
none_behind (x ∷ xs) zero l = absurd (omega arith)
none_behind (x ∷ xs) (suc i) l = let k : length xs ≤ i = omega arith in none_behind xs i k

-- in the end all that is reached is with_marks
reached_marked : (deps : List (List ℕ)) (t0 : List Bool) (n : ℕ) (t : List Bool) → Spreading deps t0 n t [] → {a m : ℕ} → Reached deps t0 a m → a ≡ n → marked_at t m ≡ true
reached_marked deps t0 n t i {a} {m} (first on off) e = elim (i.done a (inl e)) [ inl z ↦ cc | inr all ↦ all m on ]
reached_marked deps t0 n t i {a} {m} (next {p = p} r on off) e = elim (i.done p (inr (reached_marked deps t0 n t i r e, unmarked_before r))) [ inl z ↦ cc | inr all ↦ all m on ]
  where
    unmarked_before : {x y : ℕ} → Reached deps t0 x y → marked_at t0 y ≡ false
    unmarked_before (first f g) = g
    unmarked_before (next q f g) = g

pub ended : (deps : List (List ℕ)) (t0 : List Bool) (n : ℕ) (t : List Bool) → Spreading deps t0 n t [] → Spreads deps t0 t n
ended deps t0 n t i = record {
  len = i.len;
  more = i.more;
  start = λ d on. elim (tested (marked_at t0 d)) [ inl a ↦ i.more d a | inr off ↦ reached_marked deps t0 n t i (first on off) refl ];
  on = λ m d off on' q. elim (tested (marked_at t0 d)) [
    | inl a ↦ i.more d a
    | inr no' ↦ elim (i.only m on') [ inl was ↦ cc (sym was ∙ off) | inr r ↦ reached_marked deps t0 n t i (next r q no') refl ]
  ];
  only = i.only;
}

pub mark_past : (t : List Bool) (n : ℕ) → length t ≤ n → false ≡ marked_at t n
mark_past [] n l = refl
mark_past (x ∷ xs) zero l = absurd (omega arith)
mark_past (x ∷ xs) (suc n) l = let k : length xs ≤ n = omega arith in mark_past xs n k

-- what stands has its mark
pub marks_there : (ms : List (Option Bool)) (i : ℕ) (b : Bool) → entry ms i ≡ Some b → b ≡ marked_at (marks_of ms) i
marks_there [] i b h = cc
marks_there (m ∷ ms) zero b h = sym (ap mark_in h)
marks_there (m ∷ ms) (suc i) b h = marks_there ms i b h

-- of what doesn't stand, what was given is marked
pub marks_none : (ms : List (Option Bool)) (i : ℕ) → entry ms i ≡ None → nat_lt i (length ms) ≡ marked_at (marks_of ms) i
marks_none ms i h = go (nat_lt i (length ms)) refl
  where
    go : (b : Bool) → nat_lt i (length ms) ≡ b → b ≡ marked_at (marks_of ms) i
    go true e = let l : i < length ms = grind (arith, nat_tests, e) in sym (marks_at ms i None l h)
    go false e = let l : length ms ≤ i = grind (arith, nat_tests, e) in mark_past (marks_of ms) i (omega (arith, l, marks_len ms))
