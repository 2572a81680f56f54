-- Arranging one parent after the other, in any order, arranges all.
use Rattle.std.proofs.Common.{◌≡◌, ℕ, ◌==◌, Bool, true, false, ◌||◌, refl, sym, ap, ◌∙◌, if◌then◌else◌, eqb-true, eq-eqb, inl, inr, List, [], ◌∷◌}
use Rattle.std.proofs.lemmas.Bool.{cases_Bool, false≢true, true≢false, or_left, or_right}
use Rattle.page_model.specs.Forest.{Forest, none, node, after, only, on, at}
use Rattle.page_model.specs.Edits.{listed}
use Rattle.page_model.proofs.Facts.{arrange, as_was, Single, Knows, Clear, Matches, Once, led_by}

-- the parents in `ds` led to their new children
abbrev step : {A : Type 0} → (ℕ → Bool) → (ℕ → Forest A) → List ℕ → ℕ → Forest A → Forest A
step kept look ds m now = if listed m ds then led_by kept now (look m) else now

abbrev rebuild : {A : Type 0} → (ℕ → Forest A → Forest A) → Forest A → Forest A
rebuild g none = none
rebuild g (node m x k r) = node m x (g m (rebuild g k)) (rebuild g r)

pub flipped : (m p : ℕ) → (m == p) ≡ false → (p == m) ≡ false
flipped m p h = elim (cases_Bool (p == m)) [
  | inl e ↦ (let q : p ≡ m = eqb-true p m e in absurd (false≢true (sym h ∙ eq-eqb m p (sym q))))
  | inr e ↦ e
]

pub not_same : (p q : ℕ) (ps : List ℕ) → listed p ps ≡ false → listed q ps ≡ true → (p == q) ≡ false
not_same p q ps n h = elim (cases_Bool (p == q)) [
  | inl e ↦ (let d : p ≡ q = eqb-true p q e in absurd (false≢true (sym n ∙ ap (λ i. listed i ps) d ∙ h)))
  | inr e ↦ e
]

abbrev pub reversed_onto : List ℕ → List ℕ → List ℕ
reversed_onto [] ds = ds
reversed_onto (p ∷ ps) ds = reversed_onto ps (p ∷ ds)

turned : (a b c : Bool) → (a || (b || c)) ≡ ((b || a) || c)
turned true true c = refl
turned true false c = refl
turned false true c = refl
turned false false c = refl

pub listed_joined : (m : ℕ) (ns es : List ℕ) → listed m (reversed_onto ns es) ≡ (listed m ns || listed m es)
listed_joined m [] es = refl
listed_joined m (n ∷ ns) es = listed_joined m ns (n ∷ es) ∙ turned (listed m ns) (n == m) (listed m es)

pub at_after : {A : Type 0} (p : ℕ) (f : Forest A → Forest A) (xs ys : Forest A) → at p f (after xs ys) ≡ after (at p f xs) (at p f ys)
at_after p f none ys = refl
at_after p f (node m x k r) ys = ap (node m x (if m == p then f k else at p f k)) (at_after p f r ys)

pub at_only : {A : Type 0} (p : ℕ) (f : Forest A → Forest A) (n : ℕ) (xs : Forest A) → at p f (only n xs) ≡ only n (at p f xs)
at_only p f n none = refl
at_only p f n (node m x k r) = elim (cases_Bool (m == n)) [ inl e ↦ rw e refl | inr e ↦ rw e (at_only p f n r) ]

pub or_false : (a b c : Bool) → (a || (b || c)) ≡ false → (a ≡ false) × (b ≡ false) × (c ≡ false)
or_false true b c h = absurd (true≢false h)
or_false false true c h = absurd (true≢false h)
or_false false false c h = (refl, refl, h)

pub at_away : {A : Type 0} (p : ℕ) (f : Forest A → Forest A) (xs : Forest A) → on p xs ≡ false → at p f xs ≡ xs
at_away p f none h = refl
at_away p f (node m x k r) h =
    let a = or_false (m == p) (on p k) (on p r) h in
    rw (a.0, at_away p f k a.1, at_away p f r a.2) refl

-- leading the children of another node passes an edit by
led_at : {A : Type 0} (kept : ℕ → Bool) (p : ℕ) (f : Forest A → Forest A) (now new : Forest A) → Clear kept p new → at p f (led_by kept now new) ≡ led_by kept (at p f now) new
led_at kept p f now none c = refl
led_at kept p f now (node n x k r) c = elim (cases_Bool (kept n)) [
  | inl e ↦ rw e (at_after p f (only n now) (led_by kept now r) ∙ (rw (at_only p f n now, led_at kept p f now r c.1) refl))
  | inr e ↦ rw e (ap (λ zs. after zs (at p f (led_by kept now r))) (at_away p f (node n x k none) (c.0 e)) ∙ (rw (led_at kept p f now r c.1) refl))
]

step_at : {A : Type 0} (kept : ℕ → Bool) (look : ℕ → Forest A) (p : ℕ) (f : Forest A → Forest A) (ds : List ℕ) (m : ℕ) (now : Forest A) → Clear kept p (look m) → at p f (step kept look ds m now) ≡ step kept look ds m (at p f now)
step_at kept look p f ds m now c = elim (cases_Bool (listed m ds)) [ inl e ↦ rw e (led_at kept p f now (look m) c) | inr e ↦ rw e refl ]

-- a parent that isn't there needs no step
away : {A : Type 0} (kept : ℕ → Bool) (look : ℕ → Forest A) (p : ℕ) (ds : List ℕ) (xs : Forest A) → on p xs ≡ false → rebuild (step kept look (p ∷ ds)) xs ≡ rebuild (step kept look ds) xs
away kept look p ds none h = refl
away kept look p ds (node m x k r) h =
    let a = or_false (m == p) (on p k) (on p r) h in
    rw (flipped m p a.0, away kept look p ds k a.1, away kept look p ds r a.2) refl

-- one more parent
more : {A : Type 0} (kept : ℕ → Bool) (look : ℕ → Forest A) (p : ℕ) (ds : List ℕ) → listed p ds ≡ false → ((m : ℕ) → Clear kept p (look m)) → (xs : Forest A) → Single xs → at p (λ k. led_by kept k (look p)) (rebuild (step kept look ds) xs) ≡ rebuild (step kept look (p ∷ ds)) xs
more kept look p ds l c none s = refl
more kept look p ds l c (node m x k r) s =
    let ir = more kept look p ds l c r s.3 in
    elim (cases_Bool (m == p)) [
      | inl e ↦ (
          let q : m ≡ p = eqb-true m p e in
          let here : listed m ds ≡ false = ap (λ i. listed i ds) q ∙ l in
          let w = away kept look p ds k (ap (λ i. on i k) (sym q) ∙ s.0) in
          let d : (p == m) ≡ true = eq-eqb p m (sym q) in
          rw (e, ir, here, w, d, q) refl)
      | inr e ↦ (
          let ik = more kept look p ds l c k s.2 in
          rw (e, ir, flipped m p e, step_at kept look p (λ ks. led_by kept ks (look p)) ds m (rebuild (step kept look ds) k) (c m), ik) refl)
    ]

all_from : {A : Type 0} (kept : ℕ → Bool) (look : ℕ → Forest A) (ps ds : List ℕ) → Once ps → ((p : ℕ) → listed p ps ≡ true → listed p ds ≡ false) → ((p m : ℕ) → listed p ps ≡ true → Clear kept p (look m)) → (xs : Forest A) → Single xs → arrange kept look ps (rebuild (step kept look ds) xs) ≡ rebuild (step kept look (reversed_onto ps ds)) xs
all_from kept look [] ds o n c xs s = refl
all_from kept look (p ∷ ps) ds o n c xs s =
    let here : listed p (p ∷ ps) ≡ true = rw (eq-eqb p p refl) refl in
    let m = more kept look p ds (n p here) (λ i. c p i here) xs s in
    ap (arrange kept look ps) m ∙ all_from kept look ps (p ∷ ds) o.1
    (λ q h. rw (not_same p q ps o.0 h) (n q (or_right (p == q) (listed q ps) h)))
    (λ q i h. c q i (or_right (p == q) (listed q ps) h)) xs s

rebuild_same : {A : Type 0} (g g' : ℕ → Forest A → Forest A) (xs : Forest A) → ((m : ℕ) → on m xs ≡ true → (now : Forest A) → g m now ≡ g' m now) → rebuild g xs ≡ rebuild g' xs
rebuild_same g g' none h = refl
rebuild_same g g' (node m x k r) h =
    let here : on m (node m x k r) ≡ true = rw (eq-eqb m m refl) refl in
    let ik = rebuild_same g g' k (λ i e. h i (or_right (m == i) (on i k || on i r) (or_left (on i k) (on i r) e))) in
    let ir = rebuild_same g g' r (λ i e. h i (or_right (m == i) (on i k || on i r) (or_right (on i k) (on i r) e))) in
    rw (ik, ir, h m here (rebuild g' k)) refl

only_rebuild : {A : Type 0} (g : ℕ → Forest A → Forest A) (n : ℕ) (xs : Forest A) → only n (rebuild g xs) ≡ rebuild g (only n xs)
only_rebuild g n none = refl
only_rebuild g n (node m x k r) = elim (cases_Bool (m == n)) [ inl e ↦ rw e refl | inr e ↦ rw e (only_rebuild g n r) ]

comes : {A : Type 0} (kept : ℕ → Bool) (look : ℕ → Forest A) (label : ℕ → A) (old new : Forest A) → Knows look new → Matches kept label old new → led_by kept (rebuild (λ m now. led_by kept now (look m)) old) new ≡ as_was kept label new
comes kept look label old none kn mt = refl
comes kept look label old (node n x k r) kn mt =
    let ir = comes kept look label old r kn.2 mt.1 in
    elim (cases_Bool (kept n)) [
      | inl e ↦ (
          let t = mt.0 e in
          let o = only_rebuild (λ m now. led_by kept now (look m)) n old in
          let ik = comes kept look label t.0 k kn.1 t.2 in
          rw (e, o, t.1, kn.0, ik, ir) refl)
      | inr e ↦ rw (e, ir) refl
    ]

rebuild_none : {A : Type 0} (kept : ℕ → Bool) (look : ℕ → Forest A) (xs : Forest A) → rebuild (step kept look []) xs ≡ xs
rebuild_none kept look none = refl
rebuild_none kept look (node m x k r) = rw (rebuild_none kept look k, rebuild_none kept look r) refl

pub arranged : {A : Type 0} (kept : ℕ → Bool) (look : ℕ → Forest A) (label : ℕ → A) (ps : List ℕ) (x : A) (old new : Forest A) → Once ps → Single (node 0 x old none) → ((m : ℕ) → on m (node 0 x old none) ≡ true → listed m ps ≡ true) → ((p m : ℕ) → listed p ps ≡ true → Clear kept p (look m)) → look 0 ≡ new → Knows look new → Matches kept label old new → arrange kept look ps (node 0 x old none) ≡ node 0 x (as_was kept label new) none
arranged kept look label ps x old new o s all c root kn mt =
    let t = node 0 x old none in
    let a = ap (arrange kept look ps) (sym (rebuild_none kept look t)) ∙ all_from kept look ps [] o (λ p h. refl) c t s in
    let b = rebuild_same (step kept look (reversed_onto ps [])) (λ m now. led_by kept now (look m)) t (λ m h now. (let l = listed_joined m ps [] ∙ or_left (listed m ps) false (all m h) in rw l refl)) in
    a ∙ (b ∙ (rw (root, comes kept look label old new kn mt) refl))
