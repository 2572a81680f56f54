-- Going over the old shape and the new one side by side, past what is the same.
use Rattle.std.proofs.Common.{◌≡◌, ℕ, ◌≤◌, ◌==◌, Bool, true, false, ◌||◌, refl, sym, subst, ◌∙◌, arith, eqb-true, inl, inr, List, []}
use Rattle.std.proofs.lemmas.Bool.{cases_Bool, false≢true, true≢false, or_cases}
use Rattle.page_model.specs.Forest.{Forest, none, node, after, on, tally, kids, label_in, pruned, tops}
use Rattle.page_model.specs.Labels.{Root, Look}
use Rattle.tpl_model.specs.PageUpdates.Differences.{often, Marks, SameChildren, SameLook, Found, Finds, nothing, marked, found_at, Within}
use Rattle.page_model.proofs.Shared.{on_tally, or_false, or_left, or_right, tally_off, tally_after}
use Rattle.tpl_model.proofs.Orders.{often_both}

-- ---- parts of a tree

pub within_whole : (t : Forest Look) → Within t t
within_whole t = record { there = λ j h. h; kids_there = λ j h. refl; look_there = λ j h. refl }

pub on_after : {A : Type 0} (j : ℕ) (xs ys : Forest A) → on j (after xs ys) ≡ (on j xs || on j ys)
on_after j none ys = refl
on_after j (node m x k r) ys = elim (cases_Bool (m == j)) [
  | inl e ↦ rw e refl
  | inr e ↦ rw e (elim (cases_Bool (on j k)) [
    | inl f ↦ rw f refl
    | inr f ↦ rw f (on_after j r ys)
  ])
]

kids_first' : {A : Type 0} (j : ℕ) (xs ys : Forest A) → on j xs ≡ true → kids j (after xs ys) ≡ kids j xs
kids_first' j none ys h = absurd (false≢true h)
kids_first' j (node m x k r) ys h = elim (cases_Bool (m == j)) [
  | inl e ↦ rw e refl
  | inr e ↦ elim (cases_Bool (on j k)) [
    | inl f ↦ rw (e, f) refl
    | inr f ↦ rw (e, f) (kids_first' j r ys (rw (e, f) at h))
  ]
]

kids_later : {A : Type 0} (j : ℕ) (xs ys : Forest A) → on j xs ≡ false → kids j (after xs ys) ≡ kids j ys
kids_later j none ys h = refl
kids_later j (node m x k r) ys h = (let a = or_false (m == j) (on j k) (on j r) h in rw (a.0, a.1) (kids_later j r ys a.2))

label_first : {A : Type 0} (d : A) (j : ℕ) (xs ys : Forest A) → on j xs ≡ true → label_in d j (after xs ys) ≡ label_in d j xs
label_first d j none ys h = absurd (false≢true h)
label_first d j (node m x k r) ys h = elim (cases_Bool (m == j)) [
  | inl e ↦ rw e refl
  | inr e ↦ elim (cases_Bool (on j k)) [
    | inl f ↦ rw (e, f) refl
    | inr f ↦ rw (e, f) (label_first d j r ys (rw (e, f) at h))
  ]
]

label_later : {A : Type 0} (d : A) (j : ℕ) (xs ys : Forest A) → on j xs ≡ false → label_in d j (after xs ys) ≡ label_in d j ys
label_later d j none ys h = refl
label_later d j (node m x k r) ys h = (let a = or_false (m == j) (on j k) (on j r) h in rw (a.0, a.1) (label_later d j r ys a.2))

-- no address stands twice in the part
abbrev pub Single : Forest Look → Type 0
Single t = (j : ℕ) → tally j t ≤ 1

-- the first of two parts
pub within_first : (whole xs ys : Forest Look) → Within whole (after xs ys) → Single (after xs ys) → Within whole xs × Single xs
within_first whole xs ys w l =
    let lx : Single xs = λ j. (let a = l j in let b = tally_after j xs ys in omega arith) in
    let up : (j : ℕ) → on j xs ≡ true → on j (after xs ys) ≡ true = λ j h. on_after j xs ys ∙ or_left (on j xs) (on j ys) h in (
      record {
        there = λ j h. w.there j (up j h);
        kids_there = λ j h. w.kids_there j (up j h) ∙ kids_first' j xs ys h;
        look_there = λ j h. w.look_there j (up j h) ∙ label_first Root j xs ys h;
      },
      lx,
    )

pub within_later : (whole xs ys : Forest Look) → Within whole (after xs ys) → Single (after xs ys) → Within whole ys × Single ys
within_later whole xs ys w l =
    let ly : Single ys = λ j. (let a = l j in let b = tally_after j xs ys in omega arith) in
    let up : (j : ℕ) → on j ys ≡ true → on j (after xs ys) ≡ true = λ j h. on_after j xs ys ∙ or_right (on j xs) (on j ys) h in
    let off : (j : ℕ) → on j ys ≡ true → on j xs ≡ false = λ j h. (let a = l j in let b = tally_after j xs ys in let c = on_tally j ys h in tally_off j xs (omega arith)) in (
      record {
        there = λ j h. w.there j (up j h);
        kids_there = λ j h. w.kids_there j (up j h) ∙ kids_later j xs ys (off j h);
        look_there = λ j h. w.look_there j (up j h) ∙ label_later Root j xs ys (off j h);
      },
      ly,
    )

pub within_kids : (whole : Forest Look) (a : ℕ) (x : Look) (k r : Forest Look) → Within whole (node a x k r) → Single (node a x k r) → Within whole k × Single k
within_kids whole a x k r w l =
    let lk : Single k = λ j. (let b = l j in omega arith) in
    let up : (j : ℕ) → on j k ≡ true → on j (node a x k r) ≡ true = λ j h. or_right (a == j) (on j k || on j r) (or_left (on j k) (on j r) h) in
    let off : (j : ℕ) → on j k ≡ true → (a == j) ≡ false = λ j h. (let c = on_tally j k h in let b = l j in elim (cases_Bool (a == j)) [ inl e ↦ (let b' = rw e at b in absurd (omega arith)) | inr e ↦ e ]) in (
      record {
        there = λ j h. w.there j (up j h);
        kids_there = λ j h. w.kids_there j (up j h) ∙ (rw (off j h, h) refl);
        look_there = λ j h. w.look_there j (up j h) ∙ (rw (off j h, h) refl);
      },
      lk,
    )

-- ---- what is found in one part of the old tree

pub finds_none : (old new : Forest Look) → Finds old new none nothing
finds_none old new = record {
  gone = λ j. refl;
  touched = record { few = λ j. omega arith; rest = λ j h n. absurd (false≢true h) };
  restated = record { few = λ j. omega arith; rest = λ j h n. absurd (false≢true h) };
}

marks_node : {A : Type 0} (keep : ℕ → Bool) (Same : ℕ → Type 0) (a : ℕ) (x : A) (k : Forest A) (ms : List ℕ) (b : Bool) → keep a ≡ true → (b ≡ false → Same a) → Marks keep Same k ms → Marks keep Same (node a x k none) (marked b a ms)
marks_node keep Same a x k ms true e s m = record {
  few = λ j. (let c = m.few j in rw e (omega arith));
  rest = λ j h n. (
      let h' : (a == j || (on j (pruned keep k) || false)) ≡ true = rw e at h in
      elim (cases_Bool (a == j)) [
        | inl c ↦ absurd (true≢false (rw c at n))
        | inr c ↦ elim (or_cases (on j (pruned keep k)) false (rw c at h')) [ inl d ↦ m.rest j d (rw c at n) | inr d ↦ absurd (false≢true d) ]
      ]);
}
marks_node keep Same a x k ms false e s m = record {
  few = λ j. (let c = m.few j in rw e (omega arith));
  rest = λ j h n. (
      let h' : (a == j || (on j (pruned keep k) || false)) ≡ true = rw e at h in
      elim (cases_Bool (a == j)) [
        | inl c ↦ (let q : a ≡ j = eqb-true a j c in subst Same q (s refl))
        | inr c ↦ elim (or_cases (on j (pruned keep k)) false (rw c at h')) [ inl d ↦ m.rest j d n | inr d ↦ absurd (false≢true d) ]
      ]);
}

-- a kept node
pub finds_node : (old new : Forest Look) (a : ℕ) (x : Look) (k : Forest Look) (f : Found) (level look : Bool) → on a new ≡ true → (level ≡ false → SameChildren old new a) → (look ≡ false → SameLook old new a) → Finds old new k f → Finds old new (node a x k none) (found_at a level look f)
finds_node old new a x k f level look e c s d =
    let keep : ℕ → Bool = λ j. on j new in
    record {
      gone = λ j. (
          let o = often_both j (tops keep k) [] in
          let i = d.gone j in
          let z : often j (tops keep (node a x k none)) ≡ often j (tops keep k) = rw e (omega arith) in
          i ∙ sym z);
      touched = marks_node keep (SameChildren old new) a x k f.touched level e c d.touched;
      restated = marks_node keep (SameLook old new) a x k f.restated look e s d.restated;
    }

-- ---- two trees side by side

-- parts of the two trees
pub record Half (old new p q : Forest Look) : Type 0 where
  pub within_old : Within old p
  pub single_old : Single p
  pub within_new : Within new q
  pub single_new : Single q

pub half_first : (old new p q r s : Forest Look) → Half old new (after p r) (after q s) → Half old new p q
half_first old new p q r s h = (let a = within_first old p r h.within_old h.single_old in let b = within_first new q s h.within_new h.single_new in record { within_old = a.0; single_old = a.1; within_new = b.0; single_new = b.1 })

pub half_later : (old new p q r s : Forest Look) → Half old new (after p r) (after q s) → Half old new r s
half_later old new p q r s h = (let a = within_later old p r h.within_old h.single_old in let b = within_later new q s h.within_new h.single_new in record { within_old = a.0; single_old = a.1; within_new = b.0; single_new = b.1 })

pub half_kids : (old new : Forest Look) (a : ℕ) (x y : Look) (p q : Forest Look) → Half old new (node a x p none) (node a y q none) → Half old new p q
half_kids old new a x y p q h = (let u = within_kids old a x p none h.within_old h.single_old in let v = within_kids new a y q none h.within_new h.single_new in record { within_old = u.0; single_old = u.1; within_new = v.0; single_new = v.1 })
