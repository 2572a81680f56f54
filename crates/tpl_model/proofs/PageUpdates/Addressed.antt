-- The edits between two numbered trees, by address.
use Rattle.std.proofs.Common.{◌≡◌, ℕ, ◌≤◌, ◌==◌, Bool, true, false, ◌||◌, refl, sym, ap, ◌∙◌, arith, eqb-true, inl, inr, List, ◌∷◌, ◌++◌, map}
use Rattle.std.specs.List.{flat_map}
use Rattle.std.proofs.lemmas.Bool.{cases_Bool, false≢true}
use Rattle.page_model.specs.Forest.{Forest, none, node, on, tally, keys, kids, label_in, pruned, tops, numbered}
use Rattle.page_model.specs.Labels.{Root, Look, shown}
use Rattle.page_model.specs.Edits.{ascending, listed, siblings, child_edits, look_edits, edits}
use Rattle.page_model.specs.Replay.{Op, OpRemove}
use Rattle.page_model.specs.Pages.{ascending_by, those}
use Rattle.tpl_model.specs.PageUpdates.Differences.{children_at, restated_at}
use Rattle.page_model.proofs.Shared.{on_tally, self_on, tally_off, in_ascending_by, in_keys, kept_on, label_num, on_num, on_numbered, on_shown, tally_pruned}
use Rattle.tpl_model.proofs.Numbered.{on_below, on_beside, kids_num, map_both, siblings_num}
use Rattle.tpl_model.proofs.Orders.{ascending_map, flat_at, flat_same}

-- two trees by address and how they are numbered
pub record Two (num num' : ℕ → ℕ) (old new : Forest Look) : Type 0 where
  pub old_once : (a : ℕ) → tally a old ≤ 1
  pub new_once : (a : ℕ) → tally a new ≤ 1
  pub far : (a b : ℕ) → on a old ≡ true → on b old ≡ true → num a ≡ num b → a ≡ b
  pub far_new : (a b : ℕ) → on a new ≡ true → on b new ≡ true → num' a ≡ num' b → a ≡ b
  pub across : (a b : ℕ) → on a old ≡ true → on b new ≡ true → num a ≡ num' b → a ≡ b
  pub same : (a : ℕ) → on a old ≡ true → on a new ≡ true → num a ≡ num' a

pub pruned_num : (num : ℕ → ℕ) (g h : ℕ → Bool) (t : Forest Look) → ((a : ℕ) → on a t ≡ true → g (num a) ≡ h a) → pruned g (shown (numbered num t)) ≡ shown (numbered num (pruned h t))
pruned_num num g h none e = refl
pruned_num num g h (node m x k r) e =
    let here = e m (self_on m x k r) in
    let ik = pruned_num num g h k (λ a i. e a (on_below a m x k r i)) in
    let ir = pruned_num num g h r (λ a i. e a (on_beside a m x k r i)) in
    elim (cases_Bool (h m)) [
      | inl f ↦ rw (here, f) (rw (ik, ir) refl)
      | inr f ↦ rw (here, f) ir
    ]

pub tops_num : (num : ℕ → ℕ) (g h : ℕ → Bool) (t : Forest Look) → ((a : ℕ) → on a t ≡ true → g (num a) ≡ h a) → tops g (shown (numbered num t)) ≡ map num (tops h t)
tops_num num g h none e = refl
tops_num num g h (node m x k r) e =
    let here = e m (self_on m x k r) in
    let ik = tops_num num g h k (λ a i. e a (on_below a m x k r i)) in
    let ir = tops_num num g h r (λ a i. e a (on_beside a m x k r i)) in
    elim (cases_Bool (h m)) [
      | inl f ↦ rw (here, f) (rw (ik, ir) (sym (map_both num (tops h k) (tops h r))))
      | inr f ↦ rw (here, f) (ap (λ z. num m ∷ z) ir)
    ]

pub keys_num : (num : ℕ → ℕ) (t : Forest Look) → keys (shown (numbered num t)) ≡ map num (keys t)
keys_num num none = refl
keys_num num (node m x k r) = ap (λ z. num m ∷ z) (ap (λ z. z ++ keys (shown (numbered num r))) (keys_num num k) ∙ ap (λ z. map num (keys k) ++ z) (keys_num num r) ∙ sym (map_both num (keys k) (keys r)))

-- ---- what is left

pub kids_pruned : {A : Type 0} (keep : ℕ → Bool) (a : ℕ) (t : Forest A) → tally a t ≤ 1 → on a (pruned keep t) ≡ true → kids a (pruned keep t) ≡ pruned keep (kids a t)
kids_pruned keep a none l h = refl
kids_pruned keep a (node m x k r) l h =
    let tk = tally_pruned keep a k in
    let tr = tally_pruned keep a r in
    elim (cases_Bool (keep m)) [
      | inl f ↦ (
          let h' : (m == a || (on a (pruned keep k) || on a (pruned keep r))) ≡ true = rw f at h in
          elim (cases_Bool (m == a)) [
            | inl e ↦ rw (f, e) refl
            | inr e ↦ elim (cases_Bool (on a (pruned keep k))) [
              | inl c ↦ (let i = kept_on keep a k c in rw (f, e) (rw (c, i.0) (kids_pruned keep a k (omega (arith, l)) c)))
              | inr c ↦ (
                  let g : on a (pruned keep r) ≡ true = rw (e, c) at h' in
                  let i = kept_on keep a r g in
                  let u = on_tally a r i.0 in
                  let z : on a k ≡ false = tally_off a k (omega arith) in
                  rw (f, e) (rw (c, z) (kids_pruned keep a r (omega (arith, l)) g)))
            ]
          ])
      | inr f ↦ (
          let g : on a (pruned keep r) ≡ true = rw f at h in
          let i = kept_on keep a r g in
          let u = on_tally a r i.0 in
          let z : on a k ≡ false = tally_off a k (omega arith) in
          let e : (m == a) ≡ false = elim (cases_Bool (m == a)) [ inl c ↦ (let q : m ≡ a = eqb-true m a c in absurd (false≢true (sym f ∙ (ap keep q ∙ i.1)))) | inr c ↦ c ] in
          rw (f, e) (rw z (kids_pruned keep a r (omega (arith, l)) g)))
    ]

pub siblings_pruned : {A : Type 0} (keep : ℕ → Bool) (t : Forest A) → siblings (pruned keep t) ≡ those keep (siblings t)
siblings_pruned keep none = refl
siblings_pruned keep (node m x k r) = elim (cases_Bool (keep m)) [
  | inl f ↦ rw f (ap (λ z. m ∷ z) (siblings_pruned keep r))
  | inr f ↦ rw f (siblings_pruned keep r)
]

-- ---- the whole

-- the edits by address, with nothing left out
abbrev pub addressed : (ℕ → ℕ) → (ℕ → ℕ) → Forest Look → Forest Look → List Op
addressed num num' old new =
    let keep : ℕ → Bool = λ a. on a new in
    let kept = ascending_by num (keys (pruned keep old)) in
    (map OpRemove (map num (ascending_by num (tops keep old))) ++ flat_map (children_at num num' old new) kept) ++ flat_map (restated_at num old new) kept

pub edits_addressed : (num num' : ℕ → ℕ) (old new : Forest Look) → Two num num' old new → edits (numbered num old) (numbered num' new) ≡ addressed num num' old new
edits_addressed num num' old new w =
    let keep : ℕ → Bool = λ a. on a new in
    let test : ℕ → Bool = λ n. on n (shown (numbered num' new)) in
    let left = pruned keep old in
    let kept = ascending_by num (keys left) in
    let same : (a : ℕ) → on a old ≡ true → test (num a) ≡ keep a = λ a h. on_shown (num a) (numbered num' new) ∙ elim (cases_Bool (on a new)) [
      | inl e ↦ ap (λ z. on z (numbered num' new)) (w.same a h e) ∙ (on_num num' a new (λ b g q. w.far_new a b e g q))
      | inr e ↦ elim (cases_Bool (on (num a) (numbered num' new))) [
        | inl f ↦ (let u = on_numbered num' (num a) new f in let q = w.across a u.0 h u.1 (sym u.2) in absurd (false≢true (sym e ∙ (ap (λ z. on z new) q ∙ u.1))))
        | inr f ↦ f ∙ sym e
      ]
    ] in
    let p : pruned test (shown (numbered num old)) ≡ shown (numbered num left) = pruned_num num test keep old same in
    let t : tops test (shown (numbered num old)) ≡ map num (tops keep old) = tops_num num test keep old same in
    let ks : ascending (keys (pruned test (shown (numbered num old)))) ≡ map num kept = ap (λ z. ascending (keys z)) p ∙ (ap ascending (keys_num num left) ∙ ascending_map num (keys left)) in
    let gs : ascending (tops test (shown (numbered num old))) ≡ map num (ascending_by num (tops keep old)) = ap ascending t ∙ ascending_map num (tops keep old) in
    let kept_at : (a : ℕ) → listed a kept ≡ true → (on a left ≡ true) × (on a old ≡ true) × (on a new ≡ true) = λ a h. (
    let o : on a left ≡ true = sym (in_keys a left) ∙ (sym (in_ascending_by num a (keys left)) ∙ h) in
    let i = kept_on keep a old o in (o, i.0, i.1)) in
    let ce : ℕ → List Op = λ n. child_edits n 0 (siblings (kids n (pruned test (shown (numbered num old))))) (kids n (shown (numbered num' new))) in
    let te : ℕ → List Op = λ n. look_edits n (label_in Root n (numbered num old)) (label_in Root n (numbered num' new)) in
    let cs : flat_map ce (map num kept) ≡ flat_map (children_at num num' old new) kept = flat_at num ce kept ∙ flat_same (λ a. ce (num a)) (children_at num num' old new) kept
    (λ a h. (
    let o = kept_at a h in
    let x : siblings (kids (num a) (pruned test (shown (numbered num old)))) ≡ map num (those keep (siblings (kids a old))) =
    ap (λ z. siblings (kids (num a) z)) p ∙ (ap siblings (kids_num num a left (λ b g q. w.far a b o.1 (kept_on keep b old g).0 q)) ∙ (siblings_num num (kids a left) ∙ (ap (λ z. map num (siblings z)) (kids_pruned keep a old (w.old_once a) o.0) ∙ ap (map num) (siblings_pruned keep (kids a old))))) in
    let y : kids (num a) (shown (numbered num' new)) ≡ shown (numbered num' (kids a new)) = ap (λ z. kids z (shown (numbered num' new))) (w.same a o.1 o.2) ∙ kids_num num' a new (λ b g q. w.far_new a b o.2 g q) in
    ap (λ z. child_edits (num a) 0 z (kids (num a) (shown (numbered num' new)))) x ∙ ap (child_edits (num a) 0 (map num (those keep (siblings (kids a old))))) y)) in
    let ts : flat_map te (map num kept) ≡ flat_map (restated_at num old new) kept = flat_at num te kept ∙ flat_same (λ a. te (num a)) (restated_at num old new) kept
    (λ a h. (
    let o = kept_at a h in
    let x : label_in Root (num a) (numbered num old) ≡ label_in Root a old = label_num Root num a old (λ b g q. w.far a b o.1 g q) in
    let y : label_in Root (num a) (numbered num' new) ≡ label_in Root a new = ap (λ z. label_in Root z (numbered num' new)) (w.same a o.1 o.2) ∙ label_num Root num' a new (λ b g q. w.far_new a b o.2 g q) in
    ap (λ z. look_edits (num a) z (label_in Root (num a) (numbered num' new))) x ∙ ap (look_edits (num a) (label_in Root a old)) y)) in
    let whole : List ℕ → List ℕ → List Op = λ g k. (map OpRemove g ++ flat_map ce k) ++ flat_map te k in
    let first : edits (numbered num old) (numbered num' new) ≡ whole (map num (ascending_by num (tops keep old))) (map num kept) = ap (λ z. whole z (ascending (keys (pruned test (shown (numbered num old)))))) gs ∙ ap (whole (map num (ascending_by num (tops keep old)))) ks in
    first ∙ (ap (λ z. (map OpRemove (map num (ascending_by num (tops keep old))) ++ z) ++ flat_map te (map num kept)) cs ∙ ap (λ z. (map OpRemove (map num (ascending_by num (tops keep old))) ++ flat_map (children_at num num' old new) kept) ++ z) ts)
