-- Pages that are looked up by their names.
use Rattle.std.proofs.Common.{◌≡◌, ℕ, zero, suc, ◌<◌, ◌≤◌, Bool, true, false, not, cond, get_or, set, Option, Some, None, List, [], ◌∷◌, length, refl, sym, ◌∙◌, ap, arith, inl, inr}
use Rattle.std.specs.Prelude.{nat_lt, MatchOption}
use Rattle.std.specs.List.{filter, list_any, position, position_or_len}
use Rattle.std.specs.Str.{bytes_eq}
use Rattle.std.proofs.lemmas.Bool.{cases_Bool, ltb-false, ltb-true}
use Rattle.std.proofs.lemmas.List.Quantifiers.{position-Some}
use Rattle.std.proofs.lemmas.List.Sums.{fails_before_first}
use Rattle.page_model.specs.Forest.{Forest}
use Rattle.page_model.specs.Labels.{Kind}
use Rattle.wire_model.specs.Following.{Mounted, is_tree, tree_at, with_tree, without_name}
use Rattle.page_follow.specs.declared.page.MountedPage.{MountedPage}
use Rattle.page_follow.specs.Places.{IsPlace}
use Rattle.page_follow.specs.Views.{mounted_of, pages_of}

abbrev has : List ℕ → MountedPage → Bool
has n p = bytes_eq n p.name

chosen : {A : Type 0} (b : Bool) (x y : A) → b ≡ true → cond b x y ≡ x
chosen true x y e = refl
chosen false x y e = absurd cc

other : {A : Type 0} (b : Bool) (x y : A) → b ≡ false → cond b x y ≡ y
other true x y e = absurd cc
other false x y e = refl

own : (t u : Forest Kind) → Some t ≡ Some u → t ≡ u
own t u e = cc

-- none has the name
none_has : (n : List ℕ) (ps : List MountedPage) (d : MountedPage) → ((k : ℕ) → k < length ps → bytes_eq n (get_or ps k d).name ≡ false) →
    tree_at n (pages_of ps) ≡ None
none_has n [] d miss = refl
none_has n (p ∷ ps) d miss =
    other (bytes_eq n p.name) (Some p.tree) (tree_at n (pages_of ps)) (miss 0 (omega arith))
    ∙ none_has n ps d (λ k l. miss (suc k) (omega (arith, l)))

missing : (n : List ℕ) (ps : List MountedPage) → nat_lt (position_or_len (has n) ps) (length ps) ≡ false → tree_at n (pages_of ps) ≡ None
missing n [] h = refl
missing n (p ∷ ps) h =
    let far : length (p ∷ ps) ≤ position_or_len (has n) (p ∷ ps) = ltb-false _ _ h in
    none_has n (p ∷ ps) p (λ k l. fails_before_first (has n) (p ∷ ps) k p (omega (arith, far, l)))

-- the page at the first place that has it
tree_there : (n : List ℕ) (ps : List MountedPage) (i : ℕ) (d : MountedPage) → i < length ps → bytes_eq n (get_or ps i d).name ≡ true →
    ((k : ℕ) → k < i → bytes_eq n (get_or ps k d).name ≡ false) → tree_at n (pages_of ps) ≡ Some (get_or ps i d).tree
tree_there n [] i d lt e miss = absurd (omega (arith, lt))
tree_there n (p ∷ ps) zero d lt e miss = chosen (bytes_eq n p.name) (Some p.tree) (tree_at n (pages_of ps)) e
tree_there n (p ∷ ps) (suc i) d lt e miss =
    other (bytes_eq n p.name) (Some p.tree) (tree_at n (pages_of ps)) (miss 0 (omega arith))
    ∙ tree_there n ps i d (omega (arith, lt)) e (λ k l. miss (suc k) (omega (arith, l)))

-- another page there
tree_put : (n : List ℕ) (ps : List MountedPage) (i : ℕ) (d q : MountedPage) → i < length ps → bytes_eq n (get_or ps i d).name ≡ true →
    ((k : ℕ) → k < i → bytes_eq n (get_or ps k d).name ≡ false) → q.name ≡ (get_or ps i d).name →
    pages_of (set ps i q) ≡ with_tree n q.tree (pages_of ps)
tree_put n [] i d q lt e miss same = absurd (omega (arith, lt))
tree_put n (p ∷ ps) zero d q lt e miss same =
    let stays : List Mounted = record { name = p.name; tree = q.tree } ∷ pages_of ps in
    ap (λ (m : List ℕ). record { name = m; tree = q.tree } ∷ pages_of ps) same
    ∙ sym (chosen (bytes_eq n p.name) stays (mounted_of p ∷ with_tree n q.tree (pages_of ps)) e)
tree_put n (p ∷ ps) (suc i) d q lt e miss same =
    ap (λ (l : List Mounted). mounted_of p ∷ l) (tree_put n ps i d q (omega (arith, lt)) e (λ k l. miss (suc k) (omega (arith, l))) same)
    ∙ sym (other (bytes_eq n p.name) (record { name = p.name; tree = q.tree } ∷ pages_of ps) (mounted_of p ∷ with_tree n q.tree (pages_of ps)) (miss 0 (omega arith)))

abbrev place : List ℕ → List MountedPage → ℕ
place n ps = position_or_len (has n) ps

first_within : (n : List ℕ) (ps : List MountedPage) (i : ℕ) → Some i ≡ position (has n) ps → i < length ps
first_within n ps i e = elim (cases_Bool (nat_lt (place n ps) (length ps))) [
  | inl lt ↦
      let z : Some i ≡ Some (place n ps) = e ∙ chosen (nat_lt (place n ps) (length ps)) (Some (place n ps)) None lt in
      let same : i ≡ place n ps = cc in
      let less : place n ps < length ps = ltb-true _ _ lt in
      omega (arith, less, same)
  | inr ge ↦ absurd (let z : Some i ≡ None = e ∙ other (nat_lt (place n ps) (length ps)) (Some (place n ps)) None ge in cc)
]

-- what the first place of a name says
pub place_is : (n : List ℕ) (ps : List MountedPage) (o : Option ℕ) → o ≡ position (λ p. bytes_eq n p.name) ps →
    MatchOption o (tree_at n (pages_of ps) ≡ None) (IsPlace n ps)
place_is n ps None e = elim (cases_Bool (nat_lt (place n ps) (length ps))) [
  | inl lt ↦ absurd (let z : None ≡ Some (place n ps) = e ∙ chosen (nat_lt (place n ps) (length ps)) (Some (place n ps)) None lt in cc)
  | inr ge ↦ missing n ps ge
]
place_is n ps (Some i) e = record {
  within = first_within n ps i e;
  found = λ q is. let at = position-Some (has n) ps i q (sym e) in
      tree_there n ps i q at.0 at.1 at.2 ∙ ap (λ (p : MountedPage). Some p.tree) (sym is);
  put = λ q r is same. let at = position-Some (has n) ps i q (sym e) in
      tree_put n ps i q r at.0 at.1 at.2 (same ∙ ap (λ (p : MountedPage). p.name) is);
}

-- the tree that a name has changes nothing
pub with_same : (n : List ℕ) (t : Forest Kind) (ps : List Mounted) → tree_at n ps ≡ Some t → with_tree n t ps ≡ ps
with_same n t [] h = refl
with_same n t (p ∷ ps) h =
    let named : List Mounted = record { name = p.name; tree = t } ∷ ps in
    let behind : List Mounted = p ∷ with_tree n t ps in
    elim (cases_Bool (bytes_eq n p.name)) [
      | inl e ↦
          let same : Some p.tree ≡ Some t = sym (chosen (bytes_eq n p.name) (Some p.tree) (tree_at n ps) e) ∙ h in
          chosen (bytes_eq n p.name) named behind e ∙ ap (λ (s : Forest Kind). record { name = p.name; tree = s } ∷ ps) (sym (own p.tree t same))
      | inr e ↦
          other (bytes_eq n p.name) named behind e
          ∙ ap (λ (l : List Mounted). p ∷ l) (with_same n t ps (sym (other (bytes_eq n p.name) (Some p.tree) (tree_at n ps) e) ∙ h))
    ]

-- those of other names
pub others_left : (n : List ℕ) (ps : List MountedPage) → pages_of (filter (λ p. not (bytes_eq n p.name)) ps) ≡ without_name n (pages_of ps)
others_left n [] = refl
others_left n (p ∷ ps) = elim (cases_Bool (bytes_eq n p.name)) [
  | inl e ↦ rw e (others_left n ps)
  | inr e ↦ rw e (ap (λ (l : List Mounted). mounted_of p ∷ l) (others_left n ps))
]

-- whether one has a name is whether the name has a tree
pub any_tree : (n : List ℕ) (ps : List MountedPage) → list_any (λ p. bytes_eq n p.name) ps ≡ is_tree (tree_at n (pages_of ps))
any_tree n [] = refl
any_tree n (p ∷ ps) = elim (cases_Bool (bytes_eq n p.name)) [
  | inl e ↦ rw e refl
  | inr e ↦ rw e (any_tree n ps)
]
