-- A renumbered page is a page again, and the edits lead to it.
use Rattle.std.proofs.Common.{◌≡◌, ℕ, ◌+◌, ◌<◌, ◌≤◌, ◌==◌, Bool, true, false, refl, sym, ap, subst, ◌∙◌, arith, eqb-true, inl, inr, [], length}
use Rattle.std.proofs.lemmas.Bool.{cases_Bool, false≢true}
use Rattle.page_model.specs.Forest.{Forest, none, node, on, tally, keys, kids, parent, label_in, numbered}
use Rattle.page_model.specs.Labels.{Root, Look, Alike}
use Rattle.page_model.specs.Replay.{Done, replay}
use Rattle.page_model.specs.Pages.{NumberedPage, looks, by_number, page_shape, tree_of, number_of, newcomers, those, ascending_by, new_order, place_in, carried, with_numbers, renumbered, edits_between, IsPage, IsShape, SameOrigin}
use Rattle.page_model.specs.Edits.{listed}
use Rattle.page_model.proofs.Tally.{tally_off}
use Rattle.page_model.proofs.Linked.{has_parent, knows}
use Rattle.page_model.proofs.Whole.{off_has}
use Rattle.page_model.proofs.Keys.{on_numbered, once_numbered, parent_num, label_num, height_num}
use Rattle.page_model.proofs.Orders.{in_keys, place_below, place_apart}
use Rattle.page_model.proofs.Shown.{sound_num}
use Rattle.page_model.proofs.Edits.{Linkable, edits_lead}
use Rattle.page_model.proofs.Looks.{looks_with, by_number_with, number_with, by_number_is}
use Rattle.page_model.proofs.Newcomers.{in_ascending_by, in_flat, covered, to_those}

-- ---- numbers

pub old_number : (old : NumberedPage) (shape : Forest Look) (a : ℕ) → on a (page_shape old) ≡ true → carried old shape a ≡ number_of old a
old_number old shape a e = rw e refl

pub new_number : (old : NumberedPage) (shape : Forest Look) (a : ℕ) → on a (page_shape old) ≡ false → carried old shape a ≡ old.next + place_in a (new_order old shape)
new_number old shape a e = rw e refl

-- what a rooted tree gives
root_kept : (old : NumberedPage) → IsPage old → (on 0 (page_shape old) ≡ true) × (number_of old 0 ≡ 0)
root_kept old p = (ap (λ t. on 0 (looks t)) p.rooted.is, ap (λ t. (label_in {A = ℕ × Look} (0, Root) 0 t).0) p.rooted.is)

pub all_covered : (old : NumberedPage) (shape : Forest Look) → IsPage old → IsShape shape → (a : ℕ) → on a shape ≡ true → on a (page_shape old) ≡ false → listed a (new_order old shape) ≡ true
all_covered old shape p s a h z =
    let kept : ℕ → Bool = λ j. on j (page_shape old) in
    let k0 = (root_kept old p).0 in
    covered kept shape (new_order old shape)
    (λ q o e j i. in_flat (λ b. newcomers kept (kids b shape)) j q (ascending_by (number_of old) (those (λ b. on b shape) (keys (page_shape old))))
    (in_ascending_by (number_of old) q (those (λ b. on b shape) (keys (page_shape old))) ∙ to_those (λ b. on b shape) q (keys (page_shape old)) (in_keys q (page_shape old) ∙ e) o) i)
    shape (knows shape s.once) (λ j e. e)
    (λ j i. (
    let nothing : newcomers kept shape ≡ [] = ap (newcomers kept) s.rooted.is ∙ (rw k0 refl) in
    absurd (false≢true (sym (ap (listed j) nothing) ∙ i))))
    a h z

pub distinct_after : (old : NumberedPage) (shape : Forest Look) → IsPage old → IsShape shape → (a b : ℕ) → on a shape ≡ true → on b shape ≡ true → carried old shape a ≡ carried old shape b → a ≡ b
distinct_after old shape p s a b h g e = elim (cases_Bool (on a (page_shape old))) [
  | inl u ↦ elim (cases_Bool (on b (page_shape old))) [
    | inl v ↦ p.distinct a b u v (sym (old_number old shape a u) ∙ (e ∙ old_number old shape b v))
    | inr v ↦ (let q = old_number old shape a u in let w = new_number old shape b v in let z = p.below a u in absurd (omega (arith, q, w, z, e)))
  ]
  | inr u ↦ elim (cases_Bool (on b (page_shape old))) [
    | inl v ↦ (let q = new_number old shape a u in let w = old_number old shape b v in let z = p.below b v in absurd (omega (arith, q, w, z, e)))
    | inr v ↦ (
        let q = new_number old shape a u in
        let w = new_number old shape b v in
        let z : place_in a (new_order old shape) ≡ place_in b (new_order old shape) = omega (arith, q, w, e) in
        place_apart a b (new_order old shape) (all_covered old shape p s a h u) (all_covered old shape p s b g v) z)
  ]
]

pub below_after : (old : NumberedPage) (shape : Forest Look) → IsPage old → IsShape shape → (a : ℕ) → on a shape ≡ true → carried old shape a < old.next + length (new_order old shape)
below_after old shape p s a h = elim (cases_Bool (on a (page_shape old))) [
  | inl u ↦ (let q = old_number old shape a u in let b = p.below a u in omega (arith, q, b))
  | inr u ↦ (let q = new_number old shape a u in let b = place_below a (new_order old shape) (all_covered old shape p s a h u) in omega (arith, q, b))
]

pub root_after : (old : NumberedPage) (shape : Forest Look) → IsPage old → carried old shape 0 ≡ 0
root_after old shape p = (let k = root_kept old p in old_number old shape 0 k.0 ∙ k.1)

pub number_after : (old : NumberedPage) (shape : Forest Look) (a : ℕ) → on a shape ≡ true → number_of (renumbered old shape) a ≡ carried old shape a
number_after old shape a h = number_with (carried old shape) a shape h

pub shape_after : (old : NumberedPage) (shape : Forest Look) → page_shape (renumbered old shape) ≡ shape
shape_after old shape = looks_with (carried old shape) shape

-- the page that comes next is a page
pub page_after : (old : NumberedPage) (shape : Forest Look) → IsPage old → IsShape shape → IsPage (renumbered old shape)
page_after old shape p s =
    let num = carried old shape in
    let still : (a : ℕ) → on a (page_shape (renumbered old shape)) ≡ true → on a shape ≡ true = λ a h. ap (on a) (sym (shape_after old shape)) ∙ h in
    record {
      rooted = record {
        below = with_numbers num s.rooted.below;
        is = ap (with_numbers num) s.rooted.is ∙ ap (λ z. node 0 (z, Root) (with_numbers num s.rooted.below) none) (root_after old shape p);
      };
      once = λ a. (let e = ap (tally a) (shape_after old shape) in let o = s.once a in omega arith);
      below = λ a h. (let q = number_after old shape a (still a h) in let b = below_after old shape p s a (still a h) in omega arith);
      distinct = λ a b h g e. distinct_after old shape p s a b (still a h) (still b g) (sym (number_after old shape a (still a h)) ∙ (e ∙ number_after old shape b (still b g)));
    }

-- ---- the edits

pub parent_at : (b : ℕ) (t os : Forest Look) → t ≡ node 0 Root os none → ((j : ℕ) → tally j t ≤ 1) → on b t ≡ true → on (parent b t) t ≡ true
parent_at b t os e l o = elim (cases_Bool (0 == b)) [
  | inl f ↦ (
      let q : 0 ≡ b = eqb-true 0 b f in
      let P : Forest Look → Type 0 = λ u. ((j : ℕ) → tally j u ≤ 1) → on (parent 0 u) u ≡ true in
      let first : P (node 0 Root os none) = λ m. (
      let m0 = m 0 in
      let z : on 0 os ≡ false = tally_off 0 os (omega arith) in
      rw (off_has 0 os z, z) refl) in
      ap (λ i. on (parent i t) t) (sym q) ∙ subst P (sym e) first l)
  | inr f ↦ (
      let P : Forest Look → Type 0 = λ u. ((j : ℕ) → tally j u ≤ 1) → on b u ≡ true → on (parent b u) u ≡ true in
      let first : P (node 0 Root os none) = λ m i. (has_parent b (node 0 Root os none) m i (rw f refl)).1 in
      subst P (sym e) first l o)
]

alike_at : (x x' y y' : Look) → x ≡ x' → y ≡ y' → Alike x' y' → Alike x y
alike_at x x' y y' e f a =
    let P : Look → Type 0 = λ z. Alike z y' in
    let Q : Look → Type 0 = λ z. Alike x z in
    subst Q (sym f) (subst P (sym e) a)

-- the two trees by number, from what is known by address
linkable : (old : NumberedPage) (shape : Forest Look) → IsPage old → IsShape shape → SameOrigin (page_shape old) shape → Linkable (numbered (number_of old) (page_shape old)) (numbered (carried old shape) shape)
linkable old shape p s o =
    let before = page_shape old in
    let num = number_of old in
    let num' = carried old shape in
    let k = root_kept old p in
    let far : (a b : ℕ) → on a shape ≡ true → on b shape ≡ true → num' a ≡ num' b → a ≡ b = distinct_after old shape p s in
    let same_address : (a b : ℕ) → on a before ≡ true → on b shape ≡ true → num a ≡ num' b → a ≡ b = λ a b h g e. elim (cases_Bool (on b before)) [
      | inl u ↦ p.distinct a b h u (e ∙ old_number old shape b u)
      | inr u ↦ (let w = new_number old shape b u in let z = p.below a h in absurd (omega (arith, w, z, e)))
    ] in
    let rooted : page_shape old ≡ node 0 Root (looks p.rooted.below) none = ap looks p.rooted.is in
    record {
      old_once = once_numbered num before p.once p.distinct;
      new_once = once_numbered num' shape s.once far;
      parents = λ n h g. (
          let u = on_numbered num n before h in
          let v = on_numbered num' n shape g in
          let a = u.0 in
          let b = v.0 in
          let same : a ≡ b = same_address a b u.1 v.1 (u.2 ∙ sym v.2) in
          let on_b : on b before ≡ true = ap (λ i. on i before) (sym same) ∙ u.1 in
          let f = parent_num num a before k.1 (λ i e y. p.distinct a i u.1 e y) in
          let m = parent_num num' b shape (root_after old shape p) (λ i e y. far b i v.1 e y) in
          let q = o.parents b on_b v.1 in
          let w = parent_at b before (looks p.rooted.below) rooted p.once on_b in
          ap (λ i. parent i (numbered num before)) (sym u.2)
          ∙ (f ∙ (ap (λ i. num (parent i before)) same ∙ (sym (old_number old shape (parent b before) w) ∙ (ap num' q ∙ (sym m ∙ ap (λ i. parent i (numbered num' shape)) v.2))))));
      lines = λ n h g. (
          let u = on_numbered num n before h in
          let v = on_numbered num' n shape g in
          let a = u.0 in
          let b = v.0 in
          let same : a ≡ b = same_address a b u.1 v.1 (u.2 ∙ sym v.2) in
          let on_b : on b before ≡ true = ap (λ i. on i before) (sym same) ∙ u.1 in
          let x : label_in Root n (numbered num before) ≡ label_in Root b before = ap (λ i. label_in Root i (numbered num before)) (sym u.2) ∙ (label_num Root num a before (λ i e y. p.distinct a i u.1 e y) ∙ ap (λ i. label_in Root i before) same) in
          let y : label_in Root n (numbered num' shape) ≡ label_in Root b shape = ap (λ i. label_in Root i (numbered num' shape)) (sym v.2) ∙ label_num Root num' b shape (λ i e z. far b i v.1 e z) in
          alike_at (label_in Root n (numbered num before)) (label_in Root b before) (label_in Root n (numbered num' shape)) (label_in Root b shape) x y (o.lines b on_b v.1));
      sound = sound_num num' shape s.sound;
      low = (let e = height_num num' shape in let b = s.low in omega arith);
    }

-- the replay law
pub replay_leads : (old : NumberedPage) (shape : Forest Look) → IsPage old → IsShape shape → SameOrigin (page_shape old) shape → replay (edits_between old (renumbered old shape)) (tree_of old) ≡ Done (tree_of (renumbered old shape))
replay_leads old shape p s o =
    let num' = carried old shape in
    let before : by_number old.nodes ≡ numbered (number_of old) (page_shape old) = by_number_is old p.once in
    let after : by_number (with_numbers num' shape) ≡ numbered num' shape = by_number_with num' shape in
    let l = linkable old shape p s o in
    let P : Forest Look → Type 0 = λ t. Linkable t (numbered num' shape) in
    let Q : Forest Look → Type 0 = λ t. Linkable (by_number old.nodes) t in
    edits_lead (by_number old.nodes) (by_number (with_numbers num' shape)) (by_number p.rooted.below) (numbered num' s.rooted.below)
    (ap by_number p.rooted.is)
    (after ∙ (ap (numbered num') s.rooted.is ∙ ap (λ z. node z Root (numbered num' s.rooted.below) none) (root_after old shape p)))
    (subst Q (sym after) (subst P (sym before) l))

-- ---- numbers of the next page

pub kept_number : (old : NumberedPage) (shape : Forest Look) (a : ℕ) → on a (page_shape old) ≡ true → on a shape ≡ true → number_of (renumbered old shape) a ≡ number_of old a
kept_number old shape a h g = number_after old shape a g ∙ old_number old shape a h

pub unused_number : (old : NumberedPage) (shape : Forest Look) (a : ℕ) → on a (page_shape old) ≡ false → on a shape ≡ true → number_of (renumbered old shape) a ≡ old.next + place_in a (new_order old shape)
unused_number old shape a h g = number_after old shape a g ∙ new_number old shape a h
