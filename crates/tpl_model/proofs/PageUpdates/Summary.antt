-- What was found gives the edits and the order of the new numbers.
use Rattle.std.proofs.Common.{◌≡◌, ℕ, ◌≤◌, ◌==◌, Bool, true, false, refl, sym, ap, ◌∙◌, arith, if◌then◌else◌, eq-eqb, inl, inr, List, [], ◌∷◌, map}
use Rattle.std.specs.List.{flat_map}
use Rattle.std.proofs.lemmas.Bool.{cases_Bool, false≢true}
use Rattle.page_model.specs.Forest.{Forest, none, node, on, tally, keys, kids, label_in, pruned, tops, numbered}
use Rattle.page_model.specs.Labels.{Root, Look, shown}
use Rattle.page_model.specs.Edits.{listed, siblings, child_edits, look_edits, edits}
use Rattle.page_model.specs.Pages.{NumberedPage, by_number, page_shape, number_of, carried, ascending_by, those, newcomers, new_order, renumbered, with_numbers, edits_between, IsPage, IsShape, SameOrigin}
use Rattle.tpl_model.specs.PageUpdates.Differences.{often, children_at, restated_at, read_off, SameChildren, SameLook, Found, Finds, found_edits, found_order}
use Rattle.tpl_model.proofs.PageUpdates.Addressed.{Two, addressed, edits_addressed}
use Rattle.page_model.proofs.Shared.{off_tally, or_left, or_right, tally_on, all_gone, still_on, by_number_is, by_number_with, children_none, distinct_after, in_keys, kept_on, knows, new_number, old_number, parent_at, tally_pruned, told_none, tops_on}
use Rattle.tpl_model.proofs.Numbered.{child_on, often_keys, siblings_num}
use Rattle.tpl_model.proofs.Orders.{listed_often, often_those, same_order, read_marked}

-- ---- a kept parent whose children are the same

all_those : (test : ℕ → Bool) (xs : List ℕ) → ((j : ℕ) → listed j xs ≡ true → test j ≡ true) → those test xs ≡ xs
all_those test [] h = refl
all_those test (x ∷ xs) h = rw (h x (or_left (x == x) (listed x xs) (eq-eqb x x refl))) (ap (λ z. x ∷ z) (all_those test xs (λ j i. h j (or_right (x == j) (listed j xs) i))))

map_same : (f g : ℕ → ℕ) (xs : List ℕ) → ((j : ℕ) → listed j xs ≡ true → f j ≡ g j) → map f xs ≡ map g xs
map_same f g [] h = refl
map_same f g (x ∷ xs) h = rw (h x (or_left (x == x) (listed x xs) (eq-eqb x x refl)), map_same f g xs (λ j i. h j (or_right (x == j) (listed j xs) i))) refl

pub quiet_children : (num num' : ℕ → ℕ) (old new : Forest Look) → Two num num' old new → (a : ℕ) → SameChildren old new a → children_at num num' old new a ≡ []
quiet_children num num' old new w a s =
    let keep : ℕ → Bool = λ b. on b new in
    let ks = siblings (kids a old) in
    let both : (j : ℕ) → listed j ks ≡ true → on j new ≡ true = λ j h. child_on a j new (ap (listed j) (sym s) ∙ h) in
    let x : map num (those keep ks) ≡ siblings (shown (numbered num' (kids a new))) =
    ap (map num) (all_those keep ks both) ∙ (map_same num num' ks (λ j h. w.same j (child_on a j old h) (both j h)) ∙ (ap (map num') s ∙ sym (siblings_num num' (kids a new)))) in
    ap (λ z. child_edits (num a) 0 z (shown (numbered num' (kids a new)))) x ∙ children_none (num a) [] (shown (numbered num' (kids a new)))

quiet_look : (num : ℕ → ℕ) (old new : Forest Look) (a : ℕ) → SameLook old new a → restated_at num old new a ≡ []
quiet_look num old new a s = ap (λ z. look_edits (num a) z (label_in Root a new)) s ∙ told_none (num a) (label_in Root a new)

-- ---- what was found is enough

pub found_addressed : (num num' : ℕ → ℕ) (old new : Forest Look) (f : Found) → Two num num' old new → Finds old new old f → addressed num num' old new ≡ read_off num num' old new f
found_addressed num num' old new f w d =
    let keep : ℕ → Bool = λ a. on a new in
    let gs = tops keep old in
    let ks = keys (pruned keep old) in
    let far : (a b : ℕ) → listed a ks ≡ true → listed b ks ≡ true → num a ≡ num b → a ≡ b = λ a b h g q. w.far a b (kept_on keep a old (sym (in_keys a (pruned keep old)) ∙ h)).0 (kept_on keep b old (sym (in_keys b (pruned keep old)) ∙ g)).0 q in
    let once : (j : ℕ) → often j ks ≤ 1 = λ j. (let a = often_keys j (pruned keep old) in let b = tally_pruned keep j old in let c = w.old_once j in omega arith) in
    let g : ascending_by num gs ≡ ascending_by num f.gone = same_order num gs f.gone (λ j. sym (d.gone j)) (λ a b h i q. w.far a b (tops_on keep a old h) (tops_on keep b old i) q) in
    let few : (ms : List ℕ) → ((j : ℕ) → often j ms ≤ tally j (pruned keep old)) → (j : ℕ) → often j ms ≤ often j ks = λ ms h j. (let a = often_keys j (pruned keep old) in let b = h j in omega arith) in
    let c : flat_map (children_at num num' old new) (ascending_by num ks) ≡ flat_map (children_at num num' old new) (ascending_by num f.touched) =
    read_marked num (children_at num num' old new) ks f.touched far once (few f.touched d.touched.few) (λ j h n. quiet_children num num' old new w j (d.touched.rest j (sym (in_keys j (pruned keep old)) ∙ h) n)) in
    let t : flat_map (restated_at num old new) (ascending_by num ks) ≡ flat_map (restated_at num old new) (ascending_by num f.restated) =
    read_marked num (restated_at num old new) ks f.restated far once (few f.restated d.restated.few) (λ j h n. quiet_look num old new j (d.restated.rest j (sym (in_keys j (pruned keep old)) ∙ h) n)) in
    rw (g, c, t) refl

-- ---- pages

two_of : (old : NumberedPage) (shape : Forest Look) → IsPage old → IsShape shape → Two (number_of old) (carried old shape) (page_shape old) shape
two_of old shape p s = record {
  old_once = p.once;
  new_once = s.once;
  far = p.distinct;
  far_new = distinct_after old shape p s;
  across = λ a b h g e. elim (cases_Bool (on b (page_shape old))) [
    | inl u ↦ p.distinct a b h u (e ∙ old_number old shape b u)
    | inr u ↦ (let w = new_number old shape b u in let z = p.below a h in absurd (omega (arith, w, z, e)))
  ];
  same = λ a h g. sym (old_number old shape a h);
}

pub found_edits_law : (old : NumberedPage) (shape : Forest Look) (f : Found) → IsPage old → IsShape shape → Finds (page_shape old) shape (page_shape old) f → edits_between old (renumbered old shape) ≡ found_edits old shape f
found_edits_law old shape f p s d =
    let num' = carried old shape in
    let w = two_of old shape p s in
    ap (λ z. edits z (by_number (with_numbers num' shape))) (by_number_is old p.once) ∙ (ap (edits (numbered (number_of old) (page_shape old))) (by_number_with num' shape)
    ∙ (edits_addressed (number_of old) num' (page_shape old) shape w ∙ found_addressed (number_of old) num' (page_shape old) shape f w d))

-- ---- the order of the new numbers

no_newcomers : {A : Type 0} (kept : ℕ → Bool) (t : Forest A) → ((j : ℕ) → listed j (siblings t) ≡ true → kept j ≡ true) → newcomers kept t ≡ []
no_newcomers kept none h = refl
no_newcomers kept (node m x k r) h = rw (h m (or_left (m == m) (listed m (siblings r)) (eq-eqb m m refl))) (no_newcomers kept r (λ j i. h j (or_right (m == j) (listed j (siblings r)) i)))

pub found_order_law : (old : NumberedPage) (shape : Forest Look) (f : Found) → IsPage old → IsShape shape → SameOrigin (page_shape old) shape → Finds (page_shape old) shape (page_shape old) f → new_order old shape ≡ found_order old shape f
found_order_law old shape f p s o d =
    let before = page_shape old in
    let num = number_of old in
    let keep : ℕ → Bool = λ a. on a shape in
    let kept : ℕ → Bool = λ a. on a before in
    let ks = those keep (keys before) in
    let new = all_gone before shape p.once (λ a h. parent_at a shape s.rooted.below s.rooted.is s.once h) o.parents before (λ j e. e) (knows before p.once) in
    let count : (j : ℕ) → often j ks ≡ (if keep j then often j (keys before) else 0) = λ j. often_those keep j (keys before) in
    let member : (j : ℕ) → listed j ks ≡ true → (on j before ≡ true) × (keep j ≡ true) = λ j h. (
    let u = listed_often j ks h in
    let c = count j in
    let k = often_keys j before in
    elim (cases_Bool (keep j)) [
      | inl e ↦ (let c' = rw e at c in (tally_on j before (omega arith), e))
      | inr e ↦ (let c' = rw e at c in absurd (omega arith))
    ]) in
    read_marked num (λ a. newcomers kept (kids a shape)) ks f.touched
    (λ a b h g q. p.distinct a b (member a h).0 (member b g).0 q)
    (λ j. (
    let c = count j in
    let k = often_keys j before in
    let l = p.once j in
    elim (cases_Bool (keep j)) [ inl e ↦ (let c' = rw e at c in omega (arith, c', k, l)) | inr e ↦ (let c' = rw e at c in omega (arith, c')) ]))
    (λ j. (
    let c = count j in
    let k = often_keys j before in
    let l = tally_pruned keep j before in
    let m = d.touched.few j in
    elim (cases_Bool (keep j)) [
      | inl e ↦ (let c' = rw e at c in omega (arith, c', k, l, m))
      | inr e ↦ (
          let z : on j (pruned keep before) ≡ false = elim (cases_Bool (on j (pruned keep before))) [ inl g ↦ absurd (false≢true (sym e ∙ (kept_on keep j before g).1)) | inr g ↦ g ] in
          let y = off_tally j (pruned keep before) z in
          omega (arith, m, y))
    ]))
    (λ j h n. (
    let i = member j h in
    let same = d.touched.rest j (still_on keep j before new i.0 i.1) n in
    no_newcomers kept (kids j shape) (λ b g. child_on j b before (ap (listed b) same ∙ g))))
