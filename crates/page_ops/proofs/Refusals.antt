-- What the refusals rest on.
use Rattle.std.proofs.Common.{◌≡◌, ℕ, suc, ◌-◌, ◌≤◌, ◌&&◌, leb, true, false, refl, sym, ap, subst, ◌∙◌, arith, inl, inr, List, [], ◌∷◌, length, Option, Some, None}
use Rattle.std.specs.Option.{is_some}
use Rattle.std.specs.Str.{bytes_eq}
use Rattle.std.proofs.lemmas.Bool.{cases_Bool, false≢true, le-leb}
use Rattle.page_model.specs.Forest.{Forest, none, node, at, count, depth, kids, label_in, on, put}
use Rattle.page_model.specs.Labels.{Root, Text, Element, Kind, holds}
use Rattle.page_model.specs.Edits.{siblings}
use Rattle.page_model.specs.Replay.{Done, NumberUsed, OpInsert, Refused, TooDeep, do_op, first_deep, first_used, others, unless_found}
use Rattle.page_tree.specs.Subs.{insertion}
use Rattle.page_tree.proofs.Shared.{one_node}
use Rattle.page_ops.specs.declared.op.ApplyFault.{ApplyFault}
use Rattle.page_model.proofs.Shared.{kids_off}
use Rattle.page_tree.specs.Queries.{after_one, attribute_count, attribute_place, child_count, place_named}
use Rattle.page_ops.specs.Ops.{Judges, coming_fault, other_count}

pub none_count : (n : ℕ) (t : Forest Kind) → None ≡ child_count n t → 0 ≡ count (kids n t)
none_count n t h = elim (cases_Bool (on n t)) [
  | inl e ↦ (let z : None ≡ Some (count (kids n t)) = rw e at h in absurd (cc))
  | inr e ↦ sym (ap count (kids_off n t e))
]

some_still : (o : Option ℕ) → is_some (after_one o) ≡ is_some o
some_still None = refl
some_still (Some i) = refl

fewer : (name : List ℕ) (xs : List (List ℕ × List ℕ)) → is_some (place_named name xs) ≡ true → length xs ≡ suc (length (others name xs))
fewer name [] h = absurd (false≢true h)
fewer name (a ∷ xs) h = elim (cases_Bool (bytes_eq a.0 name)) [
  | inl e ↦ rw e refl
  | inr e ↦ rw e (ap suc (fewer name xs (sym (some_still (place_named name xs)) ∙ (rw e at h))))
]

as_many : (name : List ℕ) (xs : List (List ℕ × List ℕ)) → is_some (place_named name xs) ≡ false → length xs ≡ length (others name xs)
as_many name [] h = refl
as_many name (a ∷ xs) h = elim (cases_Bool (bytes_eq a.0 name)) [
  | inl e ↦ absurd (false≢true (sym (rw e at h)))
  | inr e ↦ rw e (ap suc (as_many name xs (sym (some_still (place_named name xs)) ∙ (rw e at h))))
]

pub count_fewer : (name : List ℕ) (x : Kind) (n : ℕ) → Some n ≡ attribute_count x → is_some (attribute_place name x) ≡ true → Some (n - 1) ≡ other_count name x
count_fewer name Root n e h = absurd (cc)
count_fewer name (Text t) n e h = absurd (cc)
count_fewer name (Element element xs) n e h = (let z : n ≡ length xs = cc in let f = fewer name xs h in ap Some (omega (arith, z, f)))

pub count_same : (name : List ℕ) (x : Kind) (n : ℕ) → Some n ≡ attribute_count x → is_some (attribute_place name x) ≡ false → Some n ≡ other_count name x
count_same name Root n e h = absurd (cc)
count_same name (Text t) n e h = absurd (cc)
count_same name (Element element xs) n e h = (let z : n ≡ length xs = cc in let f = as_many name xs h in ap Some (omega (arith, z, f)))

-- ---- insertions

coming : (used deep : Option ℕ) (u : Forest Kind) (why : Option ApplyFault) → why ≡ coming_fault used deep → Judges why (unless_found NumberUsed used (unless_found TooDeep deep (Done u)))
coming (Some n) deep u why e = (let P : Option ApplyFault → Type 0 = λ w. Judges w (Refused (NumberUsed n)) in subst P (sym e) refl)
coming None (Some n) u why e = (let P : Option ApplyFault → Type 0 = λ w. Judges w (Refused (TooDeep n)) in subst P (sym e) refl)
coming None None u why e = (let P : Option ApplyFault → Type 0 = λ w. Judges w (Done u) in subst P (sym e) tt)

judged : (p i n : ℕ) (x : Kind) (k t : Forest Kind) (why : Option ApplyFault) → (on p t && holds (label_in Root p t)) ≡ true → i ≤ count (kids p t) → why ≡ coming_fault (first_used (node n x k none) (node n x k none) t) (first_deep (suc (depth p t)) (node n x k none)) → Judges why (do_op (OpInsert p i n x k) t)
judged p i n x k t why h l e =
    let s = node n x k none in
    let f : leb i (count (kids p t)) ≡ true = le-leb i (count (kids p t)) l in
    rw (h, f) (coming (first_used s s t) (first_deep (suc (depth p t)) s) (at p (put i s) t) why e)

pub insertion_judged : (p i n : ℕ) (s t : Forest Kind) (why : Option ApplyFault) → siblings s ≡ n ∷ [] → (on p t && holds (label_in Root p t)) ≡ true → i ≤ count (kids p t) → why ≡ coming_fault (first_used s s t) (first_deep (suc (depth p t)) s) → Judges why (do_op (insertion p i s) t)
insertion_judged p i n s t why one h l e =
    let w = one_node n s one in
    let P : Forest Kind → Type 0 = λ z. why ≡ coming_fault (first_used z z t) (first_deep (suc (depth p t)) z) in
    let Q : Forest Kind → Type 0 = λ z. Judges why (do_op (insertion p i z) t) in
    subst Q (sym w.2) (judged p i n w.0 w.1 t why h l (subst P w.2 e))
