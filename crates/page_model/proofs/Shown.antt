-- A shape and what it shows.
use Rattle.std.proofs.Common.{◌≡◌, ℕ, suc, ◌==◌, not, refl, ap, ◌∙◌, arith, inl, inr}
use Rattle.std.proofs.lemmas.Bool.{cases_Bool}
use Rattle.html_out.specs.Html.{is_void}
use Rattle.page_model.specs.Forest.{Forest, none, node, count, has, on, tally, parent, label_in, height, numbered}
use Rattle.page_model.specs.Labels.{Root, Text, Element, Look, seen, shown, holds, DistinctNames, Alike, Sound}
use Rattle.page_model.proofs.Whole.{Opened}
use Rattle.page_model.proofs.Keys.{count_num}

pub has_shown : (n : ℕ) (t : Forest Look) → has n (shown t) ≡ has n t
has_shown n none = refl
has_shown n (node m x k r) = rw (has_shown n r) refl

pub on_shown : (n : ℕ) (t : Forest Look) → on n (shown t) ≡ on n t
on_shown n none = refl
on_shown n (node m x k r) = rw (on_shown n k, on_shown n r) refl

pub tally_shown : (n : ℕ) (t : Forest Look) → tally n (shown t) ≡ tally n t
tally_shown n none = refl
tally_shown n (node m x k r) = rw (tally_shown n k, tally_shown n r) refl

pub parent_shown : (n : ℕ) (t : Forest Look) → parent n (shown t) ≡ parent n t
parent_shown n none = refl
parent_shown n (node m x k r) = rw (has_shown n k, on_shown n k, parent_shown n k, parent_shown n r) refl

pub count_shown : (t : Forest Look) → count (shown t) ≡ count t
count_shown none = refl
count_shown (node m x k r) = ap suc (count_shown r)

pub height_shown : (t : Forest Look) → height (shown t) ≡ height t
height_shown none = refl
height_shown (node m x k r) = rw (height_shown k, height_shown r) refl

pub label_shown : (n : ℕ) (t : Forest Look) → label_in Root n (shown t) ≡ seen (label_in Root n t)
label_shown n none = refl
label_shown n (node m x k r) = elim (cases_Bool (m == n)) [
  | inl e ↦ rw e refl
  | inr e ↦ elim (cases_Bool (on n k)) [
    | inl f ↦ rw (e, on_shown n k, f) (label_shown n k)
    | inr f ↦ rw (e, on_shown n k, f) (label_shown n r)
  ]
]

pub holds_seen : (x : Look) → holds (seen x) ≡ holds x
holds_seen Root = refl
holds_seen (Text t) = refl
holds_seen (Element name lines) = refl

pub alike_holds : (x y : Look) → Alike x y → holds x ≡ holds y
alike_holds Root Root a = refl
alike_holds (Text s) (Text t) a = refl
alike_holds (Element m old) (Element n new) a = ap (λ z. not (is_void z)) a.0
alike_holds Root (Text t) a = absurd a
alike_holds Root (Element n new) a = absurd a
alike_holds (Text s) Root a = absurd a
alike_holds (Text s) (Element n new) a = absurd a
alike_holds (Element m old) Root a = absurd a
alike_holds (Element m old) (Text t) a = absurd a

pub opened_shown : (t : Forest Look) → Sound t → Opened (shown t)
opened_shown none s = tt
opened_shown (node m x k r) s = (λ h. holds_seen x ∙ s.0 (let c = count_shown k in omega arith), opened_shown k s.2, opened_shown r s.3)

pub sound_num : (num : ℕ → ℕ) (t : Forest Look) → Sound t → Sound (numbered num t)
sound_num num none s = tt
sound_num num (node m x k r) s = (λ h. s.0 (let c = count_num num k in omega arith), s.1, sound_num num k s.2, sound_num num r s.3)

pub names_at : (n : ℕ) (t : Forest Look) → Sound t → DistinctNames (label_in Root n t)
names_at n none s = tt
names_at n (node m x k r) s = elim (cases_Bool (m == n)) [
  | inl e ↦ rw e s.1
  | inr e ↦ elim (cases_Bool (on n k)) [
    | inl f ↦ rw (e, f) (names_at n k s.2)
    | inr f ↦ rw (e, f) (names_at n r s.3)
  ]
]
