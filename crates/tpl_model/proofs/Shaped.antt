-- What a template shows is a shape.
use Rattle.std.proofs.Common.{◌≡◌, ℕ, suc, ◌+◌, ◌<◌, ◌≤◌, ◌==◌, true, false, not, refl, sym, ap, arith, eqb-true, inl, inr, List, Option, None}
use Rattle.std.proofs.lemmas.Bool.{cases_Bool, false≢true}
use Rattle.html_out.specs.Html.{is_void}
use Rattle.page_model.specs.Addresses.{address}
use Rattle.page_model.specs.Forest.{Forest, none, node, after, count, on, one, tally, height}
use Rattle.page_model.specs.Labels.{Text, Element, Look, Sound, WellNamed}
use Rattle.page_model.proofs.Shared.{address_above, off_tally}
use Rattle.tpl_model.specs.Lines.{block_of}
use Rattle.tpl_model.specs.Shapes.{shown_lines}
use Rattle.tpl_model.specs.Laws.{ShapeLaw}
use Rattle.tpl_model.proofs.Kept.{Closed, shown_has}
use Rattle.tpl_model.proofs.Single.{few, once_line}

low_after : (m : ℕ) (x y : Forest Look) → height x ≤ m → height y ≤ m → height (after x y) ≤ m
low_after m none y p q = q
low_after m (node n l k r) y p q = (let i = low_after m r y (omega arith) q in omega arith)

sound_after : (x y : Forest Look) → Sound x → Sound y → Sound (after x y)
sound_after none y p q = q
sound_after (node n l k r) y p q = (p.0, p.1, p.2, sound_after r y p.3 q)

names_after : (x y : Forest Look) → WellNamed x → WellNamed y → WellNamed (after x y)
names_after none y p q = q
names_after (node n l k r) y p q = (p.0, p.1, names_after r y p.2 q)

-- an address that stands in the nodes is one of a line and a row
pub record Comes (a : ℕ) : Type 0 where
  pub line : ℕ
  pub row : Option (List ℕ)
  pub is : a ≡ address line row

from_after : (x y : Forest Look) → ((a : ℕ) → on a x ≡ true → Comes a) → ((a : ℕ) → on a y ≡ true → Comes a) → (a : ℕ) →
    on a (after x y) ≡ true → Comes a
from_after none y p q a h = q a h
from_after (node n l k r) y p q a h = elim (cases_Bool (n == a)) [
  | inl e ↦ p a (rw e refl)
  | inr e ↦ elim (cases_Bool (on a k)) [
    | inl f ↦ p a (rw (e, f) refl)
    | inr f ↦ from_after r y (λ b g. p b (elim (cases_Bool (n == b)) [
      | inl u ↦ rw u refl
      | inr u ↦ elim (cases_Bool
          (on b k)) [ inl v ↦ rw (u, v) refl | inr v ↦ rw (u, v) g ]
    ])) q a (rw (e, f) at h)
  ]
]

pub record Shaped (d : ℕ) (t : Forest Look) : Type 0 where
  pub low : height t ≤ suc d
  pub sound : Sound t
  pub names : WellNamed t
  pub comes : (a : ℕ) → on a t ≡ true → Comes a

void_holds : (name : List ℕ) (xs : List (List ℕ × Option (List ℕ))) (k : Forest Look) → (is_void name ≡ true → k ≡ none) →
    0 < count k → not (is_void name) ≡ true
void_holds name xs k v h = elim (cases_Bool (is_void name)) [
  | inl e ↦ (let z : count k ≡ 0 = ap count (v e) in absurd (omega arith))
  | inr e ↦ rw e refl
]

under : (d : ℕ) (n : ℕ) (c : Option (List ℕ)) (x : Look) (k : Forest Look) → ((a : ℕ) → on a k ≡ true → Comes a) → (a : ℕ) →
    on a (node (address n c) x k none) ≡ true → Comes a
under d n c x k p a h = elim (cases_Bool (address n c == a)) [
  | inl e ↦ record { line = n; row = c; is = sym (eqb-true _ _ e) }
  | inr e ↦ elim (cases_Bool (on a k)) [
    | inl f ↦ p a f
    | inr f ↦ absurd (false≢true (rw (e, f) at h))
  ]
]

shaped : Closed Shaped (λ c. Unit {0})
shaped = record {
  nil = λ d. record { low = omega arith; sound = tt; names = tt; comes = λ a h. absurd (false≢true h) };
  join = λ d x y p q. record {
    low = low_after
        (suc d) x y p.low q.low;
    sound = sound_after x y p.sound q.sound;
    names = names_after x y p.names q.names;
    comes = from_after x y
        p.comes q.comes;
  };
  leaf = λ d n c t u. record {
    low = omega arith;
    sound = (λ h. absurd (omega arith), tt, tt, tt);
    names =
        (tt, tt, tt);
    comes = under d n c (Text t) none (λ a h. absurd (false≢true h));
  };
  branch = λ d n c name xs k u s w v p. record {
    low = (let i = p.low in
        omega arith);
    sound = (λ h. void_holds name xs k v h, s, p.sound, tt);
    names = (w, p.names, tt);
    comes = under d n c
        (Element name xs) k p.comes;
  };
  more = λ d x p. record { low = (let i = p.low in omega arith); sound = p.sound; names = p.names; comes = p.comes };
}

root_apart : (a : ℕ) → 0 < a → one (0 == a) ≡ 0
root_apart a h = elim (cases_Bool (0 == a)) [
  | inl e ↦ (let q : 0 ≡ a = eqb-true 0 a e in absurd (omega arith))
  | inr e ↦ rw e refl
]

single : (t : Forest Look) → ((a : ℕ) → on a t ≡ true → Comes a) → ((l : ℕ) (k : Option (List ℕ)) → tally (address l k) t ≤ 1) →
    (a : ℕ) → one (0 == a) + (tally a t + 0) ≤ 1
single t c h a = elim (cases_Bool (on a t)) [
  | inl e ↦ (
      let s = c a e in
      let q = s.is in
      let z : one (0 == a) ≡ 0 = root_apart a (let u = address_above s.line s.row in omega arith) in
      let u : tally a t ≤ 1 = rw q (h s.line s.row) in
      omega arith)
  | inr e ↦ (let z = off_tally a t e in elim (cases_Bool (0 == a)) [ inl f ↦ rw f (omega arith) | inr f ↦ rw f (omega arith) ])
]

-- what a template shows is a shape
pub shape_law : ShapeLaw
shape_law lines evaluate f g =
    let t = (shown_lines evaluate lines).nodes in
    let s : Shaped 31 t = shown_has Shaped (λ c. Unit {0}) shaped evaluate (block_of lines) false None 31 false f tt (λ e key. tt) in
    record {
      rooted = record { below = t; is = refl };
      once = single t s.comes (λ l k. (let i = few l k evaluate g (block_of lines) false None 31 false f in
          let j = once_line l lines in omega arith));
      sound = (λ h. refl, tt, s.sound, tt);
      names = s.names;
      low = (let i = s.low in omega arith);
    }
