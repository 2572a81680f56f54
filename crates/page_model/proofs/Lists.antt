-- Small facts on tests and answers.
use Rattle.std.proofs.Common.{◌≡◌, ℕ, ◌≤◌, Bool, true, false, refl, arith, if◌then◌else◌, inl, inr, Option, Some, None, ltb}
use Rattle.std.proofs.lemmas.Bool.{cases_Bool, ltb-true}
use Rattle.page_model.proofs.Facts.{and_then}

pub when : {X : Type 0} (b : Bool) (x y : X) → (if b then Some x else None) ≡ Some y → (b ≡ true) × (x ≡ y)
when true x y e = (refl, cc)
when false x y e = cc

pub split : {X Y : Type 0} (o : Option X) (f : X → Option Y) (y : Y) → and_then o f ≡ Some y → (x : X) × (o ≡ Some x) × (f x ≡ Some y)
split None f y e = cc
split (Some x) f y e = (x, refl, e)

pub not_ltb : (m n : ℕ) → n ≤ m → ltb m n ≡ false
not_ltb m n h = elim (cases_Bool (ltb m n)) [ inl e ↦ (let i = ltb-true m n e in absurd (omega arith)) | inr e ↦ e ]
