-- What is not something is nothing.
use Rattle.std.proofs.Common.{◌≡◌, Option, Some, None, refl}

pub none_if : {A : Type 0} (o : Option A) → ((x : A) → o ≡ Some x → ⊥) → o ≡ None
none_if None f = refl
none_if (Some x) f = absurd (f x refl)
