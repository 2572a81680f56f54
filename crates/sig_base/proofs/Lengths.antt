-- Names of another length are other names.
use Rattle.std.proofs.Common.{◌≡◌, ◌≢◌, ℕ, false, List, ap, inl, inr, length}
use Rattle.std.specs.Str.{bytes_eq}
use Rattle.std.proofs.lemmas.Bool.{cases_Bool}
use Rattle.std.proofs.lemmas.Slice.Eq.{bytes_eq-Decides}

pub unlike : (n m : List ℕ) → length n ≢ length m → bytes_eq n m ≡ false
unlike n m h = elim (cases_Bool (bytes_eq n m)) [
  | inl e ↦ absurd (h (ap length ((bytes_eq-Decides n m).0 e)))
  | inr e ↦ e
]
