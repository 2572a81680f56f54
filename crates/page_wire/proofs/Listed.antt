-- Names that are looked up among others, and frames that come behind others.
use Rattle.std.proofs.Common.{◌≡◌, ℕ, Bool, true, false, not, List, [], ◌∷◌, ◌++◌, refl, sym, ◌∙◌, ap, inl, inr, append_assoc}
use Rattle.std.specs.List.{filter, list_any}
use Rattle.std.specs.Str.{bytes_eq}
use Rattle.std.proofs.lemmas.Bool.{cases_Bool}
use Rattle.std.proofs.lemmas.Grind.{flat_map-append}
use Rattle.wire_model.specs.Notes.{Note, frame, frames}
use Rattle.wire_model.specs.Wired.{is_listed, unlisted}

pub any_listed : (n : List ℕ) (ms : List (List ℕ)) → list_any (λ m. bytes_eq n m) ms ≡ is_listed n ms
any_listed n [] = refl
any_listed n (m ∷ ms) = elim (cases_Bool (bytes_eq n m)) [
  | inl e ↦ rw e refl
  | inr e ↦ rw e (any_listed n ms)
]

pub others_stay : (n : List ℕ) (ms : List (List ℕ)) → filter (λ m. not (bytes_eq n m)) ms ≡ unlisted n ms
others_stay n [] = refl
others_stay n (m ∷ ms) = elim (cases_Bool (bytes_eq n m)) [
  | inl e ↦ rw e (others_stay n ms)
  | inr e ↦ rw e (ap (λ (l : List (List ℕ)). m ∷ l) (others_stay n ms))
]

-- frames behind frames
pub frames_more : (out mid new : List ℕ) (notes more : List Note) → mid ≡ out ++ frames notes → new ≡ mid ++ frames more → new ≡ out ++ frames (notes ++ more)
frames_more out mid new notes more e f =
    f ∙ (ap (λ (l : List ℕ). l ++ frames more) e ∙ (append_assoc out (frames notes) (frames more) ∙ ap (λ (l : List ℕ). out ++ l) (sym (flat_map-append frame notes more))))
