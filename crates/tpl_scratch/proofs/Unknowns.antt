-- The first name that isn't known, of reads one after the other.
use Rattle.std.proofs.Common.{◌≡◌, ℕ, refl, sym, ◌∙◌, inl, inr, List, [], ◌∷◌, ◌++◌, Option, Some, None}
use Rattle.std.specs.List.{slice_get}
use Rattle.std.proofs.lemmas.Bool.{cases_Bool}
use Rattle.sig_base.specs.declared.value.Outcome.{Outcome}
use Rattle.tpl_model.specs.Sources.{first_missing, is_there}
use Rattle.tpl_scratch.specs.declared.stop.Stop.{Stop}
use Rattle.tpl_scratch.specs.declared.stop.Stop.TheVariants as stop
use Rattle.tpl_scratch.specs.Pages.{Stops}

-- where all of the first are known, it is that of the later ones
pub missing_later : (known : List (Option Outcome)) (xs ys : List ℕ) → first_missing known xs ≡ None → first_missing known (xs ++ ys) ≡ first_missing known ys
missing_later known [] ys h = refl
missing_later known (x ∷ xs) ys h = elim (cases_Bool (is_there (slice_get known x))) [
  | inl e ↦ (let i = missing_later known xs ys (rw e at h) in rw e i)
  | inr e ↦ (let j : Some x ≡ None = rw e at h in cc)
]

-- where one of the first isn't, it is that
pub missing_first : (known : List (Option Outcome)) (xs ys : List ℕ) (i : ℕ) → first_missing known xs ≡ Some i → first_missing known (xs ++ ys) ≡ Some i
missing_first known [] ys i h = cc
missing_first known (x ∷ xs) ys i h = elim (cases_Bool (is_there (slice_get known x))) [
  | inl e ↦ (let j = missing_first known xs ys i (rw e at h) in rw e j)
  | inr e ↦ (let j : Some x ≡ Some i = rw e at h in rw e j)
]

pub stops_first : (known : List (Option Outcome)) (xs ys : List ℕ) (e : Stop) → Stops known xs e → Stops known (xs ++ ys) e
stops_first known xs ys (stop.Ask i) h = missing_first known xs ys i h
stops_first known xs ys stop.NoMemory h = tt

pub stops_later : (known : List (Option Outcome)) (xs ys : List ℕ) (e : Stop) → first_missing known xs ≡ None → Stops known ys e → Stops known (xs ++ ys) e
stops_later known xs ys (stop.Ask i) none h = missing_later known xs ys none ∙ h
stops_later known xs ys stop.NoMemory none h = tt

-- what stops reads stops others whose first missing name is the same
pub stops_same : (known : List (Option Outcome)) (xs ys : List ℕ) (e : Stop) → first_missing known xs ≡ first_missing known ys → Stops known xs e → Stops known ys e
stops_same known xs ys (stop.Ask i) same h = sym same ∙ h
stops_same known xs ys stop.NoMemory same h = tt
