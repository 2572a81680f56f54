-- What callers see of a store.
use Rattle.std.specs.Prelude.{ℕ, List, Option, Some, None, refl, slice_index_or, slice_set}
use Rattle.std.specs.Coded.{Coded, code_by, coded×, coded_ℕ, coded_list, coded_option}

-- what stands under each number that was given, none where it was taken out; and how many more surely fit without memory
pub record Stored (T : Type 0) : Type 0 where
  pub entries : List (Option T)
  pub room : ℕ

-- both
abbrev pub seen : {T : Type 0} → List (Option T) → ℕ → Stored T
seen es room = record { entries = es; room = room }

-- it is kept as the pair of both
abbrev pub stored_code : {T : Type 0} → Coded T → Coded (Stored T)
stored_code {T} code =
    code_by
    (List (Option T) × ℕ)
    (coded× (coded_list (coded_option code)) coded_ℕ)
    (λ s. (s.entries, s.room))
    (λ p. record { entries = p.0; room = p.1 })
    (λ _. refl)

-- what stands under a number; under one that wasn't given nothing does
abbrev pub entry : {T : Type 0} → List (Option T) → ℕ → Option T
entry es n = slice_index_or es n None

-- another value stands under a number
abbrev pub with_value : {T : Type 0} → Stored T → ℕ → T → Stored T
with_value s n v = record s { entries = slice_set s.entries n (Some v) }
