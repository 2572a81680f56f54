-- Names that go on.
use Rattle.std.specs.Prelude.{◌≡◌, ℕ, true, List}
use Rattle.std.specs.List.{list_any}
use Rattle.std.specs.Str.{bytes_eq}
use Rattle.formula_text.specs.Refusals.{slot_of}

-- whether a name is among these
abbrev pub IsAmong : List (List ℕ) → List ℕ → Type 0
IsAmong ns n = list_any (λ m. bytes_eq m n) ns ≡ true

-- names go on: each name that was among them is still there, with the same slot
pub record GoOn (ns ms : List (List ℕ)) : Type 0 where
  pub kept : (n : List ℕ) → IsAmong ns n → IsAmong ms n × (slot_of ms n ≡ slot_of ns n)
