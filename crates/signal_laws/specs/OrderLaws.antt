-- The places of computeds in the order of evaluation.
use Rattle.std.specs.Prelude.{◌≡◌, ℕ, true, false, List, [], ◌∷◌, ◌⊎◌}
use Rattle.signal_model.specs.Recipes.{Hosts}
use Rattle.signal_model.specs.Signals.{Signals, Computed, IsComputed, is_in, standing}
use Rattle.signal_model.specs.Values.{reads_of}
use Rattle.signal_model.specs.Orders.{Visit, visited, evaluation_order}
use Rattle.signal_model.specs.Laws.{IsRead, IsChain}

-- A visit after those of some names: its computed stands, is come to along a path of reads, and is none of them; and each computed that
-- it reads is one of them, or is being evaluated.
pub record IsPlaced (hosts : Hosts) (w : Signals) (seen : List ℕ) (v : Visit) : Type 0 where
  pub stands : standing w v.computed.name ≡ IsComputed v.computed
  pub chain : IsChain hosts w v.computed.name v.path
  pub new : is_in v.computed.name seen ≡ false
  pub before : (m : ℕ) (d : Computed) → IsRead m (reads_of hosts w v.computed) → standing w m ≡ IsComputed d →
      (is_in m (v.computed.name ∷ v.path) ≡ true) ⊎ (is_in m seen ≡ true)

-- each of these visits has its place
abbrev pub AreOrdered : Hosts → Signals → List ℕ → List Visit → Type 0
AreOrdered hosts w seen [] = Unit {0}
AreOrdered hosts w seen (v ∷ vs) = IsPlaced hosts w seen v × AreOrdered hosts w (v.computed.name ∷ seen) vs

-- the names that are seen after some visits, the last one first
abbrev pub seen_after : List ℕ → List Visit → List ℕ
seen_after seen [] = seen
seen_after seen (v ∷ vs) = seen_after (v.computed.name ∷ seen) vs

-- each computed that a visited computed reads is visited
abbrev pub AreClosed : Hosts → Signals → List Visit → Type 0
AreClosed hosts w vs = (n m : ℕ) (c d : Computed) → is_in n (visited vs) ≡ true → standing w n ≡ IsComputed c → IsRead m (reads_of hosts w c) →
    standing w m ≡ IsComputed d → is_in m (visited vs) ≡ true

-- visits in order, with each computed that is asked for, and each that is read
pub record IsOrder (hosts : Hosts) (w : Signals) (asked : List ℕ) (vs : List Visit) : Type 0 where
  pub ordered : AreOrdered hosts w [] vs
  pub came : (n : ℕ) (c : Computed) → is_in n asked ≡ true → standing w n ≡ IsComputed c → is_in n (visited vs) ≡ true
  pub closed : AreClosed hosts w vs

-- Each visited computed stands after the computeds that it reads, but for those that are being evaluated, and what is asked for or read is
-- visited.
abbrev pub PlacesLaw : Type 0
PlacesLaw = (hosts : Hosts) (w : Signals) (asked : List ℕ) → IsOrder hosts w asked (evaluation_order hosts w asked)
