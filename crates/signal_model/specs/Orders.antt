-- The order in which computeds are evaluated.
use Rattle.std.specs.Prelude.{ℕ, zero, suc, ◌||◌, Bool, List, [], ◌∷◌, ◌++◌, map, if◌then◌else◌}
use Rattle.signal_model.specs.Recipes.{Hosts}
use Rattle.signal_model.specs.Signals.{Computed, Signals, Stands, IsComputed, is_in, standing}
use Rattle.signal_model.specs.Values.{Seen, names_left, reads_of}

-- a computed at its place in the order, and the path by which it was come to
pub record Visit : Type 0 where
  pub computed : Computed
  pub path : List ℕ

-- the names of the visited
abbrev pub visited : List Visit → List ℕ
visited vs = map (λ (v : Visit). v.computed.name) vs

-- one visit after another
abbrev pub visits : (ℕ → List Visit → List Visit) → List Seen → List Visit → List Visit
visits go [] done = done
visits go (s ∷ ss) done = visits go ss (go s.name done)

-- a visit does something only for a computed that is neither on the path nor visited
abbrev pub visit_case : Stands → Bool → List Visit → (Computed → List Visit) → List Visit
visit_case (IsComputed c) passed done rest = if passed then done else rest c
visit_case _ passed done rest = done

-- a visit at a depth of at most so many computeds: first what the computed reads, and then itself
abbrev pub visit_within : ℕ → Hosts → Signals → List ℕ → ℕ → List Visit → List Visit
visit_within zero hosts w path n done = done
visit_within (suc depth) hosts w path n done =
    visit_case (standing w n) (is_in n path || is_in n (visited done)) done
    (λ c. visits (visit_within depth hosts w (n ∷ path)) (reads_of hosts w c) done ++ record { computed = c; path = path } ∷ [])

-- A visit of a name, come to by a path of computeds that are being visited. Below a computed one name fewer is left, so the bound is
-- never met.
abbrev pub visit : Hosts → Signals → List ℕ → ℕ → List Visit → List Visit
visit hosts w path n done = visit_within (suc (names_left w.computeds path)) hosts w path n done

-- the names that are asked for, one after the other
abbrev pub order_after : Hosts → Signals → List ℕ → List Visit → List Visit
order_after hosts w [] done = done
order_after hosts w (n ∷ ns) done = order_after hosts w ns (visit hosts w [] n done)

-- the computeds that asking for these names evaluates, in order
abbrev pub evaluation_order : Hosts → Signals → List ℕ → List Visit
evaluation_order hosts w asked = order_after hosts w asked []
