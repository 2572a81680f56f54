-- What ends in the steps of a teardown goes out of the tables.
use Rattle.std.specs.Prelude.{ℕ, ◌==◌, not, List, [], ◌∷◌, Option, Some, None, if◌then◌else◌}
use Rattle.std.specs.List.{filter}
use Rattle.effect_model.specs.Owners.{the_owner, the_effect, the_page, Undoing, ends}
use Rattle.sig_store.specs.Stored.{entry}
use Rattle.effect_tables.specs.declared.effect.Effect.{Effect}
use Rattle.effect_tables.specs.declared.thing.Thing.{Thing}
use Rattle.effect_tables.specs.Owners.{closed_at}
use Rattle.effect_teardown.specs.Rows.{effect_row}

-- the owners after one step
abbrev pub owners_without : Undoing → List (Option ℕ) → List (Option ℕ)
owners_without (ends (the_owner n)) es = closed_at n es
owners_without _ es = es

-- the effects that live after it
abbrev pub effects_without : Undoing → List Effect → List Effect
effects_without (ends (the_effect n)) xs = filter (λ x. not (n == x.id)) xs
effects_without _ xs = xs

-- the pages that live after it
abbrev pub pages_without : Undoing → List ℕ → List ℕ
pages_without (ends (the_page n)) ns = filter (λ m. not (n == m)) ns
pages_without _ ns = ns

-- what is noted of rows, but for the one that is given, if any
abbrev pub forgotten : Option ℕ → (ℕ → Option Thing) → ℕ → Option Thing
forgotten None f k = f k
forgotten (Some r) f k = if r == k then None else f k

-- what is noted of rows after one step, by the owners and the effects before it
abbrev pub things_without : Undoing → List (Option ℕ) → List Effect → (ℕ → Option Thing) → ℕ → Option Thing
things_without (ends (the_owner n)) es xs f k = forgotten (entry es n) f k
things_without (ends (the_effect n)) es xs f k = forgotten (effect_row n xs) f k
things_without _ es xs f k = f k

-- the same after steps in order
abbrev pub owners_after : List Undoing → List (Option ℕ) → List (Option ℕ)
owners_after [] es = es
owners_after (u ∷ us) es = owners_after us (owners_without u es)

abbrev pub effects_after : List Undoing → List Effect → List Effect
effects_after [] xs = xs
effects_after (u ∷ us) xs = effects_after us (effects_without u xs)

abbrev pub pages_after : List Undoing → List ℕ → List ℕ
pages_after [] ns = ns
pages_after (u ∷ us) ns = pages_after us (pages_without u ns)

abbrev pub things_after : List Undoing → List (Option ℕ) → List Effect → (ℕ → Option Thing) → ℕ → Option Thing
things_after [] es xs f k = f k
things_after (u ∷ us) es xs f k = things_after us (owners_without u es) (effects_without u xs) (things_without u es xs f) k
