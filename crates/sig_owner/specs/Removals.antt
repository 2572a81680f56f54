-- Items taken out of one row.
use Rattle.std.specs.Prelude.{ℕ, ◌==◌, Bool, false, not, List, filter, Option, Some, None}
use Rattle.effect_model.specs.Owners.{same_thing}
use Rattle.sig_owner.specs.declared.thing.Thing.{Thing}
use Rattle.sig_owner.specs.Tables.{Item, held, leaf, Row, changed_at, thing_of}

-- whether an item is this thing, which holds nothing
abbrev pub is_leaf_of : Thing → Item → Bool
is_leaf_of t (leaf u) = same_thing (thing_of t) u
is_leaf_of t _ = false

-- whether an item is this holder
abbrev pub is_held_of : ℕ → Item → Bool
is_held_of n (held m) = m == n
is_held_of n _ = false

-- a row without the items of a kind
abbrev pub sifted_row : (Item → Bool) → Row → Row
sifted_row is_out r = record r { items = filter (λ i. not (is_out i)) r.items }

-- the rows without those items of the one that is given, if any
abbrev pub sifted_inside : Option ℕ → (Item → Bool) → List Row → List Row
sifted_inside None is_out rows = rows
sifted_inside (Some n) is_out rows = changed_at (sifted_row is_out) n rows
