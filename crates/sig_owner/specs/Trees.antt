-- The trees that a store's rows stand for.
use Rattle.std.specs.Prelude.{ℕ, zero, suc, ◌+◌, ◌&&◌, ◌||◌, not, Bool, false, List, [], ◌∷◌, length, Option, Some, None, is_some, if◌then◌else◌}
use Rattle.effect_model.specs.Owners.{Thing, Owned, nothing, thing, cleanup, alone, put_under, same_thing}
use Rattle.sig_owner.specs.Tables.{Item, held, leaf, noted, Row, items_at, thing_at}

-- one item above those that were made earlier, with what stands under it where it is a holder
abbrev pub laid : (ℕ → Thing) → (ℕ → Owned) → Item → Owned → Owned
laid names below (held m) earlier = thing (names m) (below m) earlier
laid names below (leaf t) earlier = thing t nothing earlier
laid names below (noted c) earlier = cleanup c earlier

-- items in order above those that were made earlier
abbrev pub piled : (ℕ → Thing) → (ℕ → Owned) → List Item → Owned → Owned
piled names below [] earlier = earlier
piled names below (i ∷ is) earlier = piled names below is (laid names below i earlier)

-- what stands under a holder, on so many levels
abbrev pub under_within : ℕ → List Row → ℕ → Owned
under_within zero rows n = nothing
under_within (suc levels) rows n = piled (thing_at rows) (under_within levels rows) (items_at rows n) nothing

-- what stands under a holder
unfoldable pub stands_under : List Row → ℕ → Owned
stands_under rows n = under_within (length rows) rows n

-- whether a row lives and stands at the top
abbrev pub is_top : Row → Bool
is_top r = r.live && not (is_some r.above)

-- the holders at the top, from one number on
abbrev pub top_items : ℕ → List Row → List Item
top_items n [] = []
top_items n (r ∷ rs) = if is_top r then held n ∷ top_items (n + 1) rs else top_items (n + 1) rs

-- All that stands, the last made first. A node or a page that no owner has isn't listed.
unfoldable pub owned_of : List Row → Owned
owned_of rows = piled (thing_at rows) (stands_under rows) (top_items 0 rows) nothing

-- a holder is made: inside the one of a number where one is given, else at the top
abbrev pub made_in : List Row → Option ℕ → Thing → Owned → Owned
made_in rows None t owned = thing t nothing owned
made_in rows (Some n) t owned = put_under (thing_at rows n) (alone t) owned

-- whether a thing stands somewhere
abbrev pub has_thing : Thing → Owned → Bool
has_thing t nothing = false
has_thing t (thing u made earlier) = same_thing t u || (has_thing t made || has_thing t earlier)
has_thing t (cleanup c earlier) = has_thing t earlier
