-- The holders of a store as rows by number, and edits of one row.
use Rattle.std.specs.Prelude.{◌≡◌, ℕ, zero, suc, ◌+◌, ◌&&◌, Bool, true, false, List, [], ◌∷◌, ◌++◌, map, length, Option, Some, None, if◌then◌else◌}
use Rattle.sig_base.specs.Values.{scalar_value}
use Rattle.effect_model.specs.Owners.{Thing, the_signal, the_owner, the_effect, the_page, same_thing, Cleanup, sets, logs}
use Rattle.sig_owner.specs.declared.thing.Thing.{Thing as AThing}
use Rattle.sig_owner.specs.declared.thing.Thing.TheVariants as a
use Rattle.sig_owner.specs.declared.thing.CleanupAct.{CleanupAct}
use Rattle.sig_owner.specs.declared.thing.CleanupAct.TheVariants as act
use Rattle.sig_owner.specs.declared.holder.Made.{Made}
use Rattle.sig_owner.specs.declared.holder.Made.TheVariants as made
use Rattle.sig_owner.specs.declared.holder.Holder.{Holder}

-- a thing of the program as one of the definitions
abbrev pub thing_of : AThing → Thing
thing_of (a.Node n) = the_signal n
thing_of (a.Effect n) = the_effect n
thing_of (a.Page n) = the_page n
thing_of (a.Owner n) = the_owner n

-- a cleanup of the program as one of the definitions
abbrev pub cleanup_of : CleanupAct → Cleanup
cleanup_of (act.Set n s) = sets n (scalar_value s)
cleanup_of (act.Log v) = logs v

-- what was made under a holder: another holder by its number, a thing that holds nothing, or a cleanup
pub data Item : Type 0 where
  held : ℕ → Item
  leaf : Thing → Item
  noted : Cleanup → Item

-- an owner or an effect: which it is; the number of the holder in which it stands, none at the top; whether it lives; what was made under it,
-- in order
pub record Row : Type 0 where
  pub holder : Thing
  pub above : Option ℕ
  pub live : Bool
  pub items : List Item

-- what was made, as an item
abbrev pub item_of : Made → Item
item_of (made.Held n) = held n
item_of (made.Leaf t) = leaf (thing_of t)
item_of (made.Cleanup c) = noted (cleanup_of c)

-- in order
abbrev pub items_of : List Made → List Item
items_of ms = map item_of ms

-- what is gone, and what is past the last row
abbrev pub no_row : Row
no_row = record { holder = the_owner 0; above = None; live = false; items = [] }

-- the row of what a holder has
abbrev pub row_with : AThing → Option ℕ → List Made → Row
row_with t above ms = record { holder = thing_of t; above = above; live = true; items = items_of ms }

-- a holder as a row
abbrev pub row_of : Holder → Row
row_of h = row_with h.thing h.above h.made.items

-- what stands under a number as a row
abbrev pub entry_row : Option Holder → Row
entry_row None = no_row
entry_row (Some h) = row_of h

-- the same of each number
abbrev pub rows_of : List (Option Holder) → List Row
rows_of es = map entry_row es

-- a row as it is made
abbrev pub above_row : Thing → Option ℕ → Row
above_row t above = record { holder = t; above = above; live = true; items = [] }

-- ---- one row

-- the row of a number
abbrev pub row_at : List Row → ℕ → Row
row_at [] n = no_row
row_at (r ∷ rs) zero = r
row_at (r ∷ rs) (suc n) = row_at rs n

-- whether what has a number lives
abbrev pub live_at : List Row → ℕ → Bool
live_at rows n = (row_at rows n).live

-- what was made under it
abbrev pub items_at : List Row → ℕ → List Item
items_at rows n = (row_at rows n).items

-- which thing it is
abbrev pub thing_at : List Row → ℕ → Thing
thing_at rows n = (row_at rows n).holder

-- in which holder it stands, none at the top
abbrev pub above_at : List Row → ℕ → Option ℕ
above_at rows n = (row_at rows n).above

-- the row of a number changes
abbrev pub changed_at : (Row → Row) → ℕ → List Row → List Row
changed_at f n [] = []
changed_at f zero (r ∷ rs) = f r ∷ rs
changed_at f (suc n) (r ∷ rs) = r ∷ changed_at f n rs

-- one more is made under a row
abbrev pub with_item : Item → Row → Row
with_item i r = record r { items = r.items ++ i ∷ [] }

-- nothing stands under a row any more
abbrev pub emptied_row : Row → Row
emptied_row r = record r { items = [] }

-- a row is gone, and nothing of it is left
abbrev pub ended_row : Row → Row
ended_row r = no_row

-- ---- owners

-- whether a thing is an owner
abbrev pub is_owner : Thing → Bool
is_owner (the_owner n) = true
is_owner _ = false

-- whether a row is that of an owner that lives
abbrev pub is_owner_row : Row → Bool
is_owner_row r = r.live && is_owner r.holder

-- how many owners live, those of effects not counted
abbrev pub owner_count : List Row → ℕ
owner_count [] = 0
owner_count (r ∷ rs) = (if is_owner_row r then 1 else 0) + owner_count rs

-- whether more can be made there: at the top, or inside a holder that lives
abbrev pub is_open : List Row → Option ℕ → Bool
is_open rows None = true
is_open rows (Some n) = live_at rows n

-- an item is put last under the holder that is given, if any
abbrev pub put_inside : Option ℕ → Item → List Row → List Row
put_inside None i rows = rows
put_inside (Some n) i rows = changed_at (with_item i) n rows

-- one holder more, whose number is the next
abbrev pub with_holder : List Row → Option ℕ → Thing → List Row
with_holder rows inside t = put_inside inside (held (length rows)) rows ++ above_row t inside ∷ []

-- these holders are gone
abbrev pub all_ended : List ℕ → List Row → List Row
all_ended [] rows = rows
all_ended (n ∷ ns) rows = all_ended ns (changed_at ended_row n rows)

-- ---- one thing taken out

-- whether an item is this thing, by the things that the numbers stand for
abbrev pub is_of : (ℕ → Thing) → Thing → Item → Bool
is_of names t (held m) = same_thing t (names m)
is_of names t (leaf u) = same_thing t u
is_of names t (noted c) = false

-- the items that aren't this thing
abbrev pub without : (ℕ → Thing) → Thing → List Item → List Item
without names t [] = []
without names t (i ∷ is) = if is_of names t i then without names t is else i ∷ without names t is

-- whether a row is this thing, and lives
abbrev pub is_row_of : Thing → Row → Bool
is_row_of t r = r.live && same_thing t r.holder

-- a row after a thing is taken out: it is gone where it is that thing, else the thing stands under it no more
abbrev pub dropped_row : (ℕ → Thing) → Thing → Row → Row
dropped_row names t r = if is_row_of t r then ended_row r else record r { items = without names t r.items }

-- a thing and nothing else is taken out
abbrev pub dropped : Thing → List Row → List Row
dropped t rows = map (dropped_row (thing_at rows) t) rows

-- nothing stands under a thing
abbrev pub IsBare : List Row → Thing → Type 0
IsBare rows t = (n : ℕ) → live_at rows n ≡ true → same_thing t (thing_at rows n) ≡ true → items_at rows n ≡ []
