-- What taking back leaves of the store and of the tables.
use Rattle.std.specs.Prelude.{◌≡◌, ℕ, ◌&&◌, not, true, false, List, None}
use Rattle.std.specs.List.{AllByRecursion}
use Rattle.effect_model.specs.Owners.{Thing, Owned, Undoing, disposal_of, emptied, taken_out, teardown_of, under}
use Rattle.effect_model.specs.Worlds.{World}
use Rattle.effect_laws.specs.Frames.{ended_all}
use Rattle.sig_owner.specs.Tables.{Row, live_at, thing_at}
use Rattle.sig_owner.specs.Trees.{has_thing, owned_of}
use Rattle.sig_owner.specs.Walks.{is_ended}
use Rattle.effect_tables.specs.declared.tables.Tables.{Tables}
use Rattle.effect_tables.specs.Consistency.{AreAbsent, AreLiving, TablesAgree, LeavesOut}
use Rattle.effect_tables.specs.Things.{noted}
use Rattle.effect_tables.specs.Placed.{placed, tree_of}
use Rattle.effect_teardown.specs.Ends.{effects_after, owners_after, pages_after, things_after}
use Rattle.effect_teardown.specs.Trees.{AreFormed, OnEffects}

-- In the store these steps were done: what ends no longer lives, what lives is what it was, and what stood nowhere stands nowhere; effects'
-- rows live, and owners that are gone stand nowhere, as before. This is left of what stood.
pub record EndsIn (rows later : List Row) (us : List Undoing) (left : Owned) : Type 0 where
  pub things : (k : ℕ) → live_at later k ≡ true → thing_at later k ≡ thing_at rows k
  pub effects : AreLiving rows → AreLiving later
  pub gone : AreAbsent rows → AreAbsent later
  pub lives : (k : ℕ) → live_at later k ≡ (live_at rows k && not (is_ended (thing_at rows k) us))
  pub nowhere : (t : Thing) → has_thing t (owned_of rows) ≡ false → has_thing t (owned_of later) ≡ false
  pub tree : owned_of later ≡ left

-- What ends in these steps is out of the tables beside the store, and all else is as before.
pub record Ends (old new : Tables) (us : List Undoing) : Type 0 where
  pub store : new.store ≡ old.store
  pub things : (k : ℕ) → noted new.things k ≡ things_after us old.owners.items old.effects.items (noted old.things) k
  pub owners : new.owners.items ≡ owners_after us old.owners.items
  pub effects : new.effects.items ≡ effects_after us old.effects.items
  pub pages : new.pages.items ≡ pages_after us old.pages.items
  pub effects_made : new.effects_made ≡ old.effects_made
  pub pages_made : new.pages_made ≡ old.pages_made

-- These steps were taken out of the tables: what ends in them is out, and this is left of what stood.
pub record Takes (old new : Tables) (us : List Undoing) (left : Owned) : Type 0 where
  pub does : (w : World) → placed new w ≡ ended_all us (record (placed old w) { owned = left })
  pub tree : tree_of new ≡ left
  pub holds : TablesAgree new
  pub formed : AreFormed left
  pub signals : LeavesOut None old.store new.store
  pub made : new.effects_made ≡ old.effects_made

-- What stood under a thing was taken back. Each cleanup is that of an effect.
pub record TakesBack (old new : Tables) (t : Thing) (us : List Undoing) : Type 0 where
  pub steps : us ≡ teardown_of t (under t (tree_of old))
  pub takes : Takes old new us (emptied t (tree_of old))
  pub cleanups : AllByRecursion OnEffects us

-- A thing was taken out, with what stood under it. Each cleanup is that of an effect.
pub record TakesOut (old new : Tables) (t : Thing) (us : List Undoing) : Type 0 where
  pub steps : us ≡ disposal_of t (tree_of old)
  pub takes : Takes old new us (taken_out t (tree_of old))
  pub cleanups : AllByRecursion OnEffects us
