-- The walk that takes back what stands under a holder, step by step.
use Rattle.std.specs.Prelude.{◌≡◌, ℕ, zero, suc, ◌*◌, ◌-◌, ◌<◌, ◌≤◌, ◌==◌, ◌||◌, Bool, true, false, List, [], ◌∷◌, ◌++◌, map, length, take}
use Rattle.effect_model.specs.Owners.{Thing, Undoing, cleans, ends, same_thing}
use Rattle.sig_owner.specs.declared.thing.Undoing.{Undoing as AnUndoing}
use Rattle.sig_owner.specs.declared.thing.Undoing.TheVariants as undoing
use Rattle.sig_owner.specs.declared.walk.Pending.{Pending}
use Rattle.sig_owner.specs.declared.walk.Walk.{Walk}
use Rattle.sig_owner.specs.Tables.{Item, held, leaf, noted, Row, all_ended, changed_at, cleanup_of, emptied_row, items_at, live_at, thing_at, thing_of}

-- a step of taking back, by the things that the numbers stand for
abbrev pub undoing_of : (ℕ → Thing) → AnUndoing → Undoing
undoing_of names (undoing.Cleanup o c) = cleans (names o) (cleanup_of c)
undoing_of names (undoing.Gone t) = ends (thing_of t)

-- in order
abbrev pub undoings_of : (ℕ → Thing) → List AnUndoing → List Undoing
undoings_of names us = map (undoing_of names) us

-- whether a thing ends in these steps
abbrev pub is_ended : Thing → List Undoing → Bool
is_ended t [] = false
is_ended t (cleans u c ∷ us) = is_ended t us
is_ended t (ends u ∷ us) = same_thing t u || is_ended t us

-- a step of the walk: a cleanup is done or a thing without holdings ends; or a holder ends
pub data Step : Type 0 where
  does : Undoing → Step
  leaves : ℕ → Step

-- the steps at one item under a holder
abbrev pub item_steps : (ℕ → Thing) → (ℕ → List Step) → ℕ → Item → List Step
item_steps names below n (held m) = below m ++ leaves m ∷ []
item_steps names below n (leaf t) = does (ends t) ∷ []
item_steps names below n (noted c) = does (cleans (names n) c) ∷ []

-- the steps at the items under a holder, the last made first
abbrev pub items_steps : (ℕ → Thing) → (ℕ → List Step) → ℕ → List Item → List Step
items_steps names below n [] = []
items_steps names below n (i ∷ is) = items_steps names below n is ++ item_steps names below n i

-- the steps at what stands under a holder, on so many levels
abbrev pub steps_within : ℕ → List Row → ℕ → List Step
steps_within zero rows n = []
steps_within (suc levels) rows n = items_steps (thing_at rows) (steps_within levels rows) n (items_at rows n)

-- the steps at what stands under a holder
unfoldable pub steps_under : List Row → ℕ → List Step
steps_under rows n = steps_within (length rows) rows n

-- what a step undoes
abbrev pub step_undoing : (ℕ → Thing) → Step → Undoing
step_undoing names (does u) = u
step_undoing names (leaves m) = ends (names m)

-- in order
abbrev pub steps_undoings : (ℕ → Thing) → List Step → List Undoing
steps_undoings names ss = map (step_undoing names) ss

-- the holders that end
abbrev pub left_in : List Step → List ℕ
left_in [] = []
left_in (does u ∷ ss) = left_in ss
left_in (leaves m ∷ ss) = m ∷ left_in ss

-- the holders that end where what stands under one is taken back
abbrev pub ended_under : List Row → ℕ → List ℕ
ended_under rows n = left_in (steps_under rows n)

-- what stands under a holder is taken back: the holders there are gone, and nothing stands under it any more
abbrev pub with_taken_back : List Row → ℕ → List Row
with_taken_back rows n = changed_at emptied_row n (all_ended (ended_under rows n) rows)

-- ---- under way

-- the steps at the first so many items under a holder
abbrev pub steps_at : List Row → ℕ → ℕ → List Step
steps_at rows n count = items_steps (thing_at rows) (steps_under rows) n (take count (items_at rows n))

-- the steps from the end of an inner holder on, before those that are to follow
abbrev pub pending_steps : List Row → Pending → List Step → List Step
pending_steps rows p later = leaves p.inner ∷ (steps_at rows p.holder p.left ++ later)

-- the same of all that waits for an inner holder, the innermost last
abbrev pub unwound : List Row → List Step → List Pending → List Step
unwound rows later [] = later
unwound rows later (p ∷ ps) = unwound rows (pending_steps rows p later) ps

-- all steps that are left where so many items are left under a holder
abbrev pub rest_of : List Row → ℕ → ℕ → List Pending → List Step
rest_of rows n count ps = steps_at rows n count ++ unwound rows [] ps

-- whether a holder is among the items
abbrev pub is_held : ℕ → List Item → Bool
is_held m [] = false
is_held m (held k ∷ is) = (m == k) || is_held m is
is_held m (_ ∷ is) = is_held m is

-- What is held has a later number than its holder, and lives.
pub record IsTable (rows : List Row) : Type 0 where
  pub later : (n m : ℕ) → is_held m (items_at rows n) ≡ true → n < m
  pub lives : (n m : ℕ) → is_held m (items_at rows n) ≡ true → live_at rows m ≡ true

-- a frame speaks of items that are there and of a holder that lives
abbrev pub IsPending : List Row → Pending → Type 0
IsPending rows p = (p.left ≤ length (items_at rows p.holder)) × (live_at rows p.inner ≡ true)

-- the same of each
abbrev pub ArePending : List Row → List Pending → Type 0
ArePending rows [] = Unit {0}
ArePending rows (p ∷ ps) = IsPending rows p × ArePending rows ps

-- what a walk has undone and is still to undo
abbrev pub walk_undoings : List Row → List AnUndoing → List Step → List Undoing
walk_undoings rows done rest = undoings_of (thing_at rows) done ++ steps_undoings (thing_at rows) rest

-- the holders that a walk has left and is still to leave
abbrev pub closed : List ℕ → List Step → List ℕ
closed ended rest = ended ++ left_in rest

-- the steps that are left in a walk
abbrev pub rest : List Row → Walk → List Step
rest rows w = rest_of rows w.at w.left w.pending.items

-- A walk speaks of items that are there.
pub record IsWalk (rows : List Row) (w : Walk) : Type 0 where
  pub left : w.left ≤ length (items_at rows w.at)
  pub pending : ArePending rows w.pending.items

-- From one state of a walk to a later one nothing is lost.
pub record GoesOn (rows : List Row) (undoings later_undoings : List AnUndoing) (ended later_ended : List ℕ) (before after : List Step) : Type 0 where
  pub told : walk_undoings rows later_undoings after ≡ walk_undoings rows undoings before
  pub closed : closed later_ended after ≡ closed ended before

-- how much a walk has still to do
abbrev pub work : List Step → List Pending → ℕ
work steps ps = 2 * length steps - length ps
