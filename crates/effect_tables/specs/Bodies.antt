-- What the places of a body stand for, and the plain body that they make of it.
use Rattle.std.specs.Prelude.{ℕ, zero, suc, List, [], ◌∷◌, map, slice_get, Option, Some, None}
use Rattle.signal_model.specs.Recipes.{Expression, formula, host}
use Rattle.effect_model.specs.Owners as things
use Rattle.effect_model.specs.Bodies as plain
use Rattle.sig_owner.specs.Tables.{cleanup_of}
use Rattle.sig_untrack.specs.Links.{Parts, Rewired, linked}
use Rattle.sig_untrack.specs.Stated as stated
use Rattle.sig_untrack.specs.Stated.{Bodies, Rewiring, Source, no_bodies, body, before}
use Rattle.effect_tables.specs.declared.thing.Thing.{Thing}
use Rattle.effect_tables.specs.declared.thing.Thing.TheVariants as a
use Rattle.effect_tables.specs.declared.thing.Undoing.{Undoing}
use Rattle.effect_tables.specs.declared.thing.Undoing.TheVariants as undoing
use Rattle.effect_tables.specs.declared.links.Target.{Target}
use Rattle.effect_tables.specs.declared.links.Target.TheVariants as target
use Rattle.effect_tables.specs.declared.links.Slots.{Slots}
use Rattle.effect_tables.specs.declared.links.Links.{Links}
use Rattle.effect_tables.specs.declared.links.Links.TheOpen.{Links-F}
use Rattle.effect_tables.specs.declared.links.Links.TheFolds.{fold-Links}
use Rattle.effect_tables.specs.declared.effect.Script.{Script}

-- a thing as the definitions have it
abbrev pub thing_of : Thing → things.Thing
thing_of (a.Signal n) = things.the_signal n
thing_of (a.Owner n) = things.the_owner n
thing_of (a.Effect n) = things.the_effect n
thing_of (a.Page n) = things.the_page n
thing_of (a.Watcher n) = things.the_watcher n

-- a step of taking back as the definitions have it
abbrev pub undoing_of : Undoing → things.Undoing
undoing_of (undoing.Cleanup t c) = things.cleans (thing_of t) (cleanup_of c)
undoing_of (undoing.Gone t) = things.ends (thing_of t)

-- in order
abbrev pub undoings_of : List Undoing → List things.Undoing
undoings_of us = map undoing_of us

-- ---- links, apart from where they lie in memory

-- links one after the other: of the first its names, its targets, those of its nested effects and its rewirings, and then the others
pub data Linking : Type 0 where
  no_links : Linking
  links : List ℕ → List Target → Linking → List (List ℕ) → Linking → Linking

-- links before others
abbrev pub all_before : List (Linking → Linking) → Linking → Linking
all_before [] rest = rest
all_before (l ∷ ls) rest = l (all_before ls rest)

-- links before others, where of those of nested effects it is known how they stand before others
abbrev pub links_step : Links-F (Linking → Linking) → Linking → Linking
links_step l rest =
    links l.names.items l.targets.items (all_before l.inner.items no_links) (map (λ (s : Slots). s.ids.items) l.rewires.items) rest

-- the program's links before others
abbrev pub links_before : Links → Linking → Linking
links_before = fold-Links (Linking → Linking) links_step

-- ---- bodies with their links

-- what a target stands for, in a body of this named effect
abbrev pub target_thing : ℕ → Option Target → things.Thing
target_thing origin None = things.the_signal 0
target_thing origin (Some (target.Thing t)) = thing_of t
target_thing origin (Some target.This) = things.the_effect origin

-- the number of a signal
abbrev pub signal_number : things.Thing → ℕ
signal_number (things.the_signal n) = n
signal_number _ = 0

-- what a source computes by
abbrev pub expression_of : Source → Expression
expression_of (stated.formula t) = formula None t
expression_of (stated.host place) = host place

-- the rewiring of a place, by what its target and its names stand for
abbrev pub rewired : (ℕ → things.Thing) → Option Rewiring → Option (List ℕ) → Rewired
rewired thing None _ = record { target = 0; recipe = record { expression = host 0; slots = [] } }
rewired thing (Some r) None = record { target = 0; recipe = record { expression = host 0; slots = [] } }
rewired thing (Some r) (Some slots) =
    record { target = signal_number (thing r.target); recipe = record { expression = expression_of r.source; slots = slots } }

-- a body of no statements
abbrev pub no_body : plain.Body
no_body = record { statements = plain.no_more; names = [] }

-- the body of a place
abbrev pub body_or_none : Option plain.Body → plain.Body
body_or_none None = no_body
body_or_none (Some b) = b

-- what the places of a body stand for, where it is known of its nested effects
abbrev pub parts : ℕ → List Target → List plain.Body → List Rewiring → List (List ℕ) → Parts
parts origin targets bodies rewirings slots =
    let thing : ℕ → things.Thing = λ n. target_thing origin (slice_get targets n) in
    record {
      cells = λ n. signal_number (thing n);
      things = thing;
      bodies = λ n. body_or_none (slice_get bodies n);
      rewirings = λ n. rewired thing (slice_get rewirings n) (slice_get slots n);
    }

-- the plain bodies that links make of bodies, each by its own
abbrev pub linked_bodies : ℕ → Bodies → Linking → List plain.Body
linked_bodies origin no_bodies _ = []
linked_bodies origin (body ss targets names inner rewires rest) no_links = []
linked_bodies origin (body ss targets names inner rewires rest) (links ns ts ls slots more) =
    record { statements = linked (parts origin ts (linked_bodies origin inner ls) rewires slots) ss; names = ns } ∷ linked_bodies origin rest more

-- the nested bodies of the one at a place, and their links
abbrev pub bodies_in : Bodies → ℕ → Bodies
bodies_in no_bodies n = no_bodies
bodies_in (body ss targets names inner rewires rest) zero = inner
bodies_in (body ss targets names inner rewires rest) (suc n) = bodies_in rest n

abbrev pub links_in : Linking → ℕ → Linking
links_in no_links n = no_links
links_in (links ns ts ls slots more) zero = ls
links_in (links ns ts ls slots more) (suc n) = links_in more n

-- the body to which places of nested effects lead, the first place being one of these
abbrev pub body_along : ℕ → Bodies → Linking → ℕ → List ℕ → plain.Body
body_along origin bs ls n [] = body_or_none (slice_get (linked_bodies origin bs ls) n)
body_along origin bs ls n (m ∷ path) = body_along origin (bodies_in bs n) (links_in ls n) m path

-- the plain body of a script, at the end of a path of nested effects
abbrev pub body_of : ℕ → Script → List ℕ → plain.Body
body_of origin s path = body_along origin (before s.body no_bodies) (links_before s.links no_links) 0 path
