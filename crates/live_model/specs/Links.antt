-- What the names in sources and in bodies stand for.
use Rattle.std.specs.Prelude.{ℕ, List, [], map, Option, Some, None, option_map, if◌then◌else◌}
use Rattle.std.specs.Str.{bytes_eq}
use Rattle.formula_text.specs.Slots.{Wiring}
use Rattle.signal_model.specs.Recipes.{Recipe, formula_recipe, host}
use Rattle.effect_model.specs.Bodies.{Body}
use Rattle.sig_untrack.specs.Stated.{Rewiring, Bodies, no_bodies, body}
use Rattle.effect_tables.specs.declared.links.Target.{Target}
use Rattle.effect_tables.specs.declared.links.Target.TheVariants as target
use Rattle.effect_tables.specs.declared.thing.Thing.{Thing}
use Rattle.effect_tables.specs.declared.thing.Thing.TheVariants as thing
use Rattle.effect_tables.specs.Bodies.{Linking, no_links, links, body_along}
use Rattle.tpl_blocks.specs.Blocks.{lines_of}
use Rattle.tpl_syntax.specs.Lines.{Plan}
use Rattle.live_cmd.specs.declared.command.SourceText.{SourceText}
use Rattle.live_cmd.specs.declared.command.SourceText.TheVariants as source
use Rattle.live_model.specs.declared.names.Kind.{Kind}
use Rattle.live_model.specs.declared.names.Kind.TheVariants as kind
use Rattle.live_model.specs.declared.names.Meaning.{Meaning}
use Rattle.live_model.specs.Names.{Names, meaning_of, number_of}
use Rattle.live_model.specs.Pages.{Template}

-- a formula whose slots stand for the signals of its names
abbrev pub linked : Names → Wiring → Recipe
linked names w = formula_recipe w.0 (map (number_of names) w.1)

-- what a computed is computed by: a formula, or a host formula on the signals of these names
abbrev pub recipe_of : Names → SourceText → Recipe
recipe_of names (source.Formula w) = linked names w
recipe_of names (source.Host place arguments) = record { expression = host place; slots = map (number_of names) arguments }

-- a template whose names stand for signals
abbrev pub linked_template : Names → Plan → Template
linked_template names t = record { lines = lines_of t; links = map (number_of names) t.names }

-- the owner inside which something is made
abbrev pub owner_of : Names → Option (List ℕ) → Option ℕ
owner_of names inside = option_map (number_of names) inside

-- ---- bodies

-- the thing of a kind and a number; no body acts on a template
abbrev pub thing_meant : Kind → ℕ → Thing
thing_meant kind.Cell n = thing.Signal n
thing_meant kind.List n = thing.Signal n
thing_meant kind.Computed n = thing.Signal n
thing_meant kind.Owner n = thing.Owner n
thing_meant kind.Effect n = thing.Effect n
thing_meant kind.Watcher n = thing.Watcher n
thing_meant kind.Page n = thing.Page n
thing_meant kind.Template n = thing.Signal 0

-- the thing that a name stands for; no body acts on what wasn't made
abbrev pub thing_or_none : Option Meaning → Thing
thing_or_none None = thing.Signal 0
thing_or_none (Some m) = thing_meant m.kind m.number

-- what a statement acts on, in a body of the effect that has its own name
abbrev pub target_named : Names → List ℕ → List ℕ → Target
target_named names own n = if bytes_eq own n then target.This else target.Thing (thing_or_none (meaning_of names n))

-- what the places of bodies stand for, by the names that stand there
abbrev pub links_of : Names → List ℕ → Bodies → Linking
links_of names own no_bodies = no_links
links_of names own (body ss targets signals inner rewirings others) =
    links (map (number_of names) signals) (map (target_named names own) targets) (links_of names own inner)
    (map (λ (r : Rewiring). map (number_of names) r.names) rewirings) (links_of names own others)

-- the body of a handler, which belongs to no effect: no name is that of its own
abbrev pub linked_alone : Names → Bodies → Body
linked_alone names b = body_along 0 b (links_of names [] b) 0 []

-- the body of the effect of a number that has its own name
abbrev pub linked_body : Names → List ℕ → ℕ → Bodies → Body
linked_body names own e b = body_along e b (links_of names own b) 0 []
