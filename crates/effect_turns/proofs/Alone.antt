-- Bodies that belong to no effect.
use Rattle.std.proofs.Common.{ℕ, List, [], sym, ap}
use Rattle.signal_model.specs.Recipes.{Hosts}
use Rattle.signal_model.specs.Sound.{names_of}
use Rattle.effect_model.specs.Bodies.{Body, body_evaluation}
use Rattle.effect_model.specs.Worlds.{settle}
use Rattle.effect_runs.specs.Evaluations.{body_seen}
use Rattle.effect_tables.specs.Bodies.{body_of}
use Rattle.effect_tables.specs.declared.effect.Script.{Script}
use Rattle.effect_tables.specs.declared.links.Links.TheViews.{out-Links}
use Rattle.effect_teardown.specs.Sites.{IsPart, parts_of}
use Rattle.effect_teardown.proofs.SharedSites.{here_body, here_links, part_parts, part_seen}
use Rattle.effect_world.specs.Signals.{Scene}
use Rattle.effect_world.specs.Wholes.{whole_of}
use Rattle.effect_acts.specs.Alone.{AreCells}
use Rattle.sig_effect.specs.Stores.{environment}
use Rattle.sig_untrack.specs.Links.{Parts}
use Rattle.effect_turns.specs.Runs.{Runs}
use Rattle.effect_turns.proofs.Carried.{runs_as}

-- the path without places leads to the body of a script and its links
pub part_first : (s : Script) → IsPart s [] s.body s.links
part_first s = record { body = here_body s.body; links = here_links s.links }

-- the cells of its places are those of its targets
pub cells_first : (s : Script) → AreCells (parts_of 0 s []) (out-Links s.links).targets.items
cells_first s n = ap (λ (p : Parts). p.cells n) (part_parts s [] s.body s.links (part_first s) 0)

-- what it reads is what the plain body reads
pub heard_runs : (slacks : List ℕ) (s : Script) (old new : Scene) (before after : Hosts → Type 0) →
    Runs slacks old new before after
    (λ env. settle env (names_of (body_evaluation env.hosts old.world.graph.state.signals (body_seen (parts_of 0 s []) s.body (out-Links s.links).names.items)).reads)) →
    Runs slacks old new before after (λ env w. settle env (names_of (body_evaluation env.hosts w.signals (body_of 0 s [])).reads) w)
heard_runs slacks s old new before after r =
    runs_as slacks old new before after
    (λ env. settle env (names_of (body_evaluation env.hosts old.world.graph.state.signals (body_seen (parts_of 0 s []) s.body (out-Links s.links).names.items)).reads))
    (λ env w. settle env (names_of (body_evaluation env.hosts w.signals (body_of 0 s [])).reads) w)
    (λ hosts all sound.
    ap (λ (b : Body). settle (environment hosts slacks) (names_of (body_evaluation hosts old.world.graph.state.signals b).reads) (whole_of old.asked old.world))
    (sym (part_seen s [] s.body s.links (part_first s) 0)))
    r
