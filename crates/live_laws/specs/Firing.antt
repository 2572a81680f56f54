-- What a firing of an event comes to.
use Rattle.std.specs.Prelude.{◌≡◌, ℕ, List}
use Rattle.effect_model.specs.Worlds.{Environment}
use Rattle.live_cmd.specs.declared.command.Command.TheVariants as command
use Rattle.live_model.specs.Handlers.{Handling, fired_of, handlings_of}
use Rattle.live_model.specs.Journals.{noting}
use Rattle.live_model.specs.Machine.{Machine, Told, done, firing, page_at}
use Rattle.live_model.specs.Names.{number_of}
use Rattle.live_laws.specs.Events.{deeds_of_fired}
use Rattle.live_laws.specs.Rested.{rested_after, told_by}

-- Names, templates, handlers, pages and the batch are as before; and so are the owners and pages that live, and the effects, with what each tracks.
pub record LeavesBeside (m n : Machine) : Type 0 where
  pub names : n.names ≡ m.names
  pub templates : n.templates ≡ m.templates
  pub handlers : n.handlers ≡ m.handlers
  pub pages : n.pages ≡ m.pages
  pub batch : n.batch ≡ m.batch
  pub owners : n.world.owners ≡ m.world.owners
  pub effects : n.world.effects ≡ m.world.effects
  pub live : n.world.pages ≡ m.world.pages

-- These handlers ran, in this order and each once; the world has come to what they ask for and do, one after the other, which is noted once a
-- journal was begun; and all else is as before.
pub record Fires (env : Environment) (m : Machine) (page : List ℕ) (hs : List Handling) (t : Told) : Type 0 where
  pub told : t ≡ firing env m page hs
  pub world : t.machine.world ≡ rested_after env m.world (deeds_of_fired env hs m.world)
  pub noted : t.machine.journal ≡ noting (told_by env m.world (deeds_of_fired env hs m.world)) m.journal
  pub beside : LeavesBeside m t.machine

-- those that run are those that wait along the way from the node up to a child of the root, the innermost first
abbrev pub FireLaw : Type 0
FireLaw = (env : Environment) (m : Machine) (page : List ℕ) (node : ℕ) (event : List ℕ) →
    Fires env m page (handlings_of m.handlers (fired_of m.handlers (page_at m.pages (number_of m.names page)) node event))
    (done env m (command.Fire page node event))
