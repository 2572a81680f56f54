-- What the program holds, as the definitions speak of it.
use Rattle.std.specs.Prelude.{List, [], ◌∷◌, map, Option, Some, None, option_map}
use Rattle.effect_world.specs.Wholes.{whole_of}
use Rattle.effect_model.specs.Batches.{Batch}
use Rattle.effect_tables.specs.declared.effect.Script.{Script}
use Rattle.event_model.specs.declared.awaited.Awaited.{Awaited}
use Rattle.sig_host.specs.Hosts.{HostPlace}
use Rattle.sig_state.specs.Batches.{Collected}
use Rattle.live_firing.specs.Stages.{script_body}
use Rattle.live_model.specs.Handlers.{Handler}
use Rattle.live_model.specs.Machine as plain
use Rattle.live_labels.specs.Views.{labels_of}
use Rattle.live_pages.specs.Views.{page_of, template_of}
use Rattle.live_core.specs.declared.machine.Machine.{Machine}

-- the batch that is open, if one is
abbrev pub batch_of : Option Collected → Option Batch
batch_of b = option_map (λ (c : Collected). c.changed) b

-- the handlers that wait for these, each with the body of its script
abbrev pub handlers_of : List Awaited → List Script → List Handler
handlers_of [] ss = []
handlers_of (a ∷ as') [] = record { awaited = a; body = script_body None } ∷ handlers_of as' []
handlers_of (a ∷ as') (s ∷ ss) = record { awaited = a; body = script_body (Some s) } ∷ handlers_of as' ss

-- the plain machine that a machine stands for, beside what is known of the places of host formulas
abbrev pub plain_of : List HostPlace → Machine → plain.Machine
plain_of asked m = record {
  names = m.names;
  labels = labels_of m.labels;
  world = whole_of asked m.world;
  batch = batch_of m.batch;
  journal = m.journal;
  templates = map template_of m.templates.items;
  handlers = handlers_of m.handlers m.scripts.items;
  pages = map page_of m.pages.items;
}
