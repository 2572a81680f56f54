use Rattle.std.proofs.Common.{◌∙◌, List, is_some, map, sym}
use Rattle.sig_host.specs.Hosts.{HostPlace}
use Rattle.sig_effect.specs.Stores.{environment}
use Rattle.live_pages.specs.Views.{template_of}
use Rattle.live_pages.proofs.Shared.{all_standing}
use Rattle.live_core.specs.Views.{plain_of}
use Rattle.live_core.proofs.Shared.{did_all}
use Rattle.live_items.proofs.Refused.{did_so_for, fine_here, refused_for, refused_step, unrefused_batch, unrefused_last, unrefused_names, unrefused_rows}
use Rattle.live_items.proofs.commands.try_command.Goals as goal

pub perform-requires-clause-fine : goal.perform-requires-clause-fine
perform-requires-clause-fine g c =
    let m = c.args.machine.now in
    let asked : List HostPlace = map (λ p. record { there = is_some p.host; asks = p.count }) c.args.shelf.now.places.items in
    let why = rw c.in-Ok.is at c.refusal_of.ensures in
    fine_here asked m c.args.command (unrefused_names (map (λ r. r.slack) c.args.rules.now) (plain_of asked m) c.args.command (sym why ∙ c.in_default-refusal.is))

pub perform-requires-clause-batch : goal.perform-requires-clause-batch
perform-requires-clause-batch g c =
    let asked : List HostPlace = map (λ p. record { there = is_some p.host; asks = p.count }) c.args.shelf.now.places.items in
    let why = rw c.in-Ok.is at c.refusal_of.ensures in
    unrefused_batch (map (λ r. r.slack) c.args.rules.now) (plain_of asked c.args.machine.now) c.args.command (sym why ∙ c.in_default-refusal.is)

pub perform-requires-clause-rows : goal.perform-requires-clause-rows
perform-requires-clause-rows g c =
    let asked : List HostPlace = map (λ p. record { there = is_some p.host; asks = p.count }) c.args.shelf.now.places.items in
    let why = rw c.in-Ok.is at c.refusal_of.ensures in
    unrefused_rows (map (λ r. r.slack) c.args.rules.now) (plain_of asked c.args.machine.now) c.args.command (sym why ∙ c.in_default-refusal.is)

pub perform-requires-clause-room : goal.perform-requires-clause-room
perform-requires-clause-room g c =
    let asked : List HostPlace = map (λ p. record { there = is_some p.host; asks = p.count }) c.args.shelf.now.places.items in
    let why = rw c.in-Ok.is at c.refusal_of.ensures in
    (unrefused_last (map (λ r. r.slack) c.args.rules.now) (plain_of asked c.args.machine.now) c.args.command (sym why ∙ c.in_default-refusal.is)).0

pub perform-requires-clause-watched : goal.perform-requires-clause-watched
perform-requires-clause-watched g c =
    let asked : List HostPlace = map (λ p. record { there = is_some p.host; asks = p.count }) c.args.shelf.now.places.items in
    let why = rw c.in-Ok.is at c.refusal_of.ensures in
    (unrefused_last (map (λ r. r.slack) c.args.rules.now) (plain_of asked c.args.machine.now) c.args.command (sym why ∙ c.in_default-refusal.is)).1

pub returns-in-Ok-perform : goal.returns-in-Ok-perform
returns-in-Ok-perform g c =
    let why = rw c.in-Ok.is at c.refusal_of.ensures in
    record {
      did = did_so_for c.args.traced _ _ _ _ _ _ _ _ _ _ (map (λ r. r.slack) c.args.rules.now) (plain_of _ c.args.machine.now) c.args.command
          (sym why ∙ c.in_default-refusal.is) (did_all c.args.traced _ _ _ _ _ _ _ _ _ _ _ (rw c.in-Ok-perform.is at c.perform.ensures.did));
    }

pub refusal_of-requires : goal.refusal_of-requires
refusal_of-requires g c =
    let m = c.args.machine.now in all_standing (map template_of m.templates.items) m.pages.items c.requires.can.ready.shown

pub returns-in-Some : goal.returns-in-Some
returns-in-Some g c =
    let slacks = map (λ r. r.slack) c.args.rules.now in
    let why = rw c.in-Ok.is at c.refusal_of.ensures in
    record {
      did = refused_for c.args.traced c.refused.result (λ es. es.items) _ _ c.args.machine.now _ _ _ _ c.in-Some.refusal c.requires.can.counted c.requires.can.ready
          (λ hosts. refused_step (environment hosts slacks) (plain_of _ c.args.machine.now) c.args.command c.in-Some.refusal (sym c.in-Some.is ∙ why)) c.refused.ensures;
    }
