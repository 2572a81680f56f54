use Rattle.std.proofs.Common.{◌∙◌, List, is_some, map, sym}
use Rattle.sig_host.specs.Hosts.{HostPlace}
use Rattle.live_cmd.specs.declared.command.Bare.TheVariants as bares
use Rattle.live_cmd.specs.declared.command.Command.TheVariants as command
use Rattle.live_core.specs.Views.{plain_of}
use Rattle.live_core.proofs.Shared.{none_there}
use Rattle.live_items.proofs.Refused.{did_so_for, flush_alone}
use Rattle.live_items.proofs.commands.try_flush.Goals as goal

pub flush-requires-clause-alone : goal.flush-requires-clause-alone
flush-requires-clause-alone g c = none_there _ (sym c.is_some.ensures ∙ c.if-is_some.false)

pub returns-in-Ok : goal.returns-in-Ok
returns-in-Ok g c =
    let slacks = map (λ r. r.slack) c.args.rules.now in
    let asked : List HostPlace = map (λ p. record { there = is_some p.host; asks = p.count }) c.args.shelf.now.places.items in
    let free = flush_alone slacks asked c.args.machine.now (sym c.is_some.ensures ∙ c.if-is_some.false) in
    record {
      did = did_so_for c.args.traced _ _ _ _ _ _ _ _ _ _ slacks (plain_of asked c.args.machine.now) (command.Bare bares.Flush) free
          (rw c.in-Ok.is at c.flush.ensures.did);
    }
