use Rattle.live_items.proofs.commands.try_bare.Goals as goal

pub returns-in-Flush : goal.returns-in-Flush
returns-in-Flush g c = record { did = rw c.in-Flush.is c.try_flush.ensures.did }
