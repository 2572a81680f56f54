use Rattle.std.proofs.Common.{refl}
use Rattle.live_why.specs.Views.{note_of}
use Rattle.live_why.proofs.SharedLinks.{no_chain, is_chain}
use Rattle.why_check.proofs.checking.check.Goals as goal

pub returns-in_default : goal.returns-in_default
returns-in_default c = no_chain c.args.facts.now c.args.id c.args.links.now c.in_default.ensures.found

pub returns : goal.returns
returns c =
    is_chain c.args.facts.now c.args.id c.in-Some.number (record { number = c.in-Some.number; note = note_of c.in-Some.field-0-1.now }) c.are_from.result
    c.args.links.now c.in-Some.ensures.found refl c.are_from.ensures
