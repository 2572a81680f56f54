use Rattle.std.proofs.Common.{subst}
use Rattle.std.proofs.lemmas.Result.{on_ok_weaker}
use Rattle.sig_graph.specs.declared.reading.Walked.{Walked}
use Rattle.sig_graph.specs.Reading.{IsWalked}
use Rattle.sig_graph.proofs.ReadOn.{read_both}
use Rattle.sig_graph.proofs.reading.read_slots.Goals as goal

pub returns-in-Open-clause-read : goal.returns-in-Open-clause-read
returns-in-Open-clause-read c =
    on_ok_weaker c.read_anew.result
    (λ h. read_both c.args.nodes.now.items c.args.marks.now.marked c.args.computation.now.recipe c.args.known.now.items c.walk.new.known.items
    c.read_anew.new.known.items c.args.reads.now.items c.walk.new.reads.items c.read_anew.new.reads.items c.in_ok-walked.ensures.read h)
    c.read_anew.ensures.read

pub returns-in-Left-clause-reached : goal.returns-in-Left-clause-reached
returns-in-Left-clause-reached c =
    let known = c.walk.new.known.items in
    c.slot_left.ensures.reached known c.walk.new.outcome
    (subst (λ (w : Walked). IsWalked w c.args.computation.now.recipe known c.walk.new.outcome) c.in-Left.is c.in_ok-walked.ensures.walked)
