use Rattle.signal_model.specs.Signals.{standing}
use Rattle.sig_computed.proofs.Leaves.{host_answer}
use Rattle.sig_computed.proofs.turns.host_answer.Goals as goal

pub returns-clause-answer : goal.returns-clause-answer
returns-clause-answer g c = λ hosts all.
    host_answer hosts (standing c.args.graph.now.state.signals c.args.node) c.args.known.now c.args.place c.slots.result.now c.in_ok-step.step
    c.judged.result c.requires.place (c.in_ok-step.ensures.answer hosts all) c.slots.ensures c.judged.ensures.answer
