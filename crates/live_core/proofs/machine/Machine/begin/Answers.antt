use Rattle.std.proofs.Common.{Some, arith}
use Rattle.live_model.specs.Machine.{reached}
use Rattle.live_core.specs.Views.{plain_of}
use Rattle.live_core.proofs.Batched.{ready_batched, roomy_new}
use Rattle.live_core.proofs.machine.Machine.begin.Goals as goal

pub returns-clause-steps : goal.returns-clause-steps
returns-clause-steps c = λ hosts slacks asked sound. record {
  step = (λ i. reached (record (plain_of asked c.args.self.now) { batch = Some (c.in_ok-batch.ensures.changed i) }) (c.new.ensures.items i));
  sound = sound;
}

pub returns-clause-leaves : goal.returns-clause-leaves
returns-clause-leaves c = λ asked count. record {
  ready = ready_batched c.args.self.now (Some c.in_ok-batch.batch) c.requires.ready
      (roomy_new c.args.self.now.world.graph.state.signals c.in_ok-batch.batch c.in_ok-batch.ensures.changed c.in_ok-batch.ensures.room);
  holds = λ h. h;
  weight = omega arith;
}
