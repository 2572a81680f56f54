use Rattle.std.proofs.Common.{Some, arith}
use Rattle.live_model.specs.Machine.{reached}
use Rattle.live_core.specs.Views.{plain_of}
use Rattle.live_core.proofs.machine.Machine.begin_record.Goals as goal

pub returns-clause-steps : goal.returns-clause-steps
returns-clause-steps c = λ hosts slacks asked sound. record {
  step = (λ i. reached (record (plain_of asked c.args.self.now) { journal = Some (c.new.ensures i) }) (c.new-2.ensures.items i));
  sound = sound;
}

pub returns-clause-leaves : goal.returns-clause-leaves
returns-clause-leaves c = λ asked count.
    let r = c.requires.ready in record {
      ready = record {
        watchers = r.watchers;
        paged = r.paged;
        meant = r.meant;
        templates = r.templates;
        handled = r.handled;
        shown = r.shown;
        pages = r.pages;
        batch = r.batch;
      };
      holds = λ h. h;
      weight = omega arith;
    }
