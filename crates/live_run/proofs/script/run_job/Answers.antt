use Rattle.std.proofs.Common.{◌≤◌, length, map, refl}
use Rattle.sig_base.specs.declared.limits.TheConstants.{MOST_SCRIPT}
use Rattle.live_run.specs.Jobs.{lent_output, script_of}
use Rattle.live_run.proofs.Output.{none_of_it, of_these}
use Rattle.live_run.proofs.script.run_job.Goals as goal

pub returns-in-Ok-run_script-clause-ends : goal.returns-in-Ok-run_script-clause-ends
returns-in-Ok-run_script-clause-ends g c =
    let script = script_of c.args.job (g.S.Source.left c.args.source.now) in (
      of_these script c.in-Ok.script.items _ c.in-Ok.ensures.script (rw c.deref.ensures.value at c.in-Ok-run_script.ensures.done),
      of_these script c.in-Ok.script.items (λ s. length s ≤ MOST_SCRIPT) c.in-Ok.ensures.script c.in-Ok.ensures.short,
      c.in-Ok.ensures.end,
    )

-- writing failed
pub returns-clause-ends : goal.returns-clause-ends
returns-clause-ends g c =
    let script = script_of c.args.job (g.S.Source.left c.args.source.now) in (
      c.in-Err-Write.ensures.write (rw c.in-Err-Write.field-0-is refl),
      of_these script c.in-Ok.script.items _ c.in-Ok.ensures.script (rw c.deref.ensures.value at c.in-Err-Write.ensures.front),
      of_these script c.in-Ok.script.items (λ s. length s ≤ MOST_SCRIPT) c.in-Ok.ensures.script c.in-Ok.ensures.short,
    )

pub returns-in-Err-Memory-run_script-clause-ends : goal.returns-in-Err-Memory-run_script-clause-ends
returns-in-Err-Memory-run_script-clause-ends g c =
    of_these (script_of c.args.job (g.S.Source.left c.args.source.now)) c.in-Ok.script.items _ c.in-Ok.ensures.script
    (rw c.deref.ensures.value at c.in-Err-Memory-run_script.ensures.front)

pub returns-in-Err-Fault-clause-ends : goal.returns-in-Err-Fault-clause-ends
returns-in-Err-Fault-clause-ends g c =
    let is = c.in-Err-Fault.field-0-is in (
      c.in-Err-Fault.ensures.fault (rw is refl),
      λ h. let memory = rw is at (c.in-Err-Fault.ensures.memory h) in cc,
    )

pub returns-in-Err-TooLong-clause-ends : goal.returns-in-Err-TooLong-clause-ends
returns-in-Err-TooLong-clause-ends g c =
    let is = c.in-Err-TooLong.field-0-is in (
      c.in-Err-TooLong.ensures.long (rw is refl),
      c.in-Err-TooLong.ensures.told (rw is refl),
      λ h. let memory = rw is at (c.in-Err-TooLong.ensures.memory h) in cc,
    )

pub returns-in-Err-Memory-clause-ends : goal.returns-in-Err-Memory-clause-ends
returns-in-Err-Memory-clause-ends g c =
    none_of_it (lent_output (map (λ h. (goal.HostFormula-dyn g (h.vtable, h.value)).step_of h.value) c.args.hosts.items) (map (λ r. r.slack) c.args.rules.items) c.args.job)
    (script_of c.args.job (g.S.Source.left c.args.source.now)) _
