use Rattle.std.proofs.Common.{◌≡◌, ◌≤◌, ◌+◌, ◌-◌, ◌*◌, ◌^◌, false, is_some, length, drop, map, option_map}
use Rattle.sig_host.specs.Hosts.{AnswersBy, IsCounted, hosts_of}
use Rattle.effect_world.specs.Stores.{IsSound}
use Rattle.live_core.specs.Consistency.{IsKept}
use Rattle.live_core.specs.Views.{plain_of}
use Rattle.live_report.specs.Reports as reports
use Rattle.live_run.specs.Jobs.{lent, lent_output, Lives}
use Rattle.live_run.proofs.Output.{SoFar}
use Rattle.live_run.proofs.script.run_script.Given as goal

abbrev pub invariant-loop-run : goal.invariant-loop-run
invariant-loop-run g l = record {
  told : SoFar (lent (map (λ h. (goal.HostFormula-dyn g (h.vtable, h.value)).step_of h.value) l.fn.hosts.items) (map (λ r. r.slack) l.fn.rules.items))
      (lent_output (map (λ h. (goal.HostFormula-dyn g (h.vtable, h.value)).step_of h.value) l.fn.hosts.items) (map (λ r. r.slack) l.fn.rules.items) l.fn.job)
      (Lives (map (λ h. (goal.HostFormula-dyn g (h.vtable, h.value)).step_of h.value) l.fn.hosts.items) (map (λ r. r.slack) l.fn.rules.items))
      (g.K.Sink.held l.fn.sink) (g.K.Sink.held l.sink) l.script l.line (drop l.at l.script) l.run.value.report
      (plain_of (map (λ p. record { there = is_some p.host; asks = p.count }) l.run.value.live.shelf.places.items) l.run.value.live.machine) l.run.value.out.items;
  kept : IsKept (map (λ p. record { there = is_some p.host; asks = p.count }) l.run.value.live.shelf.places.items) (length l.run.value.live.rules.items)
      l.run.value.live.machine l.run.value.live.done l.run.value.live.broken;
  counted : l.run.value.live.broken ≡ false → IsCounted (map (λ p. option_map (λ h. (goal.HostFormula-dyn g (h.vtable, h.value)).asks h.value) p.host) l.run.value.live.shelf.places.items)
      (map (λ p. record { there = is_some p.host; asks = p.count }) l.run.value.live.shelf.places.items);
  slacks : map (λ r. r.slack) l.run.value.live.rules.items ≡ map (λ r. r.slack) l.fn.rules.items;
  sound : IsSound (hosts_of (map (λ h. (goal.HostFormula-dyn g (h.vtable, h.value)).step_of h.value) l.fn.hosts.items))
      (map (λ p. record { there = is_some p.host; asks = p.count }) l.run.value.live.shelf.places.items) l.run.value.live.machine.world;
  answers : AnswersBy (hosts_of (map (λ h. (goal.HostFormula-dyn g (h.vtable, h.value)).step_of h.value) l.fn.hosts.items))
      (map (λ p. option_map (λ h. (goal.HostFormula-dyn g (h.vtable, h.value)).step_of h.value) p.host) l.run.value.live.shelf.places.items);
  little : reports.counted l.run.value.report ≤ l.at * 2 ^ 65;
  done : l.run.value.live.done ≤ l.at;
  within : l.at ≤ length l.script;
  few : l.line ≤ 1 + l.at;
  later : g.K.Sink.faults l.fn.sink ≤ g.K.Sink.faults l.sink;
}

abbrev pub decreases-loop-run : goal.decreases-loop-run
decreases-loop-run g l = length l.script - l.at
