use Rattle.std.proofs.Common.{◌≡◌, ◌+◌, ◌≤◌, is_some, length, map, option_map, take}
use Rattle.std.specs.Rc.{rc_value}
use Rattle.effect_model.specs.Runs.{do_acts}
use Rattle.sig_untrack.specs.Links.{acts_of}
use Rattle.effect_teardown.specs.Sites.{parts_of}
use Rattle.sig_host.specs.Hosts.{AnswersBy, IsCounted}
use Rattle.effect_world.specs.Signals.{scene}
use Rattle.effect_world.specs.Answers.{Acted}
use Rattle.effect_acts.specs.Labels.{labelled}
use Rattle.effect_acts.proofs.sequence.do_acts.Given as goal

-- the acts so far are done
abbrev pub invariant-loop-act : goal.invariant-loop-act
invariant-loop-act g l = record {
  done : Acted (map (λ r. r.slack) l.rules)
      (scene l.fn.world (map (λ p. record { there = is_some p.host; asks = p.count }) l.fn.shelf.places.items) l.fn.events.items)
      (scene l.world (map (λ p. record { there = is_some p.host; asks = p.count }) l.shelf.places.items) l.events.items)
      (λ hosts. AnswersBy hosts (map (λ p. option_map (λ h. (goal.HostFormula-dyn g (h.vtable, h.value)).step_of h.value) p.host) l.fn.shelf.places.items))
      (λ hosts. AnswersBy hosts (map (λ p. option_map (λ h. (goal.HostFormula-dyn g (h.vtable, h.value)).step_of h.value) p.host) l.shelf.places.items))
      l.act-index (λ env. do_acts env l.id 1 (acts_of (parts_of l.site.origin (rc_value l.site.script) l.site.path.items) (take l.act-index l.acts)));
  label : l.label ≡ labelled 1 (acts_of (parts_of l.site.origin (rc_value l.site.script) l.site.path.items) (take l.act-index l.acts));
  small : l.label ≤ l.act-index + 1;
  within : l.act-index ≤ length l.acts;
  counted : IsCounted (map (λ p. option_map (λ h. (goal.HostFormula-dyn g (h.vtable, h.value)).asks h.value) p.host) l.shelf.places.items)
      (map (λ p. record { there = is_some p.host; asks = p.count }) l.shelf.places.items);
}
