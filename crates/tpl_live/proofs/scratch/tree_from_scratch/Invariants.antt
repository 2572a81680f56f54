use Rattle.std.proofs.Common.{is_some, map, option_map}
use Rattle.sig_host.specs.Hosts.{AnswersBy, IsCounted}
use Rattle.tpl_blocks.specs.Blocks.{lines_of}
use Rattle.tpl_hearing.specs.Heard.{scene, CanSettle}
use Rattle.tpl_live.proofs.Outcomes.{IsLearning, unknown_names}
use Rattle.tpl_live.proofs.scratch.tree_from_scratch.Given as goal

-- names were heard as they were needed
abbrev pub invariant-asking : goal.invariant-asking
invariant-asking g l = record {
  learning : IsLearning (scene l.fn.graph (map (λ p. record { there = is_some p.host; asks = p.count }) l.fn.shelf.places.items) l.fn.notes.items)
      (scene l.graph (map (λ p. record { there = is_some p.host; asks = p.count }) l.shelf.places.items) l.notes.items)
      (λ hosts. AnswersBy hosts (map (λ p. option_map (λ h. (goal.HostFormula-dyn g (h.vtable, h.value)).step_of h.value) p.host) l.fn.shelf.places.items))
      (λ hosts. AnswersBy hosts (map (λ p. option_map (λ h. (goal.HostFormula-dyn g (h.vtable, h.value)).step_of h.value) p.host) l.shelf.places.items))
      (lines_of l.template) l.links l.known.items l.heard;
  can : CanSettle (scene l.graph (map (λ p. record { there = is_some p.host; asks = p.count }) l.shelf.places.items) l.notes.items);
  counted : IsCounted (map (λ p. option_map (λ h. (goal.HostFormula-dyn g (h.vtable, h.value)).asks h.value) p.host) l.shelf.places.items)
      (map (λ p. record { there = is_some p.host; asks = p.count }) l.shelf.places.items);
}

-- each round makes one more known
abbrev pub decreases-asking : goal.decreases-asking
decreases-asking g l = unknown_names l.known.items
