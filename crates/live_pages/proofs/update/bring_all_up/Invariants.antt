use Rattle.std.proofs.Common.{◌≤◌, length, map, is_some, option_map}
use Rattle.sig_host.specs.Hosts.{AnswersBy, IsCounted}
use Rattle.live_labels.specs.Views.{labels_of}
use Rattle.live_pages.proofs.Pages.{UpTo}
use Rattle.live_pages.proofs.update.bring_all_up.Given as goal

-- the pages so far are brought up to date and told
abbrev pub invariant-loop-page : goal.invariant-loop-page
invariant-loop-page g l = record {
  up : UpTo
      (λ hosts. AnswersBy hosts (map (λ p. option_map (λ h. (goal.HostFormula-dyn g (h.vtable, h.value)).step_of h.value) p.host) l.fn.shelf.places.items))
      (λ hosts. AnswersBy hosts (map (λ p. option_map (λ h. (goal.HostFormula-dyn g (h.vtable, h.value)).step_of h.value) p.host) l.shelf.places.items))
      (IsCounted (map (λ p. option_map (λ h. (goal.HostFormula-dyn g (h.vtable, h.value)).asks h.value) p.host) l.shelf.places.items)
      (map (λ p. record { there = is_some p.host; asks = p.count }) l.shelf.places.items))
      (labels_of l.labels) (map (λ p. record { there = is_some p.host; asks = p.count }) l.fn.shelf.places.items)
      (map (λ p. record { there = is_some p.host; asks = p.count }) l.shelf.places.items)
      l.fn.world l.world l.fn.pages.items l.page-items l.page-index l.told.items l.fn.journal l.journal;
  within : l.page-index ≤ length l.fn.pages.items;
}
