use Rattle.std.proofs.Common.{◌≡◌, ◌&&◌, false, is_some, map, option_map, take}
use Rattle.std.specs.Option.{option_copied}
use Rattle.sig_formula.specs.Trees.{tree}
use Rattle.sig_host.specs.Hosts.{AnswersBy, IsCounted}
use Rattle.tpl_hearing.specs.Heard.{scene, CanSettle, Hears}
use Rattle.tpl_model.specs.KeptLines.Kept.{heard_of}
use Rattle.tpl_model.specs.KeptLines.Memos.{ListensUpTo}
use Rattle.tpl_model.specs.PageUpdates.PageMemos.{any_fault}
use Rattle.tpl_kept.proofs.listening.formulas.listen_all.Given as goal

-- the attributes so far, none of which met a fault where hearing ends at one
abbrev pub invariant-loop-attribute : goal.invariant-loop-attribute
invariant-loop-attribute g l = record {
  heard : ListensUpTo l.ends (map (λ a. (a.0, tree a.1)) (take l.attribute-index l.attributes)) l.links (option_copied l.row) l.fn.heard l.heard
      (map heard_of l.all.items);
  on : (l.ends && any_fault (map heard_of l.all.items)) ≡ false;
  after : Hears (scene l.fn.graph (map (λ p. record { there = is_some p.host; asks = p.count }) l.fn.shelf.places.items) l.fn.notes.items)
      (scene l.graph (map (λ p. record { there = is_some p.host; asks = p.count }) l.shelf.places.items) l.notes.items)
      (λ hosts. AnswersBy hosts (map (λ p. option_map (λ h. (goal.HostFormula-dyn g (h.vtable, h.value)).step_of h.value) p.host) l.fn.shelf.places.items))
      (λ hosts. AnswersBy hosts (map (λ p. option_map (λ h. (goal.HostFormula-dyn g (h.vtable, h.value)).step_of h.value) p.host) l.shelf.places.items))
      l.fn.heard l.heard;
  can : CanSettle (scene l.graph (map (λ p. record { there = is_some p.host; asks = p.count }) l.shelf.places.items) l.notes.items);
  counted : IsCounted (map (λ p. option_map (λ h. (goal.HostFormula-dyn g (h.vtable, h.value)).asks h.value) p.host) l.shelf.places.items)
      (map (λ p. record { there = is_some p.host; asks = p.count }) l.shelf.places.items);
}
