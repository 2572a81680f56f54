use Rattle.std.proofs.Common.{is_some, map, option_map, take}
use Rattle.std.specs.Prelude.{IfSome}
use Rattle.sig_host.specs.Hosts.{AnswersBy, IsCounted}
use Rattle.tpl_hearing.specs.Heard.{scene, CanSettle, Hears}
use Rattle.tpl_hearing.specs.HeardAgain.{AreCompared, AreSame, IsAsBefore}
use Rattle.tpl_hearing.proofs.again.hear_again.Given as goal

-- the names so far have the outcomes of before
abbrev pub invariant-loop-id : goal.invariant-loop-id
invariant-loop-id g l = record {
  same : AreSame l.before (take l.id-index l.ids) l.fn.hearing.heard l.hearing.heard;
  after : Hears (scene l.fn.graph (map (λ p. record { there = is_some p.host; asks = p.count }) l.fn.shelf.places.items) l.fn.notes.items)
      (scene l.graph (map (λ p. record { there = is_some p.host; asks = p.count }) l.shelf.places.items) l.notes.items)
      (λ hosts. AnswersBy hosts (map (λ p. option_map (λ h. (goal.HostFormula-dyn g (h.vtable, h.value)).step_of h.value) p.host) l.fn.shelf.places.items))
      (λ hosts. AnswersBy hosts (map (λ p. option_map (λ h. (goal.HostFormula-dyn g (h.vtable, h.value)).step_of h.value) p.host) l.shelf.places.items))
      l.fn.hearing.heard l.hearing.heard;
  can : CanSettle (scene l.graph (map (λ p. record { there = is_some p.host; asks = p.count }) l.shelf.places.items) l.notes.items);
  counted : IsCounted (map (λ p. option_map (λ h. (goal.HostFormula-dyn g (h.vtable, h.value)).asks h.value) p.host) l.shelf.places.items)
      (map (λ p. record { there = is_some p.host; asks = p.count }) l.shelf.places.items);
  compared : AreCompared l.before l.hearing;
  last : IfSome l.last (IsAsBefore l.before l.hearing.heard);
}
