use Rattle.std.proofs.Common.{refl, ap, nat_eq}
use Rattle.indexmap.specs.IndexMap.{get}
use Rattle.slab.specs.Slab.{get as held_at, Slab}
use Rattle.sig_store.specs.declared.store.Held.{Held}
use Rattle.sig_store.proofs.Edits.{same_placed}
use Rattle.sig_store.proofs.store.Store.reserve.Goals as goal

pub invariant_of-self : goal.invariant_of-self
invariant_of-self g c =
    same_placed (get nat_eq c.self.inside.places) (get nat_eq c.reserve.new.self) (held_at c.self.inside.held) (held_at c.self.inside.held) c.self.inside.made (λ j. search) (λ q. refl)
    c.self.invariant

pub invariant_of-self-in_err-reserve-2 : goal.invariant_of-self-in_err-reserve-2
invariant_of-self-in_err-reserve-2 g c =
    same_placed (get nat_eq c.self.inside.places) (get nat_eq c.reserve.new.self) (held_at c.self.inside.held) (held_at c.reserve-2.new.self) c.self.inside.made (λ j. search) (λ q. ap (λ (s : Slab (Held g.row.T.Denot)). held_at s q) c.reserve-2.ensures.rest_kept)
    c.self.invariant

pub invariant_of-self-2 : goal.invariant_of-self-2
invariant_of-self-2 g c =
    same_placed (get nat_eq c.self.inside.places) (get nat_eq c.reserve.new.self) (held_at c.self.inside.held) (held_at c.reserve-2.new.self) c.self.inside.made (λ j. search) (λ q. ap (λ (s : Slab (Held g.row.T.Denot)). held_at s q) c.reserve-2.ensures.rest_kept)
    c.self.invariant
