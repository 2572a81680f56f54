use Rattle.std.proofs.Common.{ℕ, ◌∙◌, ◌&&◌, not, [], List, ap, sym, subst}
use Rattle.std.specs.Prelude.{vec_capacity}
use Rattle.signal_model.specs.Signals.{is_in}
use Rattle.sig_seats.specs.Flags.{is_up, AreReached}
use Rattle.sig_seats.proofs.Flagged.{cleared, flag_inside}
use Rattle.sig_seats.proofs.reached.Reached.clear.Goals as goal

pub lower-requires : goal.lower-requires
lower-requires c = λ s listed.
    flag_inside c.self.inside.flags.items s (c.self.invariant.up s ∙ ap (λ (ss : List ℕ). is_in s ss) (sym c.deref.ensures.value) ∙ listed)

pub invariant_of-self : goal.invariant_of-self
invariant_of-self c =
    let seats = c.deref.ensures.value in
    let none = cleared c.self.inside.flags.items c.lower.new.flags.items c.self.inside.seats.items (vec_capacity c.self.inside.seats) c.self.invariant
    c.lower.ensures.size (λ s. c.lower.ensures.flags s ∙ (λ i. is_up c.self.inside.flags.items s && not (is_in s (seats i)))) in
    subst (λ (ss : List ℕ). AreReached c.lower.new.flags.items ss (vec_capacity c.clear.new.self)) (sym c.clear.ensures.items)
    (subst (λ (n : ℕ). AreReached c.lower.new.flags.items [] n) (sym c.clear.ensures.capacity) none)
