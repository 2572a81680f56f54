use Rattle.std.proofs.Common.{◌≡◌, Bool, List, false, length, replicate, ap, sym, ◌∙◌, subst, arith}
use Rattle.std.specs.Prelude.{vec_capacity}
use Rattle.std.proofs.lemmas.List.{length-replicate}
use Rattle.sig_base.specs.declared.limits.TheConstants.{MOST_NODES}
use Rattle.sig_seats.specs.Flags.{is_up, AreReached}
use Rattle.sig_seats.proofs.Flagged.{flags_down, none_reached}
use Rattle.sig_seats.proofs.reached.Reached.new.Goals as goal

pub invariant_of-result : goal.invariant_of-result
invariant_of-result c =
    let none : c.in_ok-flags.flags.items ≡ replicate MOST_NODES false = c.in_ok-flags.ensures.items_if_clones_equal (λ y e. e) in
    let seats = c.in_ok-seats.ensures.items in
    let room = c.in_ok-seats.ensures.capacity in
    let capacity = vec_capacity c.in_ok-seats.seats in
    subst (λ ss. AreReached c.in_ok-flags.flags.items ss capacity) (sym seats)
    (none_reached c.in_ok-flags.flags.items capacity (ap (λ (t : List Bool). length t) none ∙ length-replicate MOST_NODES false) (λ s. ap (λ t. is_up t s) none ∙ flags_down MOST_NODES s) (omega (arith, room)))
