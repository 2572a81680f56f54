use Rattle.std.proofs.Common.{◌∙◌, ℕ, Option, List, ap, length, arith}
use Rattle.sig_seats.specs.Seats.{holder}
use Rattle.sig_seats.proofs.Occupancy.{all_holder, all_size}
use Rattle.sig_seats.proofs.seats.Seats.new.Goals as goal

pub returns-clause-size : goal.returns-clause-size
returns-clause-size c =
    let none = ap length c.in_ok-taken.ensures.items in
    all_size c.in_ok-taken.taken.items (omega (arith, none))

pub returns-clause-empty : goal.returns-clause-empty
returns-clause-empty c = λ k. all_holder c.in_ok-taken.taken.items k ∙ ap (λ (hs : List (Option ℕ)). holder hs k) c.in_ok-taken.ensures.items
