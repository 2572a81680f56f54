use Rattle.std.proofs.Common.{ℕ, List, ap, sym, ◌∙◌, arith}
use Rattle.signal_model.specs.Signals.{is_in}
use Rattle.sig_seats.proofs.Flagged.{flag_past, flag_read}
use Rattle.sig_seats.proofs.reached.Reached.has.Goals as goal

pub returns-then-seat-len : goal.returns-then-seat-len
returns-then-seat-len c =
    flag_read c.self.inside.flags.items c.args.seat c.index.result.now (omega arith) c.index.ensures ∙ c.self.invariant.up c.args.seat ∙ ap (λ (ss : List ℕ). is_in c.args.seat ss) c.self.view_is

pub returns-else-seat-len : goal.returns-else-seat-len
returns-else-seat-len c =
    sym (flag_past c.self.inside.flags.items c.args.seat (omega arith)) ∙ c.self.invariant.up c.args.seat ∙ ap (λ (ss : List ℕ). is_in c.args.seat ss) c.self.view_is
