use Rattle.std.proofs.Common.{List, ℕ, ap, ◌∙◌}
use Rattle.signal_model.specs.Signals.{is_in}
use Rattle.sig_computed.proofs.Flagged.{told_off}
use Rattle.sig_computed.proofs.visited.Visited.has_some.Goals as goal

pub returns-then-not-is_up-clause-has : goal.returns-then-not-is_up-clause-has
returns-then-not-is_up-clause-has c =
    told_off (is_in c.args.id c.make_flags.new.self) c.is_up.result c.is_up.ensures c.if-not-is_up.true
    ∙ ap (λ (ns : List ℕ). is_in c.args.id ns) c.in_ok-make_flags.ensures
