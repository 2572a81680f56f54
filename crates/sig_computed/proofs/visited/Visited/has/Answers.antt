use Rattle.std.proofs.Common.{List, ℕ, sym, ap}
use Rattle.signal_model.specs.Signals.{is_in}
use Rattle.sig_computed.proofs.Flagged.{told_off}
use Rattle.sig_computed.proofs.visited.Visited.has.Goals as goal

pub returns-then-is_none-clause-has : goal.returns-then-is_none-clause-has
returns-then-is_none-clause-has c = sym (ap (λ (ns : List ℕ). is_in c.args.id ns) (c.is_none.ensures c.if-is_none.true))

pub returns-then-not-is_up-clause-has : goal.returns-then-not-is_up-clause-has
returns-then-not-is_up-clause-has c = told_off (is_in c.args.id c.args.self.now) c.is_up.result c.is_up.ensures c.if-not-is_up.true
