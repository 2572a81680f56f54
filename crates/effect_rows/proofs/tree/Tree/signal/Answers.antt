use Rattle.std.proofs.Common.{◌+◌, arith, refl}
use Rattle.effect_rows.proofs.Tables.{signal_ready}
use Rattle.effect_rows.proofs.tree.Tree.signal.Goals as goal

pub adopt_signal-requires-clause-lone : goal.adopt_signal-requires-clause-lone
adopt_signal-requires-clause-lone c = c.requires.fresh c.of-id.result (omega (arith, c.of-id.ensures))

pub returns : goal.returns
returns c =
    signal_ready c.args.self.now.signals (c.args.self.now.signals + 1) c.of-id.result c.args.self.now.tables c.adopt_signal.new.self c.args.inside c.requires
    c.in_ok-adopt_signal.ensures.makes.holds c.in_ok-adopt_signal.ensures.makes.signals c.of-id.ensures refl c.in_ok-adopt_signal.ensures.makes.does
