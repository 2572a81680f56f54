use Rattle.std.proofs.Common.{◌∙◌, sym}
use Rattle.live_report.proofs.Output.{command_taken, refused_untold}
use Rattle.live_report.proofs.report.Report.take_item.Goals as goal

pub returns-then-not-is_command-clause-prints : goal.returns-then-not-is_command-clause-prints
returns-then-not-is_command-clause-prints c = refused_untold c.args.self.now c.args.item.now (sym c.is_command.ensures ∙ c.if-not-is_command.true)

pub returns-clause-prints : goal.returns-clause-prints
returns-clause-prints c =
    command_taken c.args.self.now c.take_command.new.self c.args.item.now (sym c.is_command.ensures ∙ c.if-not-is_command.false) c.take_command.ensures.prints
