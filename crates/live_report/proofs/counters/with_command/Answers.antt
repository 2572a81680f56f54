use Rattle.std.proofs.Common.{refl}
use Rattle.live_cmd.specs.declared.command.Item.TheVariants as item
use Rattle.live_report.proofs.Sums.{one_item}
use Rattle.live_report.proofs.counters.with_command.Goals as goal

pub returns-clause-many : goal.returns-clause-many
returns-clause-many c = λ k. one_item c.args.counts _ 1 (item.Do k) refl refl
