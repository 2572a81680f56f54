use Rattle.std.proofs.Common.{sym}
use Rattle.formula_text.proofs.Shared.{name_utf8}
use Rattle.live_cmd.proofs.names.name_text.Goals as goal

pub unreachable-requires : goal.unreachable-requires
unreachable-requires c = c.in_default.ensures.cases.0 (name_utf8 c.args.bytes.now (sym c.if-not-is_name.ensures))
