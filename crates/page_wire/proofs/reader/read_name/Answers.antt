use Rattle.std.proofs.Common.{sym}
use Rattle.page_wire.proofs.NameBytes.{name_utf8}
use Rattle.page_wire.proofs.reader.read_name.Goals as goal

pub unreachable-requires : goal.unreachable-requires
unreachable-requires c = c.in_default.ensures.cases.0 (name_utf8 c.args.bytes.now (sym c.if-not-is_name.ensures))
