use Rattle.std.proofs.Common.{◌<◌, length, arith}
use Rattle.std.proofs.lemmas.Bool.Decides.{nat_tests}
use Rattle.script_lines.proofs.Blocks.{last_is}
use Rattle.script_lines.proofs.block.last_number.Goals as goal

pub returns-else-is_empty : goal.returns-else-is_empty
returns-else-is_empty c =
    let test = c.if-is_empty.ensures in
    let some : 0 < length c.args.lines.now = grind (arith, nat_tests) in
    last_is c.args.lines.now _ some
