use Rattle.std.proofs.Common.{rules, sym}
use Rattle.body_text.proofs.reader.rewiring.Goals as goal

pub returns-in-Err-NotThere : goal.returns-in-Err-NotThere
returns-in-Err-NotThere c =
    let none = rw c.in-Err-NotThere.field-0-is at (c.in-Err-NotThere.ensures c.args.allow) in
    rw (sym none) c.rewire.ensures

pub returns-in_default-2 : goal.returns-in_default-2
returns-in_default-2 c = let h = c.host.ensures c.args.allow in search rules
