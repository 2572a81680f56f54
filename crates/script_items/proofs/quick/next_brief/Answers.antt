use Rattle.std.proofs.Common.{◌∙◌, sym, arith}
use Rattle.script_items.proofs.Briefs.{all_bytes, brief_begins}
use Rattle.script_items.proofs.quick.next_brief.Goals as goal

pub returns-clause-item : goal.returns-clause-item
returns-clause-item c =
    let front = rw c.in-Some.is at c.in_ok-brief.ensures in
    let is = sym c.split_at.ensures.back ∙ front.is in
    let all = all_bytes c.args.script.now front.line front.rest c.args.at c.requires.at is in
    let left = front.count in
    brief_begins c.args.script.now front.line front.rest c.args.at c.args.line _ _ is (omega (arith, all, left)) (omega (arith, all, left)) front.says
