use Rattle.std.proofs.Common.{◌≡◌, length, arith}
use Rattle.tpl_model.specs.KeptLines.Changes.{changed}
use Rattle.tpl_kept.proofs.Renewals.Changes.{none_last, one_last}
use Rattle.tpl_kept.proofs.renewing.parts.last_change.Goals as goal

pub returns-in-None : goal.returns-in-None
returns-in-None c =
    let none = c.in-None.ensures.cases.0 in
    let e : length c.args.changes.items ≡ 0 = omega (arith, none) in
    none_last c.args.changes.items (changed c.made.result) e c.made.ensures

pub returns : goal.returns
returns c = one_last c.args.changes.items c.pop.new.self.items c.in-Some.change c.in-Some.ensures.items
