use Rattle.tpl_hearing.proofs.Compared.{last_same, name_same}
use Rattle.tpl_hearing.proofs.Names.{joins_not, nothing_heard}
use Rattle.tpl_hearing.proofs.again.hear_next.Goals as goal

pub returns-then-is_it-clause-same : goal.returns-then-is_it-clause-same
returns-then-is_it-clause-same g c =
    name_same c.args.before.now c.args.hearing.now.heard c.args.id c.args.last.now (c.is_it.ensures c.if-is_it.true) c.requires.last

pub returns-then-is_it-clause-names : goal.returns-then-is_it-clause-names
returns-then-is_it-clause-names g c =
    let is = name_same c.args.before.now c.args.hearing.now.heard c.args.id c.args.last.now (c.is_it.ensures c.if-is_it.true) c.requires.last in
    joins_not c.args.hearing.now.heard c.args.id is.outcome is.is

pub returns-then-is_it-clause-after : goal.returns-then-is_it-clause-after
returns-then-is_it-clause-after g c = nothing_heard _ _ c.args.hearing.now.heard c.requires.can.idle

pub returns-clause-last : goal.returns-clause-last
returns-clause-last g c =
    last_same c.args.before.now c.hear_compared.new.hearing.heard c.args.id c.in_ok-same.same c.if_same.result c.if_same.ensures c.in_ok-same.ensures.same
