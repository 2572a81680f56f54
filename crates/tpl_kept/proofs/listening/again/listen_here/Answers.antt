use Rattle.std.proofs.Common.{true, false}
use Rattle.std.specs.Option.{option_copied}
use Rattle.sig_formula.specs.Trees.{tree}
use Rattle.tpl_hearing.proofs.Shared.{still_compared, then_heard}
use Rattle.tpl_model.specs.KeptLines.Kept.{heard_of}
use Rattle.tpl_kept.proofs.Listened.Reuse.{line_stayed, line_remade}
use Rattle.tpl_kept.proofs.Listened.Splits.{again_as}
use Rattle.tpl_kept.proofs.listening.again.listen_here.Goals as goal

pub returns-then-branch-clause-heard : goal.returns-then-branch-clause-heard
returns-then-branch-clause-heard g c =
    line_stayed (tree c.args.formula.now) c.args.links.now (option_copied c.args.row) c.args.before.now c.args.hearing.now.heard c.hear_again.new.hearing.heard
    (heard_of c.args.line.now) c.requires.was
    (again_as c.in_ok-hear_again.field-0 true c.args.before.now c.deref.result.now c.args.line.now.names.items c.args.hearing.now.heard c.hear_again.new.hearing.heard
    c.if-branch.true c.deref.ensures.value c.in_ok-hear_again.ensures.again)

pub returns-clause-heard : goal.returns-clause-heard
returns-clause-heard g c =
    line_remade (tree c.args.formula.now) c.args.links.now (option_copied c.args.row) c.args.before.now c.args.hearing.now.heard c.hear_again.new.hearing.heard
    c.listen.new.heard (heard_of c.args.line.now) (heard_of c.in_ok-next.next) c.requires.was
    (again_as c.in_ok-hear_again.field-0 false c.args.before.now c.deref.result.now c.args.line.now.names.items c.args.hearing.now.heard c.hear_again.new.hearing.heard
    c.if-branch.false c.deref.ensures.value c.in_ok-hear_again.ensures.again)
    c.in_ok-next.ensures.after.grows c.in_ok-next.ensures.heard

pub returns-clause-after : goal.returns-clause-after
returns-clause-after g c = then_heard _ _ _ _ _ _ _ _ _ c.in_ok-hear_again.ensures.after c.in_ok-next.ensures.after

pub returns-clause-compared : goal.returns-clause-compared
returns-clause-compared g c =
    still_compared c.args.before.now c.hear_again.new.hearing.heard c.listen.new.heard c.hear_again.new.hearing.compared c.in_ok-next.ensures.after.grows
    c.in_ok-hear_again.ensures.compared
