use Rattle.std.proofs.Common.{ap, ◌∙◌}
use Rattle.std.specs.Map.{keys_of}
use Rattle.signal_laws.specs.ReadLaws.{with_name}
use Rattle.tpl_hearing.specs.Heard.{heard_of}
use Rattle.tpl_hearing.proofs.Names.{joins_last, last_heard}
use Rattle.tpl_hearing.proofs.Unmoved.{stood_heard}
use Rattle.tpl_hearing.proofs.comparisons.hear_compared.Goals as goal

pub returns-then-branch-clause-same : goal.returns-then-branch-clause-same
returns-then-branch-clause-same g c =
    let s = c.in_ok-hear_expected.ensures.stands c.if-branch.true in
    record {
      outcome = s.outcome;
      is = ap (λ h. heard_of h c.args.id) s.all ∙ last_heard c.args.hearing.now.heard c.args.id s.outcome s.new;
      was = λ e. s.was;
    }

pub returns-then-branch-clause-names : goal.returns-then-branch-clause-names
returns-then-branch-clause-names g c =
    let s = c.in_ok-hear_expected.ensures.stands c.if-branch.true in
    joins_last c.args.hearing.now.heard c.hear_expected.new.hearing.heard c.args.id s.outcome s.new s.all

pub returns-then-branch-clause-after : goal.returns-then-branch-clause-after
returns-then-branch-clause-after g c =
    let s = c.in_ok-hear_expected.ensures.stands c.if-branch.true in
    rw c.in_ok-hear_expected.ensures.graph (stood_heard _ _ c.args.hearing.now.heard c.hear_expected.new.hearing.heard c.args.id s.outcome
    c.requires.can.idle s.stands s.all)

pub returns-clause-names : goal.returns-clause-names
returns-clause-names g c =
    c.in_ok-same.ensures.names ∙ ap (λ h. with_name (keys_of h) c.args.id) (c.in_ok-hear_expected.ensures.other c.if-branch.false)

pub returns-clause-after : goal.returns-clause-after
returns-clause-after g c =
    rw (← c.in_ok-hear_expected.ensures.graph, ← (c.in_ok-hear_expected.ensures.other c.if-branch.false)) c.in_ok-same.ensures.after
