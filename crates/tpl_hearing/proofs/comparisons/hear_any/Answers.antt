use Rattle.std.proofs.Common.{◌≡◌, None, ap, subst, ◌∙◌}
use Rattle.std.specs.Prelude.{IfNone}
use Rattle.tpl_hearing.specs.Heard.{heard_of}
use Rattle.tpl_hearing.proofs.Names.{joins_last, joins_not, last_heard, nothing_heard}
use Rattle.tpl_hearing.proofs.comparisons.hear_any.Goals as goal

pub returns-in-Some-clause-names : goal.returns-in-Some-clause-names
returns-in-Some-clause-names g c = let is = c.in-Some.ensures.same in joins_not c.args.hearing.now.heard c.args.id is.outcome is.is

pub returns-in-Some-clause-after : goal.returns-in-Some-clause-after
returns-in-Some-clause-after g c = nothing_heard _ _ c.args.hearing.now.heard c.requires.can.idle

pub put-requires : goal.put-requires
put-requires g c = subst (λ o. IfNone o (heard_of c.args.hearing.now.heard c.args.id ≡ None)) c.in_default.is c.known.ensures.none

pub returns-clause-same : goal.returns-clause-same
returns-clause-same g c =
    let none = subst (λ o. IfNone o (heard_of c.args.hearing.now.heard c.args.id ≡ None)) c.in_default.is c.known.ensures.none in
    record {
      outcome = c.in_ok-outcome.outcome;
      is = ap (λ h. heard_of h c.args.id) c.in_ok-put.ensures.heard ∙ last_heard c.args.hearing.now.heard c.args.id c.in_ok-outcome.outcome none;
      was = c.in_ok-outcome.ensures.same;
    }

pub returns-clause-names : goal.returns-clause-names
returns-clause-names g c =
    let none = subst (λ o. IfNone o (heard_of c.args.hearing.now.heard c.args.id ≡ None)) c.in_default.is c.known.ensures.none in
    joins_last c.args.hearing.now.heard c.put.new.self.heard c.args.id c.in_ok-outcome.outcome none c.in_ok-put.ensures.heard

pub returns-clause-after : goal.returns-clause-after
returns-clause-after g c = c.in_ok-outcome.ensures.after c.args.hearing.now.heard c.put.new.self.heard c.in_ok-put.ensures.heard

pub returns-clause-compared : goal.returns-clause-compared
returns-clause-compared g c = c.in_ok-put.ensures.compared c.args.before.now c.requires.compared c.in_ok-outcome.ensures.same
