use Rattle.std.proofs.Common.{◌++◌, [], ◌∷◌, Some, sym, ap, ◌∙◌}
use Rattle.tpl_hearing.specs.Heard.{heard_of}
use Rattle.tpl_hearing.proofs.Names.{joins_last, joins_not, last_heard, nothing_heard}
use Rattle.tpl_hearing.proofs.outcomes.hear.Goals as goal

pub returns-in-Some-clause-names : goal.returns-in-Some-clause-names
returns-in-Some-clause-names g c = joins_not c.args.heard.now c.args.id c.in-Some.outcome (sym c.in_ok-outcome.ensures ∙ c.in-Some.is)

pub returns-in-Some-clause-after : goal.returns-in-Some-clause-after
returns-in-Some-clause-after g c = nothing_heard _ _ c.args.heard.now c.requires.can.idle

pub returns-clause-outcome : goal.returns-clause-outcome
returns-clause-outcome g c =
    ap (λ h. heard_of h c.args.id) c.in_ok-put.ensures
    ∙ last_heard c.args.heard.now c.args.id c.in_ok-copy.field-0 (sym c.in_ok-outcome.ensures ∙ c.in_default.is)
    ∙ ap Some c.in_ok-copy.ensures

pub returns-clause-names : goal.returns-clause-names
returns-clause-names g c =
    joins_last c.args.heard.now c.put.new.self c.args.id c.in_ok-copy.field-0 (sym c.in_ok-outcome.ensures ∙ c.in_default.is) c.in_ok-put.ensures

pub returns-clause-after : goal.returns-clause-after
returns-clause-after g c =
    c.in_ok-outcome-2.ensures.after c.args.heard.now c.put.new.self
    (c.in_ok-put.ensures ∙ ap (λ o. c.args.heard.now ++ (c.args.id, o) ∷ []) c.in_ok-copy.ensures)
