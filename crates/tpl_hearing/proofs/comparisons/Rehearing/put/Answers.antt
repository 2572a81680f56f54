use Rattle.std.proofs.Common.{[], ◌∷◌, ap, ◌∙◌}
use Rattle.tpl_hearing.specs.Heard.{heard_of}
use Rattle.tpl_hearing.proofs.Compared.{still_compared}
use Rattle.tpl_hearing.proofs.Names.{last_heard}
use Rattle.tpl_hearing.proofs.comparisons.Rehearing.put.Goals as goal

pub returns-clause-compared : goal.returns-clause-compared
returns-clause-compared c = λ before all same.
    let old = c.args.self.now in
    let now = c.put.new.self in
    c.in_ok-put-2.ensures before now
    (still_compared before old.heard now old.compared (record { more = (c.args.id, c.args.outcome) ∷ []; all = c.in_ok-put.ensures }) all)
    (record {
      outcome = c.args.outcome;
      is = ap (λ h. heard_of h c.args.id) c.in_ok-put.ensures ∙ last_heard old.heard c.args.id c.args.outcome c.requires;
      was = same;
    })
