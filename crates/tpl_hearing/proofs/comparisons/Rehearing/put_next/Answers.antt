use Rattle.std.proofs.Common.{[], ◌∷◌, ap, ◌∙◌}
use Rattle.tpl_hearing.specs.Heard.{heard_of}
use Rattle.tpl_hearing.proofs.Compared.{still_compared}
use Rattle.tpl_hearing.proofs.Names.{last_heard}
use Rattle.tpl_hearing.proofs.comparisons.Rehearing.put_next.Goals as goal

pub returns-clause-compared : goal.returns-clause-compared
returns-clause-compared c = λ before all was.
    let old = c.args.self.now in
    let now = c.put_next.new.self in
    let e = c.in_ok-put_next.ensures in
    let next = c.if-not-branch.false in
    let all_is = e.put next in
    c.in_ok-put.ensures before now
    (still_compared before old.heard now old.compared (record { more = (c.args.id, c.args.was.now) ∷ []; all = all_is }) all)
    (record {
      outcome = c.args.was.now;
      is = ap (λ h. heard_of h c.args.id) all_is ∙ last_heard old.heard c.args.id c.args.was.now (e.new next);
      was = λ same. was;
    })
