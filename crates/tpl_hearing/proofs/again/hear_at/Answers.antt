use Rattle.std.proofs.Common.{◌≡◌, [], ◌∷◌, ◌++◌, None, take, sym, ap, subst, ◌∙◌}
use Rattle.std.proofs.lemmas.Bool.{false≢true}
use Rattle.tpl_hearing.specs.Heard.{Outcomes, heard_of}
use Rattle.tpl_hearing.proofs.Fronts.{front_more, not_before}
use Rattle.tpl_hearing.proofs.again.hear_at.Goals as goal

pub returns-then-same-clause-after : goal.returns-then-same-clause-after
returns-then-same-clause-after g c =
    let front = take c.args.place c.args.before.now in
    c.in_ok-outcome.ensures.after front _
    (front_more c.args.before.now c.args.place c.at-id.result.0 c.at-id.result.1.now c.at-id.ensures.at
    ∙ ap (λ o. front ++ (c.at-id.result.0, o) ∷ []) (sym (c.same.ensures.exact.0 c.if-same.true)))

pub put-requires : goal.put-requires
put-requires g c =
    subst (λ (h : Outcomes). heard_of h c.at-id.result.0 ≡ None) (sym c.in_ok-hearing.ensures.front)
    (not_before c.args.before.now c.args.place c.at-id.result.0 c.at-id.result.1.now c.count-count.ensures.once c.at-id.ensures.at)

pub returns-clause-front : goal.returns-clause-front
returns-clause-front g c = record {
  count = c.args.place;
  name = c.at-id.result.0;
  was = c.at-id.result.1.now;
  outcome = c.in_ok-outcome.outcome;
  at = c.at-id.ensures.at;
  all = c.in_ok-put.ensures.heard ∙ ap (λ h. h ++ (c.at-id.result.0, c.in_ok-outcome.outcome) ∷ []) c.in_ok-hearing.ensures.front;
}

pub returns-clause-compared : goal.returns-clause-compared
returns-clause-compared g c = c.in_ok-put.ensures.compared c.args.before.now c.in_ok-hearing.ensures.compared (λ e. absurd (false≢true e))

pub returns-clause-after : goal.returns-clause-after
returns-clause-after g c =
    c.in_ok-outcome.ensures.after (take c.args.place c.args.before.now) c.put.new.self.heard
    (c.in_ok-put.ensures.heard ∙ ap (λ h. h ++ (c.at-id.result.0, c.in_ok-outcome.outcome) ∷ []) c.in_ok-hearing.ensures.front)
