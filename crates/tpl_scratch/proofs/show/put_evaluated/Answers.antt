use Rattle.std.proofs.Common.{◌++◌, [], ap, ◌∙◌}
use Rattle.page_model.specs.Labels.{with_value}
use Rattle.tpl_scratch.proofs.show.put_evaluated.Goals as goal

pub returns-clause-put : goal.returns-clause-put
returns-clause-put c = record {
  outcome = c.in_ok-outcome.outcome;
  found = c.in_ok-outcome.ensures.found;
  put = c.in_ok-put_attribute.ensures ∙ ap (λ v. c.args.out.now.items ++ with_value c.args.attribute.now.0 v []) c.in_ok-value.ensures;
  fault = c.is_fault-failed.ensures;
}
