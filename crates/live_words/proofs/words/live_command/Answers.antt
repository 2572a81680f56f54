use Rattle.std.proofs.Common.{rules, ap₂, ◌≡◌, ◌∙◌}
use Rattle.std.proofs.lemmas.Result.{IfOk-weaker}
use Rattle.clap.specs.Words.{rule_of, with_rule}
use Rattle.live_words.specs.Jobs.{job_rule, rounds_rule, trace_rule}
use Rattle.live_words.proofs.words.live_command.Goals as goal

pub returns : goal.returns
returns c =
    let job_is : rule_of c.action-job.result ≡ job_rule = search rules in
    let rounds_is : rule_of c.action-rounds.result ≡ rounds_rule = search rules in
    let trace_is : rule_of c.action-trace.result ≡ trace_rule = search rules in
    IfOk-weaker c.arg-3.result _ _ (λ r added. added.shape (search rules)
    ∙ ap₂ with_rule (c.in_ok-arg-2.ensures.shape (search rules)
    ∙ ap₂ with_rule (c.in_ok-arg.ensures.shape (search rules) ∙ ap₂ with_rule c.new-4.ensures.app job_is) rounds_is) trace_is) c.arg-3.ensures
