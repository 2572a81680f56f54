use Rattle.std.proofs.Common.{ap, ◌∙◌}
use Rattle.std.specs.Fmt.{decimal}
use Rattle.page_ops.specs.Parser.{behind_front, front}
use Rattle.page_ops.proofs.Words.{behind_is, front_is, number_run}
use Rattle.page_ops.proofs.nodes.number_at.Goals as goal

pub returns-clause-same : goal.returns-clause-same
returns-clause-same c = λ n rest fits ends e.
    let run = number_run n fits in (
      c.number.ensures n fits (c.word.ensures.front ∙ (ap front e ∙ front_is (decimal n) rest run ends)),
      c.word.ensures.behind ∙ (ap behind_front e ∙ behind_is (decimal n) rest run ends),
    )
