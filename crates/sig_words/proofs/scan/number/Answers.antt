use Rattle.std.proofs.Common.{◌∙◌}
use Rattle.sig_words.proofs.Fronts.{number_run}
use Rattle.sig_words.proofs.scan.number.Goals as goal

pub returns-in_default-clause-token : goal.returns-in_default-clause-token
returns-in_default-clause-token c = λ z text next e form ends.
    let r = c.word_run-n.ensures in
    let same = number_run z text next c.args.bytes.now c.word_run-n.result e form ends r.some r.run r.ends in
    c.in_default.ensures z form.0 (c.split_at.ensures.front ∙ same)
