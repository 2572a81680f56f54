use Rattle.std.proofs.Common.{arith, sym, ap, ◌∙◌}
use Rattle.std.specs.Char.{is_ascii_lowercase}
use Rattle.sig_words.proofs.Fronts.{tag_size, tag_front}
use Rattle.sig_words.proofs.scan.tag.Goals as goal

pub returns-then-n-clause-token : goal.returns-then-n-clause-token
returns-then-n-clause-token c = λ text next e form ends.
    let r = c.tag_run-n.ensures in
    let small = tag_size text next c.args.bytes.now c.tag_run-n.result e form ends r.some r.within r.run r.ends in
    omega arith

pub returns-clause-token : goal.returns-clause-token
returns-clause-token c =
    let r = c.tag_run-n.ensures in
    let lower = ap is_ascii_lowercase (sym c.second.ensures) ∙ sym c.if-not-is_ascii_lowercase.ensures.value in
    tag_front c.args.bytes.now c.tag_run-n.result c.requires.begins lower r.some r.within (omega arith) r.run r.ends
