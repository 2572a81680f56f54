use Rattle.std.proofs.Common.{ℕ, List, ◌++◌, flat_map, ap, ◌∙◌, arith}
use Rattle.std.proofs.lemmas.List.{take_all}
use Rattle.line_forms.proofs.Separators.{behind_blank, each_spaced}
use Rattle.line_forms.proofs.writer.put_names.Goals as goal

pub returns : goal.returns
returns c =
    let h = c.loop-name-test.false in
    let all = take_all c.loop-name.name-index c.args.names.now (omega arith) in
    c.loop-name.invariant ∙ ap (λ (bs : List ℕ). c.args.out.now.items ++ bs) (ap (flat_map behind_blank) all ∙ each_spaced c.args.names.now)
