use Rattle.std.proofs.Common.{length, sym, ◌∙◌}
use Rattle.std.proofs.lemmas.Bool.{eqb-true}
use Rattle.std.proofs.lemmas.List.{nil_from_length}
use Rattle.script_lines.proofs.Fronts.{none_begins, other_begins}
use Rattle.script_lines.proofs.word.begins_block.Goals as goal

pub returns-then-is_empty : goal.returns-then-is_empty
returns-then-is_empty c =
    let rest = c.behind_blanks-rest.result.now in
    sym (none_begins c.args.line.now (sym c.behind_blanks-rest.ensures ∙ nil_from_length rest (eqb-true (length rest) 0 (sym c.if-is_empty.ensures))))

pub returns-then-not-fronts_block : goal.returns-then-not-fronts_block
returns-then-not-fronts_block c =
    sym (other_begins c.behind_blanks-rest.result.now c.args.line.now (sym c.fronts_block.ensures ∙ c.if-not-fronts_block.true) (sym c.behind_blanks-rest.ensures))
