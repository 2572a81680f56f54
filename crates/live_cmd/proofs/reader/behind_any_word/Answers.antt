use Rattle.std.proofs.Common.{◌≡◌, List, sym, subst}
use Rattle.line_forms.specs.Reads.{IfRead}
use Rattle.line_forms.specs.Told.{ahead}
use Rattle.live_cmd.specs.Grammar.{Row}
use Rattle.live_cmd.specs.Views.{found_first}
use Rattle.live_cmd.proofs.Spellings.{rows_of_other, verb_rows}
use Rattle.live_cmd.proofs.reader.behind_any_word.Goals as goal

pub returns-in-Some : goal.returns-in-Some
returns-in-Some c =
    subst (λ (rs : List Row). IfRead c.named.result (λ found. found ≡ found_first rs (ahead c.args.line.now c.args.tokens.now 1)))
    (sym (verb_rows c.args.word.now c.in-Some.verb c.in-Some.ensures)) c.named.ensures

pub returns-in-None : goal.returns-in-None
returns-in-None c =
    subst (λ (rs : List Row). IfRead c.behind_other_word.result (λ found. found ≡ found_first rs (ahead c.args.line.now c.args.tokens.now 1)))
    (sym (rows_of_other c.args.word.now c.in-None.ensures)) c.behind_other_word.ensures
