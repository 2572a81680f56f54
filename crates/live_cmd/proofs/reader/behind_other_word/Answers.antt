use Rattle.std.proofs.Common.{◌≡◌, List, sym, subst}
use Rattle.line_forms.specs.Reads.{IfRead}
use Rattle.line_forms.specs.Told.{ahead}
use Rattle.live_cmd.specs.Grammar.{Row}
use Rattle.live_cmd.specs.Views.{found_first}
use Rattle.live_cmd.proofs.Spellings.{bare_rows, rows_of_later}
use Rattle.live_cmd.proofs.reader.behind_other_word.Goals as goal

pub returns-in-Some : goal.returns-in-Some
returns-in-Some c =
    subst (λ (rs : List Row). IfRead c.only.result (λ found. found ≡ found_first rs (ahead c.args.line.now c.args.tokens.now 1)))
    (sym (bare_rows c.args.word.now c.in-Some.bare c.in-Some.ensures)) c.only.ensures

pub returns-in-None : goal.returns-in-None
returns-in-None c =
    subst (λ (rs : List Row). IfRead c.behind_later_word.result (λ found. found ≡ found_first rs (ahead c.args.line.now c.args.tokens.now 1)))
    (sym (rows_of_later c.args.word.now c.in-None.ensures)) c.behind_later_word.ensures
