use Rattle.line_forms.proofs.Longest.{nothing_ahead, read_ahead}
use Rattle.line_forms.proofs.cursor.rough_at.Goals as goal

pub returns-in-Some : goal.returns-in-Some
returns-in-Some c =
    let read = rw c.in-Some.is at c.in_ok-rough.ensures in
    (read_ahead c.args.line.now c.args.tokens.now c.args.at c.in-Some.to c.in-Some.rough read, read.leaves)

pub returns-in-None : goal.returns-in-None
returns-in-None c = nothing_ahead c.args.line.now c.args.tokens.now c.args.at (rw c.in-None.is at c.in_ok-rough.ensures)
