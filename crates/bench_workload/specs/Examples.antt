-- Worked examples: the lines of some rounds, a whole script, and a summary.
use Rattle.std.specs.Prelude.{◌≡◌, [], ◌∷◌, ◌++◌, codes}
use Rattle.std.specs.Fmt.{digits}
use Rattle.std.proofs.Common.{refl}
use Rattle.bench_workload.specs.Summary.{summary_text}
use Rattle.bench_workload.specs.Workload.{first_lines, lines_of_round, workload_text}

-- each round sets the number
pub first_round : lines_of_round 1 ≡ codes "set a 37" ∷ []
unfolding digits lines_of_round
first_round = refl

-- the switch is turned off in round 3, and on in round 6
pub third_round : lines_of_round 3 ≡ codes "set a 11" ∷ codes "set s false" ∷ []
unfolding digits lines_of_round
third_round = refl

-- each fourth round ends with a flush
pub fourth_round : lines_of_round 4 ≡ codes "set a 48" ∷ codes "flush" ∷ []
unfolding digits lines_of_round
fourth_round = refl

-- each third round turns the switch, on where its number is even
pub sixth_round : lines_of_round 6 ≡ codes "set a 22" ∷ codes "set s true" ∷ []
unfolding digits lines_of_round
sixth_round = refl

-- a third and fourth round does all of it
pub twelfth_round : lines_of_round 12 ≡ codes "set a 44" ∷ codes "set s true" ∷ codes "flush" ∷ []
unfolding digits lines_of_round
twelfth_round = refl

-- a number of one digit is written as that digit
pub hundredth_round : lines_of_round 100 ≡ codes "set a 0" ∷ codes "flush" ∷ []
unfolding digits lines_of_round
hundredth_round = refl

-- the lines before the first round, and that round
pub one_round : workload_text 1 ≡
    codes "cell a = 0\ncell s = true\ncomputed b = a + 1\ncomputed c = a * 2\ncomputed d = if s then b + c else b\ntemplate t\n" ++
    codes "tag @p\ntext d\nend\nend\nmount p t\nset a 37\nflush\n"
unfolding digits lines_of_round first_lines
one_round = refl

-- four rounds: the page shows 48 + 1, since the switch is off
pub four_rounds : summary_text 4 (record { commands = 14; runs = 5; ops = 2 }) (codes "<p>49</p>")
    ≡ codes "bench 4\ncommands 14\nruns 5\nops 2\npage <p>49</p>\n"
unfolding digits
four_rounds = refl
