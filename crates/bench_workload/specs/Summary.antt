-- The lines that tell what running the workload came to.
use Rattle.std.specs.Prelude.{ℕ, List, ◌++◌, codes}
use Rattle.std.specs.Fmt.{decimal}
use Rattle.bench_workload.specs.declared.summary.Counts.{Counts}

-- a word, a blank, what is told, and LF
abbrev pub word_line : List ℕ → List ℕ → List ℕ
word_line word told = word ++ (codes " " ++ (told ++ codes "\n"))

-- the rounds, the counts, and the bytes of the page at the end
abbrev pub summary_text : ℕ → Counts → List ℕ → List ℕ
summary_text rounds counts page =
    word_line (codes "bench") (decimal rounds)
    ++ (word_line (codes "commands") (decimal counts.commands)
    ++ (word_line (codes "runs") (decimal counts.runs)
    ++ (word_line (codes "ops") (decimal counts.ops)
    ++ word_line (codes "page") page)))
