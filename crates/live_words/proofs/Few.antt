-- Whatever the words say, a job has few rounds.
use Rattle.std.proofs.Common.{ℕ, ◌≤◌, Bool, true, false, List, [], ◌∷◌, Option, Some, None, codes}
use Rattle.std.specs.Prelude.{option_map, if◌then◌else◌, IfSome}
use Rattle.clap.specs.Words.{Kinds, Row, Text, first_of}
use Rattle.live_words.specs.declared.jobs.Job.{Job}
use Rattle.live_words.specs.declared.jobs.Job.TheVariants as job
use Rattle.live_words.specs.declared.jobs.ScriptJob.TheVariants as script
use Rattle.live_words.specs.declared.jobs.TheConstants.{MOST_ROUNDS}
use Rattle.live_words.specs.Jobs.{bare_job, bench_job, is_text, job_of_rows, job_of_values, run_job, unless_refused, AsksFewRounds}
use Rattle.live_words.specs.Rounds.{rounds_of}
use Rattle.live_words.proofs.Numerals.{few_rounds}

run_few : (rounds : Option Text) (traced : Bool) → IfSome (run_job rounds traced) AsksFewRounds
run_few None true = tt
run_few None false = tt
run_few (Some rounds) traced = tt

mapped : (rounds : Option ℕ) → IfSome rounds (λ n. n ≤ MOST_ROUNDS) → IfSome (option_map (λ n. job.Script (script.Bench n)) rounds) AsksFewRounds
mapped None few = tt
mapped (Some n) few = few

bench_few : (rounds : Option Text) (traced : Bool) → IfSome (bench_job rounds traced) AsksFewRounds
bench_few None traced = tt
bench_few (Some rounds) true = tt
bench_few (Some rounds) false = mapped (rounds_of rounds) (few_rounds rounds)

bare_few : (j : Job) → AsksFewRounds j → (rounds : Option Text) (traced : Bool) → IfSome (bare_job j rounds traced) AsksFewRounds
bare_few j few None true = tt
bare_few j few None false = few
bare_few j few (Some rounds) traced = tt

-- of two the one that a test chooses
chosen : (a : Bool) (x y : Option Job) → IfSome x AsksFewRounds → IfSome y AsksFewRounds → IfSome (if a then x else y) AsksFewRounds
chosen true x y few more = few
chosen false x y few more = more

few_by_values : (name rounds trace : Option Text) → IfSome (job_of_values name rounds trace) AsksFewRounds
few_by_values name rounds trace =
    let traced : Bool = is_text (codes "true") trace in
    chosen (is_text (codes "run") name) (run_job rounds traced) _ (run_few rounds traced)
    (chosen (is_text (codes "bench") name) (bench_job rounds traced) _ (bench_few rounds traced)
    (chosen (is_text (codes "wire") name) (bare_job (job.Script script.Wire) rounds traced) _ (bare_few (job.Script script.Wire) tt rounds traced)
    (chosen (is_text (codes "follow") name) (bare_job job.Follow rounds traced) None (bare_few job.Follow tt rounds traced) tt)))

pub few_by_rows : (rows : List Row) → IfSome (job_of_rows rows) AsksFewRounds
few_by_rows rows = few_by_values (first_of (codes "job") rows) (first_of (codes "rounds") rows) (first_of (codes "trace") rows)

pub few_unless : (kinds : Kinds) (j : Option Job) → IfSome j AsksFewRounds → IfSome (unless_refused kinds j) AsksFewRounds
few_unless [] j few = few
few_unless (k ∷ kinds) j few = tt
