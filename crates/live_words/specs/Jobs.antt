-- What the words of the command line ask for.
use Rattle.std.specs.Prelude.{◌≤◌, Bool, true, false, List, [], ◌∷◌, Option, Some, None, option_map, codes, if◌then◌else◌}
use Rattle.std.specs.Option.{option_map_or}
use Rattle.std.specs.Str.{bytes_eq}
use Rattle.clap.specs.Words.{App, Kinds, Row, Rule, Text, fault_of, first_of, matches_of, new_app, new_rule, with_rule}
use Rattle.clap.specs.declared.builder.ArgAction.TheVariants.{Set, SetTrue}
use Rattle.live_words.specs.declared.jobs.Job.{Job}
use Rattle.live_words.specs.declared.jobs.Job.TheVariants as job
use Rattle.live_words.specs.declared.jobs.ScriptJob.{ScriptJob}
use Rattle.live_words.specs.declared.jobs.ScriptJob.TheVariants as script
use Rattle.live_words.specs.declared.jobs.TheConstants.{MOST_ROUNDS}
use Rattle.live_words.specs.Rounds.{rounds_of}

-- a value that has to be there
abbrev pub job_rule : Rule
job_rule = record (new_rule (codes "job")) { required = true; action = Some Set }

-- a value that may be there
abbrev pub rounds_rule : Rule
rounds_rule = record (new_rule (codes "rounds")) { action = Some Set }

-- a flag that may be set, once
abbrev pub trace_rule : Rule
trace_rule = record (new_rule (codes "trace")) { long = Some (codes "trace"); action = Some SetTrue }

-- the command: JOB, then ROUNDS, and the flag `--trace`, with no subcommands
abbrev pub live : App
live = with_rule (with_rule (with_rule (new_app (codes "live")) job_rule) rounds_rule) trace_rule

-- whether a value is there, and is this text
abbrev pub is_text : Text → Option Text → Bool
is_text text value = option_map_or (λ v. bytes_eq v text) value false

-- running the script takes no rounds
abbrev pub run_job : Option Text → Bool → Option Job
run_job None traced = Some (job.Script (if traced then script.Trace else script.Run))
run_job (Some rounds) traced = None

-- the generated workload needs its rounds, and takes no trace
abbrev pub bench_job : Option Text → Bool → Option Job
bench_job None traced = None
bench_job (Some rounds) traced = if traced then None else option_map (λ n. job.Script (script.Bench n)) (rounds_of rounds)

-- a job that takes neither rounds nor a trace
abbrev pub bare_job : Job → Option Text → Bool → Option Job
bare_job j None traced = if traced then None else Some j
bare_job j (Some rounds) traced = None

-- the job that the values of JOB, ROUNDS and the flag name
abbrev pub job_of_values : Option Text → Option Text → Option Text → Option Job
job_of_values name rounds trace =
    if is_text (codes "run") name then run_job rounds (is_text (codes "true") trace)
    else (if is_text (codes "bench") name then bench_job rounds (is_text (codes "true") trace)
    else (if is_text (codes "wire") name then bare_job (job.Script script.Wire) rounds (is_text (codes "true") trace)
    else (if is_text (codes "follow") name then bare_job job.Follow rounds (is_text (codes "true") trace) else None)))

-- the job that the matches of the command name
abbrev pub job_of_rows : List Row → Option Job
job_of_rows rows = job_of_values (first_of (codes "job") rows) (first_of (codes "rounds") rows) (first_of (codes "trace") rows)

-- none where the command refuses the words
abbrev pub unless_refused : Kinds → Option Job → Option Job
unless_refused [] j = j
unless_refused (k ∷ ks) j = None

-- the job of words that the command takes, of which the first is the program's name
abbrev pub job_of : List Text → Option Job
job_of words = unless_refused (fault_of live words) (job_of_rows (matches_of live words))

-- a workload has at most `MOST_ROUNDS` rounds
abbrev pub HasFewRounds : ScriptJob → Type 0
HasFewRounds (script.Bench n) = n ≤ MOST_ROUNDS
HasFewRounds _ = Unit {0}

-- one that is asked for has at most so many
abbrev pub AsksFewRounds : Job → Type 0
AsksFewRounds (job.Script j) = HasFewRounds j
AsksFewRounds job.Follow = Unit {0}
