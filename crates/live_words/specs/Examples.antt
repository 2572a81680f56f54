-- Worked examples: the words behind the program's name, and the job that they ask for.
use Rattle.std.specs.Prelude.{◌≡◌, List, [], ◌∷◌, Option, Some, None, codes}
use Rattle.std.specs.Fmt.{digits}
use Rattle.std.proofs.Common.{refl}
use Rattle.clap.specs.Words.{Text}
use Rattle.clap.proofs.OnLiterals.{clap_on_literals}
use Rattle.live_words.specs.declared.jobs.Job.{Job}
use Rattle.live_words.specs.declared.jobs.Job.TheVariants as job
use Rattle.live_words.specs.declared.jobs.ScriptJob.TheVariants as script
use Rattle.live_words.specs.Jobs.{job_of}
use Rattle.live_words.specs.Rounds.{rounds_of}

-- the job of the words behind the program's name
abbrev pub job_by : List Text → Option Job
job_by words = job_of (codes "live" ∷ words)

-- ---- jobs

-- a script is run
pub run_is : job_by (codes "run" ∷ []) ≡ Some (job.Script script.Run)
unfolding clap_on_literals
run_is = refl

-- with a trace
pub trace_is : job_by (codes "run" ∷ codes "--trace" ∷ []) ≡ Some (job.Script script.Trace)
unfolding clap_on_literals
trace_is = refl

-- the flag may stand in front
pub trace_in_front : job_by (codes "--trace" ∷ codes "run" ∷ []) ≡ Some (job.Script script.Trace)
unfolding clap_on_literals
trace_in_front = refl

-- the workload, of twelve rounds
pub bench_is : job_by (codes "bench" ∷ codes "12" ∷ []) ≡ Some (job.Script (script.Bench 12))
unfolding clap_on_literals rounds_of digits
bench_is = refl

-- frames are written
pub wire_is : job_by (codes "wire" ∷ []) ≡ Some (job.Script script.Wire)
unfolding clap_on_literals
wire_is = refl

-- frames are followed
pub follow_is : job_by (codes "follow" ∷ []) ≡ Some job.Follow
unfolding clap_on_literals
follow_is = refl

-- ---- other words

-- no word at all is no job
pub no_words : job_by [] ≡ None
unfolding clap_on_literals
no_words = refl

-- nor is another word
pub no_job : job_by (codes "walk" ∷ []) ≡ None
unfolding clap_on_literals
no_job = refl

-- a call for help is no job, nor is one for the version
pub help_is_none : job_by (codes "run" ∷ codes "--help" ∷ []) ≡ None
unfolding clap_on_literals
help_is_none = refl

-- so it is with the version
pub version_is_none : job_by (codes "--version" ∷ []) ≡ None
unfolding clap_on_literals
version_is_none = refl

-- a script has no rounds, the workload needs them and has no trace
pub run_with_rounds : job_by (codes "run" ∷ codes "12" ∷ []) ≡ None
unfolding clap_on_literals
run_with_rounds = refl

-- the workload has rounds
pub bench_without_rounds : job_by (codes "bench" ∷ []) ≡ None
unfolding clap_on_literals
bench_without_rounds = refl

-- the workload has no trace
pub bench_with_trace : job_by (codes "bench" ∷ codes "12" ∷ codes "--trace" ∷ []) ≡ None
unfolding clap_on_literals
bench_with_trace = refl

-- nor do frames, written or read, have rounds or a trace
pub wire_with_trace : job_by (codes "wire" ∷ codes "--trace" ∷ []) ≡ None
unfolding clap_on_literals
wire_with_trace = refl

-- frames have no rounds
pub follow_with_rounds : job_by (codes "follow" ∷ codes "12" ∷ []) ≡ None
unfolding clap_on_literals
follow_with_rounds = refl

-- rounds from 1 to 100,000, with no zero in front
pub no_rounds : rounds_of (codes "0") ≡ None
unfolding rounds_of digits
no_rounds = refl

-- a zero in front is no number of rounds
pub zero_in_front : rounds_of (codes "012") ≡ None
unfolding rounds_of digits
zero_in_front = refl

-- so many are the most
pub most_rounds : rounds_of (codes "100000") ≡ Some 100000
unfolding rounds_of digits
most_rounds = refl

-- one more are too many
pub too_many_rounds : rounds_of (codes "100001") ≡ None
unfolding rounds_of digits
too_many_rounds = refl
