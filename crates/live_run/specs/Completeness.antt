-- How a run ends where neither source nor sink failed and memory didn't run out.
use Rattle.std.specs.Prelude.{◌≡◌, ◌≤◌, ◌<◌, ◌+◌, ◌⊎◌, ℕ, List, Option, IfSome, length}
use Rattle.sig_base.specs.declared.limits.TheConstants.{MOST_SCRIPT}
use Rattle.sig_io.specs.Counts.{Rose, raised}
use Rattle.sig_host.specs.Hosts.{Meaning}
use Rattle.live_words.specs.declared.jobs.Job.{Job}
use Rattle.live_words.specs.declared.jobs.Job.TheVariants as job
use Rattle.wire_model.specs.Notes.{Note}
use Rattle.page_follow.specs.declared.input.TheConstants.{MOST_FRAMES}
use Rattle.page_follow.specs.Following.{IsAtFault, NoFault}
use Rattle.live_run.specs.declared.run.Status.{Status}
use Rattle.live_run.specs.declared.run.Status.TheVariants as status
use Rattle.live_run.specs.Ends.{Ends, SinkSeen, SourceSeen}
use Rattle.live_run.specs.Jobs.{script_of}

-- what a job goes by, where this is left in the source
abbrev pub input_of : Job → Option (List ℕ) → Option (List ℕ)
input_of (job.Script j) left = script_of j left
input_of job.Follow left = left

-- the most bytes of it
abbrev pub limit_of : Job → ℕ
limit_of (job.Script j) = MOST_SCRIPT
limit_of job.Follow = MOST_FRAMES

-- more bytes were given than these, or the count stands at its last value
abbrev pub GaveOver : ℕ → ℕ → ℕ → Type 0
GaveOver most before now = raised before (most + 1) ≤ now

-- frames have no fault; what is wrong in a script is told
abbrev pub IsRight : Job → List ℕ → Type 0
IsRight (job.Script j) input = Unit {0}
IsRight job.Follow input = NoFault input

-- frames have one
abbrev pub IsWrong : Job → List ℕ → Type 0
IsWrong (job.Script j) input = ⊥
IsWrong job.Follow input = (notes : List Note) × IsAtFault input notes

-- What a job goes by decides the status.
pub record IsDecided (j : Job) (input : List ℕ) (s : Status) : Type 0 where
  pub few : length input ≤ limit_of j → IsRight j input → s ≡ status.Done
  pub many : limit_of j < length input → IsRight j input → s ≡ status.TooLong
  pub wrong : IsWrong j input → s ≡ status.BadFrames

-- Where neither source nor sink failed and memory didn't run out, a job that wasn't given too much is done, or its frames have a fault. And what the
-- source tells that it has, or the workload, decides which.
abbrev pub CompleteLaw : Type 0
CompleteLaw = (meanings : List Meaning) (slacks : List ℕ) (j : Job) (old new : SourceSeen) (before after : SinkSeen) (s : Status) →
    Ends meanings slacks j old new before after s → (Rose old.faults new.faults → ⊥) → (Rose before.faults after.faults → ⊥) →
    (s ≡ status.NoMemory → ⊥) →
    ((GaveOver (limit_of j) old.given new.given → ⊥) → (s ≡ status.Done) ⊎ ((j ≡ job.Follow) × (s ≡ status.BadFrames)))
    × IfSome (input_of j old.left) (λ input. IsDecided j input s)
