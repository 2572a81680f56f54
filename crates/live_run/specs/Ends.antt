-- What the status says of a run.
use Rattle.std.specs.Prelude.{◌≡◌, ◌≤◌, ◌<◌, ℕ, Bool, true, false, List, Option, IfSome, length}
use Rattle.std.specs.Io.KnownBytes.{Appends, IsAtEnd}
use Rattle.sig_base.specs.declared.limits.TheConstants.{MOST_SCRIPT}
use Rattle.sig_io.specs.Counts.{AppendsFront, Rose}
use Rattle.sig_host.specs.Hosts.{Meaning}
use Rattle.live_words.specs.declared.jobs.Job.{Job}
use Rattle.live_words.specs.declared.jobs.Job.TheVariants as job
use Rattle.live_words.specs.declared.jobs.ScriptJob.{ScriptJob}
use Rattle.live_cmd.specs.declared.command.Item.{Item}
use Rattle.script_items.specs.Items.{ItemsFrom}
use Rattle.page_follow.specs.declared.input.TheConstants.{MOST_FRAMES}
use Rattle.page_follow.specs.Following.{GaveTooMany, IsFollowed, IsFollowedInPart, IsFollowedUpTo, NoFault}
use Rattle.live_run.specs.declared.run.Status.{Status}
use Rattle.live_run.specs.declared.run.Status.TheVariants as status
use Rattle.live_run.specs.Jobs.{lent_output, reads, script_of, GaveTooMuch, Lives}

-- a source at one moment: the bytes that it has left, if it tells them, how many it gave, and how often it failed
pub record SourceSeen : Type 0 where
  pub left : Option (List ℕ)
  pub given : ℕ
  pub faults : ℕ

-- a sink at one moment: the bytes that it holds, if it tells them, and how often it failed
pub record SinkSeen : Type 0 where
  pub held : Option (List ℕ)
  pub faults : ℕ

-- ---- scripts

-- What is printed of a script is the job's output over its items, by the plain machine and by what the host formulas and the rules mean. And the
-- pages are live: after each flush that isn't refused each is, byte for byte, its template evaluated from scratch, and the printed operations, read
-- and replayed on the page before, give the page after.
abbrev pub IsPrinted : List Meaning → List ℕ → ScriptJob → Option (List ℕ) → Option (List ℕ) → List ℕ → Type 0
IsPrinted meanings slacks j held now script =
    (items : List Item) × ItemsFrom 1 script items × Appends held now (lent_output meanings slacks j items) × Lives meanings slacks items

-- a front of that was printed
abbrev pub IsFrontPrinted : List Meaning → List ℕ → ScriptJob → Option (List ℕ) → Option (List ℕ) → List ℕ → Type 0
IsFrontPrinted meanings slacks j held now script =
    (items : List Item) × ItemsFrom 1 script items × AppendsFront held now (lent_output meanings slacks j items)

-- What each status says of a job that runs a script, where the source tells its bytes or the job doesn't read it: the script is no longer than it
-- may be, or too long, and its output was printed, or a front of it. Source and sink are blamed only where they failed, and the source never by a job
-- that doesn't read it.
abbrev pub ScriptEnds : List Meaning → List ℕ → ScriptJob → SourceSeen → SourceSeen → SinkSeen → SinkSeen → Status → Type 0
ScriptEnds meanings slacks j old new before after status.Done =
    IfSome (script_of j old.left) (λ script. IsPrinted meanings slacks j before.held after.held script)
    × IfSome (script_of j old.left) (λ script. length script ≤ MOST_SCRIPT)
    × (reads j ≡ true → IsAtEnd new.left)
ScriptEnds meanings slacks j old new before after status.ReadFault = Rose old.faults new.faults × (reads j ≡ false → ⊥)
ScriptEnds meanings slacks j old new before after status.WriteFault =
    Rose before.faults after.faults
    × IfSome (script_of j old.left) (λ script. IsFrontPrinted meanings slacks j before.held after.held script)
    × IfSome (script_of j old.left) (λ script. length script ≤ MOST_SCRIPT)
ScriptEnds meanings slacks j old new before after status.NoMemory =
    IfSome (script_of j old.left) (λ script. IsFrontPrinted meanings slacks j before.held after.held script)
ScriptEnds meanings slacks j old new before after status.TooLong =
    GaveTooMuch old.given new.given
    × IfSome (script_of j old.left) (λ script. MOST_SCRIPT < length script)
    × (reads j ≡ false → ⊥)
ScriptEnds meanings slacks j old new before after _ = ⊥

-- ---- frames

-- What each status says where frames are followed and the source tells its bytes: they have no fault and all that their notes print was written, or
-- they have one and all before it was written, or a front of what the notes of a front print. They are too long only where they have no fault up to
-- there. Source and sink are blamed only where they failed, and the frames only once some came.
abbrev pub FollowEnds : SourceSeen → SourceSeen → SinkSeen → SinkSeen → Status → Type 0
FollowEnds old new before after status.Done =
    IfSome old.left (λ input. IsFollowed input before.held after.held) × IfSome old.left NoFault × IsAtEnd new.left
FollowEnds old new before after status.ReadFault =
    Rose old.faults new.faults × IfSome old.left (λ input. IsFollowedInPart input before.held after.held)
FollowEnds old new before after status.WriteFault =
    Rose before.faults after.faults × IfSome old.left (λ input. IsFollowedInPart input before.held after.held)
FollowEnds old new before after status.NoMemory = IfSome old.left (λ input. IsFollowedInPart input before.held after.held)
FollowEnds old new before after status.TooLong =
    GaveTooMany old.given new.given
    × IfSome old.left (λ input. NoFault input × (MOST_FRAMES < length input) × IsFollowedInPart input before.held after.held)
FollowEnds old new before after status.BadFrames =
    Rose old.given new.given × IfSome old.left (λ input. IsFollowedUpTo input before.held after.held)
FollowEnds old new before after status.Usage = ⊥

-- ---- by job

-- what each status says of a job
abbrev pub Ends : List Meaning → List ℕ → Job → SourceSeen → SourceSeen → SinkSeen → SinkSeen → Status → Type 0
Ends meanings slacks (job.Script j) old new before after s = ScriptEnds meanings slacks j old new before after s
Ends meanings slacks job.Follow old new before after s = FollowEnds old new before after s

-- whether a job reads the source
abbrev pub reads_input : Job → Bool
reads_input (job.Script j) = reads j
reads_input job.Follow = true

-- whether it writes nothing before all is read
abbrev pub writes_late : Job → Bool
writes_late (job.Script j) = true
writes_late job.Follow = false
