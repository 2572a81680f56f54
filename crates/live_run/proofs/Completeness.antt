-- Where neither source nor sink failed and memory didn't run out, the bytes decide the status.
use Rattle.std.proofs.Common.{◌≤◌, ◌<◌, ℕ, List, Option, Some, None, length, refl, inl, inr, arith}
use Rattle.std.specs.Prelude.{IfSome}
use Rattle.sig_base.specs.declared.limits.TheConstants.{MOST_SCRIPT}
use Rattle.live_words.specs.declared.jobs.Job.TheVariants as job
use Rattle.page_follow.specs.declared.input.TheConstants.{MOST_FRAMES}
use Rattle.page_follow.specs.Following.{IsFollowed, IsFollowedInPart, IsFollowedUpTo, NoFault}
use Rattle.live_run.specs.declared.run.Status.TheVariants as status
use Rattle.live_run.specs.Completeness.{CompleteLaw, IsDecided}
use Rattle.live_run.specs.Jobs.{script_of}

-- what holds of some bytes where something else does
each : {P Q : List ℕ → Type 0} (o : Option (List ℕ)) → ((l : List ℕ) → P l → Q l) → IfSome o P → IfSome o Q
each None f p = tt
each (Some l) f p = f l p

-- and where two things do
of_two : {P Q R : List ℕ → Type 0} (o : Option (List ℕ)) → ((l : List ℕ) → P l → Q l → R l) → IfSome o P → IfSome o Q → IfSome o R
of_two None f p q = tt
of_two (Some l) f p q = f l p q

pub complete : CompleteLaw
complete meanings slacks (job.Script j) old new before after status.Done e no_read no_write room = (
  λ _. inl refl,
  each {P = λ script. length script ≤ MOST_SCRIPT} {Q = λ script. IsDecided (job.Script j) script status.Done} (script_of j old.left)
      (λ script few. record { few = λ _ _. refl; many = λ many _. absurd (omega (arith, few, many)); wrong = λ w. absurd w }) e.1,
)
complete meanings slacks (job.Script j) old new before after status.Usage e no_read no_write room = absurd e
complete meanings slacks (job.Script j) old new before after status.ReadFault e no_read no_write room = absurd (no_read e.0)
complete meanings slacks (job.Script j) old new before after status.WriteFault e no_read no_write room = absurd (no_write e.0)
complete meanings slacks (job.Script j) old new before after status.NoMemory e no_read no_write room = absurd (room refl)
complete meanings slacks (job.Script j) old new before after status.TooLong e no_read no_write room = (
  λ few. absurd (few e.0),
  each {P = λ script. MOST_SCRIPT < length script} {Q = λ script. IsDecided (job.Script j) script status.TooLong} (script_of j old.left)
      (λ script many. record { few = λ few _. absurd (omega (arith, few, many)); many = λ _ _. refl; wrong = λ w. absurd w }) e.1,
)
complete meanings slacks (job.Script j) old new before after status.BadFrames e no_read no_write room = absurd e
complete meanings slacks job.Follow old new before after status.Done e no_read no_write room = (
  λ _. inl refl,
  of_two {P = λ input. IsFollowed input before.held after.held} {Q = NoFault} {R = λ input. IsDecided job.Follow input status.Done} old.left
      (λ input all fine. let few = all.few in record { few = λ _ _. refl; many = λ many _. absurd (omega (arith, few, many)); wrong = λ w. absurd (fine w.0 w.1) }) e.0 e.1,
)
complete meanings slacks job.Follow old new before after status.Usage e no_read no_write room = absurd e
complete meanings slacks job.Follow old new before after status.ReadFault e no_read no_write room = absurd (no_read e.0)
complete meanings slacks job.Follow old new before after status.WriteFault e no_read no_write room = absurd (no_write e.0)
complete meanings slacks job.Follow old new before after status.NoMemory e no_read no_write room = absurd (room refl)
complete meanings slacks job.Follow old new before after status.TooLong e no_read no_write room = (
  λ few. absurd (few e.0),
  each {P = λ input. NoFault input × (MOST_FRAMES < length input) × IsFollowedInPart input before.held after.held}
      {Q = λ input. IsDecided job.Follow input status.TooLong} old.left
      (λ input t. let many = t.1 in record { few = λ few _. absurd (omega (arith, few, many)); many = λ _ _. refl; wrong = λ w. absurd (t.0 w.0 w.1) }) e.1,
)
complete meanings slacks job.Follow old new before after status.BadFrames e no_read no_write room = (
  λ _. inr (refl, refl),
  each {P = λ input. IsFollowedUpTo input before.held after.held} {Q = λ input. IsDecided job.Follow input status.BadFrames} old.left
      (λ input b. record { few = λ _ fine. absurd (fine b.notes b.bad); many = λ _ fine. absurd (fine b.notes b.bad); wrong = λ _. refl }) e.1,
)
