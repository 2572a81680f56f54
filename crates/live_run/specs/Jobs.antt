-- What a job runs and prints, by what the caller lends, what pages show, and how much of a source is read.
use Rattle.std.specs.Prelude.{◌≡◌, ◌≤◌, ◌+◌, ◌++◌, ◌∷◌, ℕ, Bool, true, false, List, [], Option, Some, length}
use Rattle.std.specs.List.{AllByRecursion}
use Rattle.std.specs.Io.KnownBytes.{Consumes}
use Rattle.sig_base.specs.declared.limits.TheConstants.{MOST_SCRIPT}
use Rattle.sig_io.specs.Counts.{raised}
use Rattle.sig_host.specs.Hosts.{Meaning, hosts_of}
use Rattle.effect_model.specs.Worlds.{Environment}
use Rattle.bench_workload.specs.Workload.{workload_text}
use Rattle.live_words.specs.declared.jobs.ScriptJob.{ScriptJob}
use Rattle.live_words.specs.declared.jobs.ScriptJob.TheVariants as job
use Rattle.live_cmd.specs.declared.command.Item.{Item}
use Rattle.script_items.specs.Items.{Begins}
use Rattle.live_entries.specs.declared.entry.Entry.{Entry}
use Rattle.live_entries.specs.Printed.{IsSizedEntry}
use Rattle.live_report.specs.declared.report.Report.{Report}
use Rattle.live_report.specs.Reports.{output_of, still}
use Rattle.live_model.specs.Machine.{Machine, empty, step, reached}
use Rattle.live_model.specs.Output.{entries_from}
use Rattle.page_laws.specs.LivePages.{IsLive}
use Rattle.follow_laws.specs.Laws.{IsFollowed}
use Rattle.wire_model.specs.Wired.{page_lines, wired}

-- whether a job reads the source
abbrev pub reads : ScriptJob → Bool
reads job.Run = true
reads job.Trace = true
reads (job.Bench n) = false
reads job.Wire = true

-- the script that a job runs, where this is left in the source: that, or the generated workload
abbrev pub script_of : ScriptJob → Option (List ℕ) → Option (List ℕ)
script_of job.Run left = left
script_of job.Trace left = left
script_of (job.Bench n) left = Some (workload_text n)
script_of job.Wire left = left

-- the host formulas of these meanings, and equality rules with these slacks
abbrev pub lent : List Meaning → List ℕ → Environment
lent meanings slacks = record { hosts = hosts_of meanings; slacks = slacks }

-- what a job prints of a script with these items, by what they tell from the empty machine on, where these host formulas and rules are lent
abbrev pub lent_output : List Meaning → List ℕ → ScriptJob → List Item → List ℕ
lent_output meanings slacks j is = output_of j is (entries_from (lent meanings slacks) (empty (length meanings)) is)

-- The pages of these items are live from the first item to the last, where these host formulas and rules are lent. And whoever follows the notes of
-- what they tell refuses none, and prints the lines of the pages.
pub record Lives (meanings : List Meaning) (slacks : List ℕ) (is : List Item) : Type 0 where
  pub live : IsLive (lent meanings slacks) (empty (length meanings)) is
  pub followed : IsFollowed (wired (entries_from (lent meanings slacks) (empty (length meanings)) is)) []
      (page_lines (entries_from (lent meanings slacks) (empty (length meanings)) is))

-- more bytes were given than a script has, or the count stands at its last value
abbrev pub GaveTooMuch : ℕ → ℕ → Type 0
GaveTooMuch before now = raised before (MOST_SCRIPT + 1) ≤ now

-- some front of the bytes is gone
abbrev pub ConsumesFront : Option (List ℕ) → Option (List ℕ) → Type 0
ConsumesFront old new = (front : List ℕ) × Consumes old new front

-- what entries tell can be printed and read
abbrev pub AreSized : List Entry → Type 0
AreSized es = AllByRecursion IsSizedEntry es

-- A report took in an item and what it told: what is to be written now, and what is printed yet, is what it was.
abbrev pub TookIn : Report → Report → List ℕ → List ℕ → Item → List Entry → Type 0
TookIn r next out now i es = (is : List Item) (fs : List Entry) → now ++ still next is fs ≡ out ++ still r (i ∷ is) (es ++ fs)

-- an item was done: the machine came to what the plain machine comes to, and the report took in what that tells
pub record DidItem (env : Environment) (old new : Machine) (i : Item) (r next : Report) (out now : List ℕ) : Type 0 where
  pub entries : List Entry
  pub is : reached new entries ≡ step env old i
  pub sized : AreSized entries
  pub took : TookIn r next out now i entries

-- the item that begins at a byte of a script was done
pub record DidNext (env : Environment) (old new : Machine) (script : List ℕ) (at line next_at after : ℕ) (r next : Report)
    (out now : List ℕ) : Type 0 where
  pub item : Item
  pub begins : Begins script at line item next_at after
  pub did : DidItem env old new item r next out now
