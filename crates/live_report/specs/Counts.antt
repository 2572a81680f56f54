-- What the summary of a workload counts, of a script's items and of what they tell.
use Rattle.std.specs.Prelude.{◌+◌, ℕ, Bool, true, false, List, [], ◌∷◌}
use Rattle.std.specs.List.{count_by}
use Rattle.bench_workload.specs.declared.summary.Counts.{Counts}
use Rattle.live_cmd.specs.declared.command.Item.{Item}
use Rattle.live_cmd.specs.declared.command.Item.TheVariants as item
use Rattle.live_entries.specs.declared.entry.Entry.{Entry}
use Rattle.live_entries.specs.declared.entry.Entry.TheVariants as entry

-- whether an item is a command. A block is one
abbrev pub is_command : Item → Bool
is_command (item.Do c) = true
is_command (item.Refused r) = false

-- whether an entry tells the run of a computed
abbrev pub is_run : Entry → Bool
is_run (entry.Run n reads o) = true
is_run _ = false

-- whether an entry tells an operation on a page
abbrev pub is_op : Entry → Bool
is_op (entry.Op n o) = true
is_op _ = false

-- how many commands there are, how many runs are told, and how many operations
unfoldable pub counts_of : List Item → List Entry → Counts
counts_of is es = record { commands = count_by is_command is; runs = count_by is_run es; ops = count_by is_op es }

-- the counts of two parts together
abbrev pub added : Counts → Counts → Counts
added a b = record { commands = a.commands + b.commands; runs = a.runs + b.runs; ops = a.ops + b.ops }

-- the bytes of a page as an entry tells it, or else these
abbrev pub page_with : List ℕ → Entry → List ℕ
page_with page (entry.Page n bytes) = bytes
page_with page _ = page

-- the bytes of the page that is told last, or else these
abbrev pub page_after : List ℕ → List Entry → List ℕ
page_after page [] = page
page_after page (e ∷ es) = page_after (page_with page e) es
