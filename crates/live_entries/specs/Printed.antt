-- The lines in which entries are printed.
use Rattle.std.specs.Prelude.{◌≡◌, ℕ, Bool, true, false, List, [], ◌∷◌, ◌++◌, ◌&&◌, not, length, flat_map, codes, if◌then◌else◌}
use Rattle.std.specs.Fmt.{decimal}
use Rattle.std.specs.List.{AllByRecursion}
use Rattle.sig_base.specs.Printer.{printed as printed_value, fault_name, quoted}
use Rattle.sig_base.specs.declared.value.Fault.{Fault}
use Rattle.sig_base.specs.declared.value.Outcome.{Outcome}
use Rattle.sig_base.specs.declared.value.Outcome.TheVariants.{Good, Bad}
use Rattle.sig_base.specs.declared.value.Value.{Value}
use Rattle.page_model.specs.Replay.{Op}
use Rattle.page_model.specs.Texts.{op_text, IsSized}
use Rattle.live_entries.specs.declared.refusal.FieldDetail.{FieldDetail}
use Rattle.live_entries.specs.declared.refusal.FieldDetail.TheVariants as detail
use Rattle.live_entries.specs.declared.refusal.LimitWord.{LimitWord}
use Rattle.live_entries.specs.declared.refusal.LimitWord.TheVariants as limit
use Rattle.live_entries.specs.declared.refusal.Refusal.{Refusal}
use Rattle.live_entries.specs.declared.refusal.Refusal.TheVariants as refusal
use Rattle.live_entries.specs.declared.label.Label.{Label}
use Rattle.live_entries.specs.declared.entry.Seen.{Seen}
use Rattle.live_entries.specs.declared.entry.Seen.TheVariants as seen
use Rattle.live_entries.specs.declared.entry.Reason.{Reason}
use Rattle.live_entries.specs.declared.entry.Reason.TheVariants as reason
use Rattle.live_entries.specs.declared.entry.Entry.{Entry}
use Rattle.live_entries.specs.declared.entry.Entry.TheVariants as entry

-- the word of a limit
abbrev pub limit_word : LimitWord → List ℕ
limit_word limit.Line = codes "line"
limit_word limit.Text = codes "text"
limit_word limit.Fields = codes "fields"
limit_word limit.Sources = codes "sources"
limit_word limit.Body = codes "body"
limit_word limit.Template = codes "template"
limit_word limit.Nodes = codes "nodes"
limit_word limit.Rows = codes "rows"
limit_word limit.Effects = codes "effects"
limit_word limit.Owners = codes "owners"
limit_word limit.Watchers = codes "watchers"
limit_word limit.Templates = codes "templates"
limit_word limit.Pages = codes "pages"
limit_word limit.Handlers = codes "handlers"
limit_word limit.Facts = codes "facts"

-- a name behind a blank
abbrev pub listed : List ℕ → List ℕ
listed n = codes " " ++ n

-- a field that isn't there, or a number of values for other fields
abbrev pub field_text : FieldDetail → List ℕ
field_text (detail.Field n) = codes "12 " ++ n
field_text (detail.Count k) = codes "12 " ++ decimal k

-- the number of a refusal, and what it was refused for
abbrev pub refusal_text : Refusal → List ℕ
refusal_text (refusal.Syntax k) = codes "1 " ++ decimal k
refusal_text (refusal.Unknown n) = codes "2 " ++ n
refusal_text (refusal.Taken n) = codes "3 " ++ n
refusal_text (refusal.Kind n) = codes "4 " ++ n
refusal_text (refusal.Gone n) = codes "6 " ++ n
refusal_text (refusal.Limit l) = codes "5 " ++ limit_word l
refusal_text (refusal.HostPlace k) = codes "7 " ++ decimal k
refusal_text (refusal.HostTaken k) = codes "8 " ++ decimal k
refusal_text (refusal.KeyTaken k) = codes "9 " ++ quoted k
refusal_text (refusal.KeyMissing k) = codes "10 " ++ quoted k
refusal_text (refusal.Place k) = codes "11 " ++ decimal k
refusal_text (refusal.Field d) = field_text d
refusal_text (refusal.NotWatched n) = codes "13 " ++ n
refusal_text (refusal.Frozen ns) = codes "14" ++ flat_map listed ns
refusal_text (refusal.UntrackHere k) = codes "15 " ++ decimal k
refusal_text (refusal.ItHere k) = codes "16 " ++ decimal k
refusal_text (refusal.VoidChild k) = codes "17 " ++ decimal k
refusal_text (refusal.RawText k) = codes "18 " ++ decimal k
refusal_text (refusal.Nest k) = codes "19 " ++ decimal k
refusal_text refusal.Turns = codes "20"
refusal_text (refusal.RulePlace k) = codes "21 " ++ decimal k
refusal_text refusal.BatchOpen = codes "22"
refusal_text refusal.NoBatch = codes "23"
refusal_text (refusal.NoNode k) = codes "24 " ++ decimal k
refusal_text (refusal.NoLine k) = codes "25 " ++ decimal k
refusal_text refusal.Late = codes "26"
refusal_text (refusal.NoRun n) = codes "27 " ++ n

-- the line of a refusal
abbrev pub line_of_refusal : Refusal → List ℕ
line_of_refusal r = codes "error " ++ refusal_text r ++ codes "\n"

-- an operation on a page
abbrev pub line_of_op : List ℕ → Op → List ℕ
line_of_op n o = codes "op " ++ n ++ codes " " ++ op_text o ++ codes "\n"

-- a word, the name of a page and how many bytes it has, and then the bytes
abbrev pub lines_of_bytes : List ℕ → List ℕ → List ℕ → List ℕ
lines_of_bytes word n bytes = word ++ n ++ codes " " ++ decimal (length bytes) ++ codes "\n" ++ bytes ++ codes "\n"

-- the value or the fault, as it stands behind a name
abbrev pub outcome_text : Outcome → List ℕ
outcome_text (Good v) = codes " = " ++ printed_value v ++ codes "\n"
outcome_text (Bad f) = codes " ! " ++ fault_name f ++ codes "\n"

-- the name, and its value or its fault
abbrev pub line_of_outcome : List ℕ → Outcome → List ℕ
line_of_outcome n o = n ++ outcome_text o

-- the word of a mark
abbrev pub seen_word : Seen → List ℕ
seen_word seen.Clean = codes "clean"
seen_word seen.Checked = codes "checked"
seen_word seen.Dirty = codes "dirty"

-- how a computed stands
abbrev pub line_of_state : List ℕ → Seen → List ℕ
line_of_state n s = codes "state " ++ n ++ codes " " ++ seen_word s ++ codes "\n"

-- the sources that a computed keeps
abbrev pub line_of_sources : List ℕ → List (List ℕ) → List ℕ
line_of_sources n ms = codes "sources " ++ n ++ flat_map listed ms ++ codes "\n"

-- the watched computeds of a watcher that aren't clean
abbrev pub line_of_pending : List ℕ → List (List ℕ) → List ℕ
line_of_pending w ns = codes "pending " ++ w ++ flat_map listed ns ++ codes "\n"

-- a notified watcher
abbrev pub line_of_notify : List ℕ → List ℕ
line_of_notify w = codes "notify " ++ w ++ codes "\n"

-- a dropped host formula, and how often it was asked
abbrev pub line_of_drop : ℕ → ℕ → List ℕ
line_of_drop place asks = codes "drop " ++ decimal place ++ codes " " ++ decimal asks ++ codes "\n"

-- the names that were read, in parentheses, with blanks between them
abbrev pub reads_text : List (List ℕ) → List ℕ
reads_text [] = codes " ()"
reads_text (n ∷ ns) = codes " (" ++ n ++ flat_map listed ns ++ codes ")"

-- a run: who ran, what it read, and what it came to
abbrev pub line_of_run : List ℕ → List (List ℕ) → Outcome → List ℕ
line_of_run n reads o = codes "run " ++ n ++ reads_text reads ++ outcome_text o

-- the number of a child behind a dot
abbrev pub dotted : ℕ → List ℕ
dotted k = codes "." ++ decimal k

-- a name, and behind it the numbers of the children on the way down
abbrev pub label_text : Label → List ℕ
label_text l = l.name ++ flat_map dotted l.path

-- a value that was logged
abbrev pub line_of_log : Value → List ℕ
line_of_log v = codes "log " ++ printed_value v ++ codes "\n"

-- the fault of a body
abbrev pub line_of_fail : Label → Fault → List ℕ
line_of_fail l f = codes "fail " ++ label_text l ++ codes " " ++ fault_name f ++ codes "\n"

-- an evaluation of a body: whose it was, and what it read, tracked
abbrev pub line_of_effect : Label → List (List ℕ) → List ℕ
line_of_effect l reads = codes "effect " ++ label_text l ++ reads_text reads ++ codes "\n"

-- whose cleanup is about to be done
abbrev pub line_of_cleanup : Label → List ℕ
line_of_cleanup l = codes "cleanup " ++ label_text l ++ codes "\n"

-- an end
abbrev pub line_of_gone : Label → List ℕ
line_of_gone l = codes "gone " ++ label_text l ++ codes "\n"

-- a node of a page at which a handler runs
abbrev pub line_of_fired : List ℕ → ℕ → List ℕ
line_of_fired p node = codes "fired " ++ p ++ codes " " ++ decimal node ++ codes "\n"

-- the fault of its body
abbrev pub line_of_fail_at : List ℕ → ℕ → Fault → List ℕ
line_of_fail_at p node f = codes "fail " ++ p ++ codes "." ++ decimal node ++ codes " " ++ fault_name f ++ codes "\n"

-- why a computed ran, behind a blank
abbrev pub reason_text : Reason → List ℕ
reason_text reason.First = codes " first"
reason_text reason.Cycle = codes " cycle"
reason_text (reason.Rewired f) = codes " rewired " ++ decimal f
reason_text (reason.Changed n f) = codes " changed " ++ n ++ codes " " ++ decimal f
reason_text reason.Evaluating = codes " evaluating"

-- a run, by the number of its fact, and why it was
abbrev pub line_of_why : List ℕ → ℕ → Reason → List ℕ
line_of_why n run r = codes "why " ++ n ++ codes " " ++ decimal run ++ reason_text r ++ codes "\n"

-- the lines of an entry
abbrev pub line_of_entry : Entry → List ℕ
line_of_entry (entry.Outcome n o) = line_of_outcome n o
line_of_entry (entry.State n s) = line_of_state n s
line_of_entry (entry.Sources n ms) = line_of_sources n ms
line_of_entry (entry.Pending w ns) = line_of_pending w ns
line_of_entry (entry.Notify w) = line_of_notify w
line_of_entry (entry.Log v) = line_of_log v
line_of_entry (entry.Fail l f) = line_of_fail l f
line_of_entry (entry.Drop place asks) = line_of_drop place asks
line_of_entry (entry.Op n o) = line_of_op n o
line_of_entry (entry.Page n bytes) = lines_of_bytes (codes "page ") n bytes
line_of_entry (entry.Scratch n bytes) = lines_of_bytes (codes "scratch ") n bytes
line_of_entry (entry.Why n run r) = line_of_why n run r
line_of_entry (entry.Error r) = line_of_refusal r
line_of_entry (entry.Run n reads o) = line_of_run n reads o
line_of_entry (entry.Effect l reads) = line_of_effect l reads
line_of_entry (entry.Cleanup l) = line_of_cleanup l
line_of_entry (entry.Gone l) = line_of_gone l
line_of_entry (entry.Fired p node) = line_of_fired p node
line_of_entry (entry.FailAt p node f) = line_of_fail_at p node f

-- whether the entry is printed only where a trace is asked for
abbrev pub is_traced : Entry → Bool
is_traced (entry.Run n reads o) = true
is_traced (entry.Effect l reads) = true
is_traced (entry.Cleanup l) = true
is_traced (entry.Gone l) = true
is_traced (entry.Fired p node) = true
is_traced _ = false

-- these are printed only where a trace is asked for
abbrev pub AreTraced : List Entry → Type 0
AreTraced es = AllByRecursion (λ e. is_traced e ≡ true) es

-- the first entries are the second ones, but for some that are left out and that are printed only where a trace is asked for
pub data AreLeft : List Entry → List Entry → Type 0 where
  nothing_told : AreLeft [] []
  entry_told : {es all : List Entry} (e : Entry) → AreLeft es all → AreLeft (e ∷ es) (e ∷ all)
  entry_left_out : {es all : List Entry} (e : Entry) → is_traced e ≡ true → AreLeft es all → AreLeft es (e ∷ all)

-- All these are told by the first entries: where a trace is asked for each of them, and where none is all but some that are printed only there.
pub record AreToldFor (traced : Bool) (es all : List Entry) : Type 0 where
  pub left : AreLeft es all
  pub whole : traced ≡ true → es ≡ all

-- what is printed of an entry, with a trace or without
abbrev pub printed : Bool → Entry → List ℕ
printed trace e = if is_traced e && not trace then [] else line_of_entry e

-- the numbers and texts of an entry's operation, if it is one, are such as an operation's text can have
abbrev pub IsSizedEntry : Entry → Type 0
IsSizedEntry (entry.Op n o) = IsSized o
IsSizedEntry _ = Unit {0}
