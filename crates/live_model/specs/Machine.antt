-- The machine, and what each command does to it.
use Rattle.std.specs.Prelude.{ℕ, ◌==◌, ◌&&◌, ◌||◌, nat_lt, is_some, Bool, true, false, List, [], ◌∷◌, ◌++◌}
use Rattle.std.specs.Prelude.{Option, Some, None, length, map, slice_get, unwrap_or, if◌then◌else◌}
use Rattle.std.specs.List.{filter}
use Rattle.std.specs.Option.{option_or, option_map, option_map_or}
use Rattle.sig_base.specs.declared.limits.TheConstants.{MOST_NODES, MOST_PAGES, MOST_TEMPLATES}
use Rattle.sig_base.specs.Values.{scalar_value}
use Rattle.sig_base.specs.declared.value.Value.{Value}
use Rattle.sig_base.specs.declared.value.Value.TheVariants as value
use Rattle.page_model.specs.Pages.{NumberedPage, bare}
use Rattle.page_model.specs.Replay.{Op}
use Rattle.tpl_model.specs.Updates.{Updated, updated}
use Rattle.signal_model.specs.Signals.{is_in, standing}
use Rattle.signal_model.specs.Changes.{live_count}
use Rattle.signal_model.specs.Values.{value_of}
use Rattle.signal_model.specs.Memos.{memo_of, sources_of, source_names}
use Rattle.signal_model.specs.Settling.{Run}
use Rattle.signal_model.specs.Marks as marks
use Rattle.signal_model.specs.Marks.{Mark, mark_of}
use Rattle.signal_model.specs.Sound.{kept_outcome, names_of}
use Rattle.effect_model.specs.Bodies.{Act, to_set, to_log, Body, BodyResult, to_do, failed_by, body_evaluation}
use Rattle.effect_model.specs.Owners.{Thing, the_effect}
use Rattle.effect_model.specs.Worlds.{Environment, HostState, unused, Refused, thing_gone, host_taken, still_due, Event, ran, notified}
use Rattle.effect_model.specs.Worlds.{frozen, logged, body_ran, failed, cleaned, gone, dropped_host, World, settle, at_rest, tell}
use Rattle.effect_model.specs.Worlds as worlds
use Rattle.effect_model.specs.Acts.{set_cell, host_of, with_use, rewire_signal, forget, dispose_thing}
use Rattle.effect_model.specs.Commands.{new_world, with_new_cell, with_new_computed, with_new_owner, with_new_effect, with_new_page, with_new_watcher}
use Rattle.effect_model.specs.Commands.{armed, changed_watcher}
use Rattle.effect_model.specs.Batches.{Batch, joined_by, set_quietly, commit, abort}
use Rattle.effect_model.specs.Runs.{flush}
use Rattle.effect_model.specs.Watchers.{signals_at, watches, pending_of}
use Rattle.effect_model.specs.declared.limits.TheConstants.{MOST_WATCHERS, MOST_OWNERS, MOST_EFFECTS}
use Rattle.why_model.specs.Records.{Journal, no_facts}
use Rattle.sig_untrack.specs.Stated.{Bodies}
use Rattle.event_model.specs.declared.limits.TheConstants.{MOST_HANDLERS}
use Rattle.live_cmd.specs.declared.command.Bare.{Bare}
use Rattle.live_cmd.specs.declared.command.Bare.TheVariants as bares
use Rattle.live_cmd.specs.declared.command.SourceText.{SourceText}
use Rattle.live_cmd.specs.declared.command.SourceText.TheVariants as source
use Rattle.live_cmd.specs.declared.command.RowEdit.{RowEdit}
use Rattle.live_cmd.specs.declared.command.Verb.{Verb}
use Rattle.live_cmd.specs.declared.command.Verb.TheVariants as verb
use Rattle.live_cmd.specs.declared.command.Command.{Command}
use Rattle.live_cmd.specs.declared.command.Command.TheVariants as command
use Rattle.live_cmd.specs.declared.command.Try.{Try}
use Rattle.live_cmd.specs.declared.command.Item.{Item}
use Rattle.live_cmd.specs.declared.command.Item.TheVariants as item
use Rattle.live_entries.specs.declared.entry.Seen.{Seen}
use Rattle.live_entries.specs.declared.entry.Seen.TheVariants as seen
use Rattle.live_entries.specs.declared.entry.Entry.{Entry}
use Rattle.live_entries.specs.declared.entry.Entry.TheVariants as entry
use Rattle.live_entries.specs.declared.refusal.LimitWord.{LimitWord}
use Rattle.live_entries.specs.declared.refusal.LimitWord.TheVariants as limit
use Rattle.live_entries.specs.declared.refusal.Refusal.{Refusal}
use Rattle.live_entries.specs.declared.refusal.Refusal.TheVariants as refusal
use Rattle.live_model.specs.declared.names.Kind.{Kind}
use Rattle.live_model.specs.declared.names.Kind.TheVariants as kind
use Rattle.live_model.specs.Labels.{Labels, no_labels, name_at, named as a_label, label_at, label_of, with_label, relabelled}
use Rattle.live_model.specs.Labels.{labels_after, named_count}
use Rattle.live_model.specs.Handlers.{Handler, Handling, fired_of, handlings_of, has_node}
use Rattle.live_model.specs.Links.{recipe_of, owner_of, linked_alone, linked_body, linked_template}
use Rattle.live_model.specs.Names.{Names, meaning_of, number_of, thing_named, first_refusal, first_within}
use Rattle.live_model.specs.Journals.{noting, chain_in, is_full, why_entries}
use Rattle.live_model.specs.Pages.{Template, template_in, tag_in, Page, page_html, scratch_html, asked_of}
use Rattle.live_model.specs.Rows.{edited, edit_refusal, no_rows, rows_at}
use Rattle.live_model.specs.Uses.{uses_of, uses_of_body, hosts_of_body}

-- What the names stand for, in order of making; what things are called; the signals, what is kept of them, the watchers, and the owners,
-- effects and pages with what stands under what; the batch, where one is open; the journal, once it was begun; the templates; the
-- handlers of events, in order of making; the pages that live, in order of mounting.
pub record Machine : Type 0 where
  pub names : Names
  pub labels : Labels
  pub world : World
  pub batch : Option Batch
  pub journal : Option Journal
  pub templates : List Template
  pub handlers : List Handler
  pub pages : List Page

-- nothing was made yet, and there are so many host formulas
abbrev pub empty : ℕ → Machine
empty hosts =
    record { names = []; labels = no_labels; world = new_world hosts; batch = None; journal = None; templates = []; handlers = []; pages = [] }

-- a machine and what was told on the way to it
pub record Told : Type 0 where
  pub machine : Machine
  pub entries : List Entry

-- this machine, and these entries on the way to it
abbrev pub reached : Machine → List Entry → Told
reached m es = record { machine = m; entries = es }

-- the template of a number
abbrev pub template_at : Machine → ℕ → Template
template_at m t = template_in m.templates t

-- ---- what is told

-- of a run: who ran, what it read in order, and what it came to
abbrev pub run_entry : Labels → Run → Entry
run_entry labels r =
    entry.Run (name_at labels.signals r.name) (map (name_at labels.signals) (names_of r.evaluation.reads)) r.evaluation.outcome

-- of what an act or a cleanup is refused
abbrev pub refusal_told : Labels → Refused → Refusal
refusal_told labels (thing_gone t) = refusal.Gone (label_of labels t).name
refusal_told labels (host_taken place) = refusal.HostTaken place
refusal_told labels still_due = refusal.Turns

-- of a cleanup, which is an effect's
abbrev pub cleanup_entries : Labels → Thing → List Entry
cleanup_entries labels (the_effect e) = entry.Cleanup (label_at labels.effects e) ∷ []
cleanup_entries labels t = []

-- of an event; the making of a child and the noting of a cleanup aren't told
abbrev pub event_entries : Labels → Event → List Entry
event_entries labels (ran m) = run_entry labels m.run ∷ []
event_entries labels (notified w) = entry.Notify (name_at labels.watchers w) ∷ []
event_entries labels (frozen ws) = entry.Error (refusal.Frozen (map (name_at labels.watchers) ws)) ∷ []
event_entries labels (logged v) = entry.Log v ∷ []
event_entries labels (body_ran e names) = entry.Effect (label_at labels.effects e) (map (name_at labels.signals) names) ∷ []
event_entries labels (failed e f) = entry.Fail (label_at labels.effects e) f ∷ []
event_entries labels (cleaned t c) = cleanup_entries labels t
event_entries labels (dropped_host place asks) = entry.Drop place asks ∷ []
event_entries labels (gone t) = entry.Gone (label_of labels t) ∷ []
event_entries labels (worlds.refused why) = entry.Error (refusal_told labels why) ∷ []
event_entries labels e = []

-- of events, one after the other, each by the labels of its moment
abbrev pub entries_of : Labels → List Event → List Entry
entries_of labels [] = []
entries_of labels (e ∷ es) = event_entries labels e ++ entries_of (relabelled e labels) es

-- the world has come to this, and what happened on the way is told, and noted
abbrev pub acted : Machine → World → Told
acted m w =
    reached (record m { labels = labels_after w.told m.labels; world = at_rest w; journal = noting w.told m.journal }) (entries_of m.labels w.told)

-- names are settled, and their runs are told
abbrev pub settling : Environment → Machine → List ℕ → Told
settling env m asked = acted m (settle env asked m.world)

-- the pages that live
abbrev pub with_live_pages : Machine → Machine
with_live_pages m = record m { pages = filter (λ (p : Page). is_in p.number m.world.pages) m.pages }

-- the same, where pages may have ended on the way
abbrev pub acted_on_pages : Machine → World → Told
acted_on_pages m w = let t = acted m w in reached (with_live_pages t.machine) t.entries

-- ---- making

-- a name is made, for that of this number among those of its kind
abbrev pub with_name : Machine → List ℕ → Kind → ℕ → Machine
with_name m n k i = record m { names = m.names ++ (n, record { kind = k; number = i }) ∷ [] }

-- what was made is called so, and the world has come to this
abbrev pub with_labels : Machine → Labels → World → Machine
with_labels m labels w = record m { labels = labels; world = at_rest w }

-- a cell or a computed is made under a name, with the next number, and is not evaluated
abbrev pub with_signal : Machine → List ℕ → Kind → World → Machine
with_signal m n k w =
    with_name (with_labels m (record (m.labels) { signals = m.labels.signals ++ n ∷ [] }) w) n k m.world.made.signals

-- an owner is made under a name
abbrev pub with_owner : Machine → List ℕ → Option ℕ → Machine
with_owner m n inside =
    with_name (with_labels m (record (m.labels) { owners = m.labels.owners ++ n ∷ [] }) (with_new_owner inside m.world))
    n kind.Owner m.world.made.owners

-- an effect of a body is made under a name; it has not run
abbrev pub with_effect : Machine → List ℕ → Bodies → Option ℕ → Machine
with_effect m n b inside =
    let e = m.world.made.effects in
    with_name (with_labels m (record (m.labels) { effects = with_label e (Some (a_label n)) m.labels.effects })
    (with_new_effect (linked_body m.names n e b) inside m.world))
    n kind.Effect e

-- a watcher is made under a name; it watches nothing and is waiting
abbrev pub with_watcher : Machine → List ℕ → Bool → Machine
with_watcher m n tries =
    with_name (with_labels m (record (m.labels) { watchers = m.labels.watchers ++ n ∷ [] }) (with_new_watcher tries m.world))
    n kind.Watcher m.world.made.watchers

-- whether a watcher's notification tries a command
abbrev pub is_trying : Option Try → Bool
is_trying None = false
is_trying (Some t) = true

-- ---- pages

-- the signals that a template reads
abbrev pub template_reads : Environment → Machine → ℕ → List ℕ
template_reads env m t = asked_of env.hosts m.world.signals (template_at m t)

-- what a page of a template comes to: its nodes of now, and the operations that lead to them
abbrev pub update_of : Environment → Machine → ℕ → NumberedPage → Updated
update_of env m t old = let x = template_at m t in updated env.hosts m.world.signals x.lines x.links m.world.memos old

-- operations on a page, one after the other
abbrev pub ops_told : List ℕ → List Op → List Entry
ops_told n ops = map (λ (o : Op). entry.Op n o) ops

-- a page is told exactly where it has an operation: they, and then its HTML
abbrev pub news_of : Page → List Op → List Entry
news_of p [] = []
news_of p (o ∷ ops) = ops_told p.name (o ∷ ops) ++ entry.Page p.name (page_html p) ∷ []

-- a page brought up to date
abbrev pub updated_page : Environment → Machine → Page → Page
updated_page env m p = record p { content = (update_of env m p.template p.content).page }

-- Pages are brought up to date, in order: what each reads is settled, with the runs told, and then it is told itself. Those that were
-- are put behind the others.
abbrev pub update_all : Environment → List Page → Machine → Told
update_all env [] m = reached m []
update_all env (p ∷ ps) m =
    let s = settling env m (template_reads env m p.template) in
    let now = updated_page env m p in
    let rest = update_all env ps (record (s.machine) { pages = m.pages ++ now ∷ [] }) in
    reached rest.machine (s.entries ++ news_of now (update_of env m p.template p.content).ops ++ rest.entries)

-- the page of a number
abbrev pub page_at : List Page → ℕ → Option Page
page_at [] n = None
page_at (p ∷ ps) n = if n == p.number then Some p else page_at ps n

-- the HTML of a page as it was last brought up to date
abbrev pub shown_of : Machine → ℕ → List ℕ
shown_of m n = unwrap_or (option_map page_html (page_at m.pages n)) []

-- a page is made under a name, the last of those that live
abbrev pub with_page : Machine → Page → Option ℕ → Machine
with_page m p inside =
    with_name (with_labels (record m { pages = m.pages ++ p ∷ [] }) (record (m.labels) { pages = m.labels.pages ++ p.name ∷ [] })
    (with_new_page inside m.world)) p.name kind.Page p.number

-- a page is made of a template: what it reads is settled, and the operations that lead to it from a bare page are told with its HTML
abbrev pub mounted : Environment → Machine → List ℕ → ℕ → Option ℕ → Told
mounted env m n t inside =
    let s = settling env m (template_reads env m t) in
    let u = update_of env m t bare in
    let p : Page = record { name = n; number = m.world.made.pages; template = t; content = u.page } in
    reached (with_page s.machine p inside) (s.entries ++ ops_told n u.ops ++ entry.Page n (page_html p) ∷ [])

-- what a page's template shows from scratch is told, with the runs of what it reads; the page stays as it is
abbrev pub from_scratch : Environment → Machine → List ℕ → ℕ → Told
from_scratch env m n t =
    let s = settling env m (template_reads env m t) in
    reached s.machine (s.entries ++ entry.Scratch n (scratch_html env.hosts m.world.signals (template_at m t)) ∷ [])

-- so it is with a page's template, and nothing is shown where no page lives
abbrev pub scratching : Environment → Machine → List ℕ → Option Page → Told
scratching env m n None = reached m (entry.Scratch n [] ∷ [])
scratching env m n (Some p) = from_scratch env m n p.template

-- ---- events

-- an act of a handler's body: a cell is set, or a value is logged; nothing else stands in it
abbrev pub acting_once : Environment → Machine → Act → Told
acting_once env m (to_set n v) = acted m (set_cell env n v m.world)
acting_once env m (to_log v) = acted m (tell (worlds.logged v) m.world)
acting_once env m a = reached m []

-- its acts are done, one after the other
abbrev pub acting : Environment → Machine → List Act → Told
acting env m [] = reached m []
acting env m (a ∷ as') =
    let t = acting_once env m a in
    let rest = acting env t.machine as' in reached rest.machine (t.entries ++ rest.entries)

-- where it failed, that is told in their place
abbrev pub ending : Environment → Machine → List ℕ → ℕ → BodyResult → Told
ending env m page node (failed_by f) = reached m (entry.FailAt page node f ∷ [])
ending env m page node (to_do as') = acting env m as'

-- a handler runs at a node: what its body reads is settled, with the runs told, then it is told itself, and then it is done
abbrev pub running : Environment → Machine → List ℕ → Handling → Told
running env m page x =
    let e = body_evaluation env.hosts m.world.signals x.body in
    let s = settling env m (names_of e.reads) in
    let t = ending env s.machine page x.node e.result in
    reached t.machine (s.entries ++ entry.Fired page x.node ∷ t.entries)

-- handlers run, one after the other
abbrev pub firing : Environment → Machine → List ℕ → List Handling → Told
firing env m page [] = reached m []
firing env m page (x ∷ xs) =
    let t = running env m page x in
    let rest = firing env t.machine page xs in reached rest.machine (t.entries ++ rest.entries)

-- a handler is made, the last of all
abbrev pub with_handler : Machine → ℕ → ℕ → List ℕ → Body → Machine
with_handler m t line event b =
    record m { handlers = m.handlers ++ record { awaited = record { template = t; line = line; event = event }; body = b } ∷ [] }

-- ---- what commands do

-- a mark, as it is told
abbrev pub seen_of : Mark → Seen
seen_of marks.Clean = seen.Clean
seen_of marks.Checked = seen.Checked
seen_of marks.Dirty = seen.Dirty

-- the names of the sources that a computed keeps
abbrev pub source_labels : Machine → ℕ → List (List ℕ)
source_labels m i = map (name_at m.labels.signals) (source_names (sources_of m.world.memos i))

-- the names of the pending computeds of a watcher
abbrev pub pending_labels : Machine → ℕ → List (List ℕ)
pending_labels m i = map (name_at m.labels.signals) (pending_of m.world.signals m.world.memos (signals_at m.world.watchers i))

-- a thing is disposed
abbrev pub disposing : Environment → Machine → Option Thing → Told
disposing env m None = reached m []
disposing env m (Some t) = acted_on_pages m (dispose_thing env t m.world)

-- what a verb does to what has this name and this number
abbrev pub named : Environment → Machine → Verb → List ℕ → ℕ → Told
named env m verb.Get n i =
    let s = settling env m (i ∷ []) in reached s.machine (s.entries ++ entry.Outcome n (value_of env.hosts m.world.signals i []) ∷ [])
named env m verb.State n i = reached m (entry.State n (seen_of (mark_of m.world.signals m.world.memos i)) ∷ [])
named env m verb.Sources n i = reached m (entry.Sources n (source_labels m i) ∷ [])
named env m verb.Pending n i = reached m (entry.Pending n (pending_labels m i) ∷ [])
named env m verb.Why n i = reached m (why_entries m.labels.signals n (chain_in m.journal i))
named env m verb.Show n i = reached m (entry.Page n (shown_of m i) ∷ [])
named env m verb.Scratch n i = scratching env m n (page_at m.pages i)
named env m verb.Dispose n i = disposing env m (thing_named (meaning_of m.names n))

-- after the turns of a flush, which may have refused it, the pages are brought up to date
abbrev pub after_turns : Environment → Bool → Told → Told
after_turns env true t = reached t.machine (t.entries ++ entry.Error refusal.Turns ∷ [])
after_turns env false t =
    let pages = update_all env t.machine.pages (record (t.machine) { pages = [] }) in reached pages.machine (t.entries ++ pages.entries)

-- effects run in turns, and then the pages that live are brought up to date; a refused flush leaves them as they were
abbrev pub flushing : Environment → Machine → Told
flushing env m = let f = flush env m.world in after_turns env f.refused (acted_on_pages m f.world)

-- a batch that is open is committed: its cells are told together
abbrev pub committing : Environment → Machine → Option Batch → Told
committing env m None = reached m []
committing env m (Some b) = acted (record m { batch = None }) (commit env b m.world)

-- or it is aborted: its cells have their earlier values back
abbrev pub aborting : Machine → Option Batch → Told
aborting m None = reached m []
aborting m (Some b) = acted (record m { batch = None }) (abort b m.world)

-- what a command of one word does
abbrev pub done_alone : Environment → Machine → Bare → Told
done_alone env m bares.Flush = flushing env m
done_alone env m bares.Begin = reached (record m { batch = Some [] }) []
done_alone env m bares.Commit = committing env m m.batch
done_alone env m bares.Abort = aborting m m.batch
done_alone env m bares.Record = reached (record m { journal = Some no_facts }) []

-- a cell is set, and who is notified is told; while a batch is open the cell joins it, and nobody is notified
abbrev pub setting_by : Environment → Machine → Option Batch → ℕ → Value → Told
setting_by env m None i v = acted m (set_cell env i v m.world)
setting_by env m (Some b) i v =
    acted (record m { batch = Some (joined_by env.slacks (standing m.world.signals i) i v b) }) (set_quietly env i v m.world)

-- the same by the batch that is open, if one is
abbrev pub setting : Environment → Machine → ℕ → Value → Told
setting env m i v = setting_by env m m.batch i v

-- the rows of a list are edited, which is done as a set is: nothing happens where they stay the same
abbrev pub editing : Environment → Machine → ℕ → RowEdit → Told
editing env m i e = setting env m i (value.Rows (edited e (rows_at m.world.signals i)))

-- what a command does that isn't refused
abbrev pub done : Environment → Machine → Command → Told
done env m (command.Cell n v equals inside) =
    reached (with_signal m n kind.Cell (with_new_cell (scalar_value v) equals (owner_of m.names inside) m.world)) []
done env m (command.List n fields inside) =
    reached (with_signal m n kind.List (with_new_cell (value.Rows (no_rows fields)) None (owner_of m.names inside) m.world)) []
done env m (command.Edit n e) = editing env m (number_of m.names n) e
done env m (command.Set n v) = setting env m (number_of m.names n) (scalar_value v)
done env m (command.Computed n s inside) =
    let r = recipe_of m.names s in
    reached (with_signal m n kind.Computed (with_use (host_of r.expression) (with_new_computed r (owner_of m.names inside) m.world))) []
done env m (command.Rewire n s) = acted m (rewire_signal (number_of m.names n) (recipe_of m.names s) m.world)
done env m (command.Owner n inside) = reached (with_owner m n (owner_of m.names inside)) []
done env m (command.Watcher n tries) = reached (with_watcher m n (is_trying tries)) []
done env m (command.Watch n signals) = acted m (changed_watcher (number_of m.names n) (armed (map (number_of m.names) signals)) m.world)
done env m (command.Unwatch n s) = acted m (changed_watcher (number_of m.names n) (forget (number_of m.names s)) m.world)
done env m (command.Named v n) = named env m v n (number_of m.names n)
done env m (command.Effect n b inside) = reached (with_effect m n b (owner_of m.names inside)) []
done env m (command.On t line event b) = reached (with_handler m (number_of m.names t) line event (linked_alone m.names b)) []
done env m (command.Fire p node event) =
    firing env m p (handlings_of m.handlers (fired_of m.handlers (page_at m.pages (number_of m.names p)) node event))
done env m (command.Template n t) =
    reached (with_name (record m { templates = m.templates ++ linked_template m.names t ∷ [] }) n kind.Template (length m.templates)) []
done env m (command.Mount n t inside) = mounted env m n (number_of m.names t) (owner_of m.names inside)
done env m (command.Bare b) = done_alone env m b

-- ---- refusals

-- whether a command ends a batch
abbrev pub is_ending : Command → Bool
is_ending (command.Bare bares.Commit) = true
is_ending (command.Bare bares.Abort) = true
is_ending _ = false

-- whether it is done while a batch is open: what changes a value, what shows something, and what ends it
abbrev pub is_done_in_batch : Command → Bool
is_done_in_batch (command.Set n v) = true
is_done_in_batch (command.Edit n e) = true
is_done_in_batch (command.Named verb.Dispose n) = false
is_done_in_batch (command.Named verb.Why n) = false
is_done_in_batch (command.Named v n) = true
is_done_in_batch c = is_ending c

-- an end where no batch is open, and what isn't done while one is
abbrev pub batch_refusal : Option Batch → Command → Option Refusal
batch_refusal None c = if is_ending c then Some refusal.NoBatch else None
batch_refusal (Some b) c = if is_done_in_batch c then None else Some refusal.BatchOpen

-- the names in the body of an effect
abbrev pub body_refusal : Machine → Command → Option Refusal
body_refusal m (command.Effect n b inside) = first_within m.world m.names n (uses_of_body b)
body_refusal m c = None

-- its names
abbrev pub name_refusal : Machine → Command → Option Refusal
name_refusal m c = option_or (first_refusal m.world m.names (uses_of c)) (body_refusal m c)

-- a host formula that isn't there, and one that is used or was dropped
abbrev pub taken_refusal : ℕ → Option HostState → Option Refusal
taken_refusal place None = Some (refusal.HostPlace place)
taken_refusal place (Some unused) = None
taken_refusal place (Some s) = Some (refusal.HostTaken place)

-- so it is for what a computed is computed by
abbrev pub host_refusal : World → SourceText → Option Refusal
host_refusal w (source.Formula f) = None
host_refusal w (source.Host place arguments) = taken_refusal place (slice_get w.host_states place)

-- the first of these places of host formulas that isn't below their number; whether one in a body is free is seen when its act is done
abbrev pub outside_refusal : ℕ → List ℕ → Option Refusal
outside_refusal hosts [] = None
outside_refusal hosts (place ∷ places) = if nat_lt place hosts then outside_refusal hosts places else Some (refusal.HostPlace place)

-- an equality rule that isn't there
abbrev pub rule_refusal : List ℕ → Option ℕ → Option Refusal
rule_refusal slacks None = None
rule_refusal slacks (Some place) = if nat_lt place (length slacks) then None else Some (refusal.RulePlace place)

-- a command with the place of a host formula or of a rule
abbrev pub place_refusal : List ℕ → World → Command → Option Refusal
place_refusal slacks w (command.Cell n v equals inside) = rule_refusal slacks equals
place_refusal slacks w (command.Computed n s inside) = host_refusal w s
place_refusal slacks w (command.Rewire n s) = host_refusal w s
place_refusal slacks w (command.Effect n b inside) = outside_refusal (length w.host_states) (hosts_of_body b)
place_refusal slacks w c = None

-- whether a signal was made, or a journal was begun
abbrev pub is_late : Machine → Bool
is_late m = nat_lt 0 m.world.made.signals || is_some m.journal

-- whether it can be told why a computed ran: a journal was begun, and the computed has run
abbrev pub can_tell_why : Machine → ℕ → Bool
can_tell_why m i = is_some m.journal && is_some (kept_outcome (memo_of m.world.memos i))

-- an edit that the rows of its list don't allow; a node that isn't on its page, and a line that makes no
-- element; a journal that would begin late, and a computed of which it can't be told why it ran
abbrev pub row_refusal : Machine → Command → Option Refusal
row_refusal m (command.Edit n e) = edit_refusal e (rows_at m.world.signals (number_of m.names n))
row_refusal m (command.Fire p node event) =
    if has_node (page_at m.pages (number_of m.names p)) node then None else Some (refusal.NoNode node)
row_refusal m (command.On t line event b) =
    if tag_in (template_at m (number_of m.names t)) line then None else Some (refusal.NoLine line)
row_refusal m (command.Bare bares.Record) = if is_late m then Some refusal.Late else None
row_refusal m (command.Named verb.Why n) = if can_tell_why m (number_of m.names n) then None else Some (refusal.NoRun n)
row_refusal m c = None

-- one more than the most
abbrev pub one_too_many : ℕ → ℕ → LimitWord → Option Refusal
one_too_many most count word = if nat_lt count most then None else Some (refusal.Limit word)

-- a command that makes one thing more than there may be
abbrev pub over_limit : Machine → Command → Option Refusal
over_limit m (command.Cell n v equals inside) = one_too_many MOST_NODES (live_count m.world.signals) limit.Nodes
over_limit m (command.List n fields inside) = one_too_many MOST_NODES (live_count m.world.signals) limit.Nodes
over_limit m (command.Computed n s inside) = one_too_many MOST_NODES (live_count m.world.signals) limit.Nodes
over_limit m (command.Owner n inside) = one_too_many MOST_OWNERS (length m.world.owners) limit.Owners
over_limit m (command.Watcher n tries) = one_too_many MOST_WATCHERS (length m.world.watchers) limit.Watchers
over_limit m (command.Effect n b inside) = one_too_many MOST_EFFECTS (named_count m.labels m.world.effects) limit.Effects
over_limit m (command.On t line event b) = one_too_many MOST_HANDLERS (length m.handlers) limit.Handlers
over_limit m (command.Template n t) = one_too_many MOST_TEMPLATES (length m.templates) limit.Templates
over_limit m (command.Mount n t inside) = one_too_many MOST_PAGES (length m.world.pages) limit.Pages
over_limit m (command.Named verb.Why n) = if is_full m.journal then Some (refusal.Limit limit.Facts) else None
over_limit m c = None

-- a signal that a watcher doesn't watch
abbrev pub unwatch_refusal : Machine → Command → Option Refusal
unwatch_refusal m (command.Unwatch n s) =
    if watches m.world.watchers (number_of m.names n) (number_of m.names s) then None else Some (refusal.NotWatched s)
unwatch_refusal m c = None

-- what stands behind the names: the place of a host formula or of a rule, then what the rows of a list or the journal don't allow or isn't
-- there on a page or among the lines of a template, then what there would be too much of, and last a signal that isn't watched
abbrev pub later_refusal : List ℕ → Machine → Command → Option Refusal
later_refusal slacks m c =
    option_or (place_refusal slacks m.world c) (option_or (row_refusal m c) (option_or (over_limit m c) (unwatch_refusal m c)))

-- Why a command is refused before it does anything, if it is, where the equality rules have these slacks: first by whether a batch is open,
-- then its names, and then what stands behind them.
abbrev pub refusal_of : List ℕ → Machine → Command → Option Refusal
refusal_of slacks m c = option_or (batch_refusal m.batch c) (option_or (name_refusal m c) (later_refusal slacks m c))

-- a refusal is told and changes nothing
abbrev pub refused : Machine → Refusal → Told
refused m r = reached m (entry.Error r ∷ [])

-- one step of the machine
abbrev pub step : Environment → Machine → Item → Told
step env m (item.Do c) = option_map_or (refused m) (refusal_of env.slacks m c) (done env m c)
step env m (item.Refused r) = refused m r
