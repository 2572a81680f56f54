-- What the items of a script do to the world, and how it is told.
use Rattle.std.specs.Prelude.{◌≡◌, ℕ, Bool, true, false, List, [], ◌∷◌, ◌++◌, map, is_some, Option, Some, None}
use Rattle.std.specs.Option.{option_map_or}
use Rattle.sig_base.specs.Values.{scalar_value}
use Rattle.sig_base.specs.declared.value.Value.{Value}
use Rattle.sig_base.specs.declared.value.Value.TheVariants as value
use Rattle.signal_model.specs.Sound.{names_of}
use Rattle.effect_model.specs.Bodies.{Act, to_set, to_log, Body, BodyResult, to_do, failed_by, body_evaluation}
use Rattle.effect_model.specs.Owners.{Thing}
use Rattle.effect_model.specs.Worlds.{Environment, Event, World, at_rest}
use Rattle.effect_model.specs.Batches.{Batch, net_of}
use Rattle.effect_model.specs.Commands as plain
use Rattle.effect_model.specs.Commands.{after_command}
use Rattle.effect_model.specs.Runs.{flush}
use Rattle.live_cmd.specs.declared.command.Bare.{Bare}
use Rattle.live_cmd.specs.declared.command.Bare.TheVariants as bares
use Rattle.live_cmd.specs.declared.command.Verb.{Verb}
use Rattle.live_cmd.specs.declared.command.Verb.TheVariants as verb
use Rattle.live_cmd.specs.declared.command.Command.{Command}
use Rattle.live_cmd.specs.declared.command.Command.TheVariants as command
use Rattle.live_cmd.specs.declared.command.Item.{Item}
use Rattle.live_cmd.specs.declared.command.Item.TheVariants as item
use Rattle.live_entries.specs.declared.entry.Entry.{Entry}
use Rattle.live_entries.specs.declared.entry.Entry.TheVariants as entry
use Rattle.live_model.specs.Handlers.{Handling, fired_of, handlings_of}
use Rattle.why_model.specs.Records.{no_facts, with_facts}
use Rattle.why_model.specs.Told.{facts_told}
use Rattle.live_model.specs.Journals.{noting}
use Rattle.live_model.specs.Labels.{Labels, relabelled}
use Rattle.live_model.specs.Links.{linked_body, owner_of, recipe_of}
use Rattle.live_model.specs.Machine.{Machine, acted_on_pages, empty, event_entries, is_trying, page_at, refusal_of, step, template_reads}
use Rattle.live_model.specs.Names.{meaning_of, number_of, thing_named}
use Rattle.live_model.specs.Output.{machine_after}
use Rattle.live_model.specs.Pages.{Page, Template, asked_of, template_in}
use Rattle.live_model.specs.Rows.{edited, no_rows, rows_at}
use Rattle.why_laws.specs.Journals.{AllExplained}
use Rattle.live_laws.specs.Rested.{AreAsked, AreEnds, rested_after, told_by}

-- ---- what is done

-- a thing is disposed
abbrev pub disposals_of : Option Thing → List plain.Command
disposals_of None = []
disposals_of (Some t) = plain.dispose t ∷ []

-- what a page's template reads is asked for
abbrev pub askings_of : Environment → Machine → Option Page → List plain.Command
askings_of env m None = []
askings_of env m (Some p) = plain.ask (template_reads env m p.template) ∷ []

-- what a verb does to what has this name and this number
abbrev pub deeds_of_verb : Environment → Machine → Verb → List ℕ → ℕ → List plain.Command
deeds_of_verb env m verb.Get n i = plain.ask (i ∷ []) ∷ []
deeds_of_verb env m verb.Scratch n i = askings_of env m (page_at m.pages i)
deeds_of_verb env m verb.Dispose n i = disposals_of (thing_named (meaning_of m.names n))
deeds_of_verb env m v n i = []

-- pages are brought up to date, in order: what each reads is asked for
abbrev pub deeds_of_pages : Environment → List Template → List Page → World → List plain.Command
deeds_of_pages env templates [] w = []
deeds_of_pages env templates (p ∷ ps) w =
    let c = plain.ask (asked_of env.hosts w.signals (template_in templates p.template)) in
    c ∷ deeds_of_pages env templates ps (at_rest (after_command env w c))

-- after a flush that isn't refused
abbrev pub deeds_after_turns : Environment → Bool → Machine → List plain.Command
deeds_after_turns env true m = []
deeds_after_turns env false m = deeds_of_pages env m.templates m.pages m.world

-- the cells of a batch that is open are told together where their values as it began and now are unlike
abbrev pub deeds_of_commit : Environment → World → Option Batch → List plain.Command
deeds_of_commit env w None = []
deeds_of_commit env w (Some b) = plain.tell_together (net_of env.slacks w.signals b) ∷ []

-- or they have their earlier values back
abbrev pub deeds_of_abort : Option Batch → List plain.Command
deeds_of_abort None = []
deeds_of_abort (Some b) = plain.restore b ∷ []

-- a cell is set, of which nobody is notified while a batch is open
abbrev pub deeds_of_set : Option Batch → ℕ → Value → List plain.Command
deeds_of_set None i v = plain.set i v ∷ []
deeds_of_set (Some b) i v = plain.set_untold i v ∷ []

-- what an act of a handler's body does
abbrev pub deeds_of_act : Act → List plain.Command
deeds_of_act (to_set n v) = plain.set n v ∷ []
deeds_of_act (to_log v) = plain.log v ∷ []
deeds_of_act a = []

-- what acts do, in order
abbrev pub deeds_of_acts : List Act → List plain.Command
deeds_of_acts [] = []
deeds_of_acts (a ∷ as') = deeds_of_act a ++ deeds_of_acts as'

-- a body that failed does nothing
abbrev pub deeds_of_end : BodyResult → List plain.Command
deeds_of_end (failed_by f) = []
deeds_of_end (to_do as') = deeds_of_acts as'

-- what a body does that belongs to no effect: what it reads is asked for, and then it is done
abbrev pub deeds_of_body : Environment → Body → World → List plain.Command
deeds_of_body env b w = let e = body_evaluation env.hosts w.signals b in plain.ask (names_of e.reads) ∷ deeds_of_end e.result

-- handlers run, one after the other
abbrev pub deeds_of_fired : Environment → List Handling → World → List plain.Command
deeds_of_fired env [] w = []
deeds_of_fired env (x ∷ xs) w = let cs = deeds_of_body env x.body w in cs ++ deeds_of_fired env xs (rested_after env w cs)

-- what a command of one word does
abbrev pub deeds_alone : Environment → Machine → Bare → List plain.Command
deeds_alone env m bares.Begin = []
deeds_alone env m bares.Commit = deeds_of_commit env m.world m.batch
deeds_alone env m bares.Abort = deeds_of_abort m.batch
deeds_alone env m bares.Record = []
deeds_alone env m bares.Flush = let f = flush env m.world in plain.flush_all ∷ deeds_after_turns env f.refused (acted_on_pages m f.world).machine

-- what a command of the script that isn't refused does, in order
abbrev pub deeds_of : Environment → Machine → Command → List plain.Command
deeds_of env m (command.Cell n v equals inside) = plain.cell (scalar_value v) equals (owner_of m.names inside) ∷ []
deeds_of env m (command.List n fields inside) = plain.cell (value.Rows (no_rows fields)) None (owner_of m.names inside) ∷ []
deeds_of env m (command.Edit n e) = let i = number_of m.names n in deeds_of_set m.batch i (value.Rows (edited e (rows_at m.world.signals i)))
deeds_of env m (command.Set n v) = deeds_of_set m.batch (number_of m.names n) (scalar_value v)
deeds_of env m (command.Computed n s inside) = plain.computed (recipe_of m.names s) (owner_of m.names inside) ∷ []
deeds_of env m (command.Rewire n s) = plain.rewire (number_of m.names n) (recipe_of m.names s) ∷ []
deeds_of env m (command.Owner n inside) = plain.owner (owner_of m.names inside) ∷ []
deeds_of env m (command.Watcher n tries) = plain.watcher (is_trying tries) ∷ []
deeds_of env m (command.Watch n signals) = plain.watch (number_of m.names n) (map (number_of m.names) signals) ∷ []
deeds_of env m (command.Unwatch n s) = plain.unwatch (number_of m.names n) (number_of m.names s) ∷ []
deeds_of env m (command.Named v n) = deeds_of_verb env m v n (number_of m.names n)
deeds_of env m (command.Effect n b inside) = plain.effect (linked_body m.names n m.world.made.effects b) (owner_of m.names inside) ∷ []
deeds_of env m (command.On t line event b) = []
deeds_of env m (command.Fire p node event) =
    deeds_of_fired env (handlings_of m.handlers (fired_of m.handlers (page_at m.pages (number_of m.names p)) node event)) m.world
deeds_of env m (command.Template n t) = []
deeds_of env m (command.Mount n t inside) = plain.ask (template_reads env m (number_of m.names t)) ∷ plain.page (owner_of m.names inside) ∷ []
deeds_of env m (command.Bare b) = deeds_alone env m b

-- what an item does; a refused one does nothing
abbrev pub deeds_of_item : Environment → Machine → Item → List plain.Command
deeds_of_item env m (item.Do c) = option_map_or (λ r. []) (refusal_of env.slacks m c) (deeds_of env m c)
deeds_of_item env m (item.Refused r) = []

-- what happens as a script's items are done, from a machine on
abbrev pub happened : Environment → Machine → List Item → List Event
happened env m [] = []
happened env m (i ∷ is) = told_by env m.world (deeds_of_item env m i) ++ happened env (step env m i).machine is

-- ---- how it is told

-- Whether an entry answers: it says how something stands, that a command is refused, or of which handler of an event it is what follows, where the
-- others say what has happened.
abbrev pub is_answer : Entry → Bool
is_answer (entry.Notify w) = false
is_answer (entry.Log v) = false
is_answer (entry.Fail e f) = false
is_answer (entry.Drop place asks) = false
is_answer (entry.Run n names o) = false
is_answer (entry.Effect e names) = false
is_answer (entry.Cleanup e) = false
is_answer (entry.Gone t) = false
is_answer _ = true

-- Entries tell what happened, each event by the labels of its moment, in order, with answers between them.
pub data IsTold : Labels → List Event → List Entry → Type 0 where
  no_more : (labels : Labels) → IsTold labels [] []
  event_told : (labels : Labels) (e : Event) (es : List Event) (rest : List Entry) → IsTold (relabelled e labels) es rest →
      IsTold labels (e ∷ es) (event_entries labels e ++ rest)
  answered : (labels : Labels) (a : Entry) (es : List Event) (rest : List Entry) → is_answer a ≡ true → IsTold labels es rest →
      IsTold labels es (a ∷ rest)

-- an item of a script does these commands to the world, and tells what happens in them, which is noted once a journal was begun
pub record Happens (env : Environment) (m : Machine) (i : Item) : Type 0 where
  pub world : (step env m i).machine.world ≡ rested_after env m.world (deeds_of_item env m i)
  pub told : IsTold m.labels (told_by env m.world (deeds_of_item env m i)) (step env m i).entries
  pub noted : is_some m.journal ≡ true → (step env m i).machine.journal ≡ noting (told_by env m.world (deeds_of_item env m i)) m.journal

-- so it is with each item, where nothing is left to tell
abbrev pub HappensLaw : Type 0
HappensLaw = (env : Environment) (m : Machine) (i : Item) → m.world.told ≡ [] → Happens env m i

-- In what happens as any items are done, nothing that is gone runs, is evaluated, is notified, is cleaned up or ends again, and each cleanup
-- is done once, before its effect runs again or ends.
abbrev pub EndsLaw : Type 0
EndsLaw = (env : Environment) (hosts : ℕ) (is : List Item) → AreEnds (happened env (empty hosts) is)

-- In what happens as any items are done, each host formula that is dropped was asked as often as the runs from the first item to the last ask
-- it, and by none after its drop.
abbrev pub HostsLaw : Type 0
HostsLaw = (env : Environment) (hosts : ℕ) (is : List Item) → AreAsked (happened env (empty hosts) is)

-- a journal begins
abbrev pub records : Item
records = item.Do (command.Bare bares.Record)

-- A journal that begins has the facts of all that happens as any items are done then, in order, so many as there may be, and tells whether another
-- came.
abbrev pub NotesLaw : Type 0
NotesLaw = (env : Environment) (m : Machine) (is : List Item) → m.world.told ≡ [] → refusal_of env.slacks m (command.Bare bares.Record) ≡ None →
    (machine_after env m (records ∷ is)).journal ≡ Some (with_facts (facts_told (happened env m (records ∷ is))) no_facts)

-- A journal that begins at all, whatever items came before it, has the facts of all that happens from the first item on: no signal was made before
-- it, so nothing was to be noted.
abbrev pub WholeJournalLaw : Type 0
WholeJournalLaw = (env : Environment) (hosts : ℕ) (before is : List Item) →
    refusal_of env.slacks (machine_after env (empty hosts) before) (command.Bare bares.Record) ≡ None →
    (machine_after env (empty hosts) (before ++ records ∷ is)).journal
    ≡ Some (with_facts (facts_told (happened env (empty hosts) (before ++ records ∷ is))) no_facts)

-- In what happens as any items are done, each run of a computed is explained by the changes and runs before it: the cause that these give is that
-- for which the computed had to run.
abbrev pub ExplainedLaw : Type 0
ExplainedLaw = (env : Environment) (hosts : ℕ) (is : List Item) → AllExplained env [] (happened env (empty hosts) is)
