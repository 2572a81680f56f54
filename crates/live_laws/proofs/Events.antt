-- What each item does, and how it is told.
use Rattle.std.proofs.Common.{◌≡◌, ℕ, Bool, true, false, cond, List, [], ◌∷◌, ◌++◌, append_assoc, map, Option, Some, None, refl, sym, ap, subst, ◌∙◌}
use Rattle.std.specs.Prelude.{◌||◌, is_some, nat_lt}
use Rattle.std.proofs.lemmas.List.{append-nil}
use Rattle.std.specs.Option.{option_map_or, option_or}
use Rattle.sig_base.specs.Values.{scalar_value}
use Rattle.sig_base.specs.declared.value.Value.{Value}
use Rattle.sig_base.specs.declared.value.Value.TheVariants as value
use Rattle.page_model.specs.Pages.{bare}
use Rattle.tpl_model.specs.Updates.{Updated}
use Rattle.signal_model.specs.Recipes.{Recipe}
use Rattle.signal_model.specs.Values.{value_of}
use Rattle.effect_model.specs.Owners.{Thing, the_signal, the_watcher}
use Rattle.effect_model.specs.Worlds.{Environment, Event, refused, still_due, World, settle, at_rest}
use Rattle.effect_model.specs.Acts.{gone_refused, host_of, host_refused, or_refused, some_gone, with_use}
use Rattle.effect_model.specs.Batches.{Batch, net_of}
use Rattle.effect_model.specs.Commands as plain
use Rattle.effect_model.specs.Commands.{after_command, command_refused, done_by, inside_refused, told_if, with_new_computed, with_new_page}
use Rattle.effect_model.specs.Runs.{flush}
use Rattle.live_cmd.specs.declared.command.Bare.{Bare}
use Rattle.live_cmd.specs.declared.command.Bare.TheVariants as bares
use Rattle.live_cmd.specs.declared.command.Verb.{Verb}
use Rattle.live_cmd.specs.declared.command.Verb.TheVariants as verb
use Rattle.live_cmd.specs.declared.command.Command.{Command}
use Rattle.live_cmd.specs.declared.command.Command.TheVariants as command
use Rattle.live_cmd.specs.declared.command.Item.{Item}
use Rattle.live_cmd.specs.declared.command.Item.TheVariants as item
use Rattle.live_entries.specs.declared.entry.Entry.{Entry}
use Rattle.live_entries.specs.declared.entry.Entry.TheVariants as entry
use Rattle.live_entries.specs.declared.refusal.Refusal.{Refusal}
use Rattle.live_entries.specs.declared.refusal.Refusal.TheVariants as refusal
use Rattle.live_model.specs.declared.names.Kind.TheVariants as kind
use Rattle.live_model.specs.declared.names.Need.TheVariants as need
use Rattle.why_model.specs.Records.{no_facts}
use Rattle.live_model.proofs.Shared.{noting_both, noting_some, unnoted}
use Rattle.live_model.specs.Journals.{chain_in, noting}
use Rattle.live_model.specs.Labels.{labels_after}
use Rattle.live_model.specs.Links.{linked_body, owner_of, recipe_of}
use Rattle.live_model.specs.Machine as machine
use Rattle.live_model.specs.Machine.{Machine, Told, aborting, acted_on_pages, after_turns, batch_refusal, body_refusal, committing, updated_page, update_of, disposing, done, done_alone, empty, entries_of, is_trying, later_refusal, name_refusal, named, ops_told, over_limit, page_at, place_refusal, refusal_of, row_refusal, news_of, scratching, setting_by, settling, step, template_at, template_reads, unwatch_refusal, update_all}
use Rattle.live_model.specs.Pages.{Page, page_html, scratch_html}
use Rattle.live_model.specs.Rows.{edited, no_rows, rows_at}
use Rattle.live_model.specs.Names.{Use, first_refusal, meaning_of, number_of, refusal_at, thing_named}
use Rattle.live_model.specs.Output.{machine_after}
use Rattle.live_model.specs.Uses.{uses_of, uses_of_inside, uses_of_signals, uses_of_source}
use Rattle.why_laws.specs.Journals.{AllExplained, JournalLaw}
use Rattle.live_laws.specs.Rested.{AreAsked, AreEnds, rested_after, told_by}
use Rattle.live_laws.specs.Events.{askings_of, EndsLaw, ExplainedLaw, HappensLaw, HostsLaw, NotesLaw, IsTold, deeds_after_turns, deeds_alone, deeds_of, deeds_of_abort, deeds_of_commit, deeds_of_item, deeds_of_pages, deeds_of_set, deeds_of_verb, disposals_of, event_told, happened, no_more}
use Rattle.live_laws.proofs.Fine.{first_of_both, host_fine, inside_fine, none_by, none_of, signal_fine, signals_fine, source_fine, watcher_fine}
use Rattle.live_model.specs.Handlers.{fired_of, handlings_of}
use Rattle.live_laws.proofs.Firing.{firing_does}
use Rattle.live_laws.proofs.Rests.{quiet_after, rested_law, told_all, told_more}
use Rattle.live_laws.proofs.Entries.{answer_only, answers_only, answers_then, news_answer, page_answers, told_only, told_then, untold, why_answers}

-- what a command does, how it is told, and what is noted of it once a journal was begun
record Does (env : Environment) (m : Machine) (cs : List plain.Command) (t : Told) : Type 0 where
  pub world : t.machine.world ≡ rested_after env m.world cs
  pub told : IsTold m.labels (told_by env m.world cs) t.entries
  pub noted : is_some m.journal ≡ true → t.machine.journal ≡ noting (told_by env m.world cs) m.journal

-- ---- a command that the world isn't refused

after_fine : (env : Environment) (w : World) (c : plain.Command) → command_refused c w ≡ None → after_command env w c ≡ done_by env c w
after_fine env w c e = ap (λ o. or_refused o (done_by env c w) w) e

-- one that tells of itself
acts : (env : Environment) (m : Machine) (c : plain.Command) → command_refused c m.world ≡ None → (t : Told) →
    t.machine.world ≡ at_rest (done_by env c m.world) → t.entries ≡ entries_of m.labels (done_by env c m.world).told →
    t.machine.journal ≡ noting (done_by env c m.world).told m.journal → Does env m (c ∷ []) t
acts env m c e t world told noted = record {
  noted = λ _. noted ∙ ap (λ (es : List Event). noting es m.journal)
      (ap (λ (v : World). v.told) (sym (after_fine env m.world c e)) ∙ sym (append-nil (after_command env m.world c).told));
  world = world ∙ ap at_rest (sym (after_fine env m.world c e));
  told = subst (λ ts. IsTold m.labels ((after_command env m.world c).told ++ []) ts) (sym told)
      (subst (λ es. IsTold m.labels (es ++ []) (entries_of m.labels (done_by env c m.world).told)) (ap (λ (v : World). v.told) (sym (after_fine env m.world c e)))
      (told_only m.labels (done_by env c m.world).told));
}

-- one that tells nothing
makes : (env : Environment) (m : Machine) (c : plain.Command) → command_refused c m.world ≡ None → (t : Told) →
    t.machine.world ≡ at_rest (done_by env c m.world) → (done_by env c m.world).told ≡ [] → t.entries ≡ [] → t.machine.journal ≡ m.journal →
    Does env m (c ∷ []) t
makes env m c e t world quiet none same = record {
  noted = λ _. same ∙ sym (ap (λ (es : List Event). noting es m.journal)
      (append-nil (after_command env m.world c).told ∙ ap (λ (v : World). v.told) (after_fine env m.world c e) ∙ quiet) ∙ unnoted m.journal);
  world = world ∙ ap at_rest (sym (after_fine env m.world c e));
  told = subst (λ ts. IsTold m.labels ((after_command env m.world c).told ++ []) ts) (sym none)
      (untold m.labels ((after_command env m.world c).told ++ [])
      (append-nil (after_command env m.world c).told ∙ ap (λ (v : World). v.told) (after_fine env m.world c e) ∙ quiet));
}

-- ---- refusals

-- what is refused behind whether a batch is open
behind_batch : (slacks : List ℕ) (m : Machine) (c : Command) → refusal_of slacks m c ≡ None → option_or (name_refusal m c) (later_refusal slacks m c) ≡ None
behind_batch slacks m c e = (none_of (batch_refusal m.batch c) (option_or (name_refusal m c) (later_refusal slacks m c)) e).1

names_fine : (slacks : List ℕ) (m : Machine) (c : Command) → refusal_of slacks m c ≡ None → first_refusal m.world m.names (uses_of c) ≡ None
names_fine slacks m c e =
    let a = none_of (name_refusal m c) (later_refusal slacks m c) (behind_batch slacks m c e) in
    (none_of (first_refusal m.world m.names (uses_of c)) (body_refusal m c) a.0).0

pub rows_fine : (slacks : List ℕ) (m : Machine) (c : Command) → refusal_of slacks m c ≡ None → row_refusal m c ≡ None
rows_fine slacks m c e =
    let a = none_of (name_refusal m c) (later_refusal slacks m c) (behind_batch slacks m c e) in
    let b = none_of (place_refusal slacks m.world c) (option_or (row_refusal m c) (option_or (over_limit m c) (unwatch_refusal m c))) a.1 in
    (none_of (row_refusal m c) (option_or (over_limit m c) (unwatch_refusal m c)) b.1).0

places_fine : (slacks : List ℕ) (m : Machine) (c : Command) → refusal_of slacks m c ≡ None → place_refusal slacks m.world c ≡ None
places_fine slacks m c e =
    let a = none_of (name_refusal m c) (later_refusal slacks m c) (behind_batch slacks m c e) in
    (none_of (place_refusal slacks m.world c) (option_or (row_refusal m c) (option_or (over_limit m c) (unwatch_refusal m c))) a.1).0

-- the uses behind the first
behind_first : (slacks : List ℕ) (m : Machine) (c : Command) (u : Use) (us : List Use) → uses_of c ≡ u ∷ us → refusal_of slacks m c ≡ None →
    (refusal_at m.world u (meaning_of m.names u.0) ≡ None) × (first_refusal m.world m.names us ≡ None)
behind_first slacks m c u us same e =
    none_of (refusal_at m.world u (meaning_of m.names u.0)) (first_refusal m.world m.names us)
    (ap (first_refusal m.world m.names) (sym same) ∙ names_fine slacks m c e)

-- ---- pages

pages_do : (env : Environment) (ps : List Page) (m : Machine) → Does env m (deeds_of_pages env m.templates ps m.world) (update_all env ps m)
pages_do env [] m = record { world = refl; told = no_more m.labels; noted = λ _. sym (unnoted m.journal) }
pages_do env (p ∷ ps) m =
    let s : Told = settling env m (template_reads env m p.template) in
    let w : World = settle env (template_reads env m p.template) m.world in
    let next : Machine = record (s.machine) { pages = m.pages ++ updated_page env m p ∷ [] } in
    let rest : Does env next (deeds_of_pages env m.templates ps (at_rest w)) (update_all env ps next) = pages_do env ps next in
    let es : List Event = told_by env (at_rest w) (deeds_of_pages env m.templates ps (at_rest w)) in
    let later : List Entry = (update_all env ps next).entries in
    let news : List Entry = news_of (updated_page env m p) (update_of env m p.template p.content).ops in
    record {
      world = rest.world;
      noted = λ begun. rest.noted (noting_some w.told m.journal ∙ begun) ∙ sym (noting_both w.told es m.journal);
      told = subst (λ ts. IsTold m.labels (w.told ++ es) ts) (sym (append_assoc (entries_of m.labels w.told) news later))
          (told_then m.labels w.told es (news ++ later)
          (answers_then (labels_after w.told m.labels) news es later (news_answer (updated_page env m p) (update_of env m p.template p.content).ops) rest.told));
    }

-- after turns that came to this world, refused or not
turns_do : (env : Environment) (m : Machine) (b : Bool) (w : World) →
    (after_turns env b (acted_on_pages m w)).machine.world
    ≡ rested_after env (at_rest (told_if b w)) (deeds_after_turns env b (acted_on_pages m w).machine)
turns_do env m true w = refl
turns_do env m false w =
    let x : Machine = (acted_on_pages m w).machine in (pages_do env x.pages (record x { pages = [] })).world

turns_told : (env : Environment) (m : Machine) (b : Bool) (w : World) →
    IsTold m.labels ((told_if b w).told ++ told_by env (at_rest (told_if b w)) (deeds_after_turns env b (acted_on_pages m w).machine))
    (after_turns env b (acted_on_pages m w)).entries
turns_told env m true w =
    subst (λ es. IsTold m.labels es (entries_of m.labels w.told ++ entry.Error refusal.Turns ∷ [])) (sym (append-nil (w.told ++ refused still_due ∷ [])))
    (told_then m.labels w.told (refused still_due ∷ []) (entry.Error refusal.Turns ∷ [])
    (event_told (labels_after w.told m.labels) (refused still_due) [] [] (no_more (labels_after w.told m.labels))))
turns_told env m false w =
    let x : Machine = (acted_on_pages m w).machine in
    let rest : Does env (record x { pages = [] }) (deeds_of_pages env x.templates x.pages x.world) (update_all env x.pages (record x { pages = [] })) =
    pages_do env x.pages (record x { pages = [] }) in
    told_then m.labels w.told (told_by env (at_rest w) (deeds_of_pages env x.templates x.pages (at_rest w)))
    (update_all env x.pages (record x { pages = [] })).entries rest.told

turns_noted : (env : Environment) (m : Machine) (b : Bool) (w : World) → is_some m.journal ≡ true →
    (after_turns env b (acted_on_pages m w)).machine.journal
    ≡ noting ((told_if b w).told ++ told_by env (at_rest (told_if b w)) (deeds_after_turns env b (acted_on_pages m w).machine)) m.journal
turns_noted env m true w begun =
    sym (ap (λ (es : List Event). noting es m.journal) (append-nil (w.told ++ refused still_due ∷ []))
    ∙ noting_both w.told (refused still_due ∷ []) m.journal ∙ unnoted (noting w.told m.journal))
turns_noted env m false w begun =
    let x : Machine = (acted_on_pages m w).machine in
    let rest : Does env (record x { pages = [] }) (deeds_of_pages env x.templates x.pages x.world) (update_all env x.pages (record x { pages = [] })) =
    pages_do env x.pages (record x { pages = [] }) in
    rest.noted (noting_some w.told m.journal ∙ begun)
    ∙ sym (noting_both w.told (told_by env (at_rest w) (deeds_of_pages env x.templates x.pages (at_rest w))) m.journal)

-- ---- commands

-- settling ends nothing
inside_settled : (inside : Option ℕ) (env : Environment) (names : List ℕ) (w : World) →
    inside_refused inside (at_rest (settle env names w)) ≡ inside_refused inside w
inside_settled None env names w = refl
inside_settled (Some o) env names w = refl

use_quiet : (place : Option ℕ) (w : World) → (with_use place w).told ≡ w.told
use_quiet None w = refl
use_quiet (Some n) w = refl

disposals_do : (env : Environment) (m : Machine) (t : Option Thing) → Does env m (disposals_of t) (disposing env m t)
disposals_do env m None = record { world = refl; told = no_more m.labels; noted = λ _. sym (unnoted m.journal) }
disposals_do env m (Some t) = acts env m (plain.dispose t) refl (disposing env m (Some t)) refl refl refl

askings_do : (env : Environment) (m : Machine) (n : List ℕ) (o : Option Page) → Does env m (askings_of env m o) (scratching env m n o)
askings_do env m n None = record { world = refl; told = answer_only m.labels (entry.Scratch n []) refl; noted = λ _. sym (unnoted m.journal) }
askings_do env m n (Some p) =
    let w : World = settle env (template_reads env m p.template) m.world in
    let shown : Entry = entry.Scratch n (scratch_html env.hosts m.world.signals (template_at m p.template)) in
    record {
      world = refl;
      told = told_then m.labels w.told [] (shown ∷ []) (answer_only (labels_after w.told m.labels) shown refl);
      noted = λ _. ap (λ (es : List Event). noting es m.journal) (sym (append-nil w.told));
    }

verbs_do : (env : Environment) (m : Machine) (v : Verb) (n : List ℕ) (i : ℕ) → Does env m (deeds_of_verb env m v n i) (named env m v n i)
verbs_do env m verb.Get n i =
    let w : World = settle env (i ∷ []) m.world in record {
      world = refl;
      noted = λ _. ap (λ (es : List Event). noting es m.journal) (sym (append-nil w.told));
      told = told_then m.labels w.told [] (entry.Outcome n (value_of env.hosts m.world.signals i []) ∷ [])
          (answer_only (labels_after w.told m.labels) (entry.Outcome n (value_of env.hosts m.world.signals i [])) refl);
    }
verbs_do env m verb.Scratch n i = askings_do env m n (page_at m.pages i)
verbs_do env m verb.Dispose n i = disposals_do env m (thing_named (meaning_of m.names n))
verbs_do env m verb.Why n i = record {
  world = refl;
  told = answers_only m.labels (named env m verb.Why n i).entries (why_answers m.labels.signals n (chain_in m.journal i));
  noted = λ _. sym (unnoted m.journal);
}
verbs_do env m v n i = record { world = refl; told = answers_only m.labels (named env m v n i).entries refl; noted = λ _. sym (unnoted m.journal) }

-- ---- a batch, and changes beside it

commits_do : (env : Environment) (m : Machine) (b : Option Batch) → Does env m (deeds_of_commit env m.world b) (committing env m b)
commits_do env m None = record { world = refl; told = no_more m.labels; noted = λ _. sym (unnoted m.journal) }
commits_do env m (Some b) = acts env m (plain.tell_together (net_of env.slacks m.world.signals b)) refl (committing env m (Some b)) refl refl refl

aborts_do : (env : Environment) (m : Machine) (b : Option Batch) → Does env m (deeds_of_abort b) (aborting m b)
aborts_do env m None = record { world = refl; told = no_more m.labels; noted = λ _. sym (unnoted m.journal) }
aborts_do env m (Some b) = acts env m (plain.restore b) refl (aborting m (Some b)) refl refl refl

sets_do : (env : Environment) (m : Machine) (b : Option Batch) (i : ℕ) (v : Value) → Does env m (deeds_of_set b i v) (setting_by env m b i v)
sets_do env m None i v = acts env m (plain.set i v) refl (setting_by env m None i v) refl refl refl
sets_do env m (Some b) i v = acts env m (plain.set_untold i v) refl (setting_by env m (Some b) i v) refl refl refl

-- none begins where one was begun
not_begun : {A : Type 0} (made begun : Bool) (r : A) → begun ≡ true → cond (made || begun) (Some r) None ≡ None → ⊥
not_begun true begun r b e = cc
not_begun false true r b e = cc
not_begun false false r b e = cc

words_do : (env : Environment) (m : Machine) (b : Bare) → row_refusal m (command.Bare b) ≡ None → Does env m (deeds_alone env m b) (done_alone env m b)
words_do env m bares.Begin fine = record { world = refl; told = no_more m.labels; noted = λ _. sym (unnoted m.journal) }
words_do env m bares.Record fine = record {
  world = refl;
  told = no_more m.labels;
  noted = λ begun. absurd (not_begun (nat_lt 0 m.world.made.signals) (is_some m.journal) refusal.Late begun fine);
}
words_do env m bares.Commit fine = commits_do env m m.batch
words_do env m bares.Abort fine = aborts_do env m m.batch
words_do env m bares.Flush fine = record {
  noted = turns_noted env m (flush env m.world).refused (flush env m.world).world;
  world = turns_do env m (flush env m.world).refused (flush env m.world).world;
  told = turns_told env m (flush env m.world).refused (flush env m.world).world;
}

commands_do : (env : Environment) (m : Machine) (c : Command) → m.world.told ≡ [] → refusal_of env.slacks m c ≡ None → Does env m (deeds_of env m c) (done env m c)
commands_do env m (command.Cell n v equals inside) quiet e =
    let c : plain.Command = plain.cell (scalar_value v) equals (owner_of m.names inside) in
    makes env m c (inside_fine m.world m.names inside (behind_first env.slacks m (command.Cell n v equals inside) (n, need.New) (uses_of_inside inside) refl e).1)
    (done env m (command.Cell n v equals inside)) refl quiet refl refl
commands_do env m (command.List n fields inside) quiet e =
    let c : plain.Command = plain.cell (value.Rows (no_rows fields)) None (owner_of m.names inside) in
    makes env m c (inside_fine m.world m.names inside (behind_first env.slacks m (command.List n fields inside) (n, need.New) (uses_of_inside inside) refl e).1)
    (done env m (command.List n fields inside)) refl quiet refl refl
commands_do env m (command.Edit n d) quiet e =
    let i : ℕ = number_of m.names n in
    sets_do env m m.batch i (value.Rows (edited d (rows_at m.world.signals i)))
commands_do env m (command.Set n v) quiet e = sets_do env m m.batch (number_of m.names n) (scalar_value v)
commands_do env m (command.Computed n s inside) quiet e =
    let r : Recipe = recipe_of m.names s in
    let u = behind_first env.slacks m (command.Computed n s inside) (n, need.New) (uses_of_source s ++ uses_of_inside inside) refl e in
    let both = first_of_both m.world m.names (uses_of_source s) (uses_of_inside inside) u.1 in
    let places = places_fine env.slacks m (command.Computed n s inside) e in
    let w : World = with_new_computed r (owner_of m.names inside) m.world in
    makes env m (plain.computed r (owner_of m.names inside))
    (none_by (some_gone r.slots m.world) (option_or (inside_refused (owner_of m.names inside) m.world) (host_refused (host_of r.expression) m.world))
    (source_fine m.world m.names s both.0)
    (none_by (inside_refused (owner_of m.names inside) m.world) (host_refused (host_of r.expression) m.world) (inside_fine m.world m.names inside both.1)
    (host_fine m.world m.names s places)))
    (done env m (command.Computed n s inside)) refl (use_quiet (host_of r.expression) w ∙ quiet) refl refl
commands_do env m (command.Rewire n s) quiet e =
    acts env m (plain.rewire (number_of m.names n) (recipe_of m.names s)) refl (done env m (command.Rewire n s)) refl refl refl
commands_do env m (command.Owner n inside) quiet e =
    makes env m (plain.owner (owner_of m.names inside))
    (inside_fine m.world m.names inside (behind_first env.slacks m (command.Owner n inside) (n, need.New) (uses_of_inside inside) refl e).1)
    (done env m (command.Owner n inside)) refl quiet refl refl
commands_do env m (command.Watcher n tries) quiet e =
    makes env m (plain.watcher (is_trying tries)) refl (done env m (command.Watcher n tries)) refl quiet refl refl
commands_do env m (command.Watch n signals) quiet e =
    let u = behind_first env.slacks m (command.Watch n signals) (n, need.Of kind.Watcher) (uses_of_signals signals) refl e in
    acts env m (plain.watch (number_of m.names n) (map (number_of m.names) signals))
    (none_by (gone_refused (the_watcher (number_of m.names n)) m.world) (some_gone (map (number_of m.names) signals) m.world)
    (watcher_fine m.world m.names n u.0) (signals_fine m.world m.names signals u.1))
    (done env m (command.Watch n signals)) refl refl refl
commands_do env m (command.Unwatch n s) quiet e =
    let u = behind_first env.slacks m (command.Unwatch n s) (n, need.Of kind.Watcher) ((s, need.Signal) ∷ []) refl e in
    acts env m (plain.unwatch (number_of m.names n) (number_of m.names s))
    (none_by (gone_refused (the_watcher (number_of m.names n)) m.world) (gone_refused (the_signal (number_of m.names s)) m.world)
    (watcher_fine m.world m.names n u.0)
    (signal_fine m.world m.names s (none_of (refusal_at m.world (s, need.Signal) (meaning_of m.names s)) None u.1).0))
    (done env m (command.Unwatch n s)) refl refl refl
commands_do env m (command.Named v n) quiet e = verbs_do env m v n (number_of m.names n)
commands_do env m (command.Effect n b inside) quiet e =
    makes env m (plain.effect (linked_body m.names n m.world.made.effects b) (owner_of m.names inside))
    (inside_fine m.world m.names inside (behind_first env.slacks m (command.Effect n b inside) (n, need.New) (uses_of_inside inside) refl e).1)
    (done env m (command.Effect n b inside)) refl quiet refl refl
commands_do env m (command.On t line event b) quiet e = record { world = refl; told = no_more m.labels; noted = λ _. sym (unnoted m.journal) }
commands_do env m (command.Fire p node event) quiet e =
    let d = firing_does env m p (handlings_of m.handlers (fired_of m.handlers (page_at m.pages (number_of m.names p)) node event)) in
    record { world = d.world; told = d.told; noted = λ _. d.noted }
commands_do env m (command.Template n t) quiet e = record { world = refl; told = no_more m.labels; noted = λ _. sym (unnoted m.journal) }
commands_do env m (command.Mount n t inside) quiet e =
    let w : World = settle env (template_reads env m (number_of m.names t)) m.world in
    let p : Command = command.Mount n t inside in
    let owner : Option ℕ = owner_of m.names inside in
    let names = behind_first env.slacks m p (n, need.New) ((t, need.Of kind.Template) ∷ uses_of_inside inside) refl e in
    let fine : inside_refused owner m.world ≡ None =
    inside_fine m.world m.names inside
    (none_of (refusal_at m.world (t, need.Of kind.Template) (meaning_of m.names t)) (first_refusal m.world m.names (uses_of_inside inside)) names.1).1 in
    let page : after_command env (at_rest w) (plain.page owner) ≡ with_new_page owner (at_rest w) =
    after_fine env (at_rest w) (plain.page owner) (inside_settled owner env (template_reads env m (number_of m.names t)) m.world ∙ fine) in
    let u : Updated = update_of env m (number_of m.names t) bare in
    let q : Page = record { name = n; number = m.world.made.pages; template = number_of m.names t; content = u.page } in
    let told : List Entry = ops_told n u.ops ++ entry.Page n (page_html q) ∷ [] in
    record {
      world = ap at_rest (sym page);
      noted = λ _. sym (ap (λ (es : List Event). noting (w.told ++ (es ++ [])) m.journal) (ap (λ (v : World). v.told) page)
          ∙ ap (λ (es : List Event). noting es m.journal) (append-nil w.told));
      told = subst (λ ts. IsTold m.labels (w.told ++ ((after_command env (at_rest w) (plain.page owner)).told ++ [])) ts)
          (sym (append_assoc (entries_of m.labels w.told) (ops_told n u.ops) (entry.Page n (page_html q) ∷ [])))
          (told_then m.labels w.told ((after_command env (at_rest w) (plain.page owner)).told ++ []) told
          (subst (λ es. IsTold (labels_after w.told m.labels) (es ++ []) told) (ap (λ (v : World). v.told) (sym page))
          (answers_only (labels_after w.told m.labels) told (page_answers n u.ops (page_html q)))));
    }
commands_do env m (command.Bare b) quiet e = words_do env m b (rows_fine env.slacks m (command.Bare b) e)

-- ---- items

items_do : (env : Environment) (m : Machine) (c : Command) (o : Option Refusal) → (o ≡ None → Does env m (deeds_of env m c) (done env m c)) →
    Does env m (option_map_or (λ r. []) o (deeds_of env m c)) (option_map_or (machine.refused m) o (done env m c))
items_do env m c None h = h refl
items_do env m c (Some r) h = record { world = refl; told = answer_only m.labels (entry.Error r) refl; noted = λ _. sym (unnoted m.journal) }

pub happens_law : HappensLaw
happens_law env m (item.Refused r) quiet = record { world = refl; told = answer_only m.labels (entry.Error r) refl; noted = λ _. sym (unnoted m.journal) }
happens_law env m (item.Do c) quiet =
    let d : Does env m (deeds_of_item env m (item.Do c)) (step env m (item.Do c)) = items_do env m c (refusal_of env.slacks m c) (commands_do env m c quiet) in
    record { world = d.world; told = d.told; noted = d.noted }

-- all that items do, one after the other
abbrev pub deeds_of_items : Environment → Machine → List Item → List plain.Command
deeds_of_items env m [] = []
deeds_of_items env m (i ∷ is) = deeds_of_item env m i ++ deeds_of_items env (step env m i).machine is

pub happened_told : (env : Environment) (is : List Item) (m : Machine) → m.world.told ≡ [] → happened env m is ≡ told_by env m.world (deeds_of_items env m is)
happened_told env [] m quiet = refl
happened_told env (i ∷ is) m quiet =
    let cs : List plain.Command = deeds_of_item env m i in
    let next : Machine = (step env m i).machine in
    let there : next.world ≡ rested_after env m.world cs = (happens_law env m i quiet).world in
    let still : next.world.told ≡ [] = ap (λ (v : World). v.told) there ∙ quiet_after env cs m.world quiet in
    ap (λ es. told_by env m.world cs ++ es) (happened_told env is next still ∙ ap (λ v. told_by env v (deeds_of_items env next is)) there)
    ∙ sym (told_more env cs (deeds_of_items env next is) m.world)

pub ends_law : EndsLaw
ends_law env hosts is =
    subst AreEnds (sym (happened_told env is (empty hosts) refl)) (rested_law env hosts (deeds_of_items env (empty hosts) is)).0

pub hosts_law : HostsLaw
hosts_law env hosts is =
    subst AreAsked (sym (happened_told env is (empty hosts) refl)) (rested_law env hosts (deeds_of_items env (empty hosts) is)).1

-- ---- the journal

-- one that was begun has what happens behind what it has
items_noted : (env : Environment) (is : List Item) (m : Machine) → m.world.told ≡ [] → is_some m.journal ≡ true →
    (machine_after env m is).journal ≡ noting (happened env m is) m.journal
items_noted env [] m quiet begun = sym (unnoted m.journal)
items_noted env (i ∷ is) m quiet begun =
    let cs : List plain.Command = deeds_of_item env m i in
    let next : Machine = (step env m i).machine in
    let one = happens_law env m i quiet in
    let still : next.world.told ≡ [] = ap (λ (v : World). v.told) one.world ∙ quiet_after env cs m.world quiet in
    let there : next.journal ≡ noting (told_by env m.world cs) m.journal = one.noted begun in
    let on : is_some next.journal ≡ true = ap is_some there ∙ noting_some (told_by env m.world cs) m.journal ∙ begun in
    items_noted env is next still on
    ∙ ap (noting (happened env next is)) there
    ∙ sym (noting_both (told_by env m.world cs) (happened env next is) m.journal)

-- what comes of a `record` that isn't refused
begun_by : (env : Environment) (m : Machine) (is : List Item) (o : Option Refusal) → m.world.told ≡ [] → o ≡ None →
    (machine_after env (option_map_or (machine.refused m) o (done_alone env m bares.Record)).machine is).journal
    ≡ noting (told_by env m.world (option_map_or (λ r. []) o (deeds_alone env m bares.Record))
    ++ happened env (option_map_or (machine.refused m) o (done_alone env m bares.Record)).machine is) (Some no_facts)
begun_by env m is None quiet e = items_noted env is (record m { journal = Some no_facts }) quiet refl
begun_by env m is (Some r) quiet e = absurd cc

pub notes_law : NotesLaw
notes_law env m is quiet fine = begun_by env m is (refusal_of env.slacks m (command.Bare bares.Record)) quiet fine

-- what commands tell is explained, and items do commands
pub explained : JournalLaw → ExplainedLaw
explained law env hosts is =
    let cs : List plain.Command = deeds_of_items env (empty hosts) is in
    subst (λ (es : List Event). AllExplained env [] es) (sym (happened_told env is (empty hosts) refl ∙ told_all env hosts cs)) (law env hosts cs).explained
