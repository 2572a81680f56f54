-- Each step leaves the pages live.
use Rattle.std.proofs.Common.{◌≡◌, ℕ, Bool, true, false, cond, List, [], ◌∷◌, ◌++◌, append_assoc, map, length, Option, Some, None, refl, sym, ap, subst, ◌∙◌}
use Rattle.std.specs.List.{AllByRecursion, filter}
use Rattle.std.specs.Option.{option_map_or, option_or}
use Rattle.std.specs.Str.{bytes_eq}
use Rattle.page_model.proofs.Shared.{same_name}
use Rattle.sig_base.specs.Values.{scalar_value}
use Rattle.sig_base.specs.declared.scalar.Scalar.{Scalar}
use Rattle.sig_base.specs.declared.scalar.Scalar.TheVariants as scalar
use Rattle.sig_base.specs.declared.value.Value.{Value}
use Rattle.sig_base.specs.declared.value.Value.TheVariants as value
use Rattle.signal_model.specs.Recipes.{Hosts, Recipe}
use Rattle.signal_model.specs.Signals.{Signals, is_in, standing}
use Rattle.signal_model.specs.Values.{value_of}
use Rattle.signal_laws.proofs.Shared.{all_snoc}
use Rattle.effect_model.specs.Owners.{Thing, the_signal, the_owner, the_effect, the_page}
use Rattle.effect_model.specs.Worlds.{Environment, World, settle, at_rest}
use Rattle.effect_model.specs.Acts.{dispose_thing, forget, host_of, rewire_signal, set_cell, with_use}
use Rattle.effect_model.specs.Batches.{Batch, abort, commit, joined_by, set_quietly}
use Rattle.effect_model.specs.Commands.{armed, changed_watcher, with_new_cell, with_new_computed, with_new_effect, with_new_owner, with_new_page}
use Rattle.effect_model.specs.Commands.{with_new_watcher}
use Rattle.effect_model.specs.Runs.{flush}
use Rattle.effect_tables.proofs.Shared.{all_weaker}
use Rattle.page_model.specs.Forest.{Forest}
use Rattle.page_model.specs.Labels.{Kind as Label}
use Rattle.page_model.specs.Pages.{bare, tree_of}
use Rattle.page_model.specs.Replay.{Op}
use Rattle.page_model.specs.Texts.{IsSized}
use Rattle.sig_host.specs.Loans.{IsGood, LendsRows}
use Rattle.tpl_model.specs.Laws.{GivesRows, IsMade, IsTemplate, begun, carried_on}
use Rattle.tpl_model.specs.Sources.{on_signals}
use Rattle.tpl_model.specs.Updates.{Updated}
use Rattle.live_cmd.specs.declared.command.Bare.{Bare}
use Rattle.live_cmd.specs.declared.command.Bare.TheVariants as bares
use Rattle.why_model.specs.declared.causes.Link.{Link}
use Rattle.why_model.specs.Records.{Journal, no_facts}
use Rattle.live_cmd.specs.declared.command.Command.{Command}
use Rattle.live_cmd.specs.declared.command.Command.TheVariants as command
use Rattle.live_cmd.specs.declared.command.Item.{Item}
use Rattle.live_cmd.specs.declared.command.Item.TheVariants as item
use Rattle.live_cmd.specs.declared.command.Verb.{Verb}
use Rattle.live_cmd.specs.declared.command.Verb.TheVariants as verb
use Rattle.live_entries.specs.declared.entry.Entry.{Entry}
use Rattle.live_entries.specs.declared.entry.Entry.TheVariants as entry
use Rattle.live_entries.specs.declared.refusal.Refusal.{Refusal}
use Rattle.live_entries.specs.declared.refusal.Refusal.TheVariants as refusal
use Rattle.live_entries.specs.Printed.{IsSizedEntry}
use Rattle.live_model.specs.declared.names.Kind.{Kind}
use Rattle.live_model.specs.declared.names.Kind.TheVariants as kind
use Rattle.live_model.specs.declared.names.Meaning.{Meaning}
use Rattle.live_model.specs.declared.names.Need.TheVariants as need
use Rattle.live_model.specs.Handlers.{Handling, fired_of, handlings_of}
use Rattle.live_model.specs.Journals.{chain_in, link_entries, name_next, noting, why_entries}
use Rattle.live_model.specs.Labels.{Labels, labels_after, named as a_label, with_label}
use Rattle.live_model.specs.Links.{linked_body, linked_template, owner_of, recipe_of}
use Rattle.live_model.specs.Machine as machine
use Rattle.live_model.specs.Machine.{Machine, Told, aborting, acted, acted_on_pages, after_turns, batch_refusal, body_refusal, committing, disposing, done, entries_of}
use Rattle.live_model.specs.Machine.{is_trying, later_refusal, mounted, name_refusal, ops_told, over_limit, page_at, place_refusal}
use Rattle.live_model.specs.Machine.{refusal_of, row_refusal, scratching, setting_by, step, template_at, template_reads, reached}
use Rattle.live_model.specs.Machine.{unwatch_refusal, update_all, with_signal}
use Rattle.live_model.specs.Names.{Names, first_refusal, meaning_of, number_of, refusal_at, thing_named}
use Rattle.live_model.specs.Pages.{Page, Template, page_html, scratch_html, template_in}
use Rattle.live_model.specs.Scripts.{IsReadable, IsReadItem}
use Rattle.live_model.specs.Rows.{edited, no_rows, rows_at}
use Rattle.live_model.specs.Uses.{uses_of, uses_of_inside}
use Rattle.live_model.proofs.Shared.{new_rows, neither}
use Rattle.page_laws.specs.LivePages.{Lead, ops_of, tree_named}
use Rattle.page_laws.proofs.Fired.{Stays, fired_stays}
use Rattle.page_laws.proofs.Flushes.{all_carried, apart_carried, batch_stays, names_stay, next_ops, next_page, ops_are, pages_are, templates_stay, told_among, told_each, world_stays}
use Rattle.page_laws.proofs.Operations.{AreApart, AreQuiet, Differ, OneReading, all_by_two, all_filtered, apart_behind, apart_filtered, events_quiet, named_trees}
use Rattle.page_laws.proofs.Operations.{ops_both, page_led, page_told, quiet_both, sized_ops, still_led, unnamed_tree}
use Rattle.page_laws.proofs.Names.{IsNamed, IsPageOf, all_differ, all_made, all_named, last_named, name_free, template_good}
use Rattle.page_laws.proofs.Owned.{listed_good, made_good}
use Rattle.page_laws.proofs.Rows.{list_edited}
use Rattle.page_laws.proofs.Values.{signals_give}
use Rattle.page_laws.proofs.Worlds.{IsGoodBatch, IsGoodWorld, batch_aborted, batch_good, cell_made, cell_set, flushed_good, quietly_set, rest_good, signal_rewired}
use Rattle.page_laws.proofs.Worlds.{thing_disposed, use_good}

-- The templates are templates, each page is made from its own under a name of its own, and the rows of cells are good, those to which a batch
-- would give them back too.
pub record IsSound (m : Machine) : Type 0 where
  pub templates : AllByRecursion (λ (t : Template). IsTemplate t.lines) m.templates
  pub pages : AllByRecursion (IsPageOf m.templates) m.pages
  pub named : AllByRecursion (IsNamed m.names) m.pages
  pub apart : AreApart m.pages
  pub world : IsGoodWorld m.world
  pub batch : IsGoodBatch m.batch

-- the operations that are told of a page lead to it
abbrev IsLed : Machine → List Entry → Page → Type 0
IsLed m es p = Lead (ops_of p.name es) (tree_named m.pages p.name) (tree_of p.content)

-- a machine is sound behind a step, and what is told leads to its pages
pub record Steps (m : Machine) (t : Told) : Type 0 where
  pub sound : IsSound t.machine
  pub led : AllByRecursion IsSizedEntry t.entries → AllByRecursion (IsLed m t.entries) t.machine.pages

-- ---- steps that bring no page up to date

-- pages that stay as they are
quiet_led : (m : Machine) (ps : List Page) (es : List Entry) → AreQuiet es → AllByRecursion (λ (p : Page). tree_named m.pages p.name ≡ tree_of p.content) ps →
    AllByRecursion (IsLed m es) ps
quiet_led m ps es q trees =
    all_weaker (λ (p : Page). tree_named m.pages p.name ≡ tree_of p.content) (IsLed m es) ps
    (λ p e. still_led (ops_of p.name es) (tree_named m.pages p.name) (tree_of p.content) (q p.name) e) trees

-- nothing is done, and no operation told
same_step : (m : Machine) (es : List Entry) → IsSound m → AreQuiet es → Steps m (reached m es)
same_step m es s q = record { sound = s; led = λ z. quiet_led m m.pages es q (named_trees m.pages s.apart) }

-- the pages stay, and the world comes to another one
world_step : (m : Machine) (names : Names) (labels : Labels) (w : World) (es : List Entry) → IsSound m → AllByRecursion (IsNamed names) m.pages →
    IsGoodWorld w → AreQuiet es → Steps m (reached (record m { names = names; labels = labels; world = w }) es)
world_step m names labels w es s named good q = record {
  sound = record { templates = s.templates; pages = s.pages; named = named; apart = s.apart; world = good; batch = s.batch };
  led = λ z. quiet_led m m.pages es q (named_trees m.pages s.apart);
}

-- some pages may end
ended_step : (m : Machine) (f : Page → Bool) (labels : Labels) (w : World) (es : List Entry) → IsSound m → IsGoodWorld w → AreQuiet es →
    Steps m (reached (record m { labels = labels; world = w; pages = filter f m.pages }) es)
ended_step m f labels w es s good q = record {
  sound = record {
    templates = s.templates;
    pages = all_filtered (IsPageOf m.templates) f m.pages s.pages;
    named = all_filtered (IsNamed m.names) f m.pages s.named;
    apart = apart_filtered f m.pages s.apart;
    world = good;
    batch = s.batch;
  };
  led = λ z. quiet_led m (filter f m.pages) es q
      (all_filtered (λ (p : Page). tree_named m.pages p.name ≡ tree_of p.content) f m.pages (named_trees m.pages s.apart));
}

-- what is noted matters to no page
noted_step : (m : Machine) (j : Option Journal) (t : Told) → Steps m t → Steps m (reached (record (t.machine) { journal = j }) t.entries)
noted_step m j t s = record {
  sound = record {
    templates = s.sound.templates;
    pages = s.sound.pages;
    named = s.sound.named;
    apart = s.sound.apart;
    world = s.sound.world;
    batch = s.sound.batch;
  };
  led = s.led;
}

-- something is done to the world
act_step : (m : Machine) (w : World) → IsSound m → IsGoodWorld w → Steps m (acted m w)
act_step m w s good =
    noted_step m (noting w.told m.journal) (reached (record m { labels = labels_after w.told m.labels; world = at_rest w }) (entries_of m.labels w.told))
    (world_step m m.names (labels_after w.told m.labels) (at_rest w) (entries_of m.labels w.told) s s.named (rest_good w good) (events_quiet m.labels w.told))

-- the same, and a batch is open that was another one, or none is
batch_step : (m : Machine) (b : Option Batch) (w : World) → IsSound m → IsGoodBatch b → IsGoodWorld w → Steps m (acted (record m { batch = b }) w)
batch_step m b w s held good =
    let n : Machine = record m { batch = b } in
    let sound : IsSound n = record { templates = s.templates; pages = s.pages; named = s.named; apart = s.apart; world = s.world; batch = held } in
    let t : Steps n (acted n w) = act_step n w sound good in record { sound = t.sound; led = t.led }

-- the same with answers behind
answer_step : (m : Machine) (w : World) (answers : List Entry) → IsSound m → IsGoodWorld w → AreQuiet answers →
    Steps m (reached (acted m w).machine ((acted m w).entries ++ answers))
answer_step m w answers s good q =
    noted_step m (noting w.told m.journal) (reached (record m { labels = labels_after w.told m.labels; world = at_rest w }) (entries_of m.labels w.told ++ answers))
    (world_step m m.names (labels_after w.told m.labels) (at_rest w) (entries_of m.labels w.told ++ answers) s s.named (rest_good w good)
    (quiet_both (entries_of m.labels w.told) answers (events_quiet m.labels w.told) q))

-- pages may end by what is done
page_step : (m : Machine) (w : World) (answers : List Entry) → IsSound m → IsGoodWorld w → AreQuiet answers →
    Steps m (reached (acted_on_pages m w).machine ((acted_on_pages m w).entries ++ answers))
page_step m w answers s good q =
    noted_step m (noting w.told m.journal)
    (reached (record m { labels = labels_after w.told m.labels; world = at_rest w; pages = filter (λ (p : Page). is_in p.number (at_rest w).pages) m.pages })
    (entries_of m.labels w.told ++ answers))
    (ended_step m (λ (p : Page). is_in p.number (at_rest w).pages) (labels_after w.told m.labels) (at_rest w) (entries_of m.labels w.told ++ answers) s
    (rest_good w good) (quiet_both (entries_of m.labels w.told) answers (events_quiet m.labels w.told) q))

-- the same without answers
some_end_step : (m : Machine) (w : World) → IsSound m → IsGoodWorld w → Steps m (acted_on_pages m w)
some_end_step m w s good =
    noted_step m (noting w.told m.journal)
    (reached (record m { labels = labels_after w.told m.labels; world = at_rest w; pages = filter (λ (p : Page). is_in p.number (at_rest w).pages) m.pages })
    (entries_of m.labels w.told))
    (ended_step m (λ (p : Page). is_in p.number (at_rest w).pages) (labels_after w.told m.labels) (at_rest w) (entries_of m.labels w.told) s
    (rest_good w good) (events_quiet m.labels w.told))

-- a thing is made under a name
make_step : (m : Machine) (n : List ℕ) (x : Meaning) (labels : Labels) (w : World) → IsSound m → IsGoodWorld w →
    Steps m (reached (record m { names = m.names ++ (n, x) ∷ []; labels = labels; world = at_rest w }) [])
make_step m n x labels w s good =
    world_step m (m.names ++ (n, x) ∷ []) labels (at_rest w) [] s (all_named m.names (n, x) m.pages s.named) (rest_good w good) (λ k. refl)

-- ---- a flush

-- the pages that live are brought up to date
carried_led : (one : OneReading) (hosts : Hosts) (w : Signals) (m : Machine) (es : List Entry) (ps : List Page) → LendsRows hosts → IsSound m →
    ((l : List ℕ) → GivesRows (on_signals hosts w l)) → ((n : List ℕ) → AllByRecursion IsSized (ops_of n es)) →
    AllByRecursion (λ (p : Page). tree_named m.pages p.name ≡ tree_of p.content) ps → AllByRecursion (IsPageOf m.templates) ps →
    AllByRecursion (λ (p : Page). ops_of p.name es ≡ next_ops hosts w m.templates p) ps →
    AllByRecursion (IsLed m es) (map (next_page hosts w m.templates) ps)
carried_led one hosts w m es [] lends s gives sized trees made ops = tt
carried_led one hosts w m es (p ∷ ps) lends s gives sized trees made ops =
    let t : Template = template_in m.templates p.template in
    let lead = page_led one t.lines p.content (on_signals hosts w t.links) (template_good m.templates p.template s.templates) made.0 (gives t.links)
    (subst (λ (os : List Op). AllByRecursion IsSized os) ops.0 (sized p.name)) in
    let after : Forest Label = tree_of (next_page hosts w m.templates p).content in (
      subst (λ (os : List Op). Lead os (tree_named m.pages p.name) after) (sym ops.0)
          (subst (λ (b : Forest Label). Lead (next_ops hosts w m.templates p) b after) (sym trees.0) lead),
      carried_led one hosts w m es ps lends s gives sized trees.1 made.1 ops.1,
    )

carried_made : (hosts : Hosts) (w : Signals) (ts : List Template) (ps : List Page) → ((l : List ℕ) → GivesRows (on_signals hosts w l)) →
    AllByRecursion (IsPageOf ts) ps → AllByRecursion (IsPageOf ts) (map (next_page hosts w ts) ps)
carried_made hosts w ts ps gives made =
    all_carried (IsPageOf ts) (next_page hosts w ts) ps
    (all_weaker (IsPageOf ts) (λ (p : Page). IsPageOf ts (next_page hosts w ts p)) ps
    (λ p h. carried_on (on_signals hosts w (template_in ts p.template).links) (gives (template_in ts p.template).links) h) made)

turns_step : (one : OneReading) (env : Environment) (m : Machine) (w : World) (b : Bool) → LendsRows env.hosts → IsSound m → IsGoodWorld w →
    Steps m (after_turns env b (acted_on_pages m w))
turns_step one env m w true lends s good = page_step m w (entry.Error refusal.Turns ∷ []) s good (λ n. refl)
turns_step one env m w false lends s good =
    let t : Told = acted_on_pages m w in
    let ps : List Page = t.machine.pages in
    let before : Machine = record (t.machine) { pages = [] } in
    let end : Told = update_all env ps before in
    let first : Steps m t = some_end_step m w s good in
    let hosts : Hosts = env.hosts in
    let gives : (l : List ℕ) → GivesRows (on_signals hosts w.signals l) = λ l. signals_give hosts w.signals l lends good.0 in
    let es : List Entry = t.entries ++ end.entries in
    let carried : List Page = map (next_page hosts w.signals m.templates) ps in
    let own : AllByRecursion (λ (p : Page). ops_of p.name es ≡ next_ops hosts w.signals m.templates p) ps =
    all_weaker (λ (p : Page). told_among hosts w.signals m.templates p.name ps ≡ next_ops hosts w.signals m.templates p)
    (λ (p : Page). ops_of p.name es ≡ next_ops hosts w.signals m.templates p) ps
    (λ p e. ops_both p.name t.entries end.entries
    ∙ (ap (λ (os : List Op). os ++ ops_of p.name end.entries) (events_quiet m.labels w.told p.name) ∙ (ops_are env p.name ps before ∙ e)))
    (told_each hosts w.signals m.templates ps first.sound.apart) in
    let trees = all_filtered (λ (p : Page). tree_named m.pages p.name ≡ tree_of p.content) (λ (p : Page). is_in p.number (at_rest w).pages) m.pages
    (named_trees m.pages s.apart) in
    let pages : end.machine.pages ≡ carried = pages_are env ps before in
    record {
      sound = record {
        templates = subst (λ (ts : List Template). AllByRecursion (λ (x : Template). IsTemplate x.lines) ts) (sym (templates_stay env ps before)) s.templates;
        pages = subst (λ (ts : List Template). AllByRecursion (IsPageOf ts) end.machine.pages) (sym (templates_stay env ps before))
            (subst (λ (qs : List Page). AllByRecursion (IsPageOf m.templates) qs) (sym pages)
            (carried_made hosts w.signals m.templates ps gives first.sound.pages));
        named = subst (λ (ns : Names). AllByRecursion (IsNamed ns) end.machine.pages) (sym (names_stay env ps before))
            (subst (λ (qs : List Page). AllByRecursion (IsNamed m.names) qs) (sym pages)
            (all_carried (IsNamed m.names) (next_page hosts w.signals m.templates) ps first.sound.named));
        apart = subst AreApart (sym pages) (apart_carried hosts w.signals m.templates ps first.sound.apart);
        world = world_stays env ps before first.sound.world;
        batch = subst IsGoodBatch (sym (batch_stays env ps before)) s.batch;
      };
      led = λ z. subst (λ (qs : List Page). AllByRecursion (IsLed m es) qs) (sym pages)
          (carried_led one hosts w.signals m es ps lends s gives (λ n. sized_ops n es z) trees first.sound.pages own);
    }

-- ---- a mount

mount_step : (one : OneReading) (env : Environment) (m : Machine) (n : List ℕ) (t : ℕ) (inside : Option ℕ) → LendsRows env.hosts → IsSound m →
    meaning_of m.names n ≡ None → Steps m (mounted env m n t inside)
mount_step one env m n t inside lends s free =
    let x : Template = template_at m t in
    let w : World = settle env (template_reads env m t) m.world in
    let u : Updated = machine.update_of env m t bare in
    let p : Page = record { name = n; number = m.world.made.pages; template = t; content = u.page } in
    let meaning : Meaning = record { kind = kind.Page; number = m.world.made.pages } in
    let runs : List Entry = entries_of m.labels w.told in
    let page : List Entry = entry.Page n (page_html p) ∷ [] in
    let es : List Entry = runs ++ ops_told n u.ops ++ page in
    let evaluate = on_signals env.hosts m.world.signals x.links in
    let gives : GivesRows evaluate = signals_give env.hosts m.world.signals x.links lends s.world.0 in
    let made : IsMade x.lines u.page = carried_on evaluate gives begun in
    let apart = all_differ m.names n m.pages free s.named in
    let told_of : (k : List ℕ) → ops_of k es ≡ cond (bytes_eq k n) u.ops [] = λ k.
    ap (ops_of k) (append_assoc runs (ops_told n u.ops) page)
    ∙ (ops_both k runs (ops_told n u.ops ++ page)
    ∙ (ap (λ (os : List Op). os ++ ops_of k (ops_told n u.ops ++ page)) (events_quiet m.labels w.told k) ∙ page_told k n u.ops (page_html p))) in
    let older : AllByRecursion (IsLed m es) m.pages =
    all_by_two (λ (q : Page). Differ q.name n) (λ (q : Page). tree_named m.pages q.name ≡ tree_of q.content) (IsLed m es)
    (λ q d e. still_led (ops_of q.name es) (tree_named m.pages q.name) (tree_of q.content)
    (told_of q.name ∙ ap (λ b. cond b u.ops []) d.0) e) m.pages apart (named_trees m.pages s.apart) in
    let ops : ops_of n es ≡ u.ops = told_of n ∙ ap (λ b. cond b u.ops []) (same_name n) in
    let new : AllByRecursion IsSizedEntry es → IsLed m es p = λ z.
    let sized = subst (λ (os : List Op). AllByRecursion IsSized os) ops (sized_ops n es z) in
    let lead = page_led one x.lines bare evaluate (template_good m.templates t s.templates) begun gives sized in
    subst (λ (os : List Op). Lead os (tree_named m.pages n) (tree_of u.page)) (sym ops)
    (subst (λ (b : Forest Label). Lead u.ops b (tree_of u.page)) (sym (unnamed_tree n m.pages apart)) lead) in
    record {
      sound = record {
        templates = s.templates;
        pages = all_snoc (IsPageOf m.templates) m.pages p s.pages made;
        named = all_snoc (IsNamed (m.names ++ (n, meaning) ∷ [])) m.pages p (all_named m.names (n, meaning) m.pages s.named) (last_named m.names n meaning);
        apart = apart_behind m.pages p s.apart apart;
        world = rest_good (with_new_page inside (at_rest w)) (s.world.0, made_good inside (the_page m.world.made.pages) (at_rest w).owned (listed_good m.world.owned s.world.1));
        batch = s.batch;
      };
      led = λ z. all_snoc (IsLed m es) m.pages p older (new z);
    }

-- ---- commands

scalar_good : (v : Scalar) → IsGood (scalar_value v)
scalar_good (scalar.Bool b) = tt
scalar_good (scalar.Int n) = tt
scalar_good (scalar.Text t) = tt

scratch_step : (env : Environment) (m : Machine) (n : List ℕ) (p : Option Page) → IsSound m → Steps m (scratching env m n p)
scratch_step env m n None s = same_step m (entry.Scratch n [] ∷ []) s (λ k. refl)
scratch_step env m n (Some p) s =
    answer_step m (settle env (template_reads env m p.template) m.world)
    (entry.Scratch n (scratch_html env.hosts m.world.signals (template_at m p.template)) ∷ []) s s.world (λ k. refl)

dispose_step : (env : Environment) (m : Machine) (t : Option Thing) → IsSound m → Steps m (disposing env m t)
dispose_step env m None s = same_step m [] s (λ k. refl)
dispose_step env m (Some t) s = some_end_step m (dispose_thing env t m.world) s (thing_disposed env t m.world s.world)

-- what is told of a chain is of no page
links_quiet : (names : List (List ℕ)) (n : List ℕ) (ls : List Link) → AreQuiet (link_entries names n ls)
links_quiet names n [] k = refl
links_quiet names n (l ∷ ls) k = links_quiet names (name_next names n l.cause) ls k

why_quiet : (names : List (List ℕ)) (n : List ℕ) (o : Option (List Link)) → AreQuiet (why_entries names n o)
why_quiet names n None k = refl
why_quiet names n (Some ls) k = links_quiet names n ls k

verb_step : (env : Environment) (m : Machine) (v : Verb) (n : List ℕ) (i : ℕ) → IsSound m → Steps m (machine.named env m v n i)
verb_step env m verb.Get n i s = answer_step m (settle env (i ∷ []) m.world) (entry.Outcome n (value_of env.hosts m.world.signals i []) ∷ []) s s.world (λ k. refl)
verb_step env m verb.Scratch n i s = scratch_step env m n (page_at m.pages i) s
verb_step env m verb.Dispose n i s = dispose_step env m (thing_named (meaning_of m.names n)) s
verb_step env m verb.Why n i s = same_step m (machine.named env m verb.Why n i).entries s (why_quiet m.labels.signals n (chain_in m.journal i))
verb_step env m v n i s = same_step m (machine.named env m v n i).entries s (λ k. refl)

commit_step : (env : Environment) (m : Machine) (b : Option Batch) → IsSound m → Steps m (committing env m b)
commit_step env m None s = same_step m [] s (λ k. refl)
commit_step env m (Some b) s = batch_step m None (commit env b m.world) s tt s.world

abort_step : (m : Machine) (b : Option Batch) → IsGoodBatch b → IsSound m → Steps m (aborting m b)
abort_step m None held s = same_step m [] s (λ k. refl)
abort_step m (Some b) held s = batch_step m None (abort b m.world) s tt (batch_aborted b m.world held s.world)

alone_step : (one : OneReading) (env : Environment) (m : Machine) (b : Bare) → LendsRows env.hosts → IsSound m → Steps m (machine.done_alone env m b)
alone_step one env m bares.Begin lends s = record {
  sound = record { templates = s.templates; pages = s.pages; named = s.named; apart = s.apart; world = s.world; batch = tt };
  led = λ z. quiet_led m m.pages [] (λ k. refl) (named_trees m.pages s.apart);
}
alone_step one env m bares.Record lends s = noted_step m (Some no_facts) (reached m []) (same_step m [] s (λ k. refl))
alone_step one env m bares.Commit lends s = commit_step env m m.batch s
alone_step one env m bares.Abort lends s = abort_step m m.batch s.batch s
alone_step one env m bares.Flush lends s =
    turns_step one env m (flush env m.world).world (flush env m.world).refused lends s (flushed_good env m.world s.world)

-- a cell is set, beside the batch that is open, if one is
set_step : (env : Environment) (m : Machine) (b : Option Batch) (i : ℕ) (v : Value) → IsSound m → IsGoodBatch b → IsGood v → Steps m (setting_by env m b i v)
set_step env m None i v s held good = act_step m (set_cell env i v m.world) s (cell_set env i v m.world good s.world)
set_step env m (Some b) i v s held good =
    batch_step m (Some (joined_by env.slacks (standing m.world.signals i) i v b)) (set_quietly env i v m.world) s (batch_good env.slacks i v b m.world s.world held)
    (quietly_set env i v m.world good s.world)

-- a cell or a computed is made
signal_step : (m : Machine) (n : List ℕ) (k : Kind) (w : World) → IsSound m → IsGoodWorld w → Steps m (reached (with_signal m n k w) [])
signal_step m n k w s good =
    make_step m n (record { kind = k; number = m.world.made.signals }) (record (m.labels) { signals = m.labels.signals ++ n ∷ [] }) w s good

-- handlers of an event run
fire_step : (env : Environment) (m : Machine) (page : List ℕ) (xs : List Handling) → IsSound m → Steps m (machine.firing env m page xs)
fire_step env m page xs s =
    let t : Told = machine.firing env m page xs in
    let k : Stays m t = fired_stays env m page xs s.world in
    record {
      sound = subst IsSound (sym k.same)
          (record { templates = s.templates; pages = s.pages; named = s.named; apart = s.apart; world = k.good; batch = s.batch });
      led = λ z. subst (λ (n : Machine). AllByRecursion (IsLed m t.entries) n.pages) (sym k.same)
          (quiet_led m m.pages t.entries k.quiet (named_trees m.pages s.apart));
    }

-- what is refused behind whether a batch is open
behind_batch : (slacks : List ℕ) (m : Machine) (c : Command) → refusal_of slacks m c ≡ None → option_or (name_refusal m c) (later_refusal slacks m c) ≡ None
behind_batch slacks m c e = (neither (batch_refusal m.batch c) (option_or (name_refusal m c) (later_refusal slacks m c)) e).1

-- what a command does that isn't refused
done_step : (one : OneReading) (env : Environment) (m : Machine) (c : Command) → LendsRows env.hosts → IsSound m → IsReadable c →
    refusal_of env.slacks m c ≡ None → Steps m (done env m c)
done_step one env m (command.Cell n v equals inside) lends s read e =
    signal_step m n kind.Cell (with_new_cell (scalar_value v) equals (owner_of m.names inside) m.world) s
    (cell_made (scalar_value v) equals (owner_of m.names inside) m.world (scalar_good v) s.world)
done_step one env m (command.List n fields inside) lends s read e =
    signal_step m n kind.List (with_new_cell (value.Rows (no_rows fields)) None (owner_of m.names inside) m.world) s
    (cell_made (value.Rows (no_rows fields)) None (owner_of m.names inside) m.world (new_rows fields read) s.world)
done_step one env m (command.Edit n d) lends s read e =
    let c : Command = command.Edit n d in
    let i : ℕ = number_of m.names n in
    let later = neither (name_refusal m c) (later_refusal env.slacks m c) (behind_batch env.slacks m c e) in
    let rest : Option Refusal = option_or (over_limit m c) (unwatch_refusal m c) in
    let rows = neither (place_refusal env.slacks m.world c) (option_or (row_refusal m c) rest) later.1 in
    let fine : row_refusal m c ≡ None = (neither (row_refusal m c) rest rows.1).0 in
    set_step env m m.batch i (value.Rows (edited d (rows_at m.world.signals i))) s s.batch (list_edited d m.world.signals i s.world.0 fine)
done_step one env m (command.Set n v) lends s read e =
    set_step env m m.batch (number_of m.names n) (scalar_value v) s s.batch (scalar_good v)
done_step one env m (command.Computed n x inside) lends s read e =
    let r : Recipe = recipe_of m.names x in
    let owner : Option ℕ = owner_of m.names inside in
    signal_step m n kind.Computed (with_use (host_of r.expression) (with_new_computed r owner m.world)) s
    (use_good (host_of r.expression) (with_new_computed r owner m.world) (s.world.0, made_good owner (the_signal m.world.made.signals) m.world.owned s.world.1))
done_step one env m (command.Rewire n x) lends s read e =
    let i : ℕ = number_of m.names n in
    act_step m (rewire_signal i (recipe_of m.names x) m.world) s (signal_rewired i (recipe_of m.names x) m.world s.world)
done_step one env m (command.Owner n inside) lends s read e =
    let owner : Option ℕ = owner_of m.names inside in
    make_step m n (record { kind = kind.Owner; number = m.world.made.owners }) (record (m.labels) { owners = m.labels.owners ++ n ∷ [] })
    (with_new_owner owner m.world) s (s.world.0, made_good owner (the_owner m.world.made.owners) m.world.owned s.world.1)
done_step one env m (command.Watcher n tries) lends s read e =
    make_step m n (record { kind = kind.Watcher; number = m.world.made.watchers }) (record (m.labels) { watchers = m.labels.watchers ++ n ∷ [] })
    (with_new_watcher (is_trying tries) m.world) s s.world
done_step one env m (command.Watch n signals) lends s read e =
    act_step m (changed_watcher (number_of m.names n) (armed (map (number_of m.names) signals)) m.world) s s.world
done_step one env m (command.Unwatch n x) lends s read e =
    act_step m (changed_watcher (number_of m.names n) (forget (number_of m.names x)) m.world) s s.world
done_step one env m (command.Named v n) lends s read e = verb_step env m v n (number_of m.names n) s
done_step one env m (command.Effect n b inside) lends s read e =
    let owner : Option ℕ = owner_of m.names inside in
    let i : ℕ = m.world.made.effects in
    make_step m n (record { kind = kind.Effect; number = i }) (record (m.labels) { effects = with_label i (Some (a_label n)) m.labels.effects })
    (with_new_effect (linked_body m.names n i b) owner m.world) s (s.world.0, made_good owner (the_effect i) m.world.owned s.world.1)
done_step one env m (command.On t line event b) lends s read e = record {
  sound = record { templates = s.templates; pages = s.pages; named = s.named; apart = s.apart; world = s.world; batch = s.batch };
  led = λ z. quiet_led m m.pages [] (λ k. refl) (named_trees m.pages s.apart);
}
done_step one env m (command.Fire p node event) lends s read e =
    fire_step env m p (handlings_of m.handlers (fired_of m.handlers (page_at m.pages (number_of m.names p)) node event)) s
done_step one env m (command.Template n t) lends s read e =
    let x : Template = linked_template m.names t in
    let meaning : Meaning = record { kind = kind.Template; number = length m.templates } in
    record {
      sound = record {
        templates = all_snoc (λ (y : Template). IsTemplate y.lines) m.templates x s.templates read;
        pages = all_made m.templates x m.pages s.pages;
        named = all_named m.names (n, meaning) m.pages s.named;
        apart = s.apart;
        world = s.world;
        batch = s.batch;
      };
      led = λ z. quiet_led m m.pages [] (λ k. refl) (named_trees m.pages s.apart);
    }
done_step one env m (command.Mount n t inside) lends s read e =
    let c : Command = command.Mount n t inside in
    let names = (neither (name_refusal m c) (later_refusal env.slacks m c) (behind_batch env.slacks m c e)).0 in
    let uses = (neither (first_refusal m.world m.names (uses_of c)) (body_refusal m c) names).0 in
    let first = (neither (refusal_at m.world (n, need.New) (meaning_of m.names n))
    (first_refusal m.world m.names ((t, need.Of kind.Template) ∷ uses_of_inside inside)) uses).0 in
    mount_step one env m n (number_of m.names t) (owner_of m.names inside) lends s (name_free m.world n (meaning_of m.names n) first)
done_step one env m (command.Bare b) lends s read e = alone_step one env m b lends s

-- an item
pub item_step : (one : OneReading) (env : Environment) (m : Machine) (i : Item) → LendsRows env.hosts → IsSound m → IsReadItem i → Steps m (step env m i)
item_step one env m (item.Refused r) lends s read = same_step m (entry.Error r ∷ []) s (λ k. refl)
item_step one env m (item.Do c) lends s read = go (refusal_of env.slacks m c) (done_step one env m c lends s read)
  where
    go : (o : Option Refusal) → (o ≡ None → Steps m (done env m c)) → Steps m (option_map_or (machine.refused m) o (done env m c))
    go None h = h refl
    go (Some r) h = same_step m (entry.Error r ∷ []) s (λ k. refl)
