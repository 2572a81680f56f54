-- Each step of a machine tells no end of a page that lives behind it.
use Rattle.std.proofs.Common.{◌≡◌, ℕ, ◌==◌, ◌||◌, zero, suc, Bool, true, false, cond, List, [], ◌∷◌, ◌++◌, append-nil, map, Option, Some, None, length, refl, sym, ap}
use Rattle.std.proofs.Common.{subst, ◌∙◌, ◌⊎◌, inl, inr}
use Rattle.std.specs.Prelude.{slice_get}
use Rattle.std.specs.List.{AllByRecursion, filter}
use Rattle.std.specs.Option.{option_map_or}
use Rattle.std.proofs.lemmas.Bool.{eq-eqb}
use Rattle.page_laws.proofs.Shared.{after_first, name_free, next_page, pages_are}
use Rattle.live_model.proofs.Shared.{neither}
use Rattle.sig_base.specs.Values.{scalar_value}
use Rattle.sig_base.specs.declared.value.Value.TheVariants as value
use Rattle.signal_model.specs.Recipes.{Hosts}
use Rattle.signal_model.specs.Signals.{Signals, is_in}
use Rattle.effect_model.specs.Owners.{Thing}
use Rattle.signal_model.specs.Sound.{names_of}
use Rattle.effect_model.specs.Bodies.{Act, to_set, to_log, BodyEvaluation, BodyResult, to_do, failed_by, body_evaluation}
use Rattle.effect_model.specs.Worlds.{Environment, Event, World, ran, at_rest}
use Rattle.effect_model.specs.Worlds.{settle, logged, tell}
use Rattle.effect_model.specs.Acts.{dispose_thing, forget, host_of, rewire_signal, set_cell, with_use}
use Rattle.effect_model.specs.Commands.{armed, changed_watcher, with_new_computed}
use Rattle.effect_model.specs.Batches.{Batch, abort, commit, give_back, is_other as is_other_value, joined_by, replaced_by, set_quietly, with_replacing}
use Rattle.effect_model.specs.Runs.{flush}
use Rattle.page_model.specs.Pages.{bare}
use Rattle.page_model.specs.Replay.{Op}
use Rattle.live_cmd.specs.declared.command.Bare.{Bare}
use Rattle.live_cmd.specs.declared.command.Bare.TheVariants as bares
use Rattle.why_model.specs.declared.causes.Link.{Link}
use Rattle.live_cmd.specs.declared.command.Command.{Command}
use Rattle.live_cmd.specs.declared.command.Command.TheVariants as command
use Rattle.live_cmd.specs.declared.command.Item.{Item}
use Rattle.live_cmd.specs.declared.command.Item.TheVariants as item
use Rattle.live_cmd.specs.declared.command.Verb.{Verb}
use Rattle.live_cmd.specs.declared.command.Verb.TheVariants as verb
use Rattle.live_entries.specs.declared.entry.Entry.{Entry}
use Rattle.live_entries.specs.declared.entry.Entry.TheVariants as entry
use Rattle.live_entries.specs.declared.refusal.Refusal.{Refusal}
use Rattle.live_entries.specs.declared.refusal.Refusal.TheVariants as refusal
use Rattle.live_model.specs.declared.names.Kind.{Kind}
use Rattle.live_model.specs.declared.names.Kind.TheVariants as kind
use Rattle.live_model.specs.declared.names.Meaning.{Meaning}
use Rattle.live_model.specs.declared.names.Need.TheVariants as need
use Rattle.live_model.specs.Handlers.{Handling, fired_of, handlings_of}
use Rattle.live_model.specs.Journals.{chain_in, link_entries, name_next, why_entries}
use Rattle.live_model.specs.Labels.{Labels, labels_after, named as a_label, with_label}
use Rattle.live_model.specs.Links.{linked_template, owner_of, recipe_of}
use Rattle.live_model.specs.Machine as machine
use Rattle.live_model.specs.Machine.{Machine, Told, acted, acted_on_pages, after_turns, updated_page, update_of}
use Rattle.live_model.specs.Machine.{disposing, done, empty, entries_of, mounted, news_of, ops_told, page_at}
use Rattle.live_model.specs.Machine.{refusal_of, scratching, settling, step, template_at, template_reads, reached}
use Rattle.live_model.specs.Machine.{acting, acting_once, ending, firing, running}
use Rattle.live_model.specs.Machine.{aborting, committing, done_alone, setting_by, update_all}
use Rattle.live_model.specs.Names.{Names, first_refusal, meaning_of, number_of, refusal_at, thing_named}
use Rattle.live_model.specs.Pages.{Page, Template, page_html, scratch_html}
use Rattle.live_model.specs.Rows.{edited, rows_at}
use Rattle.live_model.specs.Uses.{uses_of}
use Rattle.follow_laws.specs.ToldPages.{AllSilent, AreSilent, has_page}
use Rattle.follow_laws.specs.Laws.{SilenceLaw}
use Rattle.follow_laws.proofs.Silence.{AreCalled, AreLiving, IsElse, called_more, events_silent, labels_kept, owned_by, silent_both, with_else}
use Rattle.follow_laws.proofs.MountedTrees.{clash, same}
use Rattle.follow_laws.proofs.NamedPages.{a_page, labels_stay}
use Rattle.follow_laws.proofs.NamedPages.{last_meant, numbered_filtered}
use Rattle.live_model.specs.Names.{Use}
use Rattle.signal_model.specs.Asks.{Moment, moments}
use Rattle.signal_model.specs.Settling.{settled}
use Rattle.signal_model.specs.Signals.{Stands, IsCell, IsComputed, IsGone, standing}
use Rattle.signal_laws.proofs.Shared.{all_snoc}
use Rattle.sig_base.specs.declared.value.Value.{Value}
use Rattle.signal_model.specs.Recipes.{Recipe}
use Rattle.effect_model.specs.Worlds.{Refused}
use Rattle.effect_model.specs.Acts.{are_alike, or_refused, rewire_standing, rewiring_refused, set_standing, with_drop, with_new_value, with_quiet_value}
use Rattle.follow_laws.proofs.ToldEnds.{IsOff, Off, abort_off, dispose_off, flush_off, notified_off, one_off, quiet_off, rewire_off, set_off, settle_off}
use Rattle.follow_laws.proofs.SpokenSteps.{Idles, TiedTo, all_idle, end_idles, fire_idles, fired_idles, heard_idles, one_idles, run_idles}
use Rattle.follow_laws.proofs.SpokenSteps.{empty_tied, first_fine, item_step, living_stay, no_page, same_names}

-- ---- a machine behind a step

-- labels are names of what has them, the pages live, and nothing is left to tell
record Quiet (m : Machine) : Type 0 where
  pub called : AreCalled m.names m.labels
  pub lives : AreLiving m.world.pages m.pages
  pub still : m.world.told ≡ []

-- so it is behind a step, which tells no end of a page that lives behind it
record Hushes (m : Machine) (t : Told) : Type 0 where
  pub quiet : Quiet t.machine
  pub silent : AreSilent t.machine.pages t.entries

off_first : (m : Machine) → Quiet m → Off m.world
off_first m q = subst (λ (es : List Event). AllByRecursion (IsOff m.world.pages) es) (sym q.still) tt

same_hush : (m : Machine) (es : List Entry) → Quiet m → AreSilent m.pages es → Hushes m (reached m es)
same_hush m es q s = record { quiet = q; silent = s }

act_hush : (m : Machine) (w : World) (answers : List Entry) → TiedTo m → Quiet m → w.pages ≡ m.world.pages → Off w → AreSilent m.pages answers →
    Hushes m (reached (acted m w).machine ((acted m w).entries ++ answers))
act_hush m w answers t q same off ans =
    let l : AreLiving w.pages m.pages = subst (λ (ns : List ℕ). AreLiving ns m.pages) (sym same) q.lives in
    record {
      quiet = record { called = labels_kept m.names w.told m.labels q.called; lives = l; still = refl };
      silent = silent_both m.pages (entries_of m.labels w.told) answers
          (events_silent m.names w.pages m.pages m.labels w.told (owned_by m.names w.pages m.pages t.numbered l) q.called off) ans;
    }

act_alone : (m : Machine) (w : World) → TiedTo m → Quiet m → w.pages ≡ m.world.pages → Off w → Hushes m (acted m w)
act_alone m w t q same off =
    subst (λ (es : List Entry). Hushes m (reached (acted m w).machine es)) (append-nil (acted m w).entries) (act_hush m w [] t q same off tt)

-- the same, and a batch is open that was another one, or none is
batch_hush : (m : Machine) (b : Option Batch) (w : World) → TiedTo m → Quiet m → w.pages ≡ m.world.pages → Off w → Hushes m (acted (record m { batch = b }) w)
batch_hush m b w t q same off =
    let n : Machine = record m { batch = b } in
    let quiet : Quiet n = record { called = q.called; lives = q.lives; still = q.still } in
    let h : Hushes n (acted n w) = act_alone n w t quiet same off in record { quiet = h.quiet; silent = h.silent }

living_filtered : (living : List ℕ) (ps : List Page) → AreLiving living (filter (λ (p : Page). is_in p.number living) ps)
living_filtered living [] = tt
living_filtered living (p ∷ ps) = go (is_in p.number living) refl (living_filtered living ps)
  where
    go : (b : Bool) → is_in p.number living ≡ b → AreLiving living (filter (λ (p : Page). is_in p.number living) ps) →
        AreLiving living (cond b (p ∷ filter (λ (p : Page). is_in p.number living) ps) (filter (λ (p : Page). is_in p.number living) ps))
    go true e rest = (e, rest)
    go false e rest = rest

ended_quiet : (m : Machine) (w : World) → Quiet m → Quiet (acted_on_pages m w).machine
ended_quiet m w q = record { called = labels_kept m.names w.told m.labels q.called; lives = living_filtered w.pages m.pages; still = refl }

-- what the events of a world tell of the pages that are left
ended_silent : (m : Machine) (w : World) → TiedTo m → Quiet m → Off w →
    AreSilent (acted_on_pages m w).machine.pages (entries_of m.labels w.told)
ended_silent m w t q off =
    let f : Page → Bool = λ p. is_in p.number w.pages in
    events_silent m.names w.pages (filter f m.pages) m.labels w.told
    (owned_by m.names w.pages (filter f m.pages) (numbered_filtered m.names f m.pages t.numbered) (living_filtered w.pages m.pages)) q.called off

ended_hush : (m : Machine) (w : World) → TiedTo m → Quiet m → Off w → Hushes m (acted_on_pages m w)
ended_hush m w t q off = record { quiet = ended_quiet m w q; silent = ended_silent m w t q off }

-- ---- sets and rewirings leave the pages

set_pages : (env : Environment) (s : Stands) (n : ℕ) (v : Value) (w : World) → (set_standing s env n v w).pages ≡ w.pages
set_pages env IsGone n v w = refl
set_pages env (IsCell c) n v w = go (are_alike env.slacks c.rule c.value v)
  where
    go : (b : Bool) → (cond b w (with_new_value n v w)).pages ≡ w.pages
    go true = refl
    go false = refl
set_pages env (IsComputed c) n v w = refl

replacing_pages : (n : ℕ) (v : Value) (o : Option Value) (w : World) → (with_replacing n v o w).pages ≡ w.pages
replacing_pages n v None w = refl
replacing_pages n v (Some before) w = refl

back_pages : (n : ℕ) (v : Value) (w : World) → (give_back n v w).pages ≡ w.pages
back_pages n v w = go (is_other_value v (standing w.signals n))
  where
    go : (b : Bool) → (cond b (with_quiet_value n v w) w).pages ≡ w.pages
    go true = refl
    go false = refl

abort_pages : (b : Batch) (w : World) → (abort b w).pages ≡ w.pages
abort_pages [] w = refl
abort_pages (p ∷ b) w = abort_pages b (give_back p.0 p.1 w) ∙ back_pages p.0 p.1 w

use_pages : (o : Option ℕ) (w : World) → (with_use o w).pages ≡ w.pages
use_pages None w = refl
use_pages (Some place) w = refl

drop_pages : (o : Option ℕ) (w : World) → (with_drop o w).pages ≡ w.pages
drop_pages None w = refl
drop_pages (Some place) w = refl

standing_pages : (s : Stands) (n : ℕ) (r : Recipe) (w : World) → (rewire_standing s n r w).pages ≡ w.pages
standing_pages IsGone n r w = refl
standing_pages (IsCell c) n r w = refl
standing_pages (IsComputed c) n r w = drop_pages (host_of c.recipe.expression) _ ∙ use_pages (host_of r.expression) _

unless_pages : (o : Option Refused) (v w : World) → v.pages ≡ w.pages → (or_refused o v w).pages ≡ w.pages
unless_pages None v w e = e
unless_pages (Some why) v w e = refl

-- ---- pages brought up to date

runs_silent : (ps : List Page) (labels : Labels) (ms : List Moment) → AreSilent ps (entries_of labels (map ran ms))
runs_silent ps labels [] = tt
runs_silent ps labels (m ∷ ms) = runs_silent ps labels ms

settled_silent : (env : Environment) (ps : List Page) (labels : Labels) (names : List ℕ) (w : World) → w.told ≡ [] →
    AreSilent ps (entries_of labels (settle env names w).told)
settled_silent env ps labels names w e =
    let runs : List Moment = moments w.signals (settled env.hosts w.signals w.memos names).runs in
    subst (λ (es : List Event). AreSilent ps (entries_of labels (es ++ map ran runs))) (sym e) (runs_silent ps labels runs)

ops_silent : (ps : List Page) (n : List ℕ) (ops : List Op) (html : List ℕ) → AreSilent ps (ops_told n ops ++ entry.Page n html ∷ [])
ops_silent ps n [] html = tt
ops_silent ps n (o ∷ ops) html = ops_silent ps n ops html

news_silent : (ps : List Page) (p : Page) (ops : List Op) → AreSilent ps (news_of p ops)
news_silent ps p [] = tt
news_silent ps p (o ∷ ops) = ops_silent ps p.name (o ∷ ops) (page_html p)

updates_silent : (env : Environment) (ends ps : List Page) (m : Machine) → m.world.told ≡ [] → AreSilent ends (update_all env ps m).entries
updates_silent env ends [] m e = tt
updates_silent env ends (p ∷ ps) m e =
    let w : World = settle env (template_reads env m p.template) m.world in
    let news : List Entry = news_of (updated_page env m p) (update_of env m p.template p.content).ops in
    silent_both ends (entries_of m.labels w.told ++ news) (update_all env ps (after_first env m p)).entries
    (silent_both ends (entries_of m.labels w.told) news (settled_silent env ends m.labels (template_reads env m p.template) m.world e)
    (news_silent ends (updated_page env m p) (update_of env m p.template p.content).ops))
    (updates_silent env ends ps (after_first env m p) refl)

updates_called : (env : Environment) (ps : List Page) (m : Machine) → AreCalled m.names m.labels →
    AreCalled (update_all env ps m).machine.names (update_all env ps m).machine.labels
updates_called env [] m h = h
updates_called env (p ∷ ps) m h =
    updates_called env ps (after_first env m p) (labels_kept m.names (settle env (template_reads env m p.template) m.world).told m.labels h)

updates_still : (env : Environment) (ps : List Page) (m : Machine) → m.world.told ≡ [] → (update_all env ps m).machine.world.told ≡ []
updates_still env [] m e = e
updates_still env (p ∷ ps) m e = updates_still env ps (after_first env m p) refl

living_carried : (hosts : Hosts) (w : Signals) (ts : List Template) (living : List ℕ) (ps : List Page) → AreLiving living ps → AreLiving living (map (next_page hosts w ts) ps)
living_carried hosts w ts living [] h = tt
living_carried hosts w ts living (p ∷ ps) h = (h.0, living_carried hosts w ts living ps h.1)

-- silence of pages is silence of pages of the same names
same_silent : (ps qs : List Page) (es : List Entry) → ((n : List ℕ) → has_page qs n ≡ has_page ps n) → AreSilent ps es → AreSilent qs es
same_silent ps qs [] e s = tt
same_silent ps qs (entry.Gone l ∷ es) e s = ((λ k. e l.name ∙ s.0 k), same_silent ps qs es e s.1)
same_silent ps qs (_ ∷ es) e s = same_silent ps qs es e s

turns_hush : (env : Environment) (m : Machine) (w : World) (b : Bool) → TiedTo m → Quiet m → Off w → Hushes m (after_turns env b (acted_on_pages m w))
turns_hush env m w true t q off = record {
  quiet = ended_quiet m w q;
  silent = silent_both (acted_on_pages m w).machine.pages (entries_of m.labels w.told) (entry.Error refusal.Turns ∷ []) (ended_silent m w t q off) tt;
}
turns_hush env m w false t q off =
    let x : Machine = (acted_on_pages m w).machine in
    let before : Machine = record x { pages = [] } in
    let end : Machine = (update_all env x.pages before).machine in
    let f : Page → Page = next_page env.hosts w.signals m.templates in
    let pages : end.pages ≡ map f x.pages = pages_are env x.pages before in
    let same : (n : List ℕ) → has_page end.pages n ≡ has_page x.pages n = λ n.
    ap (λ (ps : List Page). has_page ps n) pages ∙ same_names f (λ p. refl) x.pages n in
    record {
      quiet = record {
        called = updates_called env x.pages before (ended_quiet m w q).called;
        lives = subst (λ (l : List ℕ). AreLiving l end.pages) (sym (living_stay env x.pages before))
            (subst (λ (ps : List Page). AreLiving x.world.pages ps) (sym pages)
            (living_carried env.hosts w.signals m.templates x.world.pages x.pages (living_filtered w.pages m.pages)));
        still = updates_still env x.pages before refl;
      };
      silent = silent_both end.pages (entries_of m.labels w.told) (update_all env x.pages before).entries
          (same_silent x.pages end.pages (entries_of m.labels w.told) same (ended_silent m w t q off))
          (updates_silent env end.pages x.pages before refl);
    }

-- ---- commands

new_fine : (slacks : List ℕ) (m : Machine) (c : Command) (n : List ℕ) (us : List Use) → uses_of c ≡ (n, need.New) ∷ us → refusal_of slacks m c ≡ None →
    meaning_of m.names n ≡ None
new_fine slacks m c n us same e =
    name_free m.world n (meaning_of m.names n) (neither (refusal_at m.world (n, need.New) (meaning_of m.names n)) (first_refusal m.world m.names us)
    (ap (first_refusal m.world m.names) (sym same) ∙ first_fine slacks m c e)).0

is_else : (names : Names) (n : List ℕ) (k : Kind) (i : ℕ) → meaning_of names n ≡ None → (k ≡ kind.Page → ⊥) → IsElse (names ++ (n, record { kind = k; number = i }) ∷ []) n
is_else names n k i free f = (record { kind = k; number = i }, last_meant names n (record { kind = k; number = i }) free, λ j. no_page k i j f)

-- what is made tells nothing
made_hush : (m : Machine) (n : List ℕ) (x : Meaning) (labels : Labels) (w : World) (templates : List Template) → Quiet m → w.pages ≡ m.world.pages → w.told ≡ [] →
    AreCalled (m.names ++ (n, x) ∷ []) labels →
    Hushes m (reached (record m { names = m.names ++ (n, x) ∷ []; labels = labels; world = w; templates = templates }) [])
made_hush m n x labels w templates q same still c = record {
  quiet = record { called = c; lives = subst (λ (l : List ℕ). AreLiving l m.pages) (sym same) q.lives; still = still };
  silent = tt;
}

signal_called : (m : Machine) (n : List ℕ) (k : Kind) (i : ℕ) → Quiet m → meaning_of m.names n ≡ None → (k ≡ kind.Page → ⊥) →
    AreCalled (m.names ++ (n, record { kind = k; number = i }) ∷ []) (record (m.labels) { signals = m.labels.signals ++ n ∷ [] })
signal_called m n k i q free f =
    let h = called_more m.names (n, record { kind = k; number = i }) m.labels q.called in record {
      signals = all_snoc (IsElse (m.names ++ (n, record { kind = k; number = i }) ∷ [])) m.labels.signals n h.signals (is_else m.names n k i free f);
      owners = h.owners;
      watchers = h.watchers;
      effects = h.effects;
      pages = h.pages;
    }

owner_called : (m : Machine) (n : List ℕ) (i : ℕ) → Quiet m → meaning_of m.names n ≡ None →
    AreCalled (m.names ++ (n, record { kind = kind.Owner; number = i }) ∷ []) (record (m.labels) { owners = m.labels.owners ++ n ∷ [] })
owner_called m n i q free =
    let h = called_more m.names (n, record { kind = kind.Owner; number = i }) m.labels q.called in record {
      signals = h.signals;
      owners = all_snoc (IsElse (m.names ++ (n, record { kind = kind.Owner; number = i }) ∷ [])) m.labels.owners n h.owners (is_else m.names n kind.Owner i free (λ e. cc));
      watchers = h.watchers;
      effects = h.effects;
      pages = h.pages;
    }

watcher_called : (m : Machine) (n : List ℕ) (i : ℕ) → Quiet m → meaning_of m.names n ≡ None →
    AreCalled (m.names ++ (n, record { kind = kind.Watcher; number = i }) ∷ []) (record (m.labels) { watchers = m.labels.watchers ++ n ∷ [] })
watcher_called m n i q free =
    let h = called_more m.names (n, record { kind = kind.Watcher; number = i }) m.labels q.called in record {
      signals = h.signals;
      owners = h.owners;
      watchers = all_snoc (IsElse (m.names ++ (n, record { kind = kind.Watcher; number = i }) ∷ [])) m.labels.watchers n h.watchers (is_else m.names n kind.Watcher i free (λ e. cc));
      effects = h.effects;
      pages = h.pages;
    }

effect_called : (m : Machine) (n : List ℕ) (i : ℕ) → Quiet m → meaning_of m.names n ≡ None →
    AreCalled (m.names ++ (n, record { kind = kind.Effect; number = i }) ∷ []) (record (m.labels) { effects = with_label i (Some (a_label n)) m.labels.effects })
effect_called m n i q free =
    let h = called_more m.names (n, record { kind = kind.Effect; number = i }) m.labels q.called in record {
      signals = h.signals;
      owners = h.owners;
      watchers = h.watchers;
      effects = with_else (m.names ++ (n, record { kind = kind.Effect; number = i }) ∷ []) i (Some (a_label n)) m.labels.effects
          (λ k. is_else m.names n kind.Effect i free (λ e. cc)) h.effects;
      pages = h.pages;
    }

-- the last label, and those before it
last_label : (xs : List (List ℕ)) (y : List ℕ) (i : ℕ) (n : List ℕ) → slice_get (xs ++ y ∷ []) i ≡ Some n → (slice_get xs i ≡ Some n) ⊎ ((i ≡ length xs) × (y ≡ n))
last_label [] y zero n h = inr (refl, some y n h)
  where
    some : (a b : List ℕ) → Some a ≡ Some b → a ≡ b
    some a b e = cc
last_label [] y (suc i) n h = cc
last_label (x ∷ xs) y zero n h = inl h
last_label (x ∷ xs) y (suc i) n h = go (last_label xs y i n h)
  where
    go : (slice_get xs i ≡ Some n) ⊎ ((i ≡ length xs) × (y ≡ n)) → (slice_get xs i ≡ Some n) ⊎ ((suc i ≡ length (x ∷ xs)) × (y ≡ n))
    go (inl k) = inl k
    go (inr k) = inr (ap suc k.0, k.1)

mount_hush : (env : Environment) (m : Machine) (n : List ℕ) (t : ℕ) (inside : Option ℕ) → TiedTo m → Quiet m → meaning_of m.names n ≡ None → Hushes m (mounted env m n t inside)
mount_hush env m n t inside tied q free =
    let w : World = settle env (template_reads env m t) m.world in
    let u = update_of env m t bare in
    let p : Page = record { name = n; number = m.world.made.pages; template = t; content = u.page } in
    let labels : Labels = labels_after w.told m.labels in
    let h = called_more m.names (n, a_page p.number) labels (labels_kept m.names w.told m.labels q.called) in
    record {
      quiet = record {
        called = record {
          signals = h.signals;
          owners = h.owners;
          watchers = h.watchers;
          effects = h.effects;
          pages = λ i k g. page labels (labels_stay w.told m.labels) h.pages i k (last_label labels.pages n i k g);
        };
        lives = lives p refl m.pages q.lives;
        still = refl;
      };
      silent = silent_both (m.pages ++ p ∷ []) (entries_of m.labels w.told ++ ops_told n u.ops) (entry.Page n (page_html p) ∷ [])
          (silent_both (m.pages ++ p ∷ []) (entries_of m.labels w.told) (ops_told n u.ops)
          (settled_silent env (m.pages ++ p ∷ []) m.labels (template_reads env m t) m.world q.still) (ops_only (m.pages ++ p ∷ []) u.ops)) tt;
    }
  where
    ops_only : (ps : List Page) (ops : List Op) → AreSilent ps (ops_told n ops)
    ops_only ps [] = tt
    ops_only ps (o ∷ ops) = ops_only ps ops

    page : (labels : Labels) → labels.pages ≡ m.labels.pages →
        ((j : ℕ) (k : List ℕ) → slice_get labels.pages j ≡ Some k → meaning_of (m.names ++ (n, a_page m.world.made.pages) ∷ []) k ≡ Some (a_page j)) →
        (i : ℕ) (k : List ℕ) → (slice_get labels.pages i ≡ Some k) ⊎ ((i ≡ length labels.pages) × (n ≡ k)) →
        meaning_of (m.names ++ (n, a_page m.world.made.pages) ∷ []) k ≡ Some (a_page i)
    page labels e h i k (inl g) = h i k g
    page labels e h i k (inr g) =
        let number : m.world.made.pages ≡ i = sym (g.0 ∙ (ap (λ (l : List (List ℕ)). length l) e ∙ tied.counted)) in
        ap (meaning_of (m.names ++ (n, a_page m.world.made.pages) ∷ [])) (sym g.1)
        ∙ (last_meant m.names n (a_page m.world.made.pages) free ∙ ap (λ j. Some (a_page j)) number)

    more : (ns : List ℕ) (i j : ℕ) → is_in i ns ≡ true → is_in i (ns ++ j ∷ []) ≡ true
    more [] i j h = absurd (clash (sym h))
    more (k ∷ ns) i j h = go (i == k) h (more ns i j)
      where
        go : (b : Bool) → (b || is_in i ns) ≡ true → (is_in i ns ≡ true → is_in i (ns ++ j ∷ []) ≡ true) → (b || is_in i (ns ++ j ∷ [])) ≡ true
        go true g rest = refl
        go false g rest = rest g

    newest : (ns : List ℕ) (i : ℕ) → is_in i (ns ++ i ∷ []) ≡ true
    newest [] i = ap (λ b. b || false) (eq-eqb i i refl)
    newest (k ∷ ns) i = go (i == k) (newest ns i)
      where
        go : (b : Bool) → is_in i (ns ++ i ∷ []) ≡ true → (b || is_in i (ns ++ i ∷ [])) ≡ true
        go true h = refl
        go false h = h

    lives : (p : Page) → p.number ≡ m.world.made.pages → (ps : List Page) → AreLiving m.world.pages ps →
        AreLiving (m.world.pages ++ m.world.made.pages ∷ []) (ps ++ p ∷ [])
    lives p e [] h = (ap (λ i. is_in i (m.world.pages ++ m.world.made.pages ∷ [])) e ∙ newest m.world.pages m.world.made.pages, tt)
    lives p e (r ∷ ps) h = (more m.world.pages r.number m.world.made.pages h.0, lives p e ps h.1)

-- what is told of a chain ends no page
links_silent : (ps : List Page) (names : List (List ℕ)) (n : List ℕ) (ls : List Link) → AreSilent ps (link_entries names n ls)
links_silent ps names n [] = tt
links_silent ps names n (l ∷ ls) = links_silent ps names (name_next names n l.cause) ls

why_silent : (ps : List Page) (names : List (List ℕ)) (n : List ℕ) (o : Option (List Link)) → AreSilent ps (why_entries names n o)
why_silent ps names n None = tt
why_silent ps names n (Some ls) = links_silent ps names n ls

verb_hush : (env : Environment) (m : Machine) (v : Verb) (n : List ℕ) → TiedTo m → Quiet m → Hushes m (machine.named env m v n (number_of m.names n))
verb_hush env m verb.Get n t q =
    let i : ℕ = number_of m.names n in act_hush m (settle env (i ∷ []) m.world) (entry.Outcome n _ ∷ []) t q refl (settle_off env (i ∷ []) m.world (off_first m q)) tt
verb_hush env m verb.Scratch n t q = go (page_at m.pages (number_of m.names n))
  where
    go : (o : Option Page) → Hushes m (scratching env m n o)
    go None = same_hush m (entry.Scratch n [] ∷ []) q tt
    go (Some p) =
        act_hush m (settle env (template_reads env m p.template) m.world) (entry.Scratch n (scratch_html env.hosts m.world.signals (template_at m p.template)) ∷ []) t q refl
        (settle_off env (template_reads env m p.template) m.world (off_first m q)) tt
verb_hush env m verb.Dispose n t q = go (thing_named (meaning_of m.names n))
  where
    go : (o : Option Thing) → Hushes m (disposing env m o)
    go None = same_hush m [] q tt
    go (Some x) = ended_hush m (dispose_thing env x m.world) t q (dispose_off env x m.world (off_first m q))
verb_hush env m verb.Why n t q =
    same_hush m (machine.named env m verb.Why n (number_of m.names n)).entries q (why_silent m.pages m.labels.signals n (chain_in m.journal (number_of m.names n)))
verb_hush env m v n t q = same_hush m (machine.named env m v n (number_of m.names n)).entries q tt

commit_hush : (env : Environment) (m : Machine) (b : Option Batch) → TiedTo m → Quiet m → Hushes m (committing env m b)
commit_hush env m None t q = same_hush m [] q tt
commit_hush env m (Some b) t q = batch_hush m None (commit env b m.world) t q refl (notified_off _ m.world (off_first m q))

abort_hush : (m : Machine) (b : Option Batch) → TiedTo m → Quiet m → Hushes m (aborting m b)
abort_hush m None t q = same_hush m [] q tt
abort_hush m (Some b) t q = batch_hush m None (abort b m.world) t q (abort_pages b m.world) (abort_off b m.world (off_first m q))

alone_hush : (env : Environment) (m : Machine) (b : Bare) → TiedTo m → Quiet m → Hushes m (done_alone env m b)
alone_hush env m bares.Flush t q = turns_hush env m (flush env m.world).world (flush env m.world).refused t q (flush_off env m.world (off_first m q))
alone_hush env m bares.Begin t q = record { quiet = record { called = q.called; lives = q.lives; still = q.still }; silent = tt }
alone_hush env m bares.Record t q = record { quiet = record { called = q.called; lives = q.lives; still = q.still }; silent = tt }
alone_hush env m bares.Commit t q = commit_hush env m m.batch t q
alone_hush env m bares.Abort t q = abort_hush m m.batch t q

-- a cell is set, beside the batch that is open, if one is
set_hush : (env : Environment) (m : Machine) (b : Option Batch) (i : ℕ) (v : Value) → TiedTo m → Quiet m → Hushes m (setting_by env m b i v)
set_hush env m None i v t q =
    act_alone m (set_cell env i v m.world) t q (set_pages env (standing m.world.signals i) i v m.world) (set_off env i v m.world (off_first m q))
set_hush env m (Some b) i v t q =
    batch_hush m (Some (joined_by env.slacks (standing m.world.signals i) i v b)) (set_quietly env i v m.world) t q
    (replacing_pages i v (replaced_by env.slacks (standing m.world.signals i) v) m.world) (quiet_off env i v m.world (off_first m q))

-- ---- handlers of an event

-- one step, and then another by which the pages stay
hush_then : (m : Machine) (t u : Told) → Hushes m t → Idles t.machine u → Hushes t.machine u → Hushes m (reached u.machine (t.entries ++ u.entries))
hush_then m t u a i b = record {
  quiet = b.quiet;
  silent = silent_both u.machine.pages t.entries u.entries (subst (λ (ps : List Page). AreSilent ps t.entries) (sym i.pages) a.silent) b.silent;
}

one_hush : (env : Environment) (m : Machine) (a : Act) → TiedTo m → Quiet m → Hushes m (acting_once env m a)
one_hush env m (to_set n v) t q =
    act_alone m (set_cell env n v m.world) t q (set_pages env (standing m.world.signals n) n v m.world) (set_off env n v m.world (off_first m q))
one_hush env m (to_log v) t q = act_alone m (tell (logged v) m.world) t q refl (one_off m.world (logged v) (off_first m q) tt)
one_hush env m _ t q = same_hush m [] q tt

all_hush : (env : Environment) (m : Machine) (as' : List Act) → TiedTo m → Quiet m → Hushes m (acting env m as')
all_hush env m [] t q = same_hush m [] q tt
all_hush env m (a ∷ as') t q =
    let one = acting_once env m a in
    let first = one_hush env m a t q in
    let tied = (one_idles env m a t).tied in
    hush_then m one (acting env one.machine as') first (all_idle env one.machine as' tied) (all_hush env one.machine as' tied first.quiet)

end_hush : (env : Environment) (m : Machine) (page : List ℕ) (node : ℕ) (r : BodyResult) → TiedTo m → Quiet m → Hushes m (ending env m page node r)
end_hush env m page node (failed_by f) t q = same_hush m (entry.FailAt page node f ∷ []) q tt
end_hush env m page node (to_do as') t q = all_hush env m as' t q

run_hush : (env : Environment) (m : Machine) (page : List ℕ) (x : Handling) → TiedTo m → Quiet m → Hushes m (running env m page x)
run_hush env m page x t q =
    let e : BodyEvaluation = body_evaluation env.hosts m.world.signals x.body in
    let s : Told = settling env m (names_of e.reads) in
    let end : Told = ending env s.machine page x.node e.result in
    let tied = (heard_idles env m (names_of e.reads) t).tied in
    let first = act_alone m (settle env (names_of e.reads) m.world) t q refl (settle_off env (names_of e.reads) m.world (off_first m q)) in
    hush_then m s (reached end.machine (entry.Fired page x.node ∷ end.entries)) first (fired_idles env s.machine page x.node e.result tied)
    (hush_then s.machine (reached s.machine (entry.Fired page x.node ∷ [])) end (same_hush s.machine (entry.Fired page x.node ∷ []) first.quiet tt)
    (end_idles env s.machine page x.node e.result tied) (end_hush env s.machine page x.node e.result tied first.quiet))

fire_hush : (env : Environment) (m : Machine) (page : List ℕ) (xs : List Handling) → TiedTo m → Quiet m → Hushes m (firing env m page xs)
fire_hush env m page [] t q = same_hush m [] q tt
fire_hush env m page (x ∷ xs) t q =
    let one = running env m page x in
    let first = run_hush env m page x t q in
    let tied = (run_idles env m page x t).tied in
    hush_then m one (firing env one.machine page xs) first (fire_idles env one.machine page xs tied) (fire_hush env one.machine page xs tied first.quiet)

done_hush : (env : Environment) (m : Machine) (c : Command) → TiedTo m → Quiet m → refusal_of env.slacks m c ≡ None → Hushes m (done env m c)
done_hush env m (command.Cell n v equals inside) t q e =
    made_hush m n _ _ _ _ q refl refl (signal_called m n kind.Cell m.world.made.signals q (new_fine env.slacks m (command.Cell n v equals inside) n _ refl e) (λ x. cc))
done_hush env m (command.List n fields inside) t q e =
    made_hush m n _ _ _ _ q refl refl (signal_called m n kind.List m.world.made.signals q (new_fine env.slacks m (command.List n fields inside) n _ refl e) (λ x. cc))
done_hush env m (command.Edit n d) t q e = set_hush env m m.batch (number_of m.names n) (value.Rows (edited d (rows_at m.world.signals (number_of m.names n)))) t q
done_hush env m (command.Set n v) t q e = set_hush env m m.batch (number_of m.names n) (scalar_value v) t q
done_hush env m (command.Computed n x inside) t q e =
    let r : Recipe = recipe_of m.names x in
    made_hush m n (record { kind = kind.Computed; number = m.world.made.signals }) (record (m.labels) { signals = m.labels.signals ++ n ∷ [] })
    (at_rest (with_use (host_of r.expression) (with_new_computed r (owner_of m.names inside) m.world))) m.templates q
    (use_pages (host_of r.expression) (with_new_computed r (owner_of m.names inside) m.world)) refl
    (signal_called m n kind.Computed m.world.made.signals q (new_fine env.slacks m (command.Computed n x inside) n _ refl e) (λ x. cc))
done_hush env m (command.Rewire n x) t q e =
    let i : ℕ = number_of m.names n in
    let r : Recipe = recipe_of m.names x in
    act_alone m (rewire_signal i r m.world) t q
    (unless_pages (rewiring_refused i r m.world) (rewire_standing (standing m.world.signals i) i r m.world) m.world (standing_pages (standing m.world.signals i) i r m.world))
    (rewire_off i r m.world (off_first m q))
done_hush env m (command.Owner n inside) t q e =
    made_hush m n _ _ _ _ q refl refl (owner_called m n m.world.made.owners q (new_fine env.slacks m (command.Owner n inside) n _ refl e))
done_hush env m (command.Watcher n tries) t q e =
    made_hush m n _ _ _ _ q refl refl (watcher_called m n m.world.made.watchers q (new_fine env.slacks m (command.Watcher n tries) n _ refl e))
done_hush env m (command.Watch n signals) t q e =
    act_alone m (changed_watcher (number_of m.names n) (armed (map (number_of m.names) signals)) m.world) t q refl (off_first m q)
done_hush env m (command.Unwatch n x) t q e =
    act_alone m (changed_watcher (number_of m.names n) (forget (number_of m.names x)) m.world) t q refl (off_first m q)
done_hush env m (command.Named v n) t q e = verb_hush env m v n t q
done_hush env m (command.Effect n b inside) t q e =
    made_hush m n _ _ _ _ q refl refl (effect_called m n m.world.made.effects q (new_fine env.slacks m (command.Effect n b inside) n _ refl e))
done_hush env m (command.On x line event b) t q e = record { quiet = record { called = q.called; lives = q.lives; still = q.still }; silent = tt }
done_hush env m (command.Fire p node event) t q e =
    fire_hush env m p (handlings_of m.handlers (fired_of m.handlers (page_at m.pages (number_of m.names p)) node event)) t q
done_hush env m (command.Template n x) t q e =
    made_hush m n (record { kind = kind.Template; number = length m.templates }) m.labels m.world (m.templates ++ linked_template m.names x ∷ []) q refl q.still
    (called_more m.names (n, record { kind = kind.Template; number = length m.templates }) m.labels q.called)
done_hush env m (command.Mount n x inside) t q e =
    mount_hush env m n (number_of m.names x) (owner_of m.names inside) t q (new_fine env.slacks m (command.Mount n x inside) n _ refl e)
done_hush env m (command.Bare b) t q e = alone_hush env m b t q

item_hush : (env : Environment) (m : Machine) (i : Item) → TiedTo m → Quiet m → Hushes m (step env m i)
item_hush env m (item.Refused r) t q = same_hush m (entry.Error r ∷ []) q tt
item_hush env m (item.Do c) t q = go (refusal_of env.slacks m c) (done_hush env m c t q)
  where
    go : (o : Option Refusal) → (o ≡ None → Hushes m (done env m c)) → Hushes m (option_map_or (machine.refused m) o (done env m c))
    go None k = k refl
    go (Some r) k = same_hush m (entry.Error r ∷ []) q tt

items_hush : (env : Environment) (is : List Item) (m : Machine) → TiedTo m → Quiet m → AllSilent env m is
items_hush env [] m t q = tt
items_hush env (i ∷ is) m t q =
    let h : Hushes m (step env m i) = item_hush env m i t q in
    (h.silent, items_hush env is (step env m i).machine (item_step env m i t).tied h.quiet)

empty_quiet : (hosts : ℕ) → Quiet (empty hosts)
empty_quiet hosts = record { called = record { signals = tt; owners = tt; watchers = tt; effects = λ i. tt; pages = λ i n g. cc }; lives = tt; still = refl }

pub silence_law : SilenceLaw
silence_law env hosts is = items_hush env is (empty hosts) (empty_tied hosts) (empty_quiet hosts)
