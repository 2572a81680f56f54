-- What each step of a machine tells of pages.
use Rattle.std.proofs.Common.{◌≡◌, ℕ, ◌==◌, ◌||◌, ◌+◌, Bool, true, false, not, cond, List, [], ◌∷◌, ◌++◌, append_assoc, append-nil, map, Option, Some, None, length, refl, sym, ap}
use Rattle.std.proofs.Common.{arith, subst, ◌∙◌, ◌⊎◌, inl, inr}
use Rattle.std.specs.Prelude.{slice_get, unwrap_or}
use Rattle.std.specs.List.{AllByRecursion}
use Rattle.std.specs.Option.{option_map, option_map_or, option_or}
use Rattle.std.specs.Str.{bytes_eq}
use Rattle.page_laws.proofs.Shared.{after_first, name_free, names_stay, next_page, pages_are}
use Rattle.live_model.proofs.Shared.{neither}
use Rattle.page_model.proofs.Shared.{other_way}
use Rattle.sig_base.specs.Values.{scalar_value}
use Rattle.sig_base.specs.declared.value.Value.{Value}
use Rattle.sig_base.specs.declared.value.Value.TheVariants as value
use Rattle.signal_model.specs.Recipes.{Hosts}
use Rattle.signal_model.specs.Signals.{Signals, is_in, standing}
use Rattle.signal_model.specs.Sound.{names_of}
use Rattle.effect_model.specs.Bodies.{Act, to_set, to_log, BodyEvaluation, BodyResult, to_do, failed_by, body_evaluation}
use Rattle.effect_model.specs.Owners.{Thing}
use Rattle.effect_model.specs.Worlds.{Environment, World, at_rest}
use Rattle.effect_model.specs.Worlds.{settle, logged, tell}
use Rattle.effect_model.specs.Acts.{dispose_thing, forget, host_of, rewire_signal, set_cell, with_use}
use Rattle.effect_model.specs.Commands.{armed, changed_watcher, with_new_computed}
use Rattle.effect_model.specs.Batches.{Batch, abort, commit, joined_by, set_quietly}
use Rattle.effect_model.specs.Runs.{flush}
use Rattle.page_model.specs.Html.{html_of}
use Rattle.page_model.specs.Pages.{bare, tree_of}
use Rattle.page_model.specs.Replay.{Op}
use Rattle.live_cmd.specs.declared.command.Bare.{Bare}
use Rattle.live_cmd.specs.declared.command.Bare.TheVariants as bares
use Rattle.why_model.specs.declared.causes.Link.{Link}
use Rattle.why_model.specs.Records.{Journal}
use Rattle.live_cmd.specs.declared.command.Command.{Command}
use Rattle.live_cmd.specs.declared.command.Command.TheVariants as command
use Rattle.live_cmd.specs.declared.command.Item.{Item}
use Rattle.live_cmd.specs.declared.command.Item.TheVariants as item
use Rattle.live_cmd.specs.declared.command.Verb.{Verb}
use Rattle.live_cmd.specs.declared.command.Verb.TheVariants as verb
use Rattle.live_entries.specs.declared.entry.Entry.{Entry}
use Rattle.live_entries.specs.declared.entry.Entry.TheVariants as entry
use Rattle.live_entries.specs.declared.refusal.Refusal.{Refusal}
use Rattle.live_entries.specs.declared.refusal.Refusal.TheVariants as refusal
use Rattle.live_model.specs.declared.names.Kind.{Kind}
use Rattle.live_model.specs.declared.names.Kind.TheVariants as kind
use Rattle.live_model.specs.declared.names.Meaning.{Meaning}
use Rattle.live_model.specs.declared.names.Need.TheVariants as need
use Rattle.live_model.specs.Handlers.{Handling, fired_of, handlings_of}
use Rattle.live_model.specs.Journals.{chain_in, link_entries, name_next, noting, why_entries}
use Rattle.live_model.specs.Labels.{Labels, labels_after}
use Rattle.live_model.specs.Links.{linked_template, owner_of, recipe_of}
use Rattle.live_model.specs.Machine as machine
use Rattle.live_model.specs.Machine.{Machine, Told, acted, acted_on_pages, after_turns, body_refusal, updated_page, update_of, batch_refusal}
use Rattle.live_model.specs.Machine.{disposing, done, empty, entries_of, later_refusal, mounted, name_refusal, news_of, ops_told, page_at}
use Rattle.live_model.specs.Machine.{refusal_of, scratching, settling, shown_of, step, template_at, template_reads, reached}
use Rattle.live_model.specs.Machine.{acting, acting_once, ending, firing, running}
use Rattle.live_model.specs.Machine.{aborting, committing, done_alone, setting_by, update_all}
use Rattle.live_model.specs.Names.{Names, first_refusal, meaning_of, number_of, refusal_at, thing_named}
use Rattle.live_model.specs.Pages.{Page, Template, page_html, scratch_html}
use Rattle.live_model.specs.Rows.{edited, rows_at}
use Rattle.live_model.specs.Uses.{uses_of, uses_of_inside}
use Rattle.page_laws.specs.LivePages.{ops_of, tree_named}
use Rattle.follow_laws.specs.ToldPages.{AllSilent, AllTell, has_page}
use Rattle.follow_laws.specs.Laws.{TellingLaw}
use Rattle.follow_laws.proofs.Spoken.{AreSpoken, events_alone, events_quiet, events_spoken, news_quiet, news_spoken, page_spoken, told_both}
use Rattle.follow_laws.proofs.LivingPages.{Within, at_first, batch_aborted, cell_set, flushed, quietly_set, signal_rewired, thing_disposed, use_in}
use Rattle.follow_laws.proofs.MountedTrees.{clash, equal, same}
use Rattle.follow_laws.proofs.NamedPages.{AreApart, AreLabelled, AreWhole, IsNumbered, IsTied, a_page, all_numbered, apart_filtered, fewer_named, is_page, labels_stay}
use Rattle.follow_laws.proofs.NamedPages.{last_meant, meaning_before, numbered_filtered, page_found, page_meant, slice_kept, slice_last, unmade_before, whole_filtered}

-- ---- a machine behind a step

-- the pages of a machine have the names of their numbers
abbrev pub TiedTo : Machine → Type 0
TiedTo m = IsTied m.names m.labels.pages m.world.made.pages m.world.pages m.pages

-- a machine is tied behind a step, which tells of its pages alone
pub record Tells (m : Machine) (t : Told) : Type 0 where
  pub tied : TiedTo t.machine
  pub spoken : AreSpoken t.machine.pages t.entries
  pub fresh : (n : List ℕ) → has_page t.machine.pages n ≡ true → has_page m.pages n ≡ false → meaning_of m.names n ≡ None
  pub stay : (n : List ℕ) → meaning_of t.machine.names n ≡ None → meaning_of m.names n ≡ None

-- the pages stay, and some in the world may end
rest_tied : (m : Machine) (labels : Labels) (w : World) → labels.pages ≡ m.labels.pages → Within m.world.made.pages m.world.pages w → TiedTo m →
    IsTied m.names labels.pages w.made.pages w.pages m.pages
rest_tied m labels w e k h = record {
  numbered = h.numbered;
  labelled = subst (λ (l : List (List ℕ)). AreLabelled m.names l) (sym e) h.labelled;
  counted = ap (λ (l : List (List ℕ)). length l) e ∙ (h.counted ∙ sym k.0);
  whole = λ i g. h.whole i (k.1 i g);
  apart = h.apart;
}

no_news : (m : Machine) (n : List ℕ) → has_page m.pages n ≡ true → has_page m.pages n ≡ false → meaning_of m.names n ≡ None
no_news m n a b = absurd (clash (sym a ∙ b))

rest_step : (m : Machine) (labels : Labels) (w : World) (es : List Entry) → labels.pages ≡ m.labels.pages → Within m.world.made.pages m.world.pages w →
    TiedTo m → AreSpoken m.pages es →
    Tells m (reached (record m { labels = labels; world = w }) es)
rest_step m labels w es e k h s = record { tied = rest_tied m labels w e k h; spoken = s; fresh = no_news m; stay = λ n u. u }

same_step : (m : Machine) (es : List Entry) → TiedTo m → AreSpoken m.pages es → Tells m (reached m es)
same_step m es h s = record { tied = h; spoken = s; fresh = no_news m; stay = λ n u. u }

-- what is noted is of no page
noted_step : (m : Machine) (j : Option Journal) (t : Told) → Tells m t → Tells m (reached (record (t.machine) { journal = j }) t.entries)
noted_step m j t s = record { tied = s.tied; spoken = s.spoken; fresh = s.fresh; stay = s.stay }

act_step : (m : Machine) (w : World) → TiedTo m → Within m.world.made.pages m.world.pages w → Tells m (acted m w)
act_step m w h k =
    noted_step m (noting w.told m.journal) (reached (record m { labels = labels_after w.told m.labels; world = at_rest w }) (entries_of m.labels w.told))
    (rest_step m (labels_after w.told m.labels) (at_rest w) (entries_of m.labels w.told) (labels_stay w.told m.labels) k h (events_alone m.pages m.labels w.told))

-- the same, and a batch is open that was another one, or none is
batch_step : (m : Machine) (b : Option Batch) (w : World) → TiedTo m → Within m.world.made.pages m.world.pages w → Tells m (acted (record m { batch = b }) w)
batch_step m b w h k =
    let t : Tells (record m { batch = b }) (acted (record m { batch = b }) w) = act_step (record m { batch = b }) w h k in
    record { tied = t.tied; spoken = t.spoken; fresh = t.fresh; stay = t.stay }

answer_step : (m : Machine) (w : World) (answers : List Entry) → TiedTo m → Within m.world.made.pages m.world.pages w → AreSpoken m.pages answers →
    Tells m (reached (acted m w).machine ((acted m w).entries ++ answers))
answer_step m w answers h k s =
    noted_step m (noting w.told m.journal) (reached (record m { labels = labels_after w.told m.labels; world = at_rest w }) (entries_of m.labels w.told ++ answers))
    (rest_step m (labels_after w.told m.labels) (at_rest w) (entries_of m.labels w.told ++ answers) (labels_stay w.told m.labels) k h
    (events_spoken m.pages m.labels w.told answers s))

-- the pages that live stay
ended_tied : (m : Machine) (w : World) → Within m.world.made.pages m.world.pages w → TiedTo m → TiedTo (acted_on_pages m w).machine
ended_tied m w k h =
    let r : IsTied m.names (labels_after w.told m.labels).pages w.made.pages w.pages m.pages = rest_tied m (labels_after w.told m.labels) w (labels_stay w.told m.labels) k h in
    record {
      numbered = numbered_filtered m.names (λ (p : Page). is_in p.number w.pages) m.pages h.numbered;
      labelled = r.labelled;
      counted = r.counted;
      whole = λ i g. whole_filtered w.pages m.pages i g (r.whole i g);
      apart = apart_filtered (λ (p : Page). is_in p.number w.pages) m.pages h.apart;
    }

ended_fresh : (m : Machine) (w : World) (n : List ℕ) → has_page (acted_on_pages m w).machine.pages n ≡ true → has_page m.pages n ≡ false → meaning_of m.names n ≡ None
ended_fresh m w n a b = no_news m n (fewer_named (λ (p : Page). is_in p.number w.pages) m.pages n a) b

ended_step : (m : Machine) (w : World) → TiedTo m → Within m.world.made.pages m.world.pages w → Tells m (acted_on_pages m w)
ended_step m w h k = record {
  tied = ended_tied m w k h;
  spoken = events_alone (acted_on_pages m w).machine.pages m.labels w.told;
  fresh = ended_fresh m w;
  stay = λ n u. u;
}

-- something else than a page is made under a name
make_step : (m : Machine) (n : List ℕ) (x : Meaning) (labels : Labels) (w : World) (templates : List Template) → labels.pages ≡ m.labels.pages →
    Within m.world.made.pages m.world.pages w → ((i : ℕ) → x ≡ a_page i → ⊥) → TiedTo m →
    Tells m (reached (record m { names = m.names ++ (n, x) ∷ []; labels = labels; world = w; templates = templates }) [])
make_step m n x labels w templates e k none h =
    let r : IsTied m.names labels.pages w.made.pages w.pages m.pages = rest_tied m labels w e k h in
    record {
      tied = record {
        numbered = all_numbered m.names (n, x) m.pages h.numbered;
        labelled = λ l i g. labelled r.labelled l i (meaning_before m.names n x l (a_page i) g);
        counted = r.counted;
        whole = r.whole;
        apart = h.apart;
      };
      spoken = tt;
      fresh = no_news m;
      stay = unmade_before m.names (n, x);
    }
  where
    labelled : AreLabelled m.names labels.pages → (l : List ℕ) (i : ℕ) → (meaning_of m.names l ≡ Some (a_page i)) ⊎ ((l ≡ n) × (x ≡ a_page i)) →
        slice_get labels.pages i ≡ Some l
    labelled r l i (inl g) = r l i g
    labelled r l i (inr g) = absurd (none i g.1)

-- ---- a mount

one_page : (ps : List Page) (p : Page) (n : List ℕ) → has_page (ps ++ p ∷ []) n ≡ true → has_page ps n ≡ false → n ≡ p.name
one_page [] p n a b = go (bytes_eq n p.name) refl a
  where
    go : (c : Bool) → bytes_eq n p.name ≡ c → cond c true false ≡ true → n ≡ p.name
    go true e k = equal n p.name e
    go false e k = cc
one_page (q ∷ ps) p n a b = go (bytes_eq n q.name) a b (one_page ps p n)
  where
    go : (c : Bool) → cond c true (has_page (ps ++ p ∷ []) n) ≡ true → cond c true (has_page ps n) ≡ false →
        (has_page (ps ++ p ∷ []) n ≡ true → has_page ps n ≡ false → n ≡ p.name) → n ≡ p.name
    go true k l rest = cc
    go false k l rest = rest k l

-- the last page is there, and under a name that no other has it is the page of that name
last_there : (ps : List Page) (p : Page) → has_page (ps ++ p ∷ []) p.name ≡ true
last_there [] p = ap (λ b. cond b true false) (same p.name)
last_there (q ∷ ps) p = go (bytes_eq p.name q.name) (last_there ps p)
  where
    go : (b : Bool) → has_page (ps ++ p ∷ []) p.name ≡ true → cond b true (has_page (ps ++ p ∷ []) p.name) ≡ true
    go true h = refl
    go false h = h

last_tree : (ps : List Page) (p : Page) → has_page ps p.name ≡ false → tree_named (ps ++ p ∷ []) p.name ≡ tree_of p.content
last_tree [] p h = ap (λ b. cond b (tree_of p.content) (tree_of bare)) (same p.name)
last_tree (q ∷ ps) p h = go (bytes_eq p.name q.name) h (last_tree ps p)
  where
    go : (b : Bool) → cond b true (has_page ps p.name) ≡ false → (has_page ps p.name ≡ false → tree_named (ps ++ p ∷ []) p.name ≡ tree_of p.content) →
        cond b (tree_of q.content) (tree_named (ps ++ p ∷ []) p.name) ≡ tree_of p.content
    go true k rest = cc
    go false k rest = rest k

numbered_last : (names : Names) (ps : List Page) (p : Page) → AllByRecursion (IsNumbered names) ps → IsNumbered names p → AllByRecursion (IsNumbered names) (ps ++ p ∷ [])
numbered_last names [] p h g = (g, tt)
numbered_last names (q ∷ ps) p h g = (h.0, numbered_last names ps p h.1 g)

-- no page of a name that differs
still_none : (ps : List Page) (p : Page) (n : List ℕ) → has_page ps n ≡ false → bytes_eq n p.name ≡ false → has_page (ps ++ p ∷ []) n ≡ false
still_none [] p n h d = ap (λ b. cond b true false) d
still_none (q ∷ ps) p n h d = go (bytes_eq n q.name) h (still_none ps p n)
  where
    go : (b : Bool) → cond b true (has_page ps n) ≡ false → (has_page ps n ≡ false → bytes_eq n p.name ≡ false → has_page (ps ++ p ∷ []) n ≡ false) →
        cond b true (has_page (ps ++ p ∷ []) n) ≡ false
    go true k rest = cc
    go false k rest = rest k d

apart_last : (ps : List Page) (p : Page) → AreApart ps → has_page ps p.name ≡ false → AreApart (ps ++ p ∷ [])
apart_last [] p h d = (refl, tt)
apart_last (q ∷ ps) p h d = go (bytes_eq p.name q.name) refl d (apart_last ps p h.1)
  where
    go : (b : Bool) → bytes_eq p.name q.name ≡ b → cond b true (has_page ps p.name) ≡ false → (has_page ps p.name ≡ false → AreApart (ps ++ p ∷ [])) →
        AreApart (q ∷ (ps ++ p ∷ []))
    go true e k rest = absurd (clash k)
    go false e k rest = (still_none ps p q.name h.0 (other_way p.name q.name e), rest k)

-- numbers and pages, each one more
whole_last : (numbers : List ℕ) (ps : List Page) (p : Page) → AreWhole numbers ps → AreWhole (numbers ++ p.number ∷ []) (ps ++ p ∷ [])
whole_last numbers ps p h i g = split (one_of numbers g)
  where
    one_of : (ns : List ℕ) → is_in i (ns ++ p.number ∷ []) ≡ true → (is_in i ns ≡ true) ⊎ ((i == p.number) ≡ true)
    one_of [] k = inr (last (i == p.number) k)
      where
        last : (b : Bool) → (b || false) ≡ true → b ≡ true
        last true l = refl
        last false l = l
    one_of (n ∷ ns) k = go (i == n) k (one_of ns)
      where
        go : (b : Bool) → (b || is_in i (ns ++ p.number ∷ [])) ≡ true →
            (is_in i (ns ++ p.number ∷ []) ≡ true → (is_in i ns ≡ true) ⊎ ((i == p.number) ≡ true)) → ((b || is_in i ns) ≡ true) ⊎ ((i == p.number) ≡ true)
        go true l rest = inl refl
        go false l rest = rest l

    more : (qs : List Page) → is_page (page_at qs i) ≡ true → is_page (page_at (qs ++ p ∷ []) i) ≡ true
    more [] k = absurd (clash (sym k))
    more (q ∷ qs) k = go (i == q.number) k (more qs)
      where
        go : (b : Bool) → is_page (cond b (Some q) (page_at qs i)) ≡ true → (is_page (page_at qs i) ≡ true → is_page (page_at (qs ++ p ∷ []) i) ≡ true) →
            is_page (cond b (Some q) (page_at (qs ++ p ∷ []) i)) ≡ true
        go true l rest = refl
        go false l rest = rest l

    new : (qs : List Page) → (i == p.number) ≡ true → is_page (page_at (qs ++ p ∷ []) i) ≡ true
    new [] e = ap (λ b. is_page (cond b (Some p) None)) e
    new (q ∷ qs) e = go (i == q.number) (new qs e)
      where
        go : (b : Bool) → is_page (page_at (qs ++ p ∷ []) i) ≡ true → is_page (cond b (Some q) (page_at (qs ++ p ∷ []) i)) ≡ true
        go true l = refl
        go false l = l

    split : (is_in i numbers ≡ true) ⊎ ((i == p.number) ≡ true) → is_page (page_at (ps ++ p ∷ []) i) ≡ true
    split (inl k) = more ps (h i k)
    split (inr k) = new ps k

mount_step : (env : Environment) (m : Machine) (n : List ℕ) (t : ℕ) (inside : Option ℕ) → TiedTo m → meaning_of m.names n ≡ None → Tells m (mounted env m n t inside)
mount_step env m n t inside h free =
    let w : World = settle env (template_reads env m t) m.world in
    let u = update_of env m t bare in
    let p : Page = record { name = n; number = m.world.made.pages; template = t; content = u.page } in
    let ps : List Page = m.pages ++ p ∷ [] in
    let none : has_page m.pages n ≡ false = nobody (has_page m.pages n) refl in
    let old : (labels_after w.told m.labels).pages ≡ m.labels.pages = labels_stay w.told m.labels in
    record {
      tied = record {
        numbered = numbered_last (m.names ++ (n, a_page p.number) ∷ []) m.pages p (all_numbered m.names (n, a_page p.number) m.pages h.numbered)
            (last_meant m.names n (a_page p.number) free);
        labelled = subst (λ (l : List (List ℕ)). AreLabelled (m.names ++ (n, a_page p.number) ∷ []) (l ++ n ∷ [])) (sym old)
            (λ l i g. labelled l i (meaning_before m.names n (a_page p.number) l (a_page i) g));
        counted = ap (λ (l : List (List ℕ)). length (l ++ n ∷ [])) old ∙ (longer m.labels.pages n ∙ ap (λ k. k + 1) h.counted);
        whole = whole_last m.world.pages m.pages p h.whole;
        apart = apart_last m.pages p h.apart none;
      };
      spoken = subst (AreSpoken ps) (sym (append_assoc (entries_of m.labels w.told) (ops_told n u.ops) (entry.Page n (page_html p) ∷ [])))
          (events_spoken ps m.labels w.told (ops_told n u.ops ++ entry.Page n (page_html p) ∷ [])
          (subst (AreSpoken ps) (append-nil (ops_told n u.ops ++ entry.Page n (page_html p) ∷ []))
          (page_spoken ps n u.ops (page_html p) [] (last_there m.pages p) (ap html_of (sym (last_tree m.pages p none))) refl tt)));
      fresh = λ k a b. ap (meaning_of m.names) (one_page m.pages p k a b) ∙ free;
      stay = unmade_before m.names (n, a_page p.number);
    }
  where
    nobody : (b : Bool) → has_page m.pages n ≡ b → has_page m.pages n ≡ false
    nobody true e = absurd (page_meant m.names m.pages n h.numbered e free)
    nobody false e = e

    longer : (xs : List (List ℕ)) (y : List ℕ) → length (xs ++ y ∷ []) ≡ length xs + 1
    longer [] y = refl
    longer (x ∷ xs) y = let r : length (xs ++ y ∷ []) ≡ length xs + 1 = longer xs y in omega arith

    number : (a b : Meaning) → a ≡ b → a.number ≡ b.number
    number a b e = ap (λ (x : Meaning). x.number) e

    labelled : (l : List ℕ) (i : ℕ) → (meaning_of m.names l ≡ Some (a_page i)) ⊎ ((l ≡ n) × (a_page m.world.made.pages ≡ a_page i)) →
        slice_get (m.labels.pages ++ n ∷ []) i ≡ Some l
    labelled l i (inl g) = slice_kept m.labels.pages n i l (h.labelled l i g)
    labelled l i (inr g) =
        ap (λ k. slice_get (m.labels.pages ++ n ∷ []) k) (sym (h.counted ∙ number (a_page m.world.made.pages) (a_page i) g.1))
        ∙ (slice_last m.labels.pages n ∙ ap (λ (k : List ℕ). Some k) (sym g.0))

-- ---- a flush

pub made_stays : (env : Environment) (ps : List Page) (m : Machine) → (update_all env ps m).machine.world.made.pages ≡ m.world.made.pages
made_stays env [] m = refl
made_stays env (p ∷ ps) m = made_stays env ps (after_first env m p)

pub living_stay : (env : Environment) (ps : List Page) (m : Machine) → (update_all env ps m).machine.world.pages ≡ m.world.pages
living_stay env [] m = refl
living_stay env (p ∷ ps) m = living_stay env ps (after_first env m p)

pub told_stay : (env : Environment) (ps : List Page) (m : Machine) → (update_all env ps m).machine.labels.pages ≡ m.labels.pages
told_stay env [] m = refl
told_stay env (p ∷ ps) m =
    told_stay env ps (after_first env m p) ∙ labels_stay (settle env (template_reads env m p.template) m.world).told m.labels

-- pages with other contents

pub same_names : (f : Page → Page) → ((p : Page) → (f p).name ≡ p.name) → (ps : List Page) (n : List ℕ) → has_page (map f ps) n ≡ has_page ps n
same_names f e [] n = refl
same_names f e (p ∷ ps) n =
    ap (λ (m : List ℕ). cond (bytes_eq n m) true (has_page (map f ps) n)) (e p) ∙ ap (λ b. cond (bytes_eq n p.name) true b) (same_names f e ps n)

same_numbers : (f : Page → Page) → ((p : Page) → (f p).number ≡ p.number) → (ps : List Page) (i : ℕ) → is_page (page_at (map f ps) i) ≡ is_page (page_at ps i)
same_numbers f e [] i = refl
same_numbers f e (p ∷ ps) i =
    ap (λ k. is_page (cond (i == k) (Some (f p)) (page_at (map f ps) i))) (e p) ∙ go (i == p.number) (same_numbers f e ps i)
  where
    go : (b : Bool) → is_page (page_at (map f ps) i) ≡ is_page (page_at ps i) →
        is_page (cond b (Some (f p)) (page_at (map f ps) i)) ≡ is_page (cond b (Some p) (page_at ps i))
    go true h = refl
    go false h = h

carried_numbered : (names : Names) (hosts : Hosts) (w : Signals) (ts : List Template) (ps : List Page) → AllByRecursion (IsNumbered names) ps →
    AllByRecursion (IsNumbered names) (map (next_page hosts w ts) ps)
carried_numbered names hosts w ts [] h = tt
carried_numbered names hosts w ts (p ∷ ps) h = (h.0, carried_numbered names hosts w ts ps h.1)

carried_apart : (hosts : Hosts) (w : Signals) (ts : List Template) (ps : List Page) → AreApart ps → AreApart (map (next_page hosts w ts) ps)
carried_apart hosts w ts [] h = tt
carried_apart hosts w ts (p ∷ ps) h =
    (same_names (next_page hosts w ts) (λ q. refl) ps p.name ∙ h.0, carried_apart hosts w ts ps h.1)

-- of each of these pages it is found what it comes to
abbrev AreFound : (Page → Page) → List Page → List Page → Type 0
AreFound f ends ps = AllByRecursion (λ (p : Page). (has_page ends p.name ≡ true) × (tree_named ends p.name ≡ tree_of (f p).content)) ps

found_behind : (f : Page → Page) (q : Page) (ends ps : List Page) → has_page ps (f q).name ≡ false → AreFound f ends ps → AreFound f (f q ∷ ends) ps
found_behind f q ends [] d h = tt
found_behind f q ends (p ∷ ps) d h = go (bytes_eq (f q).name p.name) refl d (found_behind f q ends ps)
  where
    go : (b : Bool) → bytes_eq (f q).name p.name ≡ b → cond b true (has_page ps (f q).name) ≡ false →
        (has_page ps (f q).name ≡ false → AreFound f ends ps → AreFound f (f q ∷ ends) ps) → AreFound f (f q ∷ ends) (p ∷ ps)
    go true e k rest = absurd (clash k)
    go false e k rest =
        let d : bytes_eq p.name (f q).name ≡ false = other_way (f q).name p.name e in (
          (
            ap (λ b. cond b true (has_page ends p.name)) d ∙ h.0.0,
            ap (λ b. cond b (tree_of (f q).content) (tree_named ends p.name)) d ∙ h.0.1,
          ),
          rest k h.1,
        )

all_found : (hosts : Hosts) (w : Signals) (ts : List Template) (ps : List Page) → AreApart ps → AreFound (next_page hosts w ts) (map (next_page hosts w ts) ps) ps
all_found hosts w ts [] h = tt
all_found hosts w ts (p ∷ ps) h = (
  (
    ap (λ b. cond b true (has_page (map (next_page hosts w ts) ps) p.name)) (same p.name),
    ap (λ b. cond b (tree_of (next_page hosts w ts p).content) (tree_named (map (next_page hosts w ts) ps) p.name)) (same p.name),
  ),
  found_behind (next_page hosts w ts) p (map (next_page hosts w ts) ps) ps h.0 (all_found hosts w ts ps h.1),
)

-- of a page that isn't among these nothing is told
others_quiet : (env : Environment) (n : List ℕ) (ps : List Page) (m : Machine) → has_page ps n ≡ false → ops_of n (update_all env ps m).entries ≡ []
others_quiet env n [] m h = refl
others_quiet env n (p ∷ ps) m h = go (bytes_eq n p.name) refl h (others_quiet env n ps (after_first env m p))
  where
    go : (b : Bool) → bytes_eq n p.name ≡ b → cond b true (has_page ps n) ≡ false →
        (has_page ps n ≡ false → ops_of n (update_all env ps (after_first env m p)).entries ≡ []) → ops_of n (update_all env (p ∷ ps) m).entries ≡ []
    go true e k rest = absurd (clash k)
    go false e k rest =
        let w : World = settle env (template_reads env m p.template) m.world in
        let news : List Entry = news_of (updated_page env m p) (update_of env m p.template p.content).ops in
        let later : List Entry = (update_all env ps (after_first env m p)).entries in
        ap (ops_of n) (append_assoc (entries_of m.labels w.told) news later)
        ∙ (events_quiet n m.labels w.told (news ++ later)
        ∙ (news_quiet n (updated_page env m p) (update_of env m p.template p.content).ops later e ∙ rest k))

updates_spoken : (env : Environment) (ends ps : List Page) (m : Machine) → AreApart ps → AreFound (next_page env.hosts m.world.signals m.templates) ends ps →
    AreSpoken ends (update_all env ps m).entries
updates_spoken env ends [] m a f = tt
updates_spoken env ends (p ∷ ps) m a f =
    let w : World = settle env (template_reads env m p.template) m.world in
    let ops : List Op = (update_of env m p.template p.content).ops in
    let news : List Entry = news_of (updated_page env m p) ops in
    let later : List Entry = (update_all env ps (after_first env m p)).entries in
    subst (AreSpoken ends) (sym (append_assoc (entries_of m.labels w.told) news later))
    (events_spoken ends m.labels w.told (news ++ later)
    (news_spoken ends (updated_page env m p) ops later f.0.0 (ap html_of (sym f.0.1)) (others_quiet env p.name ps (after_first env m p) a.0)
    (updates_spoken env ends ps (after_first env m p) a.1 f.1)))

turns_step : (env : Environment) (m : Machine) (w : World) (b : Bool) → TiedTo m → Within m.world.made.pages m.world.pages w →
    Tells m (after_turns env b (acted_on_pages m w))
turns_step env m w true h k = record {
  tied = ended_tied m w k h;
  spoken = events_spoken (acted_on_pages m w).machine.pages m.labels w.told (entry.Error refusal.Turns ∷ []) tt;
  fresh = ended_fresh m w;
  stay = λ n u. u;
}
turns_step env m w false h k =
    let x : Machine = (acted_on_pages m w).machine in
    let before : Machine = record x { pages = [] } in
    let end : Machine = (update_all env x.pages before).machine in
    let f : Page → Page = next_page env.hosts w.signals m.templates in
    let tied : TiedTo x = ended_tied m w k h in
    let pages : end.pages ≡ map f x.pages = pages_are env x.pages before in
    let carried : IsTied x.names x.labels.pages x.world.made.pages x.world.pages (map f x.pages) = record {
      numbered = carried_numbered x.names env.hosts w.signals m.templates x.pages tied.numbered;
      labelled = tied.labelled;
      counted = tied.counted;
      whole = λ i g. same_numbers f (λ q. refl) x.pages i ∙ tied.whole i g;
      apart = carried_apart env.hosts w.signals m.templates x.pages tied.apart;
    } in
    record {
      tied =
          subst (λ (ns : Names). IsTied ns end.labels.pages end.world.made.pages end.world.pages end.pages) (sym (names_stay env x.pages before))
          (subst (λ (l : List (List ℕ)). IsTied x.names l end.world.made.pages end.world.pages end.pages) (sym (told_stay env x.pages before))
          (subst (λ (c : ℕ). IsTied x.names x.labels.pages c end.world.pages end.pages) (sym (made_stays env x.pages before))
          (subst (λ (l : List ℕ). IsTied x.names x.labels.pages x.world.made.pages l end.pages) (sym (living_stay env x.pages before))
          (subst (λ (ps : List Page). IsTied x.names x.labels.pages x.world.made.pages x.world.pages ps) (sym pages) carried))));
      spoken = subst (λ (ps : List Page). AreSpoken ps (entries_of m.labels w.told ++ (update_all env x.pages before).entries)) (sym pages)
          (events_spoken (map f x.pages) m.labels w.told (update_all env x.pages before).entries
          (updates_spoken env (map f x.pages) x.pages before tied.apart (all_found env.hosts w.signals m.templates x.pages tied.apart)));
      fresh = λ n a b. ended_fresh m w n (sym (ap (λ (ps : List Page). has_page ps n) pages ∙ same_names f (λ q. refl) x.pages n) ∙ a) b;
      stay = λ n u. ap (λ (ns : Names). meaning_of ns n) (sym (names_stay env x.pages before)) ∙ u;
    }

-- ---- commands

-- a name that a page's is stands for one that lives
pub page_used : (w : World) (n : List ℕ) (o : Option Meaning) → refusal_at w (n, need.Of kind.Page) o ≡ None →
    (i : ℕ) × (o ≡ Some (a_page i)) × (is_in i w.pages ≡ true)
page_used w n None h = cc
page_used w n (Some m) h = by m.kind m.number h
  where
    no : {A : Type 0} (b : Bool) (r s : Refusal) → cond b (Some r) (Some s) ≡ None → A
    no true r s e = cc
    no false r s e = cc

    by : (k : Kind) (i : ℕ) → refusal_at w (n, need.Of kind.Page) (Some (record { kind = k; number = i })) ≡ None →
        (j : ℕ) × (Some (record { kind = k; number = i }) ≡ Some (a_page j)) × (is_in j w.pages ≡ true)
    by kind.Page i e = (i, refl, lives (is_in i w.pages) e)
      where
        lives : (b : Bool) → cond (not b) (Some (refusal.Gone n)) None ≡ None → b ≡ true
        lives true k = refl
        lives false k = cc
    by kind.Cell i e = no _ _ _ e
    by kind.List i e = no _ _ _ e
    by kind.Computed i e = no _ _ _ e
    by kind.Owner i e = no _ _ _ e
    by kind.Effect i e = no _ _ _ e
    by kind.Watcher i e = no _ _ _ e
    by kind.Template i e = no false (refusal.Gone n) (refusal.Kind n) e

show_step : (m : Machine) (n : List ℕ) → TiedTo m → refusal_at m.world (n, need.Of kind.Page) (meaning_of m.names n) ≡ None →
    Tells m (reached m (entry.Page n (shown_of m (number_of m.names n)) ∷ []))
show_step m n h e =
    let used = page_used m.world n (meaning_of m.names n) e in
    let i : number_of m.names n ≡ used.0 = ap (λ (o : Option Meaning). option_map_or (λ (x : Meaning). x.number) o 0) used.1 in
    let there : is_page (page_at m.pages used.0) ≡ true = h.whole used.0 used.2 in
    let found = page_found m.names m.labels.pages m.pages n used.0 h.numbered h.labelled used.1 there in
    same_step m (entry.Page n (shown_of m (number_of m.names n)) ∷ []) h
    (found.0, ap (shown_of m) i ∙ html (page_at m.pages used.0) there found.1, refl, tt)
  where
    html : (o : Option Page) → is_page o ≡ true → ((p : Page) → o ≡ Some p → tree_of p.content ≡ tree_named m.pages n) →
        unwrap_or (option_map page_html o) [] ≡ html_of (tree_named m.pages n)
    html None k f = cc
    html (Some p) k f = ap html_of (f p refl)

scratch_step : (env : Environment) (m : Machine) (n : List ℕ) (p : Option Page) → TiedTo m → Tells m (scratching env m n p)
scratch_step env m n None h = same_step m (entry.Scratch n [] ∷ []) h tt
scratch_step env m n (Some p) h =
    answer_step m (settle env (template_reads env m p.template) m.world)
    (entry.Scratch n (scratch_html env.hosts m.world.signals (template_at m p.template)) ∷ []) h (at_first m.world) tt

dispose_step : (env : Environment) (m : Machine) (t : Option Thing) → TiedTo m → Tells m (disposing env m t)
dispose_step env m None h = same_step m [] h tt
dispose_step env m (Some t) h =
    ended_step m (dispose_thing env t m.world) h (thing_disposed m.world.made.pages m.world.pages env t m.world (at_first m.world))

-- the first name of a command
pub first_fine : (slacks : List ℕ) (m : Machine) (c : Command) → refusal_of slacks m c ≡ None → first_refusal m.world m.names (uses_of c) ≡ None
first_fine slacks m c e =
    let behind = neither (batch_refusal m.batch c) (option_or (name_refusal m c) (later_refusal slacks m c)) e in
    let names = (neither (name_refusal m c) (later_refusal slacks m c) behind.1).0 in
    (neither (first_refusal m.world m.names (uses_of c)) (body_refusal m c) names).0

-- what is told of a chain is of no page
links_spoken : (ps : List Page) (names : List (List ℕ)) (n : List ℕ) (ls : List Link) → AreSpoken ps (link_entries names n ls)
links_spoken ps names n [] = tt
links_spoken ps names n (l ∷ ls) = links_spoken ps names (name_next names n l.cause) ls

why_spoken : (ps : List Page) (names : List (List ℕ)) (n : List ℕ) (o : Option (List Link)) → AreSpoken ps (why_entries names n o)
why_spoken ps names n None = tt
why_spoken ps names n (Some ls) = links_spoken ps names n ls

verb_step : (env : Environment) (m : Machine) (v : Verb) (n : List ℕ) → TiedTo m → first_refusal m.world m.names (uses_of (command.Named v n)) ≡ None →
    Tells m (machine.named env m v n (number_of m.names n))
verb_step env m verb.Get n h e =
    let i : ℕ = number_of m.names n in answer_step m (settle env (i ∷ []) m.world) (_ ∷ []) h (at_first m.world) tt
verb_step env m verb.Show n h e = show_step m n h (neither (refusal_at m.world (n, need.Of kind.Page) (meaning_of m.names n)) None e).0
verb_step env m verb.Scratch n h e = scratch_step env m n (page_at m.pages (number_of m.names n)) h
verb_step env m verb.Dispose n h e = dispose_step env m (thing_named (meaning_of m.names n)) h
verb_step env m verb.Why n h e =
    same_step m (machine.named env m verb.Why n (number_of m.names n)).entries h (why_spoken m.pages m.labels.signals n (chain_in m.journal (number_of m.names n)))
verb_step env m v n h e = same_step m (machine.named env m v n (number_of m.names n)).entries h tt

commit_step : (env : Environment) (m : Machine) (b : Option Batch) → TiedTo m → Tells m (committing env m b)
commit_step env m None h = same_step m [] h tt
commit_step env m (Some b) h = batch_step m None (commit env b m.world) h (at_first m.world)

abort_step : (m : Machine) (b : Option Batch) → TiedTo m → Tells m (aborting m b)
abort_step m None h = same_step m [] h tt
abort_step m (Some b) h = batch_step m None (abort b m.world) h (batch_aborted m.world.made.pages m.world.pages b m.world (at_first m.world))

alone_step : (env : Environment) (m : Machine) (b : Bare) → TiedTo m → Tells m (done_alone env m b)
alone_step env m bares.Flush h =
    turns_step env m (flush env m.world).world (flush env m.world).refused h
    (flushed m.world.made.pages m.world.pages env m.world (at_first m.world))
alone_step env m bares.Begin h = record { tied = h; spoken = tt; fresh = no_news m; stay = λ n u. u }
alone_step env m bares.Record h = record { tied = h; spoken = tt; fresh = no_news m; stay = λ n u. u }
alone_step env m bares.Commit h = commit_step env m m.batch h
alone_step env m bares.Abort h = abort_step m m.batch h

-- a cell is set, beside the batch that is open, if one is
set_step : (env : Environment) (m : Machine) (b : Option Batch) (i : ℕ) (v : Value) → TiedTo m → Tells m (setting_by env m b i v)
set_step env m None i v h = act_step m (set_cell env i v m.world) h (cell_set m.world.made.pages m.world.pages env i v m.world (at_first m.world))
set_step env m (Some b) i v h =
    batch_step m (Some (joined_by env.slacks (standing m.world.signals i) i v b)) (set_quietly env i v m.world) h
    (quietly_set m.world.made.pages m.world.pages env i v m.world (at_first m.world))

-- ---- handlers of an event

-- the pages and the names stay, and of pages nothing is told
pub record Idles (m : Machine) (t : Told) : Type 0 where
  pub tied : TiedTo t.machine
  pub pages : t.machine.pages ≡ m.pages
  pub names : t.machine.names ≡ m.names
  pub spoken : (rest : List Entry) → AreSpoken m.pages rest → AreSpoken m.pages (t.entries ++ rest)

told_idles : (m : Machine) (es : List Entry) → TiedTo m → ((rest : List Entry) → AreSpoken m.pages rest → AreSpoken m.pages (es ++ rest)) → Idles m (reached m es)
told_idles m es h s = record { tied = h; pages = refl; names = refl; spoken = s }

acted_idles : (m : Machine) (w : World) → TiedTo m → Within m.world.made.pages m.world.pages w → Idles m (acted m w)
acted_idles m w h k = record {
  tied = (act_step m w h k).tied;
  pages = refl;
  names = refl;
  spoken = λ rest s. events_spoken m.pages m.labels w.told rest s;
}

idles_then : (m : Machine) (t u : Told) → Idles m t → Idles t.machine u → Idles m (reached u.machine (t.entries ++ u.entries))
idles_then m t u a b = record {
  tied = b.tied;
  pages = b.pages ∙ a.pages;
  names = b.names ∙ a.names;
  spoken = λ rest s. subst (AreSpoken m.pages) (sym (append_assoc t.entries u.entries rest))
      (a.spoken (u.entries ++ rest)
      (subst (λ (ps : List Page). AreSpoken ps (u.entries ++ rest)) a.pages (b.spoken rest (subst (λ (ps : List Page). AreSpoken ps rest) (sym a.pages) s))));
}

-- one act, acts, and their end
pub one_idles : (env : Environment) (m : Machine) (a : Act) → TiedTo m → Idles m (acting_once env m a)
one_idles env m (to_set n v) h =
    acted_idles m (set_cell env n v m.world) h (cell_set m.world.made.pages m.world.pages env n v m.world (at_first m.world))
one_idles env m (to_log v) h = acted_idles m (tell (logged v) m.world) h (at_first m.world)
one_idles env m _ h = told_idles m [] h (λ rest s. s)

pub all_idle : (env : Environment) (m : Machine) (as' : List Act) → TiedTo m → Idles m (acting env m as')
all_idle env m [] h = told_idles m [] h (λ rest s. s)
all_idle env m (a ∷ as') h =
    let t = acting_once env m a in
    let one = one_idles env m a h in idles_then m t (acting env t.machine as') one (all_idle env t.machine as' one.tied)

pub end_idles : (env : Environment) (m : Machine) (page : List ℕ) (node : ℕ) (r : BodyResult) → TiedTo m → Idles m (ending env m page node r)
end_idles env m page node (failed_by f) h = told_idles m (entry.FailAt page node f ∷ []) h (λ rest s. s)
end_idles env m page node (to_do as') h = all_idle env m as' h

-- that a handler runs is told, and then its end
pub fired_idles : (env : Environment) (m : Machine) (page : List ℕ) (node : ℕ) (r : BodyResult) → TiedTo m →
    Idles m (reached (ending env m page node r).machine (entry.Fired page node ∷ (ending env m page node r).entries))
fired_idles env m page node r h =
    idles_then m (reached m (entry.Fired page node ∷ [])) (ending env m page node r) (told_idles m (entry.Fired page node ∷ []) h (λ rest s. s))
    (end_idles env m page node r h)

pub heard_idles : (env : Environment) (m : Machine) (names : List ℕ) → TiedTo m → Idles m (settling env m names)
heard_idles env m names h = acted_idles m (settle env names m.world) h (at_first m.world)

pub run_idles : (env : Environment) (m : Machine) (page : List ℕ) (x : Handling) → TiedTo m → Idles m (running env m page x)
run_idles env m page x h =
    let e : BodyEvaluation = body_evaluation env.hosts m.world.signals x.body in
    let s : Told = settling env m (names_of e.reads) in
    let end : Told = ending env s.machine page x.node e.result in
    let first = heard_idles env m (names_of e.reads) h in
    idles_then m s (reached end.machine (entry.Fired page x.node ∷ end.entries)) first (fired_idles env s.machine page x.node e.result first.tied)

pub fire_idles : (env : Environment) (m : Machine) (page : List ℕ) (xs : List Handling) → TiedTo m → Idles m (firing env m page xs)
fire_idles env m page [] h = told_idles m [] h (λ rest s. s)
fire_idles env m page (x ∷ xs) h =
    let t = running env m page x in
    let one = run_idles env m page x h in idles_then m t (firing env t.machine page xs) one (fire_idles env t.machine page xs one.tied)

fire_step : (env : Environment) (m : Machine) (page : List ℕ) (xs : List Handling) → TiedTo m → Tells m (firing env m page xs)
fire_step env m page xs h =
    let t : Told = firing env m page xs in
    let i : Idles m t = fire_idles env m page xs h in
    record {
      tied = i.tied;
      spoken = subst (λ (ps : List Page). AreSpoken ps t.entries) (sym i.pages) (subst (AreSpoken m.pages) (append-nil t.entries) (i.spoken [] tt));
      fresh = λ n a b. no_news m n (ap (λ (ps : List Page). has_page ps n) (sym i.pages) ∙ a) b;
      stay = λ n u. ap (λ (ns : Names). meaning_of ns n) (sym i.names) ∙ u;
    }

pub no_page : (k : Kind) (i j : ℕ) → (k ≡ kind.Page → ⊥) → record { kind = k; number = i } ≡ a_page j → ⊥
no_page k i j f e = f (ap (λ (x : Meaning). x.kind) e)

done_step : (env : Environment) (m : Machine) (c : Command) → TiedTo m → refusal_of env.slacks m c ≡ None → Tells m (done env m c)
done_step env m (command.Cell n v equals inside) h e = make_step m n _ _ _ _ refl (at_first m.world) (λ i. no_page kind.Cell _ i (λ x. cc)) h
done_step env m (command.List n fields inside) h e = make_step m n _ _ _ _ refl (at_first m.world) (λ i. no_page kind.List _ i (λ x. cc)) h
done_step env m (command.Edit n d) h e =
    let i : ℕ = number_of m.names n in set_step env m m.batch i (value.Rows (edited d (rows_at m.world.signals i))) h
done_step env m (command.Set n v) h e = set_step env m m.batch (number_of m.names n) (scalar_value v) h
done_step env m (command.Computed n x inside) h e =
    let r = recipe_of m.names x in
    make_step m n (record { kind = kind.Computed; number = m.world.made.signals }) (record (m.labels) { signals = m.labels.signals ++ n ∷ [] })
    (at_rest (with_use (host_of r.expression) (with_new_computed r (owner_of m.names inside) m.world))) m.templates refl
    (use_in m.world.made.pages m.world.pages (host_of r.expression) (with_new_computed r (owner_of m.names inside) m.world) (at_first m.world))
    (λ i. no_page kind.Computed _ i (λ x. cc)) h
done_step env m (command.Rewire n x) h e =
    let i : ℕ = number_of m.names n in
    act_step m (rewire_signal i (recipe_of m.names x) m.world) h
    (signal_rewired m.world.made.pages m.world.pages i (recipe_of m.names x) m.world (at_first m.world))
done_step env m (command.Owner n inside) h e = make_step m n _ _ _ _ refl (at_first m.world) (λ i. no_page kind.Owner _ i (λ x. cc)) h
done_step env m (command.Watcher n tries) h e = make_step m n _ _ _ _ refl (at_first m.world) (λ i. no_page kind.Watcher _ i (λ x. cc)) h
done_step env m (command.Watch n signals) h e =
    act_step m (changed_watcher (number_of m.names n) (armed (map (number_of m.names) signals)) m.world) h (at_first m.world)
done_step env m (command.Unwatch n x) h e =
    act_step m (changed_watcher (number_of m.names n) (forget (number_of m.names x)) m.world) h (at_first m.world)
done_step env m (command.Named v n) h e = verb_step env m v n h (first_fine env.slacks m (command.Named v n) e)
done_step env m (command.Effect n b inside) h e = make_step m n _ _ _ _ refl (at_first m.world) (λ i. no_page kind.Effect _ i (λ x. cc)) h
done_step env m (command.On t line event b) h e = record { tied = h; spoken = tt; fresh = no_news m; stay = λ n u. u }
done_step env m (command.Fire p node event) h e =
    fire_step env m p (handlings_of m.handlers (fired_of m.handlers (page_at m.pages (number_of m.names p)) node event)) h
done_step env m (command.Template n t) h e =
    make_step m n (record { kind = kind.Template; number = length m.templates }) m.labels m.world (m.templates ++ linked_template m.names t ∷ []) refl
    (at_first m.world) (λ i. no_page kind.Template _ i (λ x. cc)) h
done_step env m (command.Mount n t inside) h e =
    let uses = first_fine env.slacks m (command.Mount n t inside) e in
    let free = (neither (refusal_at m.world (n, need.New) (meaning_of m.names n))
    (first_refusal m.world m.names ((t, need.Of kind.Template) ∷ uses_of_inside inside)) uses).0 in
    mount_step env m n (number_of m.names t) (owner_of m.names inside) h (name_free m.world n (meaning_of m.names n) free)
done_step env m (command.Bare b) h e = alone_step env m b h

pub item_step : (env : Environment) (m : Machine) (i : Item) → TiedTo m → Tells m (step env m i)
item_step env m (item.Refused r) h = same_step m (entry.Error r ∷ []) h tt
item_step env m (item.Do c) h = go (refusal_of env.slacks m c) (done_step env m c h)
  where
    go : (o : Option Refusal) → (o ≡ None → Tells m (done env m c)) → Tells m (option_map_or (machine.refused m) o (done env m c))
    go None k = k refl
    go (Some r) k = same_step m (entry.Error r ∷ []) h tt

-- ---- all items

items_tell : (env : Environment) (is : List Item) (m : Machine) → TiedTo m → AllSilent env m is → AllTell env m is
items_tell env [] m h s = tt
items_tell env (i ∷ is) m h s =
    let t : Tells m (step env m i) = item_step env m i h in
    let n : Machine = (step env m i).machine in (
      record {
        told = told_both n.pages (step env m i).entries s.0 t.spoken;
        named = λ k there. page_meant n.names n.pages k t.tied.numbered there;
        fresh = t.fresh;
        stay = t.stay;
      },
      items_tell env is n t.tied s.1,
    )

pub empty_tied : (hosts : ℕ) → TiedTo (empty hosts)
empty_tied hosts = record { numbered = tt; labelled = λ n i g. cc; counted = refl; whole = λ i g. cc; apart = tt }

pub telling_law : TellingLaw
telling_law env hosts is s = items_tell env is (empty hosts) (empty_tied hosts) s
