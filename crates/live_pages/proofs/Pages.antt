-- Pages are made and brought up to date, one after the other.
use Rattle.std.proofs.Common.{◌≡◌, ◌≤◌, ◌<◌, ◌+◌, ◌-◌, ◌*◌, ◌^◌, ℕ, zero, suc, arith, List, [], ◌∷◌, ◌++◌, length, take, drop, map, get_or, Option, Some, None, refl, sym, ap, subst, ◌∙◌, append_assoc}
use Rattle.std.specs.Option.{option_map}
use Rattle.std.specs.Prelude.{slice_set}
use Rattle.std.proofs.lemmas.List.{append-nil, drop_more, length-append, length-drop, map-append}
use Rattle.std.proofs.Math.Seq.{take-append_seam}
use Rattle.signal_model.specs.Recipes.{Hosts}
use Rattle.effect_model.specs.Worlds as told
use Rattle.effect_model.specs.Worlds.{settle}
use Rattle.page_model.specs.Forest.{Forest}
use Rattle.page_model.specs.Html.{html_of}
use Rattle.page_model.specs.Labels.{Kind}
use Rattle.page_model.specs.Pages as paged
use Rattle.page_model.specs.Pages.{NumberedPage, tree_of}
use Rattle.page_model.specs.Replay.{Op}
use Rattle.tpl_live.specs.Pages.{IsStanding}
use Rattle.tpl_live.specs.Contents.{standing}
use Rattle.tpl_model.specs.Sources.{template_shape}
use Rattle.sig_host.specs.Hosts.{HostPlace}
use Rattle.sig_computed.specs.Notes.{note_of}
use Rattle.sig_computed.specs.declared.notes.RunNote.{RunNote}
use Rattle.sig_effect.specs.Stores.{environment}
use Rattle.sig_effect.specs.declared.events.Event.{Event}
use Rattle.sig_effect.specs.declared.events.Event.TheVariants as event
use Rattle.effect_world.specs.declared.world.World.{World}
use Rattle.effect_world.specs.Stores.{Agrees, Does, IsSound}
use Rattle.effect_world.specs.Wholes.{whole_of}
use Rattle.live_entries.specs.declared.entry.Entry.{Entry}
use Rattle.live_entries.specs.declared.entry.Entry.TheVariants as entry
use Rattle.why_model.specs.Facts.{has_run}
use Rattle.why_model.specs.Records.{Journal, with_fact, with_facts}
use Rattle.live_why.specs.Views as facts
use Rattle.live_model.specs.Journals.{noting}
use Rattle.live_model.specs.Labels.{Labels, labels_after}
use Rattle.live_model.specs.Pages.{asked_of, template_in, Page, Template}
use Rattle.live_model.specs.Machine as plain
use Rattle.live_model.specs.Machine.{Told, updated_page, update_of, entries_of, news_of, ops_told, settling, reached, update_all}
use Rattle.live_model.proofs.Shared.{page_law}
use Rattle.live_labels.specs.Entries.{note_entry}
use Rattle.live_labels.proofs.Shared.{all_noted, all_rename, all_told, noted_by, renamed_by, told_by}
use Rattle.live_pages.specs.declared.mounted.Mounted.{Mounted}
use Rattle.live_pages.specs.Views.{page_of}
use Rattle.live_pages.specs.Updates.{after_reading, bare, told_reading, updated_to, numbers_of, with_pages, AreUpdated, AreShown, AreStanding, IsUpdated, IsFresh, IsFreshTree, IsMounted}
use Rattle.live_pages.specs.Updates.{IsScratched, IsShown, Settled}
use Rattle.live_pages.proofs.Drops.{all_more}

-- ---- one page

-- the events of notes
abbrev pub noted : List RunNote → List Event
noted notes = map event.Run notes

-- what is told of notes is told of the events that they are, and they rename nothing
notes_told : (l : Labels) (notes : List RunNote) → map (note_entry l.signals) (map note_of notes) ≡ told_by l (noted notes)
notes_told l [] = refl
notes_told l (n ∷ notes) = ap (λ (es : List Entry). note_entry l.signals (note_of n) ∷ es) (notes_told l notes)

notes_rename : (l : Labels) (notes : List RunNote) → renamed_by (noted notes) l ≡ l
notes_rename l [] = refl
notes_rename l (n ∷ notes) = notes_rename l notes

-- what is told of names that were settled
pub settled_told : (hosts : Hosts) (slacks : List ℕ) (asked later : List HostPlace) (old new : World) (names : List ℕ) (notes : List RunNote) (l : Labels) →
    Does hosts asked later old new [] (noted notes) (settle (environment hosts slacks) names) →
    map (note_entry l.signals) (map note_of notes) ≡ entries_of l (settle (environment hosts slacks) names (whole_of asked old)).told
settled_told hosts slacks asked later old new names notes l d =
    notes_told l notes ∙ ap (told_by l) d.told.behind ∙ all_told l d.told.more _ d.told.each

-- nothing is called otherwise
pub settled_labels : (hosts : Hosts) (slacks : List ℕ) (asked later : List HostPlace) (old new : World) (names : List ℕ) (notes : List RunNote) (l : Labels) →
    Does hosts asked later old new [] (noted notes) (settle (environment hosts slacks) names) →
    l ≡ labels_after (settle (environment hosts slacks) names (whole_of asked old)).told l
settled_labels hosts slacks asked later old new names notes l d =
    sym (notes_rename l notes) ∙ ap (λ (es : List Event). renamed_by es l) d.told.behind ∙ all_rename l d.told.more _ d.told.each

-- what is noted of notes is noted of the events that they are
notes_noted : (notes : List RunNote) (j : Journal) → with_facts (map has_run (map facts.note_of notes)) j ≡ noted_by (noted notes) j
notes_noted [] j = refl
notes_noted (n ∷ notes) j = notes_noted notes (with_fact (has_run (facts.note_of n)) j)

-- what is noted of names that were settled
pub settled_noted : (hosts : Hosts) (slacks : List ℕ) (asked later : List HostPlace) (old new : World) (names : List ℕ) (notes : List RunNote) (journal : Option Journal) →
    Does hosts asked later old new [] (noted notes) (settle (environment hosts slacks) names) →
    option_map (with_facts (map has_run (map facts.note_of notes))) journal ≡ noting (settle (environment hosts slacks) names (whole_of asked old)).told journal
settled_noted hosts slacks asked later old new names notes None d = refl
settled_noted hosts slacks asked later old new names notes (Some j) d =
    ap Some (notes_noted notes j ∙ ap (λ (es : List Event). noted_by es j) d.told.behind ∙ all_noted d.told.more _ j d.told.each)

-- a page was made of a template
pub fresh_made : (hosts : Hosts) (slacks : List ℕ) (asked later : List HostPlace) (l : Labels) (t : Template) (old new : World) (made : NumberedPage) (edits : List Op)
    (before after : List Entry) (first last : Option Journal) (notes : List RunNote) →
    Does hosts asked later old new [] (noted notes) (settle (environment hosts slacks) (asked_of hosts old.graph.state.signals t)) →
    made ≡ (updated_to (environment hosts slacks) asked old t paged.bare).page → edits ≡ (updated_to (environment hosts slacks) asked old t paged.bare).ops →
    after ≡ before ++ map (note_entry l.signals) (map note_of notes) → last ≡ option_map (with_facts (map has_run (map facts.note_of notes))) first →
    IsFresh (environment hosts slacks) l t asked later old new made edits before after first last
fresh_made hosts slacks asked later l t old new made edits before after first last notes d page ops tells notes_down = record {
  world = d.whole;
  told = tells ∙ ap (λ (es : List Entry). before ++ es) (settled_told hosts slacks asked later old new (asked_of hosts old.graph.state.signals t) notes l d);
  labels = settled_labels hosts slacks asked later old new (asked_of hosts old.graph.state.signals t) notes l d;
  noted = notes_down ∙ settled_noted hosts slacks asked later old new (asked_of hosts old.graph.state.signals t) notes first d;
  page = page;
  ops = ops;
}

-- its operations and its HTML are told
pub mounted_made : (env : told.Environment) (l : Labels) (templates : List Template) (asked later : List HostPlace) (old new : World) (name : List ℕ) (t : ℕ) (x : Template)
    (made : NumberedPage) (edits : List Op) (before middle after : List Entry) (first last : Option Journal) → x ≡ template_in templates t →
    IsFresh env l x asked later old new made edits before middle first last →
    after ≡ (middle ++ ops_told name edits) ++ entry.Page name (html_of (tree_of made)) ∷ [] →
    IsMounted env l templates asked later old new name t made before after first last
mounted_made env l templates asked later old new name t x made edits before middle after first last is fresh tells =
    let f = subst (λ (y : Template). IsFresh env l y asked later old new made edits before middle first last) is fresh in
    let page : List Entry = entry.Page name (html_of (tree_of made)) ∷ [] in
    let runs : List Entry = (after_reading env l asked old (template_in templates t)).entries in
    let changes : List Entry = ops_told name (updated_to env asked old (template_in templates t) paged.bare).ops in
    record {
      world = f.world;
      told = tells
          ∙ (λ i. f.told i ++ ops_told name (f.ops i) ++ page)
          ∙ ap (λ (es : List Entry). es ++ page) (append_assoc before runs changes)
          ∙ append_assoc before (runs ++ changes) page;
      labels = f.labels;
      noted = f.noted;
      page = f.page;
    }

-- the tree of what a template shows was made
pub tree_made : (hosts : Hosts) (slacks : List ℕ) (asked later : List HostPlace) (l : Labels) (t : Template) (old new : World) (made : Forest Kind)
    (before after : List Entry) (first last : Option Journal) (notes : List RunNote) →
    Does hosts asked later old new [] (noted notes) (settle (environment hosts slacks) (asked_of hosts old.graph.state.signals t)) →
    made ≡ tree_of (updated_to (environment hosts slacks) asked old t paged.bare).page → after ≡ before ++ map (note_entry l.signals) (map note_of notes) →
    last ≡ option_map (with_facts (map has_run (map facts.note_of notes))) first →
    IsFreshTree (environment hosts slacks) l t asked later old new made before after first last
tree_made hosts slacks asked later l t old new made before after first last notes d tree tells notes_down = record {
  world = d.whole;
  told = tells ∙ ap (λ (es : List Entry). before ++ es) (settled_told hosts slacks asked later old new (asked_of hosts old.graph.state.signals t) notes l d);
  labels = settled_labels hosts slacks asked later old new (asked_of hosts old.graph.state.signals t) notes l d;
  noted = notes_down ∙ settled_noted hosts slacks asked later old new (asked_of hosts old.graph.state.signals t) notes first d;
  tree = tree;
}

-- its HTML is that of the template from scratch
pub scratched_made : (env : told.Environment) (l : Labels) (templates : List Template) (asked later : List HostPlace) (old new : World) (t : ℕ) (x : Template)
    (made : Forest Kind) (bytes : List ℕ) (before after : List Entry) (first last : Option Journal) → x ≡ template_in templates t →
    IsFreshTree env l x asked later old new made before after first last → bytes ≡ html_of made →
    IsScratched env l templates asked later old new t bytes before after first last
scratched_made env l templates asked later old new t x made bytes before after first last is fresh same =
    let f = subst (λ (y : Template). IsFreshTree env l y asked later old new made before after first last) is fresh in
    let k : Template = template_in templates t in
    record {
      world = f.world;
      told = f.told;
      labels = f.labels;
      noted = f.noted;
      html = same ∙ ap (λ (tree : Forest Kind). html_of tree) f.tree
          ∙ page_law paged.bare (template_shape env.hosts old.graph.state.signals k.lines k.links);
    }

-- a page was brought up to date
pub page_up : (hosts : Hosts) (slacks : List ℕ) (asked later : List HostPlace) (l : Labels) (templates : List Template) (old new : World) (p q : Mounted)
    (edits : List Op) (before after : List Entry) (first last : Option Journal) (notes : List RunNote) →
    Does hosts asked later old new [] (noted notes) (settle (environment hosts slacks) (asked_of hosts old.graph.state.signals (template_in templates p.template))) →
    page_of q ≡ updated_page (environment hosts slacks) (bare l asked old templates) (page_of p) →
    edits ≡ (update_of (environment hosts slacks) (bare l asked old templates) p.template (page_of p).content).ops →
    after ≡ (before ++ map (note_entry l.signals) (map note_of notes)) ++ news_of (page_of q) edits →
    last ≡ option_map (with_facts (map has_run (map facts.note_of notes))) first →
    IsUpdated (environment hosts slacks) l templates asked later old new p q before after first last
page_up hosts slacks asked later l templates old new p q edits before after first last notes d page ops tells notes_down =
    let names : List ℕ = asked_of hosts old.graph.state.signals (template_in templates p.template) in
    let runs : List Entry = (after_reading (environment hosts slacks) l asked old (template_in templates p.template)).entries in
    record {
      world = d.whole;
      told = tells
          ∙ append_assoc before (map (note_entry l.signals) (map note_of notes)) (news_of (page_of q) edits)
          ∙ ap (λ (es : List Entry). before ++ (es ++ news_of (page_of q) edits)) (settled_told hosts slacks asked later old new names notes l d)
          ∙ (λ i. before ++ (runs ++ news_of (page i) (ops i)));
      labels = settled_labels hosts slacks asked later old new names notes l d;
      noted = notes_down ∙ settled_noted hosts slacks asked later old new names notes first d;
      page = page;
    }

-- ---- all pages

-- these entries, and then what comes of the rest
abbrev pub ahead : List Entry → Told → Told
ahead es t = reached t.machine (es ++ t.entries)

-- The first so many pages are brought up to date, where what host formulas answer is this before and that now.
pub record UpTo (before after : Hosts → Type 0) (counted : Type 0) (labels : Labels) (asked later : List HostPlace) (first now : World)
    (all items : List Mounted) (at : ℕ) (tells : List Entry) (begun sofar : Option Journal) : Type 0 where
  pub done : List Mounted
  pub count : length done ≡ at
  pub items_are : items ≡ done ++ drop at all
  pub stand : AreStanding (drop at all)
  pub shown : (templates : List Template) → AreShown templates all → AreShown templates done
  pub rest_shown : (templates : List Template) → AreShown templates all → AreShown templates (drop at all)
  pub numbers : numbers_of items ≡ numbers_of all
  pub settled : Settled asked later first now before after counted (at * 2 ^ 64) (at * 2 ^ 71)
  pub whole : (hosts : Hosts) (slacks : List ℕ) (m : plain.Machine) → before hosts → IsSound hosts asked first → AreShown m.templates all →
      update_all (environment hosts slacks) (map page_of all) (with_pages m labels asked first begun [])
      ≡ ahead tells (update_all (environment hosts slacks) (map page_of (drop at all)) (with_pages m labels later now sofar done))

-- the element after those that are done
at_seam : {A : Type 0} (xs ys : List A) (y d : A) (i : ℕ) → length xs ≡ i → get_or (xs ++ y ∷ ys) i d ≡ y
at_seam [] ys y d i e = rw (sym e) refl
at_seam (x ∷ xs) ys y d zero e = absurd (omega (arith, e))
at_seam (x ∷ xs) ys y d (suc i) e = at_seam xs ys y d i (omega (arith, e))

-- it is changed
set_seam : {A : Type 0} (xs ys : List A) (y z : A) (i : ℕ) → length xs ≡ i → slice_set (xs ++ y ∷ ys) i z ≡ xs ++ z ∷ ys
set_seam [] ys y z i e = rw (sym e) refl
set_seam (x ∷ xs) ys y z zero e = absurd (omega (arith, e))
set_seam (x ∷ xs) ys y z (suc i) e = ap (λ zs. x ∷ zs) (set_seam xs ys y z i (omega (arith, e)))

pub up_to_none : (before : Hosts → Type 0) (counted : Type 0) (labels : Labels) (asked : List HostPlace) (w : World) (all items : List Mounted) (tells : List Entry) (begun : Option Journal) →
    items ≡ all → tells ≡ [] → Agrees asked w → counted → AreStanding all → UpTo before before counted labels asked asked w w all items 0 tells begun begun
up_to_none before counted labels asked w all items tells begun same none agrees counts stand = record {
  done = [];
  count = refl;
  items_are = same;
  stand = stand;
  shown = λ templates s. tt;
  rest_shown = λ templates s. s;
  numbers = ap numbers_of same;
  settled = record {
    stays = record { signals = refl; given = refl; watchers = refl; tables = refl };
    agrees = agrees;
    sound = λ hosts a s. s;
    answers = λ hosts a. a;
    counted = counts;
    worn = omega arith;
    most = omega arith;
  };
  whole = λ hosts slacks m a s shown.
      ap (λ (es : List Entry). ahead es (update_all (environment hosts slacks) (map page_of all) (with_pages m labels asked w begun []))) (sym none);
}

-- the names of one page more
settled_more : (before middle after : Hosts → Type 0) (first_counted counted : Type 0) (asked later last : List HostPlace) (first now w : World) (at : ℕ) →
    Settled asked later first now before middle first_counted (at * 2 ^ 64) (at * 2 ^ 71) → Settled later last now w middle after counted (2 ^ 64) (2 ^ 71) →
    Settled asked last first w before after counted ((at + 1) * 2 ^ 64) ((at + 1) * 2 ^ 71)
settled_more before middle after first_counted counted asked later last first now w at so s = record {
  stays = record {
    signals = s.stays.signals ∙ so.stays.signals;
    given = s.stays.given ∙ so.stays.given;
    watchers = s.stays.watchers ∙ so.stays.watchers;
    tables = s.stays.tables ∙ so.stays.tables;
  };
  agrees = s.agrees;
  sound = λ hosts a sound. s.sound hosts (so.answers hosts a) (so.sound hosts a sound);
  answers = λ hosts a. s.answers hosts (so.answers hosts a);
  counted = s.counted;
  worn = let a = so.worn in let b = s.worn in omega (arith, a, b);
  most = let a = so.most in let b = s.most in omega (arith, a, b);
}

-- the next page
pub record IsNextPage (all : List Mounted) (at : ℕ) (p : Mounted) : Type 0 where
  pub is : drop at all ≡ p ∷ drop (at + 1) all
  pub stands : IsStanding (standing p.page)

pub next_page : (before after : Hosts → Type 0) (counted : Type 0) (labels : Labels) (asked later : List HostPlace) (first now : World) (all items : List Mounted) (at : ℕ)
    (tells : List Entry) (begun sofar : Option Journal) (p d : Mounted) → UpTo before after counted labels asked later first now all items at tells begun sofar → at < length all →
    p ≡ get_or items at d → IsNextPage all at p
next_page before after counted labels asked later first now all items at tells begun sofar p d u lt is =
    let more : drop at all ≡ get_or all at d ∷ drop (at + 1) all = drop_more all at d lt in
    let same : p ≡ get_or all at d = is ∙ ap (λ (xs : List Mounted). get_or xs at d) (u.items_are ∙ ap (λ (xs : List Mounted). u.done ++ xs) more)
    ∙ at_seam u.done (drop (at + 1) all) (get_or all at d) d at u.count in
    let stand : AreStanding (get_or all at d ∷ drop (at + 1) all) = subst AreStanding more u.stand in
    record { is = more ∙ ap (λ (x : Mounted). x ∷ drop (at + 1) all) (sym same); stands = subst (λ (x : Mounted). IsStanding (standing x.page)) (sym same) stand.0 }

-- it is brought up to date too
pub up_to_more : (before middle after : Hosts → Type 0) (first_counted counted : Type 0) (labels : Labels) (asked later last : List HostPlace) (first now w : World)
    (all items : List Mounted) (at : ℕ) (tells more : List Entry) (begun sofar ended : Option Journal) (p q d : Mounted) →
    UpTo before middle first_counted labels asked later first now all items at tells begun sofar → at < length all → p ≡ get_or items at d →
    ((hosts : Hosts) (slacks : List ℕ) (templates : List Template) → middle hosts → IsSound hosts later now → IsShown templates p →
    IsUpdated (environment hosts slacks) labels templates later last now w p q tells more sofar ended) →
    ((templates : List Template) → IsShown templates p → IsShown templates q) →
    q.number ≡ p.number → Settled later last now w middle after counted (2 ^ 64) (2 ^ 71) →
    UpTo before after counted labels asked last first w all (slice_set items at q) (at + 1) more begun ended
up_to_more before middle after first_counted counted labels asked later last first now w all items at tells more begun sofar ended p q d u lt is up shown number s =
    let next : IsNextPage all at p = next_page before middle first_counted labels asked later first now all items at tells begun sofar p d u lt is in
    let so = u.settled in
    let rest : List Mounted = drop (at + 1) all in
    let stand : AreStanding (p ∷ rest) = subst AreStanding next.is u.stand in
    let here : (templates : List Template) → AreShown templates all → AreShown templates (p ∷ rest) =
    λ templates s. subst (AreShown templates) next.is (u.rest_shown templates s) in
    let all_items : items ≡ u.done ++ p ∷ rest = u.items_are ∙ ap (λ (xs : List Mounted). u.done ++ xs) next.is in
    record {
      done = u.done ++ q ∷ [];
      count = let a = length-append u.done (q ∷ []) in let b = u.count in omega (arith, a, b);
      items_are = ap (λ (xs : List Mounted). slice_set xs at q) all_items ∙ set_seam u.done rest p q at u.count
          ∙ sym (append_assoc u.done (q ∷ []) rest);
      stand = stand.1;
      shown = λ templates s. all_more (IsShown templates) u.done q (u.shown templates s) (shown templates (here templates s).0);
      rest_shown = λ templates s. (here templates s).1;
      numbers = ap numbers_of (ap (λ (xs : List Mounted). slice_set xs at q) all_items ∙ set_seam u.done rest p q at u.count)
          ∙ map-append (λ (x : Mounted). x.number) u.done (q ∷ rest) ∙ ap (λ (k : ℕ). numbers_of u.done ++ (k ∷ numbers_of rest)) number
          ∙ sym (map-append (λ (x : Mounted). x.number) u.done (p ∷ rest)) ∙ ap numbers_of (sym all_items) ∙ u.numbers;
      settled = settled_more before middle after first_counted counted asked later last first now w at so s;
      whole = λ hosts slacks m a sound all_shown.
          let b = up hosts slacks m.templates (so.answers hosts a) (so.sound hosts a sound) (here m.templates all_shown).0 in
          let env = environment hosts slacks in
          let v : plain.Machine = bare labels later now m.templates in
          let t : Told = settling env v (plain.template_reads env v p.template) in
          let news : List Entry = news_of (updated_page env v (page_of p)) (update_of env v p.template (page_of p).content).ops in
          let r : Told = update_all env (map page_of rest) (with_pages m labels last w ended (u.done ++ q ∷ [])) in
          let after : record m {
            labels = t.machine.labels;
            world = t.machine.world;
            journal = noting (told_reading env later now (template_in m.templates p.template)) sofar;
            pages = map page_of u.done ++ updated_page env v (page_of p) ∷ [];
          } ≡ with_pages m labels last w ended (u.done ++ q ∷ []) =
          (λ i. record m {
            labels = sym b.labels i;
            world = sym b.world i;
            journal = sym b.noted i;
            pages = (ap (λ (x : Page). map page_of u.done ++ x ∷ []) (sym b.page) ∙ sym (map-append page_of u.done (q ∷ []))) i;
          }) in
          u.whole hosts slacks m a sound all_shown
          ∙ ap (λ (xs : List Mounted). ahead tells (update_all env (map page_of xs) (with_pages m labels later now sofar u.done))) next.is
          ∙ ap (λ (x : plain.Machine). ahead tells (let y = update_all env (map page_of rest) x in reached y.machine ((t.entries ++ news) ++ y.entries))) after
          ∙ ap (λ (es : List Entry). reached r.machine es)
          (sym (append_assoc tells (t.entries ++ news) r.entries)
          ∙ ap (λ (es : List Entry). es ++ r.entries) (sym b.told));
    }

-- a list without elements
empty : {A : Type 0} (xs : List A) → length xs ≡ 0 → xs ≡ []
empty [] e = refl
empty (x ∷ xs) e = absurd (omega (arith, e))

-- all are
pub all_up : (before after : Hosts → Type 0) (counted : Type 0) (labels : Labels) (asked later : List HostPlace) (first now : World) (all items : List Mounted) (at : ℕ)
    (tells : List Entry) (begun sofar : Option Journal) → UpTo before after counted labels asked later first now all items at tells begun sofar → length all ≤ at →
    (hosts : Hosts) (slacks : List ℕ) (m : plain.Machine) → before hosts → IsSound hosts asked first → AreShown m.templates all →
    AreUpdated (environment hosts slacks) m labels asked later first now all items tells begun sofar
all_up before after counted labels asked later first now all items at tells begun sofar u end hosts slacks m a s shown =
    let none : drop at all ≡ [] = empty (drop at all) (length-drop at all ∙ omega (arith, end)) in
    let same : u.done ≡ items = sym (u.items_are ∙ ap (λ (xs : List Mounted). u.done ++ xs) none ∙ append-nil u.done) in
    record {
      step = sym (u.whole hosts slacks m a s shown
          ∙ ap (λ (xs : List Mounted). ahead tells (update_all (environment hosts slacks) (map page_of xs) (with_pages m labels later now sofar u.done))) none
          ∙ ap (λ (es : List Entry). reached (with_pages m labels later now sofar u.done) es) (append-nil tells)
          ∙ ap (λ (xs : List Mounted). reached (with_pages m labels later now sofar xs) tells) same);
    }

-- and show what they should
pub all_shown : (before after : Hosts → Type 0) (counted : Type 0) (labels : Labels) (asked later : List HostPlace) (first now : World) (all items : List Mounted) (at : ℕ)
    (tells : List Entry) (begun sofar : Option Journal) → UpTo before after counted labels asked later first now all items at tells begun sofar → length all ≤ at →
    (templates : List Template) → AreShown templates all → AreShown templates items
all_shown before after counted labels asked later first now all items at tells begun sofar u end templates shown =
    let none : drop at all ≡ [] = empty (drop at all) (length-drop at all ∙ omega (arith, end)) in
    subst (AreShown templates) (sym (u.items_are ∙ ap (λ (xs : List Mounted). u.done ++ xs) none ∙ append-nil u.done)) (u.shown templates shown)

-- as many pages as before
pub same_count : (before after : Hosts → Type 0) (counted : Type 0) (labels : Labels) (asked later : List HostPlace) (first now : World) (all items : List Mounted) (at : ℕ)
    (tells : List Entry) (begun sofar : Option Journal) → UpTo before after counted labels asked later first now all items at tells begun sofar → at ≤ length all → length items ≡ length all
same_count before after counted labels asked later first now all items at tells begun sofar u le =
    let a : length items ≡ length u.done + length (drop at all) = ap length u.items_are ∙ length-append u.done (drop at all) in
    let b : length (drop at all) ≡ length all - at = length-drop at all in
    let d = u.count in
    omega (arith, a, b, d, le)

-- a list that is written back over one that is no longer
pub written_back : {A : Type 0} (xs ys : List A) (n : ℕ) → n ≡ length xs → take n (xs ++ drop (length xs) ys) ≡ xs
written_back xs ys n e = ap (λ (k : ℕ). take k (xs ++ drop (length xs) ys)) e ∙ take-append_seam xs (drop (length xs) ys)

-- the same of a list that is the same
pub other_pages : (env : told.Environment) (m : plain.Machine) (labels : Labels) (asked later : List HostPlace) (old new : World)
    (pages now items : List Mounted) (entries : List Entry) (begun sofar : Option Journal) → items ≡ now →
    AreUpdated env m labels asked later old new pages items entries begun sofar → AreUpdated env m labels asked later old new pages now entries begun sofar
other_pages env m labels asked later old new pages now items entries begun sofar e up =
    subst (λ (xs : List Mounted). AreUpdated env m labels asked later old new pages xs entries begun sofar) e up
