-- What commands leave, and what they come to, where the stores do their part.
use Rattle.std.proofs.Common.{◌≡◌, ◌≤◌, ◌<◌, ◌+◌, ◌^◌, ℕ, zero, suc, arith, Bool, true, false, cond, List, [], ◌∷◌, ◌++◌, ◌⊎◌, inl, inr, length, map, nat_lt, Option, Some, None, Result, Ok, Err, OnOk, refl, sym, ap, subst, ◌∙◌}
use Rattle.std.specs.Prelude.{is_some, slice_get}
use Rattle.std.specs.List.{All, AllByRecursion, filter}
use Rattle.std.proofs.lemmas.List.{length-map}
use Rattle.std.proofs.lemmas.Bool.{ltb-true}
use Rattle.signal_model.specs.Kept.{AreGiven}
use Rattle.signal_model.specs.Recipes.{Hosts, Recipe}
use Rattle.signal_model.specs.Signals.{Signals, Stands, IsGone, IsCell, IsComputed, is_computed, is_in, is_there, standing, is_cell}
use Rattle.effect_model.specs.Owners as things
use Rattle.effect_model.specs.Worlds as told
use Rattle.effect_model.specs.Worlds.{Counts, HostState, unused, used, dropped, host_taken, lives, at_rest}
use Rattle.effect_model.specs.Acts.{host_of, host_refused, is_free, with_use}
use Rattle.effect_model.specs.declared.how.How.TheVariants.{Set}
use Rattle.effect_laws.specs.Counts.{KeepsCounts}
use Rattle.sig_effect.specs.Kinds.{AreKindsOf, KeepsKinds}
use Rattle.sig_host.specs.Hosts.{HostPlace}
use Rattle.sig_nodes.specs.Answers.{HasFewSlots}
use Rattle.sig_graph.specs.States.{Seen, is_given}
use Rattle.sig_state.specs.Batches.{Collected}
use Rattle.sig_state.specs.declared.sets.SetDone.{SetDone}
use Rattle.sig_state.specs.declared.sets.SetDone.TheVariants.{Accepted, Same}
use Rattle.sig_effect.specs.declared.errors.EffectFault.{EffectFault}
use Rattle.sig_effect.specs.declared.errors.EffectFault.TheVariants as fault
use Rattle.sig_effect.specs.Stores.{AreRuled}
use Rattle.sig_effect.specs.declared.events.Event.{Event}
use Rattle.sig_effect.specs.declared.events.Event.TheVariants as event
use Rattle.effect_world.specs.declared.world.World.{World}
use Rattle.effect_world.specs.Answers.{told_unwatched}
use Rattle.effect_world.specs.Stores.{Agrees, Does, IsSound}
use Rattle.sig_effect.specs.Events.{AreTold}
use Rattle.effect_world.specs.Costs.{weight}
use Rattle.effect_world.specs.Wholes.{whole_of}
use Rattle.live_cmd.specs.declared.command.SourceText.{SourceText}
use Rattle.live_cmd.specs.declared.command.SourceText.TheVariants as source
use Rattle.live_cmd.specs.declared.command.Try.{Try}
use Rattle.live_entries.specs.declared.entry.Entry.{Entry}
use Rattle.live_entries.specs.declared.refusal.LimitWord.{LimitWord}
use Rattle.live_entries.specs.declared.refusal.Refusal.TheVariants as refusal
use Rattle.live_model.specs.declared.names.Kind.{Kind}
use Rattle.live_model.specs.declared.names.Kind.TheVariants as kind
use Rattle.live_model.specs.declared.names.Need.TheVariants as need
use Rattle.why_model.specs.Records.{Journal}
use Rattle.live_model.specs.Journals.{noting}
use Rattle.live_model.specs.Labels as called
use Rattle.live_model.specs.Labels.{labels_after}
use Rattle.live_model.specs.Links.{recipe_of}
use Rattle.live_model.specs.Machine as plain
use Rattle.live_model.specs.Machine.{acted, entries_of, event_entries, one_too_many, reached, with_live_pages}
use Rattle.live_model.specs.Names.{Names, first_refusal, is_gone, meaning_of, number_of, thing_named, thing_of}
use Rattle.live_model.specs.Scripts.{IsReadSource}
use Rattle.live_model.specs.Uses.{uses_of_source}
use Rattle.live_labels.specs.declared.labels.Labels.{Labels}
use Rattle.live_labels.specs.Views.{labels_of, KeepsNames}
use Rattle.live_pages.specs.declared.mounted.Mounted.{Mounted}
use Rattle.live_pages.specs.Updates.{AreShown, ArePages, AreTemplates, Settles}
use Rattle.live_pages.specs.Views.{page_of, template_of}
use Rattle.live_pages.proofs.Shared.{pages_filtered, pages_kept, plain_filtered, shown_filtered}
use Rattle.live_core.specs.declared.machine.Machine.{Machine}
use Rattle.live_core.specs.Consistency.{is_of_kind, AreHandled, AreMeant, HasRoomyBatch, IsReady, Leaves, Steps}
use Rattle.live_core.specs.Views.{plain_of}
use Rattle.live_core.proofs.Names.{given_below, meant_still}
use Rattle.live_core.proofs.OfKind.{kept_kind}
use Rattle.live_core.proofs.Rightly.{not_false, refused_at, signals_used, used_thing, AreSignals}

-- ---- what stands under a name

-- a cell is no computed
pub cell_is : (s : Stands) → is_of_kind kind.Cell s ≡ true → is_computed s ≡ false
cell_is IsGone k = refl
cell_is (IsCell c) k = refl
cell_is (IsComputed c) k = absurd cc

-- a computed that stands is one
pub computed_is : (s : Stands) → is_there s ≡ true → is_of_kind kind.Computed s ≡ true → is_computed s ≡ true
computed_is IsGone e k = absurd cc
computed_is (IsCell c) e k = absurd cc
computed_is (IsComputed c) e k = refl

-- and no cell
pub no_cell : (s : Stands) → is_of_kind kind.Computed s ≡ true → is_cell s ≡ false
no_cell IsGone k = refl
no_cell (IsCell c) k = absurd cc
no_cell (IsComputed c) k = refl

-- where there is no refusal there is room
pub room_below : (most count : ℕ) (word : LimitWord) → one_too_many most count word ≡ None → count < most
room_below most count word e = at (nat_lt count most) refl e
  where
    at : (b : Bool) → nat_lt count most ≡ b → cond b None (Some (refusal.Limit word)) ≡ None → count < most
    at true is h = ltb-true count most is
    at false is h = absurd cc

-- what holds anyway holds where a call gave its answer
pub anyway : {A E P : Type 0} (r : Result A E) → P → OnOk r P
anyway (Ok x) p = p
anyway (Err e) p = tt

-- what is below isn't the most
pub not_most : (count most : ℕ) → count < most → count ≡ most → ⊥
not_most count most lt e = omega (arith, lt, e)

-- a fact of each, by places
pub every : (P : ℕ → Type 0) (ns : List ℕ) → AllByRecursion P ns → All P ns
every P [] all k d lt = absurd (omega (arith, lt))
every P (n ∷ ns) all zero d lt = all.0
every P (n ∷ ns) all (suc k) d lt = every P ns all.1 k d (omega (arith, lt))

-- ---- acts that are told

-- what is told of events, each by the labels of its moment, what is called otherwise after them, and what is noted
pub record TellsBy (before after : Labels) (first last : Option Journal) (es : List Event) (tells : List Entry) : Type 0 where
  pub entries : (ts : List told.Event) → AreTold es ts → tells ≡ entries_of (labels_of before) ts
  pub labels : (ts : List told.Event) → AreTold es ts → labels_of after ≡ labels_after ts (labels_of before)
  pub noted : (ts : List told.Event) → AreTold es ts → last ≡ noting ts first
  pub names : KeepsNames before after

-- the events as they were handed in
pub tells_by : (before after : Labels) (first last : Option Journal) (es xs : List Event) (entries : List Entry) → xs ≡ es →
    ((ts : List told.Event) → AreTold xs ts → entries ≡ entries_of (labels_of before) ts) →
    ((ts : List told.Event) → AreTold xs ts → labels_of after ≡ labels_after ts (labels_of before)) →
    ((ts : List told.Event) → AreTold xs ts → last ≡ noting ts first) → KeepsNames before after → TellsBy before after first last es entries
tells_by before after first last es xs entries same told_as called_as noted_as names = record {
  entries = λ ts h. told_as ts (subst (λ (ys : List Event). AreTold ys ts) (sym same) h);
  labels = λ ts h. called_as ts (subst (λ (ys : List Event). AreTold ys ts) (sym same) h);
  noted = λ ts h. noted_as ts (subst (λ (ys : List Event). AreTold ys ts) (sym same) h);
  names = names;
}

-- a machine whose world changed, with effects that are called otherwise, and what was noted of it
abbrev pub with_world : Machine → World → Labels → Option Journal → Machine
with_world m w l j = record m { world = w; labels = l; journal = j }

-- an act that was done
pub acts_steps : (hosts : Hosts) (asked later : List HostPlace) (m : Machine) (w : World) (l : Labels) (j : Option Journal) (before es : List Event)
    (act other : told.World → told.World) (entries : List Entry) → before ≡ [] → Does hosts asked later m.world w before es act → act ≡ other →
    TellsBy m.labels l m.journal j es entries →
    Steps hosts later (with_world m w l j) entries (acted (plain_of asked m) (other (whole_of asked m.world)))
acts_steps hosts asked later m w l j before es act other entries none d same by =
    let e : Does hosts asked later m.world w [] es act = subst (λ (b : List Event). Does hosts asked later m.world w b es act) none d in
    let ts : List told.Event = (act (whole_of asked m.world)).told in
    let each : AreTold es ts = subst (λ (xs : List Event). AreTold xs ts) (sym e.told.behind) e.told.each in
    record {
      step = (λ i. reached (record (plain_of later (with_world m w l j)) { labels = by.labels ts each i; world = e.whole i; journal = by.noted ts each i })
          (by.entries ts each i))
          ∙ ap (λ (f : told.World → told.World). acted (plain_of asked m) (f (whole_of asked m.world))) same;
      sound = d.sound;
    }

-- where nothing was told
none_entries : (l : called.Labels) (ts : List told.Event) → AreTold [] ts → [] ≡ entries_of l ts
none_entries l [] h = refl
none_entries l (t ∷ ts) h = absurd h

none_labels : (l : called.Labels) (ts : List told.Event) → AreTold [] ts → l ≡ labels_after ts l
none_labels l [] h = refl
none_labels l (t ∷ ts) h = absurd h

none_noted : (j : Option Journal) (ts : List told.Event) → AreTold [] ts → j ≡ noting ts j
none_noted None [] h = refl
none_noted (Some j) [] h = refl
none_noted j (t ∷ ts) h = absurd h

pub untold : (l : Labels) (j : Option Journal) (es : List Entry) → es ≡ [] → TellsBy l l j j [] es
untold l j es none = record {
  entries = λ ts h. none ∙ none_entries (labels_of l) ts h;
  labels = λ ts h. none_labels (labels_of l) ts h;
  noted = λ ts h. none_noted j ts h;
  names = record { signals = refl; owners = refl; pages = refl; watchers = refl };
}

-- where one signal was changed, of which nothing is told
change_entries : (l : called.Labels) (n : ℕ) (ts : List told.Event) → AreTold (event.Change n Set ∷ []) ts → [] ≡ entries_of l ts
change_entries l n [] h = absurd h
change_entries l n (t ∷ []) h = ap (λ (u : told.Event). event_entries l u ++ []) (sym h.0)
change_entries l n (t ∷ u ∷ ts) h = absurd h.1

change_labels : (l : called.Labels) (n : ℕ) (ts : List told.Event) → AreTold (event.Change n Set ∷ []) ts → l ≡ labels_after ts l
change_labels l n [] h = absurd h
change_labels l n (t ∷ []) h = ap (λ (u : told.Event). called.relabelled u l) (sym h.0)
change_labels l n (t ∷ u ∷ ts) h = absurd h.1

-- a set of which nobody hears
pub unheard : (l : Labels) (j : Option Journal) (d : SetDone) (n : ℕ) → j ≡ None → TellsBy l l j j (told_unwatched d n) []
unheard l j Same n none = untold l j [] refl
unheard l j Accepted n none = record {
  entries = λ ts h. change_entries (labels_of l) n ts h;
  labels = λ ts h. change_labels (labels_of l) n ts h;
  noted = λ ts h. subst (λ (o : Option Journal). o ≡ noting ts o) (sym none) refl;
  names = record { signals = refl; owners = refl; pages = refl; watchers = refl };
}

-- what is disposed is what has the name
pub disposed_steps : (hosts : Hosts) (env : told.Environment) (asked later : List HostPlace) (m new : Machine) (entries : List Entry) (o : Option things.Thing) (thing : things.Thing) →
    o ≡ Some thing → Steps hosts later new entries (plain.disposing env (plain_of asked m) (Some thing)) → Steps hosts later new entries (plain.disposing env (plain_of asked m) o)
disposed_steps hosts env asked later m new entries o thing is s = subst (λ (x : Option things.Thing). Steps hosts later new entries (plain.disposing env (plain_of asked m) x)) (sym is) s

-- the same, where the pages that ended are dropped
pub pages_steps : (hosts : Hosts) (later : List HostPlace) (m new : Machine) (entries : List Entry) (next : plain.Told) →
    Steps hosts later m entries next → new ≡ record m { pages = new.pages } →
    new.pages.items ≡ filter (λ (p : Mounted). is_in p.number m.world.tables.pages.items) m.pages.items →
    Steps hosts later new entries (reached (with_live_pages next.machine) next.entries)
pages_steps hosts later m new entries next s parts pages = record {
  step =
      ap (λ (x : Machine). reached (plain_of later x) entries) parts
      ∙ (λ i. reached (record (plain_of later m) { pages = (ap (map page_of) pages ∙ plain_filtered m.world.tables.pages.items m.pages.items) i }) entries)
      ∙ ap (λ (t : plain.Told). reached (with_live_pages t.machine) t.entries) s.step;
  sound = subst (λ (x : Machine). IsSound hosts later x.world) (sym parts) s.sound;
}

-- the same, where other lists of events and of notes are kept
pub steps_beside : (hosts : Hosts) (later : List HostPlace) (m new : Machine) (entries : List Entry) (next : plain.Told) →
    Steps hosts later m entries next → new ≡ record m { events = new.events; notes = new.notes } → Steps hosts later new entries next
steps_beside hosts later m new entries next s beside = record {
  step = ap (λ (x : Machine). reached (plain_of later x) entries) beside ∙ s.step;
  sound = subst (λ (x : Machine). IsSound hosts later x.world) (sym beside) s.sound;
}

-- what is told of an act, and one entry behind it
pub then_told : (hosts : Hosts) (later : List HostPlace) (m : Machine) (es : List Entry) (x y : Entry) (entries : List Entry) (next : plain.Told) →
    Steps hosts later m es next → x ≡ y → entries ≡ es ++ x ∷ [] → Steps hosts later m entries (reached next.machine (next.entries ++ y ∷ []))
then_told hosts later m es x y entries next s same is = record {
  step = (λ i. reached (plain_of later m) ((is ∙ ap (λ (z : Entry). es ++ z ∷ []) same) i))
      ∙ ap (λ (t : plain.Told). reached t.machine (t.entries ++ y ∷ [])) s.step;
  sound = s.sound;
}

-- ---- what an act leaves

-- as many signals, watchers and pages were made as before, and what was a cell or a computed is one until it is gone
pub record Stays (v w : World) : Type 0 where
  pub given : w.graph.given ≡ v.graph.given
  pub watchers : w.watchers.made ≡ v.watchers.made
  pub pages : w.tables.pages_made ≡ v.tables.pages_made
  pub kinds : AreKindsOf v.graph.state.signals w.graph.state.signals

-- an act makes nothing but effects
pub stays_by : (asked later : List HostPlace) (v w : World) (act : told.World → told.World) → whole_of later w ≡ at_rest (act (whole_of asked v)) →
    KeepsCounts act → KeepsKinds act → Stays v w
stays_by asked later v w act whole counts kinds = record {
  given = ap (λ (x : told.World). x.made.signals) whole ∙ ap (λ (c : Counts). c.signals) (counts.same (whole_of asked v));
  watchers = ap (λ (x : told.World). x.made.watchers) whole ∙ ap (λ (c : Counts). c.watchers) (counts.same (whole_of asked v));
  pages = ap (λ (x : told.World). x.made.pages) whole ∙ ap (λ (c : Counts). c.pages) (counts.same (whole_of asked v));
  kinds = subst (AreKindsOf v.graph.state.signals) (sym (ap (λ (x : told.World). x.signals) whole)) (kinds.kept (whole_of asked v));
}

-- settling leaves signals and tables
pub stays_settled : (v w : World) → Settles v w → Stays v w
stays_settled v w s = record {
  given = s.given;
  watchers = ap (λ t. t.made) s.watchers;
  pages = ap (λ t. t.pages_made) s.tables;
  kinds = record {
    each = λ x. record {
      cell = λ e. ap (λ (g : Signals). is_cell (standing g x)) s.signals ∙ e;
      computed = λ e. ap (λ (g : Signals). is_computed (standing g x)) s.signals ∙ e;
    };
  };
}

-- names, templates and handlers stay, and what isn't an effect is called as before
pub record KeepsMeant (m new : Machine) : Type 0 where
  pub names : new.names ≡ m.names
  pub templates : new.templates ≡ m.templates
  pub handlers : new.handlers ≡ m.handlers
  pub scripts : new.scripts ≡ m.scripts
  pub labels : KeepsNames m.labels new.labels

pub ready_changed : (m new : Machine) → IsReady m → KeepsMeant m new → Stays m.world new.world → AreShown (map template_of m.templates.items) new.pages.items →
    ArePages new.world new.pages.items → HasRoomyBatch new.world.graph.state.signals new.batch → IsReady new
ready_changed m new r keeps stays shown pages batch = record {
  watchers = stays.watchers ∙ r.watchers ∙ ap (λ v. length v.items) (sym keeps.labels.watchers);
  paged = stays.pages ∙ r.paged ∙ ap (λ v. length v.items) (sym keeps.labels.pages);
  meant = subst (λ x. x) (λ i. AreMeant new.world (length (sym keeps.templates i).items) (sym keeps.names i))
      (meant_still m.world new.world _ m.names stays.given
      (λ k x h. kept_kind k (standing m.world.graph.state.signals x) (standing new.world.graph.state.signals x) (stays.kinds.each x) h) r.meant);
  templates = subst (λ v. AreTemplates v.items) (sym keeps.templates) r.templates;
  handled = subst (λ x. x) (λ i. AreHandled (sym keeps.handlers i) (sym keeps.scripts i).items) r.handled;
  shown = subst (λ v. AreShown (map template_of v.items) new.pages.items) (sym keeps.templates) shown;
  pages = pages;
  batch = batch;
}

-- what is left by an act that leaves the tables, where the batch is this one afterwards
pub leaves_batched : (asked later : List HostPlace) (rules : ℕ) (m : Machine) (w : World) (l : Labels) (j : Option Journal) (b : Option Collected) → IsReady m → KeepsNames m.labels l →
    Stays m.world w → w.tables ≡ m.world.tables → HasRoomyBatch w.graph.state.signals b → (Agrees asked m.world → Agrees later w) →
    (AreRuled rules m.world.graph.state.signals → AreRuled rules w.graph.state.signals) →
    weight w ≤ weight m.world + 2 ^ 80 → Leaves asked later rules m (record (with_world m w l j) { batch = b })
leaves_batched asked later rules m w l j b r keeps stays tables batch agrees ruled few = record {
  ready = ready_changed m (record (with_world m w l j) { batch = b }) r (record { names = refl; templates = refl; handlers = refl; scripts = refl; labels = keeps }) stays r.shown
      (pages_kept m.world w m.pages.items m.pages.items refl (ap (λ t. t.pages.items) tables) (ap (λ t. t.pages_made) tables) r.pages) batch;
  holds = λ h. record { agrees = agrees h.agrees; ruled = ruled h.ruled };
  weight = few;
}

-- so it is where the batch stays
pub leaves_acted : (asked later : List HostPlace) (rules : ℕ) (m : Machine) (w : World) (l : Labels) (j : Option Journal) → IsReady m → KeepsNames m.labels l → Stays m.world w →
    w.tables ≡ m.world.tables → HasRoomyBatch w.graph.state.signals m.batch → (Agrees asked m.world → Agrees later w) →
    (AreRuled rules m.world.graph.state.signals → AreRuled rules w.graph.state.signals) →
    weight w ≤ weight m.world + 2 ^ 80 → Leaves asked later rules m (with_world m w l j)
leaves_acted asked later rules m w l j r keeps stays tables batch agrees ruled few = leaves_batched asked later rules m w l j m.batch r keeps stays tables batch agrees ruled few

-- so it is where other lists of events and of notes are kept
pub leaves_beside : (asked later : List HostPlace) (rules : ℕ) (old m new : Machine) → Leaves asked later rules old m → new ≡ record m { events = new.events; notes = new.notes } →
    Leaves asked later rules old new
leaves_beside asked later rules old m new l beside = subst (λ (x : Machine). Leaves asked later rules old x) (sym beside) (record {
  ready = record {
    watchers = l.ready.watchers;
    paged = l.ready.paged;
    meant = l.ready.meant;
    templates = l.ready.templates;
    handled = l.ready.handled;
    shown = l.ready.shown;
    pages = l.ready.pages;
    batch = l.ready.batch;
  };
  holds = l.holds;
  weight = l.weight;
})

-- what is left by one that may end pages, which are dropped then
pub leaves_ended : (asked later : List HostPlace) (rules : ℕ) (m new : Machine) → IsReady m → KeepsMeant m new → Stays m.world new.world →
    new.pages.items ≡ filter (λ (p : Mounted). is_in p.number new.world.tables.pages.items) m.pages.items →
    HasRoomyBatch new.world.graph.state.signals new.batch → (Agrees asked m.world → Agrees later new.world) →
    (AreRuled rules m.world.graph.state.signals → AreRuled rules new.world.graph.state.signals) →
    weight new.world ≤ weight m.world + 2 ^ 80 → Leaves asked later rules m new
leaves_ended asked later rules m new r keeps stays pages batch agrees ruled few = record {
  ready = ready_changed m new r keeps stays
      (shown_filtered (map template_of m.templates.items) (λ (p : Mounted). is_in p.number new.world.tables.pages.items) m.pages.items new.pages.items pages r.shown)
      (pages_filtered m.world new.world m.pages.items new.pages.items stays.pages pages r.pages) batch;
  holds = λ h. record { agrees = agrees h.agrees; ruled = ruled h.ruled };
  weight = few;
}

-- nothing changed
pub leaves_same : (asked : List HostPlace) (rules : ℕ) (m : Machine) → IsReady m → Leaves asked asked rules m m
leaves_same asked rules m r = record { ready = r; holds = λ h. h; weight = omega arith }

-- what is the same was left as it was
pub leaves_as : (asked : List HostPlace) (rules : ℕ) (m new : Machine) → IsReady m → new ≡ m → Leaves asked asked rules m new
leaves_as asked rules m new r same = subst (λ (n : Machine). Leaves asked asked rules m n) (sym same) (leaves_same asked rules m r)

-- a list isn't a computed either
pub list_is : (s : Stands) → is_of_kind kind.List s ≡ true → is_computed s ≡ false
list_is s e = cell_is s e

-- ---- one command

-- the place of a rule that isn't refused
pub rule_below : (slacks : List ℕ) (equals : Option ℕ) (r : ℕ) → plain.rule_refusal slacks equals ≡ None → equals ≡ Some r → r < length slacks
rule_below slacks None r fine is = absurd cc
rule_below slacks (Some place) r fine is = at (nat_lt place (length slacks)) refl fine
  where
    at : (b : Bool) → nat_lt place (length slacks) ≡ b → cond b None (Some (refusal.RulePlace place)) ≡ None → r < length slacks
    at true e h = let lt = ltb-true place (length slacks) e in let same : place ≡ r = cc in omega (arith, lt, same)
    at false e h = absurd cc

-- ---- what a computed is made from

-- nothing stands under the number that comes next
pub none_next : (g : Seen) → AreGiven (is_given g) g.state.signals g.state.memos → is_there (standing g.state.signals g.given) ≡ false
none_next g given = at (is_there (standing g.state.signals g.given)) refl
  where
    at : (b : Bool) → is_there (standing g.state.signals g.given) ≡ b → is_there (standing g.state.signals g.given) ≡ false
    at false e = e
    at true e = let lt = given_below g g.given (given.names g.given e) in absurd (omega (arith, lt))

-- the signals of its names
pub source_used : (w : World) (count : ℕ) (names : Names) (s : SourceText) → AreMeant w count names →
    first_refusal (whole_of [] w) names (uses_of_source s) ≡ None → AreSignals w.graph (recipe_of names s).slots
source_used w count names (source.Formula f) all e = signals_used w count names f.1 all e
source_used w count names (source.Host place arguments) all e = signals_used w count names arguments all e

-- a host formula of a command that was read has few arguments
pub few_slots : (names : Names) (s : SourceText) → IsReadSource s → HasFewSlots (recipe_of names s).expression (recipe_of names s).slots
few_slots names (source.Formula f) few = tt
few_slots names (source.Host place arguments) few = let same = length-map arguments (number_of names) in omega (arith, few, same)

-- one that isn't refused is free
free_state : (place : ℕ) (o : Option HostState) → plain.taken_refusal place o ≡ None → cond (is_free o) None (Some (host_taken place)) ≡ None
free_state place None e = absurd cc
free_state place (Some unused) e = refl
free_state place (Some (used n)) e = absurd cc
free_state place (Some (dropped n)) e = absurd cc

pub host_fine : (w : told.World) (names : Names) (s : SourceText) → plain.host_refusal w s ≡ None → host_refused (host_of (recipe_of names s).expression) w ≡ None
host_fine w names (source.Formula f) e = refl
host_fine w names (source.Host place arguments) e = free_state place (slice_get w.host_states place) e

-- using a host formula leaves signals, pages and what was made
pub stood_for : (o : Option ℕ) (w : told.World) → (with_use o w).signals ≡ w.signals
stood_for None w = refl
stood_for (Some k) w = refl

pub made_for : (o : Option ℕ) (w : told.World) → (with_use o w).made ≡ w.made
made_for None w = refl
made_for (Some k) w = refl

pub paged_for : (o : Option ℕ) (w : told.World) → (with_use o w).pages ≡ w.pages
paged_for None w = refl
paged_for (Some k) w = refl

-- the same of a recipe that is put together
pub few_made : (r s : Recipe) → r ≡ s → HasFewSlots s.expression s.slots → HasFewSlots r.expression r.slots
few_made r s e h = subst (λ (x : Recipe). HasFewSlots x.expression x.slots) (sym e) h

pub free_made : (w : told.World) (r s : Recipe) → r ≡ s → host_refused (host_of s.expression) w ≡ None → host_refused (host_of r.expression) w ≡ None
free_made w r s e h = ap (λ (x : Recipe). host_refused (host_of x.expression) w) e ∙ h

-- ---- what is disposed

-- whether a thing that there is lives
abbrev lives_in : World → List HostPlace → Option things.Thing → Bool
lives_in w asked None = false
lives_in w asked (Some t) = lives t (whole_of asked w)

lives_by : (w : World) (asked : List HostPlace) (k : Kind) (n : ℕ) (t : things.Thing) → is_gone (whole_of [] w) k n ≡ false →
    thing_of k n ≡ Some t → lives t (whole_of asked w) ≡ true
lives_by w asked kind.Cell n t e is = ap (lives_in w asked) (sym is) ∙ not_false _ e
lives_by w asked kind.List n t e is = ap (lives_in w asked) (sym is) ∙ not_false _ e
lives_by w asked kind.Computed n t e is = ap (lives_in w asked) (sym is) ∙ not_false _ e
lives_by w asked kind.Owner n t e is = ap (lives_in w asked) (sym is) ∙ not_false _ e
lives_by w asked kind.Effect n t e is = ap (lives_in w asked) (sym is) ∙ not_false _ e
lives_by w asked kind.Watcher n t e is = ap (lives_in w asked) (sym is) ∙ not_false _ e
lives_by w asked kind.Template n t e is = absurd cc
lives_by w asked kind.Page n t e is = ap (lives_in w asked) (sym is) ∙ not_false _ e

-- a thing that is named lives
pub thing_lives : (w : World) (asked : List HostPlace) (names : Names) (n : List ℕ) (t : things.Thing) → refused_at w names n need.Thing ≡ None →
    thing_named (meaning_of names n) ≡ Some t → lives t (whole_of asked w) ≡ true
thing_lives w asked names n t e is =
    let u = used_thing w names n e in
    lives_by w asked u.meaning.kind u.meaning.number t u.there (sym (ap thing_named u.is) ∙ is)

-- whether a watcher tries a command
pub trying : (t : Option Try) → is_some t ≡ plain.is_trying t
trying None = refl
trying (Some t) = refl

-- a fault that isn't that of what is gone
pub only_memory : (x : EffectFault) → (x ≡ fault.Gone) ⊎ (x ≡ fault.NoMemory) → (x ≡ fault.Gone → ⊥) → x ≡ fault.NoMemory
only_memory x (inl e) there = absurd (there e)
only_memory x (inr e) there = e

-- one that is neither that of what is gone nor that of too much
pub only_three : (x : EffectFault) → (x ≡ fault.Gone → ⊥) → (x ≡ fault.Limit → ⊥) → x ≡ fault.NoMemory
only_three fault.NoMemory there room = refl
only_three fault.Gone there room = absurd (there refl)
only_three fault.Limit there room = absurd (room refl)

-- so many rules, counted by their slacks
pub leaves_count : (asked later : List HostPlace) (a b : ℕ) (m new : Machine) → a ≡ b → Leaves asked later a m new → Leaves asked later b m new
leaves_count asked later a b m new e left = subst (λ (n : ℕ). Leaves asked later n m new) e left
