-- What events name was made.
use Rattle.std.proofs.Common.{◌≡◌, ◌==◌, ◌<◌, ◌≤◌, ◌+◌, ◌++◌, ℕ, zero, suc, Bool, true, List, [], ◌∷◌, map, Option, Some, None, refl, sym, subst, ◌∙◌, arith, inl, inr}
use Rattle.std.specs.List.{All, AllByRecursion, filter}
use Rattle.std.proofs.lemmas.Bool.{eqb-true}
use Rattle.std.proofs.lemmas.List.Elements.{All-append, All-from_recursion}
use Rattle.signal_model.specs.Signals.{is_in}
use Rattle.signal_model.proofs.Shared.{either}
use Rattle.effect_model.specs.declared.how.How.{How}
use Rattle.effect_model.specs.declared.how.How.TheVariants.{Gone as Ended}
use Rattle.effect_model.specs.Worlds.{Watcher, watcher_numbers}
use Rattle.effect_model.specs.Acts.{frozen_by}
use Rattle.sig_host.specs.Hosts.{HostPlace}
use Rattle.sig_graph.specs.States.{Seen, is_given}
use Rattle.sig_graph.proofs.Shared.{given_same}
use Rattle.sig_computed.specs.declared.notes.RunNote.{RunNote}
use Rattle.sig_computed.specs.Notes.{note_of, AreNotesGiven}
use Rattle.sig_watcher.specs.Numbers.{AreNumbered, Rises}
use Rattle.sig_watcher.specs.Notices.{told_entry}
use Rattle.sig_watcher.proofs.Shared.{entries_told, entries_frozen}
use Rattle.sig_effect.specs.declared.events.Event.{Event}
use Rattle.sig_effect.specs.declared.events.Event.TheVariants as event
use Rattle.effect_tables.proofs.Shared.{all_filtered}
use Rattle.effect_tables.specs.declared.thing.Thing.{Thing}
use Rattle.effect_tables.specs.declared.thing.Thing.TheVariants as thing
use Rattle.sig_effect.specs.Events.{AreNamed, IsNamed}
use Rattle.sig_effect.specs.Results.{drop_events, values_told, AreFrozen, AreNotices, IsFrozen}

-- ---- facts of all

-- a fact that follows from another
pub each_weaker : {A : Type 0} (P Q : A → Type 0) (xs : List A) → ((x : A) → P x → Q x) → All P xs → All Q xs
each_weaker P Q xs keeps all = λ k d lt. keeps _ (all k d lt)

-- ---- ids that were given

-- what was named by one graph is named by another that gave as many ids
named_one : (g h : Seen) (made more : ℕ) (e : Event) → h.given ≡ g.given → more ≡ made → IsNamed g made e → IsNamed h more e
named_one g h made more (event.Run n) same as' i = record {
  name = given_same g h n.id same ∙ i.name;
  reads = each_weaker (λ m. is_given g m ≡ true) (λ m. is_given h m ≡ true) (note_of n).reads (λ m q. given_same g h m same ∙ q) i.reads;
}
named_one g h made more (event.Change n how) same as' i = given_same g h n same ∙ i
named_one g h made more (event.Notify n) same as' i = subst (λ m. n < m) (sym as') i
named_one g h made more (event.Frozen ns) same as' i = subst (λ m. All (λ n. n < m) ns.items) (sym as') i
named_one g h made more (event.Dropped place asks) same as' i = tt
named_one g h made more (event.Gone (thing.Signal n)) same as' i = given_same g h n same ∙ i
named_one g h made more (event.Gone (thing.Watcher n)) same as' i = subst (λ m. n < m) (sym as') i
named_one g h made more (event.Gone (thing.Owner n)) same as' i = tt
named_one g h made more (event.Gone (thing.Effect n)) same as' i = tt
named_one g h made more (event.Gone (thing.Page n)) same as' i = tt
named_one g h made more (event.Log v) same as' i = tt
named_one g h made more (event.Body e reads) same as' i = tt
named_one g h made more (event.Fail e f) same as' i = tt
named_one g h made more (event.Cleanup e) same as' i = tt
named_one g h made more (event.RefusedGone t) same as' i = tt
named_one g h made more (event.RefusedHost p) same as' i = tt
named_one g h made more (event.Made e p l) same as' i = tt
named_one g h made more (event.Noted e) same as' i = tt

pub named_still : (g h : Seen) (made more : ℕ) (es : List Event) → h.given ≡ g.given → more ≡ made → AreNamed g made es → AreNamed h more es
named_still g h made more es same as' all = each_weaker (IsNamed g made) (IsNamed h more) es (λ e i. named_one g h made more e same as' i) all

-- those that are put behind
pub named_behind : (g : Seen) (made : ℕ) (before more after : List Event) → after ≡ before ++ more → AreNamed g made before → AllByRecursion (IsNamed g made) more → AreNamed g made after
named_behind g made before more after is old new = subst (AreNamed g made) (sym is) (All-append (IsNamed g made) before more old (All-from_recursion (IsNamed g made) more new))

-- a drop names nothing
pub named_drop : (g : Seen) (made : ℕ) (left : Option ℕ) (asked : List HostPlace) → AllByRecursion (IsNamed g made) (drop_events left asked)
named_drop g made None asked = tt
named_drop g made (Some k) asked = (tt, tt)

pub named_left : (g h : Seen) (made : ℕ) (left : Option ℕ) (asked : List HostPlace) (before after : List Event) → h.given ≡ g.given → after ≡ before ++ drop_events left asked →
    AreNamed g made before → AreNamed h made after
named_left g h made left asked before after same told all =
    named_behind h made before (drop_events left asked) after told (named_still g h made made before same refl all) (named_drop h made left asked)

-- a change names what was changed
pub named_changed : (g : Seen) (made : ℕ) (before mid : List Event) (n : ℕ) (how : How) → is_given g n ≡ true → mid ≡ before ++ event.Change n how ∷ [] →
    AreNamed g made before → AreNamed g made mid
named_changed g made before mid n how given is old = named_behind g made before (event.Change n how ∷ []) mid is old (given, tt)

-- and so do those of several cells
pub named_values : (g : Seen) (made : ℕ) (ns : List ℕ) → AllByRecursion (λ (n : ℕ). is_given g n ≡ true) ns → AllByRecursion (IsNamed g made) (values_told ns)
named_values g made [] all = tt
named_values g made (n ∷ ns) all = (all.0, named_values g made ns all.1)

-- and an end names what ended
pub named_gone : (g : Seen) (made : ℕ) (before after : List Event) (t : Thing) → IsNamed g made (event.Gone t) → after ≡ before ++ event.Gone t ∷ [] → AreNamed g made before → AreNamed g made after
named_gone g made before after t i told all = named_behind g made before (event.Gone t ∷ []) after told all (i, tt)

pub named_ended : (g h : Seen) (made more : ℕ) (left : Option ℕ) (asked : List HostPlace) (before mid ended after : List Event) (n : ℕ) → h.given ≡ g.given → more ≡ made →
    is_given g n ≡ true → mid ≡ before ++ drop_events left asked → ended ≡ mid ++ event.Change n Ended ∷ [] → after ≡ ended ++ event.Gone (thing.Signal n) ∷ [] →
    AreNamed g made before → AreNamed h more after
named_ended g h made more left asked before mid ended after n same as' given dropped changed told all =
    let there : is_given h n ≡ true = given_same g h n same ∙ given in
    named_gone h more ended after (thing.Signal n) there told
    (named_still h h made more ended refl as' (named_changed h made mid ended n Ended there changed (named_left g h made left asked before mid same dropped all)))

-- ---- numbers of watchers

rises_to : (low : ℕ) (xs : List Watcher) (high : ℕ) → Rises low xs high → low ≤ high
rises_to low [] high h = h
rises_to low (x ∷ xs) high h =
    let a : low ≤ x.number = h.0 in
    let b : x.number + 1 ≤ high = rises_to (x.number + 1) xs high h.1 in
    omega (arith, a, b)

-- those that live are below the count
numbers_below : (low : ℕ) (xs : List Watcher) (high : ℕ) → Rises low xs high → AllByRecursion (λ (x : Watcher). x.number < high) xs
numbers_below low [] high h = tt
numbers_below low (x ∷ xs) high h = (let b : x.number + 1 ≤ high = rises_to (x.number + 1) xs high h.1 in omega (arith, b), numbers_below (x.number + 1) xs high h.1)

pub alive_below : (xs : List Watcher) (n made : ℕ) → AreNumbered xs made → is_in n (watcher_numbers xs) ≡ true → n < made
alive_below xs n made h here = go xs (numbers_below 0 xs made h.rising) here
  where
    go : (ys : List Watcher) → AllByRecursion (λ (x : Watcher). x.number < made) ys → is_in n (watcher_numbers ys) ≡ true → n < made
    go [] all e = cc
    go (y ∷ ys) all e = elim (either (n == y.number) (is_in n (watcher_numbers ys)) e) [
      | inl q ↦ let same : n ≡ y.number = eqb-true n y.number q in let b : y.number < made = all.0 in omega (arith, same, b)
      | inr q ↦ go ys all.1 q
    ]

numbers_of : (made : ℕ) (xs : List Watcher) → AllByRecursion (λ (x : Watcher). x.number < made) xs → AllByRecursion (λ (n : ℕ). n < made) (map (λ (x : Watcher). x.number) xs)
numbers_of made [] all = tt
numbers_of made (x ∷ xs) all = (all.0, numbers_of made xs all.1)

notified_named : (g : Seen) (made : ℕ) (xs : List Watcher) → AllByRecursion (λ (x : Watcher). x.number < made) xs → AllByRecursion (IsNamed g made) (map event.Notify (watcher_numbers xs))
notified_named g made [] all = tt
notified_named g made (x ∷ xs) all = (all.0, notified_named g made xs all.1)

frozen_named : (g : Seen) (made : ℕ) (ns : List ℕ) (e : Event) → IsFrozen ns e → All (λ n. n < made) ns → IsNamed g made e
frozen_named g made ns (event.Frozen ws) h all = subst (All (λ n. n < made)) (sym h) all
frozen_named g made ns (event.Run r) h all = absurd h
frozen_named g made ns (event.Change n how) h all = absurd h
frozen_named g made ns (event.Notify w) h all = absurd h
frozen_named g made ns (event.Dropped p n) h all = absurd h
frozen_named g made ns (event.Gone t) h all = absurd h
frozen_named g made ns (event.Log v) h all = absurd h
frozen_named g made ns (event.Body e reads) h all = absurd h
frozen_named g made ns (event.Fail e f) h all = absurd h
frozen_named g made ns (event.Cleanup e) h all = absurd h
frozen_named g made ns (event.RefusedGone t) h all = absurd h
frozen_named g made ns (event.RefusedHost p) h all = absurd h
frozen_named g made ns (event.Made e p l) h all = absurd h
frozen_named g made ns (event.Noted e) h all = absurd h

frozen_behind : (g : Seen) (made : ℕ) (ns : List ℕ) (mid after : List Event) → AllByRecursion (λ (n : ℕ). n < made) ns → AreFrozen ns mid after → AreNamed g made mid → AreNamed g made after
frozen_behind g made [] mid after all is old = subst (AreNamed g made) (sym is) old
frozen_behind g made (n ∷ ns) mid after all is old =
    named_behind g made mid (is.event ∷ []) after is.behind old (frozen_named g made (n ∷ ns) is.event is.frozen (All-from_recursion (λ (n : ℕ). n < made) (n ∷ ns) all), tt)

-- what a change notifies lives
pub notices_named : (g : Seen) (made : ℕ) (xs : List Watcher) (f : Watcher → Bool) (before after : List Event) → AreNumbered xs made →
    AreNotices (map told_entry (filter f xs)) before after → AreNamed g made before → AreNamed g made after
notices_named g made xs f before after h notices old =
    let all = all_filtered (λ (x : Watcher). x.number < made) f xs (numbers_below 0 xs made h.rising) in
    let mid : List Event = before ++ map event.Notify (watcher_numbers (filter f xs)) in
    frozen_behind g made (frozen_by (filter f xs)) mid after
    (numbers_of made (filter (λ (x : Watcher). x.tries) (filter f xs)) (all_filtered (λ (x : Watcher). x.number < made) (λ (x : Watcher). x.tries) (filter f xs) all))
    (subst (λ x. x) (λ i. AreFrozen (entries_frozen (filter f xs) i) (before ++ map event.Notify (entries_told (filter f xs) i)) after) notices)
    (named_behind g made before (map event.Notify (watcher_numbers (filter f xs))) mid refl old (notified_named g made (filter f xs) all))

-- ---- runs

-- notes of what was given
pub runs_named : (g : Seen) (made : ℕ) (ns : List RunNote) → AreNotesGiven g (map note_of ns) → All (IsNamed g made) (map event.Run ns)
runs_named g made [] all k d lt = absurd (omega (arith, lt))
runs_named g made (n ∷ ns) all zero d lt = all zero (note_of n) (omega arith)
runs_named g made (n ∷ ns) all (suc k) d lt = runs_named g made ns (λ j e l. all (suc j) e (omega (arith, l))) k d (omega (arith, lt))

-- where the notes are put behind the events
pub runs_behind : (g h : Seen) (made : ℕ) (ns : List RunNote) (before after : List Event) → h.given ≡ g.given → AreNotesGiven h (map note_of ns) →
    after ≡ before ++ map event.Run ns → AreNamed g made before → AreNamed h made after
runs_behind g h made ns before after same given told all =
    subst (AreNamed h made) (sym told) (All-append (IsNamed h made) before (map event.Run ns) (named_still g h made made before same refl all) (runs_named h made ns given))

pub none_given : (g : Seen) → AreNotesGiven g []
none_given g = λ k d lt. absurd (omega (arith, lt))
