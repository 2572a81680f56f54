-- What rewirings, disposals and sets do, where the stores do their part.
use Rattle.std.proofs.Common.{◌≡◌, ◌≤◌, ◌++◌, ℕ, Bool, true, false, cond, List, [], ◌∷◌, map, slice_get, Option, Some, None, refl, sym, ap, subst, ◌∙◌, arith, append-nil, append_assoc, ◌↔◌}
use Rattle.std.specs.Option.{option_or}
use Rattle.std.specs.Prelude.{IsErr, Ok, Err}
use Rattle.std.specs.declared.result.Result.{Result}
use Rattle.std.proofs.lemmas.Bool.{eq-eqb}
use Rattle.sig_base.specs.declared.value.Value.{Value}
use Rattle.signal_model.specs.Recipes.{Hosts, Recipe}
use Rattle.signal_model.specs.Signals.{Signals, Cell, Computed, Stands, IsGone, IsCell, IsComputed, is_computed, is_in, is_there, standing, is_cell}
use Rattle.signal_model.specs.Changes.{with_value, with_recipe, without_signal, after_change, after_disposal, after_rewiring}
use Rattle.signal_model.specs.Kept.{AreKept}
use Rattle.signal_model.specs.Memos.{Memos}
use Rattle.signal_laws.proofs.Shared.{set_law, rewire_law, dispose_law}
use Rattle.effect_model.specs.declared.how.How.TheVariants.{Set, Rewire, Gone as Ended}
use Rattle.effect_model.specs.Owners.{ends, the_signal, the_watcher}
use Rattle.effect_model.specs.Worlds as plain
use Rattle.effect_model.specs.Worlds.{Environment, HostState, Watcher, dropped_host, watcher_numbers}
use Rattle.effect_model.specs.Acts.{are_alike, asks_so_far, forget, frozen_by, host_of, host_refused, is_notified, notified_by, or_refused, rewire_signal, rewire_standing, rewiring_refused, set_cell, set_standing, some_gone, told_frozen, told_of, waiting_if, with_drop, with_new_value, with_use, without_node, end_standing, undo}
use Rattle.effect_model.specs.Commands.{new_world}
use Rattle.sig_host.specs.Hosts.{HostPlace, count_at, most_asked}
use Rattle.sig_host.proofs.Shared.{most_asked-dropped}
use Rattle.sig_nodes.specs.Answers.{host_here, host_place}
use Rattle.sig_graph.specs.HostUse.{uses_host}
use Rattle.sig_graph.specs.States.{Seen, State, Becomes, are_there, is_computing, with_disposal, with_rewiring, with_set}
use Rattle.sig_watcher.specs.Tables.{Table, with_each, with_removal}
use Rattle.sig_watcher.specs.Notices.{told_entry}
use Rattle.sig_watcher.proofs.Shared.{entries_told, entries_frozen}
use Rattle.sig_computed.specs.Asked.{AreThere}
use Rattle.sig_state.specs.Equality.{is_alike_here}
use Rattle.sig_state.specs.declared.errors.Gone.{Gone}
use Rattle.sig_state.specs.declared.sets.SetDone.{SetDone}
use Rattle.sig_state.specs.declared.sets.SetDone.TheVariants.{Accepted, Same}
use Rattle.sig_watcher.specs.declared.recipients.Told.{Told}
use Rattle.sig_effect.specs.declared.events.Event.{Event}
use Rattle.sig_effect.specs.declared.events.Event.TheVariants as event
use Rattle.effect_laws.proofs.Shared.{both}
use Rattle.effect_tables.specs.declared.thing.Thing.TheVariants as thing
use Rattle.sig_effect.specs.Events.{AreTold, IsTold, Tells}
use Rattle.sig_effect.specs.Results.{drop_events, dropped_if, AreFrozen, AreNotices, IsFrozen}
use Rattle.sig_effect.specs.Wholes.{SignalStores, host_states, whole_of}
use Rattle.sig_effect.specs.Stores.{environment, Agrees, AreListed, AreOwn, AreUnasked, AreWatched, Does, IsSound}
use Rattle.sig_effect.proofs.Signals.{gone_now, left_now, recipe_beside, recipe_now, value_host}
use Rattle.sig_effect.proofs.Signals.{listed_left, listed_recipe, listed_value, watched_left, watched_still, recipe_keeps, value_keeps, idle_left}
use Rattle.sig_effect.proofs.Users.{host_same, IsEdit, states_after, there_after, unasked_after, own_after, left_count, use_states, drop_states, none_some}
use Rattle.sig_effect.proofs.Watched.{all_mapped, all_without}
use Rattle.sig_effect.proofs.Acts.{does_by, free_place, fresh_place, tells_none, IsWhole}

-- signals that aren't all gone are all there
pub there_by : (b : Bool) (X : Type 0) → X ↔ (b ≡ false) → (X → ⊥) → b ≡ true
there_by true X iff off = refl
there_by false X iff off = absurd (off (iff.1 refl))

-- ---- what is told

-- one more is told
told_behind : (es : List Event) (ts : List plain.Event) (e : Event) (t : plain.Event) → AreTold es ts → IsTold e t → AreTold (es ++ e ∷ []) (ts ++ t ∷ [])
told_behind [] [] e t all one = (one, tt)
told_behind [] (u ∷ us) e t all one = absurd all
told_behind (d ∷ ds) [] e t all one = absurd all
told_behind (d ∷ ds) (u ∷ us) e t all one = (all.0, told_behind ds us e t all.1 one)

pub tells_behind : (before mid after : List Event) (ts : List plain.Event) (e : Event) (t : plain.Event) → Tells before mid ts → IsTold e t → after ≡ mid ++ e ∷ [] →
    Tells before after (ts ++ t ∷ [])
tells_behind before mid after ts e t h one is = record {
  more = h.more ++ e ∷ [];
  behind = is ∙ ap (λ es. es ++ e ∷ []) h.behind ∙ append_assoc before h.more (e ∷ []);
  each = told_behind h.more ts e t h.each one;
}

-- one more is told first
tells_first : (before mid after : List Event) (e : Event) (t : plain.Event) (ts : List plain.Event) → mid ≡ before ++ e ∷ [] → IsTold e t → Tells mid after ts →
    Tells before after (t ∷ ts)
tells_first before mid after e t ts is one h = record {
  more = e ∷ h.more;
  behind = h.behind ∙ ap (λ es. es ++ h.more) is ∙ append_assoc before (e ∷ []) h.more;
  each = (one, h.each);
}

-- a drop is told with its count
abbrev pub drop_told : Option ℕ → List HostState → List plain.Event
drop_told None ss = []
drop_told (Some k) ss = dropped_host k (asks_so_far (slice_get ss k)) ∷ []

pub drop_tells : (left : Option ℕ) (asked : List HostPlace) (ss : List HostState) (before after : List Event) →
    ((l : ℕ) → left ≡ Some l → asks_so_far (slice_get ss l) ≡ count_at asked l) → after ≡ before ++ drop_events left asked → Tells before after (drop_told left ss)
drop_tells None asked ss before after count is = record { more = []; behind = is; each = tt }
drop_tells (Some l) asked ss before after count is = record {
  more = event.Dropped l (count_at asked l) ∷ [];
  behind = is;
  each = (ap (dropped_host l) (count l refl), tt);
}

-- ---- rewirings

-- a computed stands
pub computed_here : (s : Stands) → is_there s ≡ true → is_cell s ≡ false → (c : Computed) × (s ≡ IsComputed c)
computed_here IsGone e k = cc
computed_here (IsCell c) e k = cc
computed_here (IsComputed c) e k = (c, refl)

-- slots that stand are no reason to refuse
slots_fine : (w : plain.World) (ns : List ℕ) → are_there w.signals ns ≡ true → some_gone ns w ≡ None
slots_fine w [] h = refl
slots_fine w (n ∷ ns) h =
    let two = both (is_there (standing w.signals n)) (are_there w.signals ns) h in
    ap (λ b. option_or (cond b None (Some (plain.thing_gone (the_signal n)))) (some_gone ns w)) two.0 ∙ slots_fine w ns two.1

rewiring_fine : (w : plain.World) (n : ℕ) (r : Recipe) → are_there w.signals (n ∷ r.slots) ≡ true → host_refused (host_of r.expression) w ≡ None → rewiring_refused n r w ≡ None
rewiring_fine w n r there free =
    let two = both (is_there (standing w.signals n)) (are_there w.signals r.slots) there in
    ap (λ b. option_or (cond b None (Some (plain.thing_gone (the_signal n)))) (option_or (some_gone r.slots w) (host_refused (host_of r.expression) w))) two.0
    ∙ ap (λ o. option_or o (host_refused (host_of r.expression) w)) (slots_fine w r.slots two.1) ∙ free

-- a use and a drop, in the plain world
changed_whole : (e : plain.Event) (left new : Option ℕ) (v : Signals) (k : Memos) (asked : List HostPlace) (old : SignalStores) →
    with_drop left (with_use new (plain.tell e (record (whole_of asked old) { signals = v; memos = k })))
    ≡ record (whole_of asked old) {
      signals = v;
      memos = k;
      host_states = drop_states left (use_states new (host_states (uses_host old.graph.state.signals) 0 asked));
      told = e ∷ drop_told left (use_states new (host_states (uses_host old.graph.state.signals) 0 asked));
    }
changed_whole e None None v k asked old = refl
changed_whole e None (Some j) v k asked old = refl
changed_whole e (Some l) None v k asked old = refl
changed_whole e (Some l) (Some j) v k asked old = refl

-- a rewiring as an edit of one signal
pub rewire_edit : (asked : List HostPlace) (old : SignalStores) (n : ℕ) (r : Recipe) (c : Computed) → standing old.graph.state.signals n ≡ IsComputed c → Agrees asked old →
    host_refused (host_of r.expression) (whole_of asked old) ≡ None →
    IsEdit old.graph.state.signals (with_recipe old.graph.state.signals n r) n (host_here (standing old.graph.state.signals n)) (host_of r.expression)
rewire_edit asked old n r c stands a free = record {
  before = refl;
  after = ap host_here (recipe_now w n r n c stands (eq-eqb n n refl)) ∙ sym (host_same r.expression);
  other = λ m e. ap host_here (recipe_beside w n r m e);
  listed = a.listed;
  still = listed_recipe w n r a.listed;
  own = a.own;
  free = λ k e. (free_place asked old r.expression free k e).1;
}
  where
    w : Signals
    w = old.graph.state.signals

rewire_is : (asked : List HostPlace) (old : SignalStores) (n : ℕ) (r : Recipe) (c : Computed) → standing old.graph.state.signals n ≡ IsComputed c →
    are_there old.graph.state.signals (n ∷ r.slots) ≡ true → host_refused (host_of r.expression) (whole_of asked old) ≡ None →
    rewire_signal n r (whole_of asked old) ≡ record (whole_of asked old) {
      signals = with_recipe old.graph.state.signals n r;
      memos = after_rewiring old.graph.state.memos n;
      host_states = drop_states (host_here (standing old.graph.state.signals n)) (use_states (host_of r.expression) (host_states (uses_host old.graph.state.signals) 0 asked));
      told = plain.changed_signal n Rewire
          ∷ drop_told (host_here (standing old.graph.state.signals n)) (use_states (host_of r.expression) (host_states (uses_host old.graph.state.signals) 0 asked));
    }
rewire_is asked old n r c stands there free =
    let w0 : plain.World = whole_of asked old in
    let left : host_here (standing old.graph.state.signals n) ≡ host_of c.recipe.expression = ap host_here stands ∙ sym (host_same c.recipe.expression) in
    ap (λ o. or_refused o (rewire_standing (standing w0.signals n) n r w0) w0) (rewiring_fine w0 n r there free)
    ∙ ap (λ s. rewire_standing s n r w0) stands
    ∙ ap (λ o. with_drop o (with_use (host_of r.expression)
    (plain.tell (plain.changed_signal n Rewire) (record w0 { signals = with_recipe w0.signals n r; memos = after_rewiring w0.memos n })))) (sym left)
    ∙ changed_whole (plain.changed_signal n Rewire) (host_here (standing old.graph.state.signals n)) (host_of r.expression) (with_recipe w0.signals n r) (after_rewiring w0.memos n) asked old

pub rewire_does : (hosts : Hosts) (asked : List HostPlace) (old new : SignalStores) (before after : List Event) (n : ℕ) (r : Recipe) (c : Computed) →
    standing old.graph.state.signals n ≡ IsComputed c → are_there old.graph.state.signals (n ∷ r.slots) ≡ true →
    Becomes old.graph new.graph (with_rewiring old.graph.state n r) → new.watchers ≡ old.watchers → Agrees asked old →
    host_refused (host_of r.expression) (whole_of asked old) ≡ None →
    after ≡ (before ++ event.Change n Rewire ∷ []) ++ drop_events (host_here (standing old.graph.state.signals n)) asked → IsSound hosts asked old →
    Does hosts asked (dropped_if (host_here (standing old.graph.state.signals n)) asked) old new before after (rewire_signal n r)
rewire_does hosts asked old new before after n r c stands there b same a free told sound =
    let w : Signals = old.graph.state.signals in
    let left : Option ℕ = host_here (standing w n) in
    let edit = rewire_edit asked old n r c stands a free in
    let fresh = fresh_place asked old hosts r.expression free sound in
    let signals : new.graph.state.signals ≡ with_recipe w n r = ap (λ (s : State). s.signals) b.state in
    does_by hosts asked (dropped_if left asked) old new before after (rewire_signal n r) _ (rewire_is asked old n r c stands there free)
    (record {
      signals = signals;
      memos = ap (λ (s : State). s.memos) b.state;
      states = ap (λ (v : Signals). host_states (uses_host v) 0 (dropped_if left asked)) signals
          ∙ states_after w (with_recipe w n r) n left (host_of r.expression) asked edit a.there fresh;
      watchers = ap (λ (t : Table). t.watchers) same;
      made = λ i. record ((new_world 0).made) { signals = b.given i; watchers = (same i).made };
      rest = refl;
    })
    (tells_first before (before ++ event.Change n Rewire ∷ []) after (event.Change n Rewire) (plain.changed_signal n Rewire) _ refl refl
    (drop_tells left asked (use_states (host_of r.expression) (host_states (uses_host w) 0 asked)) (before ++ event.Change n Rewire ∷ []) after
    (left_count w (with_recipe w n r) n left (host_of r.expression) asked edit a.there) told))
    (record {
      kept = subst (λ (s : State). AreKept hosts s.signals s.memos) (sym b.state) (rewire_law hosts w old.graph.state.memos n c r stands sound.kept);
      unasked = subst (λ (v : Signals). AreUnasked (dropped_if left asked) v) (sym signals)
          (unasked_after w (with_recipe w n r) n left (host_of r.expression) asked edit a.there sound.unasked);
    })

pub rewire_agrees : (asked : List HostPlace) (old new : SignalStores) (n : ℕ) (r : Recipe) (c : Computed) → standing old.graph.state.signals n ≡ IsComputed c →
    Becomes old.graph new.graph (with_rewiring old.graph.state n r) → new.watchers ≡ old.watchers → host_refused (host_of r.expression) (whole_of asked old) ≡ None →
    Agrees asked old → Agrees (dropped_if (host_here (standing old.graph.state.signals n)) asked) new
rewire_agrees asked old new n r c stands b same free a =
    let w : Signals = old.graph.state.signals in
    let left : Option ℕ = host_here (standing w n) in
    let edit = rewire_edit asked old n r c stands a free in
    let signals : new.graph.state.signals ≡ with_recipe w n r = ap (λ (s : State). s.signals) b.state in
    record {
      idle = λ m. ap (λ (s : State). is_computing s m) b.state ∙ a.idle m;
      listed = subst AreListed (sym signals) (listed_recipe w n r a.listed);
      there = subst (λ (v : Signals). AreThere v (dropped_if left asked)) (sym signals)
          (there_after w (with_recipe w n r) n left (host_of r.expression) asked edit (λ k e. (free_place asked old r.expression free k e).0) a.there);
      own = subst AreOwn (sym signals) (own_after w (with_recipe w n r) n left (host_of r.expression) edit);
      watched = subst (λ x. x) (λ i. AreWatched (sym signals i) (sym same i).watchers)
          (watched_still w (with_recipe w n r) old.watchers.watchers (λ m h. recipe_keeps w n r m h) a.watched);
    }

-- ---- ends of signals

pub dispose_edit : (asked : List HostPlace) (old : SignalStores) (n : ℕ) → Agrees asked old →
    IsEdit old.graph.state.signals (without_signal old.graph.state.signals n) n (host_here (standing old.graph.state.signals n)) None
dispose_edit asked old n a = record {
  before = refl;
  after = ap host_here (gone_now w n);
  other = λ m e. ap host_here (left_now w n m e);
  listed = a.listed;
  still = listed_left w n a.listed;
  own = a.own;
  free = λ k e. absurd (none_some k e);
}
  where
    w : Signals
    w = old.graph.state.signals

disposed_whole : (env : Environment) (asked : List HostPlace) (old : SignalStores) (n : ℕ) (s : Stands) → is_there s ≡ true →
    plain.tell (plain.gone (the_signal n)) (end_standing s n (whole_of asked old)) ≡ record (whole_of asked old) {
      signals = without_signal old.graph.state.signals n;
      memos = after_disposal old.graph.state.memos n;
      watchers = map (forget n) old.watchers.watchers;
      host_states = drop_states (host_here s) (host_states (uses_host old.graph.state.signals) 0 asked);
      told = (drop_told (host_here s) (host_states (uses_host old.graph.state.signals) 0 asked) ++ plain.changed_signal n Ended ∷ []) ++ plain.gone (the_signal n) ∷ [];
    }
disposed_whole env asked old n IsGone h = cc
disposed_whole env asked old n (IsCell c) h = refl
disposed_whole env asked old n (IsComputed c) h =
    ap (λ o. plain.tell (plain.gone (the_signal n)) (end_by o)) (host_same c.recipe.expression) ∙ go (host_place c.recipe.expression)
  where
    end_by : Option ℕ → plain.World
    end_by o = without_node n (with_drop o (whole_of asked old))

    go : (o : Option ℕ) → plain.tell (plain.gone (the_signal n)) (end_by o) ≡ record (whole_of asked old) {
      signals = without_signal old.graph.state.signals n;
      memos = after_disposal old.graph.state.memos n;
      watchers = map (forget n) old.watchers.watchers;
      host_states = drop_states o (host_states (uses_host old.graph.state.signals) 0 asked);
      told = (drop_told o (host_states (uses_host old.graph.state.signals) 0 asked) ++ plain.changed_signal n Ended ∷ []) ++ plain.gone (the_signal n) ∷ [];
    }
    go None = refl
    go (Some k) = refl

end_is : (env : Environment) (asked : List HostPlace) (old : SignalStores) (n : ℕ) → is_there (standing old.graph.state.signals n) ≡ true →
    undo env (ends (the_signal n)) (whole_of asked old) ≡ record (whole_of asked old) {
      signals = without_signal old.graph.state.signals n;
      memos = after_disposal old.graph.state.memos n;
      watchers = map (forget n) old.watchers.watchers;
      host_states = drop_states (host_here (standing old.graph.state.signals n)) (host_states (uses_host old.graph.state.signals) 0 asked);
      told = (drop_told (host_here (standing old.graph.state.signals n)) (host_states (uses_host old.graph.state.signals) 0 asked) ++ plain.changed_signal n Ended ∷ [])
          ++ plain.gone (the_signal n) ∷ [];
    }
end_is env asked old n there = disposed_whole env asked old n (standing old.graph.state.signals n) there

pub dispose_does : (hosts : Hosts) (slacks : List ℕ) (asked : List HostPlace) (old new : SignalStores) (before after : List Event) (n : ℕ) →
    is_there (standing old.graph.state.signals n) ≡ true → Becomes old.graph new.graph (with_disposal old.graph.state n) → new.watchers ≡ with_each (forget n) old.watchers →
    Agrees asked old → after ≡ ((before ++ drop_events (host_here (standing old.graph.state.signals n)) asked) ++ event.Change n Ended ∷ []) ++ event.Gone (thing.Signal n) ∷ [] → IsSound hosts asked old →
    Does hosts asked (dropped_if (host_here (standing old.graph.state.signals n)) asked) old new before after (undo (environment hosts slacks) (ends (the_signal n)))
dispose_does hosts slacks asked old new before after n there b same a told sound =
    let w : Signals = old.graph.state.signals in
    let left : Option ℕ = host_here (standing w n) in
    let edit = dispose_edit asked old n a in
    let ss : List HostState = host_states (uses_host w) 0 asked in
    let signals : new.graph.state.signals ≡ without_signal w n = ap (λ (s : State). s.signals) b.state in
    does_by hosts asked (dropped_if left asked) old new before after (undo (environment hosts slacks) (ends (the_signal n))) _
    (end_is (environment hosts slacks) asked old n there)
    (record {
      signals = signals;
      memos = ap (λ (s : State). s.memos) b.state;
      states = ap (λ (v : Signals). host_states (uses_host v) 0 (dropped_if left asked)) signals
          ∙ states_after w (without_signal w n) n left None asked edit a.there (λ k e. absurd (none_some k e));
      watchers = ap (λ (t : Table). t.watchers) same;
      made = λ i. record ((new_world 0).made) { signals = b.given i; watchers = (same i).made };
      rest = refl;
    })
    (tells_behind before ((before ++ drop_events left asked) ++ event.Change n Ended ∷ []) after (drop_told left ss ++ plain.changed_signal n Ended ∷ [])
    (event.Gone (thing.Signal n)) (plain.gone (the_signal n))
    (tells_behind before (before ++ drop_events left asked) ((before ++ drop_events left asked) ++ event.Change n Ended ∷ []) (drop_told left ss)
    (event.Change n Ended) (plain.changed_signal n Ended)
    (drop_tells left asked ss before (before ++ drop_events left asked) (left_count w (without_signal w n) n left None asked edit a.there) refl) refl refl) refl told)
    (record {
      kept = subst (λ (s : State). AreKept hosts s.signals s.memos) (sym b.state) (dispose_law hosts w old.graph.state.memos n there sound.kept);
      unasked = subst (λ (v : Signals). AreUnasked (dropped_if left asked) v) (sym signals) (unasked_after w (without_signal w n) n left None asked edit a.there sound.unasked);
    })

pub dispose_agrees : (asked : List HostPlace) (old new : SignalStores) (n : ℕ) → Becomes old.graph new.graph (with_disposal old.graph.state n) →
    new.watchers ≡ with_each (forget n) old.watchers → Agrees asked old → Agrees (dropped_if (host_here (standing old.graph.state.signals n)) asked) new
dispose_agrees asked old new n b same a =
    let w : Signals = old.graph.state.signals in
    let left : Option ℕ = host_here (standing w n) in
    let edit = dispose_edit asked old n a in
    let signals : new.graph.state.signals ≡ without_signal w n = ap (λ (s : State). s.signals) b.state in
    record {
      idle = λ m. ap (λ (s : State). is_computing s m) b.state ∙ idle_left old.graph.state.progress n a.idle m;
      listed = subst AreListed (sym signals) (listed_left w n a.listed);
      there = subst (λ (v : Signals). AreThere v (dropped_if left asked)) (sym signals)
          (there_after w (without_signal w n) n left None asked edit (λ k e. absurd (none_some k e)) a.there);
      own = subst AreOwn (sym signals) (own_after w (without_signal w n) n left None edit);
      watched = subst (λ x. x) (λ i. AreWatched (sym signals i) (sym same i).watchers) (watched_left w n old.watchers.watchers a.watched);
    }

-- ---- ends of watchers

pub remove_does : (hosts : Hosts) (slacks : List ℕ) (asked : List HostPlace) (old new : SignalStores) (before after : List Event) (n : ℕ) →
    new.graph ≡ old.graph → new.watchers ≡ with_removal n old.watchers →
    after ≡ before ++ event.Gone (thing.Watcher n) ∷ [] → IsSound hosts asked old →
    Does hosts asked asked old new before after (undo (environment hosts slacks) (ends (the_watcher n)))
remove_does hosts slacks asked old new before after n same removed told sound =
    let w0 : plain.World = whole_of asked old in
    does_by hosts asked asked old new before after (undo (environment hosts slacks) (ends (the_watcher n)))
    (record w0 { watchers = (with_removal n old.watchers).watchers; told = plain.gone (the_watcher n) ∷ [] }) refl
    (record {
      signals = ap (λ (g : Seen). g.state.signals) same;
      memos = ap (λ (g : Seen). g.state.memos) same;
      states = ap (λ (g : Seen). host_states (uses_host g.state.signals) 0 asked) same;
      watchers = ap (λ (t : Table). t.watchers) removed;
      made = λ i. record ((new_world 0).made) { signals = (same i).given; watchers = (removed i).made };
      rest = refl;
    })
    (record { more = event.Gone (thing.Watcher n) ∷ []; behind = told; each = (refl, tt) })
    (record {
      kept = subst (λ (g : Seen). AreKept hosts g.state.signals g.state.memos) (sym same) sound.kept;
      unasked = subst (λ (g : Seen). AreUnasked asked g.state.signals) (sym same) sound.unasked;
    })

pub remove_agrees : (asked : List HostPlace) (old new : SignalStores) (n : ℕ) → new.graph ≡ old.graph → new.watchers ≡ with_removal n old.watchers → Agrees asked old → Agrees asked new
remove_agrees asked old new n same removed a = record {
  idle = λ m. ap (λ (g : Seen). is_computing g.state m) same ∙ a.idle m;
  listed = subst (λ (g : Seen). AreListed g.state.signals) (sym same) a.listed;
  there = subst (λ (g : Seen). AreThere g.state.signals asked) (sym same) a.there;
  own = subst (λ (g : Seen). AreOwn g.state.signals) (sym same) a.own;
  watched = subst (λ x. x) (λ i. AreWatched (sym same i).state.signals (sym removed i).watchers)
      (all_without _ (λ (x : Watcher). x.number) n old.watchers.watchers a.watched);
}

-- ---- sets

-- the notices tell what the plain world tells
numbers_told : (xs : List Watcher) → AreTold (map event.Notify (watcher_numbers xs)) (told_of xs)
numbers_told [] = tt
numbers_told (x ∷ xs) = (refl, numbers_told xs)

frozen_told : (ns : List ℕ) (e : Event) → IsFrozen ns e → IsTold e (plain.frozen ns)
frozen_told ns (event.Frozen ws) h = ap plain.frozen (sym h)
frozen_told ns (event.Change n how) h = absurd h
frozen_told ns (event.Run r) h = absurd h
frozen_told ns (event.Notify w) h = absurd h
frozen_told ns (event.Dropped p n) h = absurd h
frozen_told ns (event.Gone t) h = absurd h
frozen_told ns (event.Log v) h = absurd h
frozen_told ns (event.Body e reads) h = absurd h
frozen_told ns (event.Fail e f) h = absurd h
frozen_told ns (event.Cleanup e) h = absurd h
frozen_told ns (event.RefusedGone t) h = absurd h
frozen_told ns (event.RefusedHost p) h = absurd h
frozen_told ns (event.Made e p l) h = absurd h
frozen_told ns (event.Noted e) h = absurd h

frozen_tells : (before mid after : List Event) (ts : List plain.Event) (ns : List ℕ) → Tells before mid ts → AreFrozen ns mid after → Tells before after (ts ++ told_frozen ns)
frozen_tells before mid after ts [] h is =
    subst (λ x. x) (λ i. Tells before (sym is i) (sym (append-nil ts) i)) h
frozen_tells before mid after ts (n ∷ ns) h is = tells_behind before mid after ts is.event (plain.frozen (n ∷ ns)) h (frozen_told (n ∷ ns) is.event is.frozen) is.behind

pub notices_tell : (xs : List Watcher) (before after : List Event) → AreNotices (map told_entry xs) before after → Tells before after (told_of xs ++ told_frozen (frozen_by xs))
notices_tell xs before after h =
    let mid : List Event = before ++ map event.Notify (watcher_numbers xs) in
    frozen_tells before mid after (told_of xs) (frozen_by xs) (record { more = map event.Notify (watcher_numbers xs); behind = refl; each = numbers_told xs })
    (subst (λ x. x) (λ i. AreFrozen (entries_frozen xs i) (before ++ map event.Notify (entries_told xs i)) after) h)

-- who is waiting afterwards watches what it watched
pub watched_waiting : (w : Signals) (f : Watcher → Bool) (xs : List Watcher) → AreWatched w xs → AreWatched w (map (waiting_if f) xs)
watched_waiting w f xs all = all_mapped _ _ (waiting_if f) xs (λ x h. go x (f x) h) all
  where
    go : (x : Watcher) (b : Bool) → ((n : ℕ) → is_in n x.signals ≡ true → is_there (standing w n) ≡ true) →
        (n : ℕ) → is_in n (cond b (record x { watching = false }) x).signals ≡ true → is_there (standing w n) ≡ true
    go x true h = h
    go x false h = h

-- a cell is as it was where nothing was set
set_same : (env : Environment) (n : ℕ) (v : Value) (w : plain.World) → is_alike_here env.slacks (standing w.signals n) v ≡ true → set_cell env n v w ≡ w
set_same env n v w alike = go (standing w.signals n) alike
  where
    go : (s : Stands) → is_alike_here env.slacks s v ≡ true → set_standing s env n v w ≡ w
    go IsGone h = cc
    go (IsCell c) h = ap (λ b. cond b w (with_new_value n v w)) h
    go (IsComputed c) h = cc

-- and has the value where it was
set_other : (env : Environment) (n : ℕ) (v : Value) (w : plain.World) (c : Cell) → standing w.signals n ≡ IsCell c → is_alike_here env.slacks (standing w.signals n) v ≡ false →
    set_cell env n v w ≡ with_new_value n v w
set_other env n v w c stands alike =
    let off : are_alike env.slacks c.rule c.value v ≡ false = sym (ap (λ s. is_alike_here env.slacks s v) stands) ∙ alike in
    ap (λ s. set_standing s env n v w) stands ∙ ap (λ b. cond b w (with_new_value n v w)) off

-- a cell stands
pub cell_here : (s : Stands) → is_there s ≡ true → is_computed s ≡ false → (c : Cell) × (s ≡ IsCell c)
cell_here IsGone e k = cc
cell_here (IsCell c) e k = (c, refl)
cell_here (IsComputed c) e k = cc

pub same_does : (hosts : Hosts) (slacks : List ℕ) (asked : List HostPlace) (old new : SignalStores) (before after : List Event) (n : ℕ) (v : Value) →
    is_alike_here slacks (standing old.graph.state.signals n) v ≡ true → new ≡ old → after ≡ before → IsSound hosts asked old →
    Does hosts asked asked old new before after (set_cell (environment hosts slacks) n v)
same_does hosts slacks asked old new before after n v alike same told sound =
    does_by hosts asked asked old new before after (set_cell (environment hosts slacks) n v) (whole_of asked old) (set_same (environment hosts slacks) n v (whole_of asked old) alike)
    (subst (λ (x : SignalStores). IsWhole asked x.graph x.watchers (whole_of asked old)) (sym same) (record {
      signals = refl;
      memos = refl;
      states = refl;
      watchers = refl;
      made = refl;
      rest = refl;
    }))
    (subst (λ es. Tells before es []) (sym told) (tells_none before))
    (subst (λ (x : SignalStores). IsSound hosts asked x) (sym same) sound)

pub set_does : (hosts : Hosts) (slacks : List ℕ) (asked : List HostPlace) (old new : SignalStores) (before after : List Event) (n : ℕ) (v : Value) (c : Cell) →
    standing old.graph.state.signals n ≡ IsCell c → is_alike_here slacks (standing old.graph.state.signals n) v ≡ false → Becomes old.graph new.graph (with_set old.graph.state n v) →
    new.watchers ≡ with_each (waiting_if (is_notified new.graph.state.signals new.graph.state.memos n)) old.watchers →
    AreNotices (map told_entry (notified_by new.graph.state.signals new.graph.state.memos n old.watchers.watchers)) (before ++ event.Change n Set ∷ []) after →
    IsSound hosts asked old →
    Does hosts asked asked old new before after (set_cell (environment hosts slacks) n v)
set_does hosts slacks asked old new before after n v c stands alike b same notices sound =
    let w : Signals = old.graph.state.signals in
    let k : Memos = old.graph.state.memos in
    let signals : new.graph.state.signals ≡ with_value w n v = ap (λ (s : State). s.signals) b.state in
    let memos : new.graph.state.memos ≡ after_change k n = ap (λ (s : State). s.memos) b.state in
    let xs : List Watcher = notified_by (with_value w n v) (after_change k n) n old.watchers.watchers in
    does_by hosts asked asked old new before after (set_cell (environment hosts slacks) n v) (with_new_value n v (whole_of asked old))
    (set_other (environment hosts slacks) n v (whole_of asked old) c stands alike)
    (record {
      signals = signals;
      memos = memos;
      states = ap (λ (x : Signals). host_states (uses_host x) 0 asked) signals;
      watchers = ap (λ (t : Table). t.watchers) same ∙ (λ i. map (waiting_if (is_notified (signals i) (memos i) n)) old.watchers.watchers);
      made = λ i. record ((new_world 0).made) { signals = b.given i; watchers = (same i).made };
      rest = refl;
    })
    (tells_first before (before ++ event.Change n Set ∷ []) after (event.Change n Set) (plain.changed_signal n Set) _ refl refl
    (notices_tell xs (before ++ event.Change n Set ∷ []) after
    (subst (λ x. x) (λ i. AreNotices (map told_entry (notified_by (signals i) (memos i) n old.watchers.watchers)) (before ++ event.Change n Set ∷ []) after) notices)))
    (record {
      kept = subst (λ (s : State). AreKept hosts s.signals s.memos) (sym b.state) (set_law hosts w k n c v stands sound.kept);
      unasked = subst (λ (x : Signals). AreUnasked asked x) (sym signals) (record { never = sound.unasked.never });
    })

-- whether a set was accepted
abbrev is_accepted : Result SetDone Gone → Bool
is_accepted (Ok Accepted) = true
is_accepted _ = false

-- then it isn't one that changed nothing, nor one that was refused
pub not_same : (r : Result SetDone Gone) (b : Bool) → r ≡ Ok Accepted → (r ≡ Ok Same) ↔ (b ≡ true) → b ≡ false
not_same r false e iff = refl
not_same r true e iff = let clash : true ≡ false = sym (ap is_accepted e) ∙ ap is_accepted (iff.1 refl) in absurd cc

pub not_accepted : (r : Result SetDone Gone) → r ≡ Ok Same → r ≡ Ok Accepted → ⊥
not_accepted r same accepted = let clash : true ≡ false = sym (ap is_accepted accepted) ∙ ap is_accepted same in cc

pub not_refused : (r : Result SetDone Gone) → r ≡ Ok Accepted → IsErr r → ⊥
not_refused (Ok d) e h = cc
not_refused (Err g) e h = let clash : false ≡ true = ap is_accepted e in cc

-- so the cell stands
pub set_there : (s : Stands) (r : Result SetDone Gone) → r ≡ Ok Accepted → IsErr r ↔ (is_there s ≡ false) → is_there s ≡ true
set_there s r accepted gone = there_by (is_there s) (IsErr r) gone (not_refused r accepted)

-- a set that was accepted, by what its calls answered
pub set_accepted : (hosts : Hosts) (slacks : List ℕ) (asked : List HostPlace) (old new : SignalStores) (before after : List Event) (n : ℕ) (v : Value) (r : Result SetDone Gone) →
    r ≡ Ok Accepted → is_computed (standing old.graph.state.signals n) ≡ false → IsErr r ↔ (is_there (standing old.graph.state.signals n) ≡ false) →
    (r ≡ Ok Same) ↔ (is_alike_here slacks (standing old.graph.state.signals n) v ≡ true) → Becomes old.graph new.graph (with_set old.graph.state n v) →
    new.watchers ≡ with_each (waiting_if (is_notified new.graph.state.signals new.graph.state.memos n)) old.watchers →
    (none ts us : List Told) → none ≡ [] → ts ≡ none ++ map told_entry (notified_by new.graph.state.signals new.graph.state.memos n old.watchers.watchers) → us ≡ ts →
    (mid : List Event) → mid ≡ before ++ event.Change n Set ∷ [] → AreNotices us mid after → IsSound hosts asked old → Does hosts asked asked old new before after (set_cell (environment hosts slacks) n v)
set_accepted hosts slacks asked old new before after n v r accepted kind gone same b waits none ts us empty told same_told mid change notices sound =
    let there : is_there (standing old.graph.state.signals n) ≡ true = there_by (is_there (standing old.graph.state.signals n)) (IsErr r) gone (not_refused r accepted) in
    let c = cell_here (standing old.graph.state.signals n) there kind in
    let xs : List Told = map told_entry (notified_by new.graph.state.signals new.graph.state.memos n old.watchers.watchers) in
    set_does hosts slacks asked old new before after n v c.0 c.1 (not_same r (is_alike_here slacks (standing old.graph.state.signals n) v) accepted same) b waits
    (subst (λ es. AreNotices xs es after) change (subst (λ (z : List Told). AreNotices z mid after) (same_told ∙ told ∙ ap (λ (z : List Told). z ++ xs) empty) notices)) sound

pub set_agrees : (asked : List HostPlace) (old new : SignalStores) (n : ℕ) (v : Value) → Becomes old.graph new.graph (with_set old.graph.state n v) →
    new.watchers ≡ with_each (waiting_if (is_notified new.graph.state.signals new.graph.state.memos n)) old.watchers → Agrees asked old → Agrees asked new
set_agrees asked old new n v b same a =
    let w : Signals = old.graph.state.signals in
    let signals : new.graph.state.signals ≡ with_value w n v = ap (λ (s : State). s.signals) b.state in
    record {
      idle = λ m. ap (λ (s : State). is_computing s m) b.state ∙ a.idle m;
      listed = subst AreListed (sym signals) (listed_value w n v a.listed);
      there = subst (λ (x : Signals). AreThere x asked) (sym signals) (record { each = a.there.each });
      own = subst AreOwn (sym signals) (record { one = λ i m p x y. a.own.one i m p (sym (value_host w n v i) ∙ x) (sym (value_host w n v m) ∙ y) });
      watched = subst (λ x. x) (λ i. AreWatched (sym signals i) (sym same i).watchers)
          (watched_waiting (with_value w n v) (is_notified new.graph.state.signals new.graph.state.memos n) old.watchers.watchers
          (watched_still w (with_value w n v) old.watchers.watchers (λ m h. value_keeps w n v m h) a.watched));
    }

-- ---- the same, by what was left and what is known of the places afterwards

-- a drop is of no place that was asked more often
pub most_left : (left : Option ℕ) (asked later : List HostPlace) → later ≡ dropped_if left asked → most_asked later ≤ most_asked asked
most_left None asked later is = let e : most_asked later ≡ most_asked asked = ap most_asked is in omega (arith, e)
most_left (Some k) asked later is = let e : most_asked later ≡ most_asked asked = ap most_asked is ∙ most_asked-dropped asked k in omega (arith, e)

pub rewire_done : (hosts : Hosts) (asked later : List HostPlace) (old new : SignalStores) (before after : List Event) (n : ℕ) (r : Recipe) (left : Option ℕ) →
    is_cell (standing old.graph.state.signals n) ≡ false → are_there old.graph.state.signals (n ∷ r.slots) ≡ true →
    Becomes old.graph new.graph (with_rewiring old.graph.state n r) → new.watchers ≡ old.watchers → Agrees asked old →
    host_refused (host_of r.expression) (whole_of asked old) ≡ None → left ≡ host_here (standing old.graph.state.signals n) → later ≡ dropped_if left asked →
    (mid : List Event) → mid ≡ before ++ event.Change n Rewire ∷ [] → after ≡ mid ++ drop_events left asked → IsSound hosts asked old → Does hosts asked later old new before after (rewire_signal n r)
rewire_done hosts asked later old new before after n r left kind there b same a free was is mid change told sound =
    let two = both (is_there (standing old.graph.state.signals n)) (are_there old.graph.state.signals r.slots) there in
    let c = computed_here (standing old.graph.state.signals n) two.0 kind in
    subst (λ xs. Does hosts asked xs old new before after (rewire_signal n r)) (sym (is ∙ ap (λ o. dropped_if o asked) was))
    (rewire_does hosts asked old new before after n r c.0 c.1 there b same a free (told ∙ ap (λ es. es ++ drop_events left asked) change ∙ ap (λ o. (before ++ event.Change n Rewire ∷ []) ++ drop_events o asked) was) sound)

pub rewire_agreed : (asked later : List HostPlace) (old new : SignalStores) (n : ℕ) (r : Recipe) (left : Option ℕ) →
    is_cell (standing old.graph.state.signals n) ≡ false → are_there old.graph.state.signals (n ∷ r.slots) ≡ true →
    Becomes old.graph new.graph (with_rewiring old.graph.state n r) → new.watchers ≡ old.watchers → host_refused (host_of r.expression) (whole_of asked old) ≡ None →
    left ≡ host_here (standing old.graph.state.signals n) → later ≡ dropped_if left asked → Agrees asked old → Agrees later new
rewire_agreed asked later old new n r left kind there b same free was is a =
    let two = both (is_there (standing old.graph.state.signals n)) (are_there old.graph.state.signals r.slots) there in
    let c = computed_here (standing old.graph.state.signals n) two.0 kind in
    subst (λ xs. Agrees xs new) (sym (is ∙ ap (λ o. dropped_if o asked) was)) (rewire_agrees asked old new n r c.0 c.1 b same free a)

pub dispose_done : (hosts : Hosts) (slacks : List ℕ) (asked later : List HostPlace) (old new : SignalStores) (before mid ended after : List Event) (n : ℕ) (left : Option ℕ) →
    is_there (standing old.graph.state.signals n) ≡ true → Becomes old.graph new.graph (with_disposal old.graph.state n) → new.watchers ≡ with_each (forget n) old.watchers →
    Agrees asked old → left ≡ host_here (standing old.graph.state.signals n) → later ≡ dropped_if left asked → mid ≡ before ++ drop_events left asked →
    ended ≡ mid ++ event.Change n Ended ∷ [] → after ≡ ended ++ event.Gone (thing.Signal n) ∷ [] → IsSound hosts asked old →
    Does hosts asked later old new before after (undo (environment hosts slacks) (ends (the_signal n)))
dispose_done hosts slacks asked later old new before mid ended after n left there b same a was is dropped changed told sound =
    subst (λ xs. Does hosts asked xs old new before after (undo (environment hosts slacks) (ends (the_signal n)))) (sym (is ∙ ap (λ o. dropped_if o asked) was))
    (dispose_does hosts slacks asked old new before after n there b same a
    (told ∙ ap (λ es. es ++ event.Gone (thing.Signal n) ∷ []) (changed ∙ ap (λ es. es ++ event.Change n Ended ∷ []) (dropped ∙ ap (λ o. before ++ drop_events o asked) was))) sound)

pub dispose_agreed : (asked later : List HostPlace) (old new : SignalStores) (n : ℕ) (left : Option ℕ) → Becomes old.graph new.graph (with_disposal old.graph.state n) →
    new.watchers ≡ with_each (forget n) old.watchers → left ≡ host_here (standing old.graph.state.signals n) → later ≡ dropped_if left asked → Agrees asked old → Agrees later new
dispose_agreed asked later old new n left b same was is a = subst (λ xs. Agrees xs new) (sym (is ∙ ap (λ o. dropped_if o asked) was)) (dispose_agrees asked old new n b same a)
