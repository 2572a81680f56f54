-- What each change does, where the stores do their part.
use Rattle.std.proofs.Common.{◌≡◌, ◌==◌, ◌+◌, ◌&&◌, not, ℕ, Bool, true, false, cond, List, [], slice_get, Option, Some, None, refl, sym, ap, subst, ◌∙◌, arith, append-nil, inl, inr}
use Rattle.std.proofs.lemmas.Bool.{eqb-true}
use Rattle.sig_base.specs.declared.value.Value.{Value}
use Rattle.signal_model.specs.Recipes.{Hosts, Recipe, Expression}
use Rattle.signal_model.specs.Signals.{Signals, Cell, Computed, is_there, standing}
use Rattle.signal_model.specs.Changes.{with_cell, with_computed}
use Rattle.signal_model.specs.Kept.{AreKept}
use Rattle.signal_model.proofs.Shared.{tested}
use Rattle.signal_laws.proofs.Shared.{cell_law, computed_law}
use Rattle.effect_model.specs.Worlds as plain
use Rattle.effect_model.specs.Acts.{host_of, host_refused, is_free, with_use}
use Rattle.effect_model.specs.Commands.{new_world, with_new_cell, with_new_computed}
use Rattle.effect_model.specs.Watchers.{signals_at_rest}
use Rattle.sig_host.specs.Hosts.{HostPlace, count_at, is_there as is_there_at}
use Rattle.sig_nodes.specs.Answers.{host_here}
use Rattle.sig_graph.specs.HostUse.{uses_host}
use Rattle.sig_graph.specs.States.{Seen, State, Makes, is_computing, is_given}
use Rattle.sig_graph.specs.States as states
use Rattle.sig_watcher.specs.Tables.{Table}
use Rattle.sig_computed.specs.Asked.{AreThere}
use Rattle.sig_effect.specs.declared.events.Event.{Event}
use Rattle.sig_effect.specs.Events.{Tells}
use Rattle.sig_effect.specs.Wholes.{SignalStores, host_states, whole, whole_of}
use Rattle.sig_effect.specs.Stores.{Agrees, AreListed, AreOwn, AreUnasked, AreWatched, Does, IsSound}
use Rattle.sig_effect.proofs.HostStates.{free_at}
use Rattle.sig_effect.proofs.Signals.{gone_host, none_there, cell_beside, cell_made, computed_beside, computed_made}
use Rattle.sig_effect.proofs.Signals.{listed_cell, listed_computed, watched_still, cell_keeps, computed_keeps, idle_made}
use Rattle.sig_effect.proofs.Users.{host_same, IsEdit, states_after, there_after, unasked_after, own_after, use_states}

-- ---- an act by its plain world

-- the stores stand for a plain world, whatever it told
pub record IsWhole (asked : List HostPlace) (g : Seen) (t : Table) (w : plain.World) : Type 0 where
  pub signals : g.state.signals ≡ w.signals
  pub memos : g.state.memos ≡ w.memos
  pub states : host_states (uses_host g.state.signals) 0 asked ≡ w.host_states
  pub watchers : t.watchers ≡ w.watchers
  pub made : record ((new_world 0).made) { signals = g.given; watchers = t.made } ≡ w.made
  pub rest : record (new_world 0) { signals = w.signals; memos = w.memos; host_states = w.host_states; watchers = w.watchers; made = w.made } ≡ signals_at_rest w

pub whole_is : (asked : List HostPlace) (g : Seen) (t : Table) (w : plain.World) → IsWhole asked g t w → whole asked g t ≡ signals_at_rest w
whole_is asked g t w h =
    (λ i. record (new_world 0) { signals = h.signals i; memos = h.memos i; host_states = h.states i; watchers = h.watchers i; made = h.made i }) ∙ h.rest

-- an act that comes to a plain world that the stores stand for
pub does_by : (hosts : Hosts) (asked later : List HostPlace) (old new : SignalStores) (before after : List Event) (act : plain.World → plain.World) (w : plain.World) →
    act (whole_of asked old) ≡ w → IsWhole later new.graph new.watchers w → Tells before after w.told → IsSound hosts later new →
    Does hosts asked later old new before after act
does_by hosts asked later old new before after act w is whole tells sound = record {
  whole = whole_is later new.graph new.watchers w whole ∙ ap signals_at_rest (sym is);
  told = subst (λ (x : plain.World). Tells before after x.told) (sym is) tells;
  sound = sound;
}

-- nothing is told
pub tells_none : (before : List Event) → Tells before before []
tells_none before = record { more = []; behind = sym (append-nil before); each = tt }

-- ---- a cell is made

pub cell_does : (hosts : Hosts) (asked : List HostPlace) (old new : SignalStores) (value : Value) (rule : Option ℕ) (id : ℕ) →
    Makes old.graph new.graph id (states.with_new_cell old.graph.state (record { name = id; value = value; rule = rule })) → new.watchers ≡ old.watchers →
    IsSound hosts asked old → Does hosts asked asked old new [] [] (with_new_cell value rule None)
cell_does hosts asked old new value rule id m same sound =
    let c : Cell = record { name = id; value = value; rule = rule } in
    let w : Signals = old.graph.state.signals in
    let signals : new.graph.state.signals ≡ with_cell w c = ap (λ (s : State). s.signals) m.state in
    does_by hosts asked asked old new [] [] (with_new_cell value rule None) (with_new_cell value rule None (whole_of asked old)) refl
    (record {
      signals = signals ∙ ap (λ (n : ℕ). with_cell w (record { name = n; value = value; rule = rule })) m.id;
      memos = ap (λ (s : State). s.memos) m.state ∙ ap (λ (n : ℕ). (states.with_new_cell old.graph.state (record { name = n; value = value; rule = rule })).memos) m.id;
      states = ap (λ (v : Signals). host_states (uses_host v) 0 asked) signals;
      watchers = ap (λ (t : Table). t.watchers) same;
      made = λ i. record ((new_world 0).made) { signals = m.given i; watchers = (same i).made };
      rest = refl;
    })
    (tells_none [])
    (record {
      kept = subst (λ (s : State). AreKept hosts s.signals s.memos) (sym m.state) (cell_law hosts (is_given old.graph) w old.graph.state.memos c m.used m.fresh sound.kept);
      unasked = subst (λ (v : Signals). AreUnasked asked v) (sym signals) (record { never = sound.unasked.never });
    })

pub cell_agrees : (asked : List HostPlace) (old new : SignalStores) (value : Value) (rule : Option ℕ) (id : ℕ) →
    Makes old.graph new.graph id (states.with_new_cell old.graph.state (record { name = id; value = value; rule = rule })) → new.watchers ≡ old.watchers →
    Agrees asked old → Agrees asked new
cell_agrees asked old new value rule id m same a =
    let c : Cell = record { name = id; value = value; rule = rule } in
    let w : Signals = old.graph.state.signals in
    let signals : new.graph.state.signals ≡ with_cell w c = ap (λ (s : State). s.signals) m.state in
    let off : is_there (standing w id) ≡ false = none_there old.graph id m.used m.fresh in
    record {
      idle = λ n. ap (λ (s : State). is_computing s n) m.state ∙ a.idle n;
      listed = subst AreListed (sym signals) (listed_cell w c off a.listed);
      there = subst (λ (v : Signals). AreThere v asked) (sym signals) (record { each = a.there.each });
      own = subst AreOwn (sym signals) (record { one = λ n m p x y. a.own.one n m p (sym (host_cell w c off n) ∙ x) (sym (host_cell w c off m) ∙ y) });
      watched = subst (λ x. x) (λ i. AreWatched (sym signals i) (sym same i).watchers) (watched_still w (with_cell w c) old.watchers.watchers (λ n h. cell_keeps w c n off h) a.watched);
    }
  where
    host_cell : (w : Signals) (c : Cell) → is_there (standing w c.name) ≡ false → (n : ℕ) → host_here (standing (with_cell w c) n) ≡ host_here (standing w n)
    host_cell w c off n = elim (tested (n == c.name)) [
      | inl e ↦
          let q : n ≡ c.name = eqb-true n c.name e in
          ap (λ k. host_here (standing (with_cell w c) k)) q ∙ ap host_here (cell_made w c off) ∙ sym (ap (λ k. host_here (standing w k)) q ∙ gone_host (standing w c.name) off)
      | inr e ↦ ap host_here (cell_beside w c n e)
    ]

-- ---- a computed is made

-- a host formula that isn't refused is there, and nobody asks it
pub free_place : (asked : List HostPlace) (old : SignalStores) (e : Expression) → host_refused (host_of e) (whole_of asked old) ≡ None →
    (k : ℕ) → host_of e ≡ Some k → (is_there_at asked k ≡ true) × (uses_host old.graph.state.signals k ≡ false)
free_place asked old e free k at = go (host_of e) free at
  where
    tests : (there asks : Bool) → (there && not asks) ≡ true → (there ≡ true) × (asks ≡ false)
    tests true true h = cc
    tests true false h = (refl, refl)
    tests false asks h = cc

    open_place : (b : Bool) → cond b None (Some (plain.host_taken k)) ≡ None → b ≡ true
    open_place true h = refl
    open_place false h = cc

    go : (o : Option ℕ) → host_refused o (whole_of asked old) ≡ None → o ≡ Some k → (is_there_at asked k ≡ true) × (uses_host old.graph.state.signals k ≡ false)
    go None f e = cc
    go (Some j) f e =
        let same : j ≡ k = cc in
        let zero_k : 0 + k ≡ k = omega arith in
        let f2 : host_refused (Some k) (whole_of asked old) ≡ None = subst (λ n. host_refused (Some n) (whole_of asked old) ≡ None) same f in
        let on : is_free (slice_get (host_states (uses_host old.graph.state.signals) 0 asked) k) ≡ true = open_place _ f2 in
        let two = tests (is_there_at asked k) (uses_host old.graph.state.signals (0 + k)) (sym (free_at (uses_host old.graph.state.signals) 0 asked k) ∙ on) in
        (two.0, ap (uses_host old.graph.state.signals) (sym zero_k) ∙ two.1)

-- a making as an edit of one signal
computed_edit : (asked : List HostPlace) (old : SignalStores) (c : Computed) → is_there (standing old.graph.state.signals c.name) ≡ false → Agrees asked old →
    host_refused (host_of c.recipe.expression) (whole_of asked old) ≡ None →
    IsEdit old.graph.state.signals (with_computed old.graph.state.signals c) c.name None (host_of c.recipe.expression)
computed_edit asked old c off a free = record {
  before = gone_host (standing w c.name) off;
  after = ap host_here (computed_made w c off) ∙ sym (host_same c.recipe.expression);
  other = λ m e. ap host_here (computed_beside w c m e);
  listed = a.listed;
  still = listed_computed w c off a.listed;
  own = a.own;
  free = λ k e. (free_place asked old c.recipe.expression free k e).1;
}
  where
    w : Signals
    w = old.graph.state.signals

-- a use of a host formula, in the plain world
pub used_whole : (o : Option ℕ) (w : plain.World) → with_use o w ≡ record w { host_states = use_states o w.host_states }
used_whole None w = refl
used_whole (Some k) w = refl

pub fresh_place : (asked : List HostPlace) (old : SignalStores) (hosts : Hosts) (e : Expression) → host_refused (host_of e) (whole_of asked old) ≡ None → IsSound hosts asked old →
    (k : ℕ) → host_of e ≡ Some k → (is_there_at asked k ≡ true) × (count_at asked k ≡ 0)
fresh_place asked old hosts e free sound k at = let two = free_place asked old e free k at in (two.0, sound.unasked.never k two.0 two.1)

pub computed_does : (hosts : Hosts) (asked : List HostPlace) (old new : SignalStores) (r : Recipe) (id : ℕ) →
    Makes old.graph new.graph id (states.with_new_computed old.graph.state (record { name = id; recipe = r })) → new.watchers ≡ old.watchers → Agrees asked old →
    host_refused (host_of r.expression) (whole_of asked old) ≡ None → IsSound hosts asked old →
    Does hosts asked asked old new [] [] (λ w. with_use (host_of r.expression) (with_new_computed r None w))
computed_does hosts asked old new r id m same a free sound =
    let c : Computed = record { name = id; recipe = r } in
    let w : Signals = old.graph.state.signals in
    let off : is_there (standing w id) ≡ false = none_there old.graph id m.used m.fresh in
    let edit = computed_edit asked old c off a free in
    let fresh = fresh_place asked old hosts r.expression free sound in
    let signals : new.graph.state.signals ≡ with_computed w c = ap (λ (s : State). s.signals) m.state in
    does_by hosts asked asked old new [] [] (λ w. with_use (host_of r.expression) (with_new_computed r None w))
    (record (with_new_computed r None (whole_of asked old)) { host_states = use_states (host_of r.expression) (host_states (uses_host w) 0 asked) })
    (used_whole (host_of r.expression) (with_new_computed r None (whole_of asked old)))
    (record {
      signals = signals ∙ ap (λ (n : ℕ). with_computed w (record { name = n; recipe = r })) m.id;
      memos = ap (λ (s : State). s.memos) m.state ∙ ap (λ (n : ℕ). (states.with_new_computed old.graph.state (record { name = n; recipe = r })).memos) m.id;
      states = ap (λ (v : Signals). host_states (uses_host v) 0 asked) signals ∙ states_after w (with_computed w c) id None (host_of r.expression) asked edit a.there fresh;
      watchers = ap (λ (t : Table). t.watchers) same;
      made = λ i. record ((new_world 0).made) { signals = m.given i; watchers = (same i).made };
      rest = refl;
    })
    (tells_none [])
    (record {
      kept = subst (λ (s : State). AreKept hosts s.signals s.memos) (sym m.state) (computed_law hosts (is_given old.graph) w old.graph.state.memos c m.used m.fresh sound.kept);
      unasked = subst (λ (v : Signals). AreUnasked asked v) (sym signals) (unasked_after w (with_computed w c) id None (host_of r.expression) asked edit a.there sound.unasked);
    })

pub computed_agrees : (asked : List HostPlace) (old new : SignalStores) (r : Recipe) (id : ℕ) →
    Makes old.graph new.graph id (states.with_new_computed old.graph.state (record { name = id; recipe = r })) → new.watchers ≡ old.watchers → Agrees asked old →
    host_refused (host_of r.expression) (whole_of asked old) ≡ None → Agrees asked new
computed_agrees asked old new r id m same a free =
    let c : Computed = record { name = id; recipe = r } in
    let w : Signals = old.graph.state.signals in
    let off : is_there (standing w id) ≡ false = none_there old.graph id m.used m.fresh in
    let edit = computed_edit asked old c off a free in
    let signals : new.graph.state.signals ≡ with_computed w c = ap (λ (s : State). s.signals) m.state in
    record {
      idle = λ n. ap (λ (s : State). is_computing s n) m.state ∙ idle_made old.graph.state.progress id n (a.idle n);
      listed = subst AreListed (sym signals) (listed_computed w c off a.listed);
      there = subst (λ (v : Signals). AreThere v asked) (sym signals)
          (there_after w (with_computed w c) id None (host_of r.expression) asked edit (λ k e. (free_place asked old r.expression free k e).0) a.there);
      own = subst AreOwn (sym signals) (own_after w (with_computed w c) id None (host_of r.expression) edit);
      watched = subst (λ x. x) (λ i. AreWatched (sym signals i) (sym same i).watchers)
          (watched_still w (with_computed w c) old.watchers.watchers (λ n h. computed_keeps w c n off h) a.watched);
    }
