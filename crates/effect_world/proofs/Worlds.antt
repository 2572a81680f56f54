-- What is done to signals alone, or to the tables alone, is done to the world.
use Rattle.std.proofs.Common.{◌≡◌, ℕ, ◌≤◌, ◌+◌, ◌++◌, Bool, true, false, List, [], ◌∷◌, Option, Some, None, length, map, refl, sym, ap, subst, ◌∙◌, arith}
use Rattle.sig_base.specs.declared.value.Value.{Value}
use Rattle.signal_model.specs.Recipes.{Hosts, Recipe}
use Rattle.signal_model.specs.Signals.{Signals, is_in}
use Rattle.effect_model.specs.Acts.{host_of, host_refused, with_use}
use Rattle.effect_model.specs.Commands.{changed_watcher, with_new_cell, with_new_computed, with_new_page, with_new_watcher}
use Rattle.effect_model.specs.Owners.{Thing, the_signal, the_owner, nothing, alone, made_inside, listed}
use Rattle.effect_model.specs.Worlds as plain
use Rattle.effect_model.specs.Watchers.{signals_at_rest}
use Rattle.effect_laws.specs.Frames.{IsOfSignals, with_part}
use Rattle.effect_laws.proofs.SharedFrames.{framed_settle, part_same}
use Rattle.effect_tables.specs.declared.tables.Tables.{Tables}
use Rattle.effect_tables.specs.Children.{adopted}
use Rattle.effect_tables.specs.Consistency.{TablesAgree, LeavesOut}
use Rattle.effect_model.specs.Worlds.{at_rest}
use Rattle.effect_tables.specs.Placed.{placed, tree_of}
use Rattle.effect_tables.proofs.Shared.{listed_tree, placed_rests}
use Rattle.effect_teardown.specs.Trees.{AreFormed, CanStand, IsFormed}
use Rattle.effect_teardown.proofs.Shared.{formed_listed, formed_put}
use Rattle.sig_host.specs.Hosts.{HostPlace}
use Rattle.sig_owner.specs.Trees.{has_thing, owned_of}
use Rattle.sig_effect.specs.declared.events.Event.{Event}
use Rattle.sig_effect.specs.Events.{Tells}
use Rattle.sig_graph.specs.States.{Seen, no_state}
use Rattle.sig_watcher.specs.Tables.{Table, with_changed, with_each, with_new}
use Rattle.sig_effect.specs.Stores as signals
use Rattle.sig_effect.specs.Stores.{AreWatched}
use Rattle.sig_effect.specs.Wholes as wholes
use Rattle.sig_effect.specs.Wholes.{SignalStores}
use Rattle.sig_effect.proofs.Shared.{tells_none}
use Rattle.effect_world.specs.declared.world.World.{World}
use Rattle.effect_world.specs.Stores.{AreOwned, Does, Hears, IsSound}
use Rattle.sig_effect.specs.Events.{AreNamed}
use Rattle.effect_world.specs.Answers.{Changed}
use Rattle.effect_world.specs.Signals.{Acts}
use Rattle.effect_world.specs.Wholes.{stores_of}

-- an act on signals
pub signals_done : (hosts : Hosts) (asked later : List HostPlace) (old new : World) (before after : List Event) (act : plain.World → plain.World) →
    Acts hosts asked later old new before after act → IsOfSignals act → new.tables ≡ old.tables → TablesAgree old.tables → Does hosts asked later old new before after act
signals_done hosts asked later old new before after act a f same h =
    let s : plain.World = wholes.whole_of asked (stores_of old) in
    let x : plain.World = act s in
    let framed : act (placed old.tables s) ≡ with_part x (placed old.tables s) = f.framed (placed old.tables s) in
    record {
      whole =
          (λ i. placed (same i) (a.whole i))
          ∙ (λ i. record (placed old.tables (signals_at_rest x)) { owned = sym (listed_tree old.tables h) i })
          ∙ ap at_rest (sym framed);
      told = subst (λ (w : plain.World). Tells before after w.told) (sym framed) a.told;
      sound = a.sound;
    }

-- a change of the tables
pub tables_done : (hosts : Hosts) (asked : List HostPlace) (old new : World) (events : List Event) (act : plain.World → plain.World) →
    ((w : plain.World) → placed new.tables w ≡ act (placed old.tables w)) → stores_of new ≡ stores_of old → TablesAgree new.tables → IsSound hosts asked old → Does hosts asked asked old new events events act
tables_done hosts asked old new events act is same h sound =
    let s : plain.World = wholes.whole_of asked (stores_of old) in
    record {
      whole = (λ i. placed new.tables (wholes.whole_of asked (same i))) ∙ sym (placed_rests new.tables s h) ∙ ap at_rest (is s);
      told = subst (λ (w : plain.World). Tells events events w.told) (is s) (tells_none events);
      sound = subst (λ (w : SignalStores). signals.IsSound hosts asked w) (sym same) sound;
    }

-- the tables stand as they did, where no signal was made
pub owned_still : (old new : World) → new.graph.given ≡ old.graph.given → new.tables ≡ old.tables → AreOwned old → AreOwned new
owned_still old new given same h = record {
  tables = subst TablesAgree (sym same) h.tables;
  formed = subst (λ (t : Tables). AreFormed (tree_of t)) (sym same) h.formed;
  fresh = λ n l. ap (λ (t : Tables). has_thing (the_signal n) (owned_of t.store)) same ∙ h.fresh n (subst (λ k. k ≤ n) given l);
}

-- what was changed among signals is changed in the world
pub changed_whole : (slacks : List ℕ) (old new : World) (before after : List Event) (steps : ℕ) (act : plain.Environment → plain.World → plain.World) →
    ((hosts : Hosts) (asked : List HostPlace) → IsSound hosts asked old → Acts hosts asked asked old new before after (act (signals.environment hosts slacks))) →
    ((asked : List HostPlace) → signals.Agrees asked (stores_of old) → signals.Agrees asked (stores_of new)) → ((env : plain.Environment) → IsOfSignals (act env)) →
    ((count : ℕ) → signals.AreRuled count old.graph.state.signals → signals.AreRuled count new.graph.state.signals) →
    (AreNamed old.graph old.watchers.made before → AreNamed new.graph new.watchers.made after) →
    new.tables ≡ old.tables → new.graph.given ≡ old.graph.given → new.watchers.made ≡ old.watchers.made → new.graph.state.worn ≤ old.graph.state.worn + steps →
    length before ≤ length after → (Hears old → Hears new) → Changed slacks old new before after steps act
changed_whole slacks old new before after steps act acts agreed framed rules named same given made worn told heard = record {
  acts = acts;
  agreed = agreed;
  does = λ hosts asked owned sound.
      let env : plain.Environment = signals.environment hosts slacks in
      signals_done hosts asked asked old new before after (act env) (acts hosts asked sound) (framed env) same owned.tables;
  agrees = λ asked a. record { signals = agreed asked a.signals; owned = owned_still old new given same a.owned; heard = heard a.heard };
  rules = rules;
  named = named;
  given = given;
  made = made;
  worn = worn;
  told = told;
}

-- nothing was changed, and nothing is told
pub changed_nothing : (slacks : List ℕ) (old new : World) (events : List Event) (steps : ℕ) (act : plain.Environment → plain.World → plain.World) → new ≡ old →
    ((hosts : Hosts) (asked : List HostPlace) → IsSound hosts asked old → Acts hosts asked asked old old events events (act (signals.environment hosts slacks))) →
    ((env : plain.Environment) → IsOfSignals (act env)) → Changed slacks old new events events steps act
changed_nothing slacks old new events steps act is acts framed =
    subst (λ (w : World). Changed slacks old w events events steps act) (sym is)
    (changed_whole slacks old old events events steps act acts (λ asked a. a) framed (λ count h. h) (λ h. h) refl refl refl (omega arith) (omega arith) (λ h. h))

-- where no watcher lives, what is done to each of them leaves them as they are
pub unwatched_same : (f : plain.Watcher → plain.Watcher) (t : Table) → t.watchers ≡ [] → t ≡ with_each f t
unwatched_same f t none = ap (λ (ws : List plain.Watcher). record t { watchers = ws }) (none ∙ sym (ap (map f) none))

-- ---- each act on signals

pub settle_done : (hosts : Hosts) (slacks : List ℕ) (asked later : List HostPlace) (old new : World) (before after : List Event) (names : List ℕ) →
    Acts hosts asked later old new before after (plain.settle (signals.environment hosts slacks) names) → new.tables ≡ old.tables → TablesAgree old.tables →
    Does hosts asked later old new before after (plain.settle (signals.environment hosts slacks) names)
settle_done hosts slacks asked later old new before after names a same h =
    signals_done hosts asked later old new before after (plain.settle (signals.environment hosts slacks) names) a (framed_settle (signals.environment hosts slacks) names) same h

-- watchers are made and changed among signals
framed_watcher : (tries : Bool) → IsOfSignals (with_new_watcher tries)
framed_watcher tries = record { framed = λ w. part_same (with_new_watcher tries w) }

framed_watch : (n : ℕ) (f : plain.Watcher → plain.Watcher) → IsOfSignals (changed_watcher n f)
framed_watch n f = record { framed = λ w. part_same (changed_watcher n f w) }

-- watchers were changed, or one was made, and nothing is told
quiet_done : (hosts : Hosts) (asked : List HostPlace) (old new : World) (t : Table) (act : plain.World → plain.World) → new.graph ≡ old.graph → new.watchers ≡ t →
    wholes.whole asked old.graph t ≡ signals_at_rest (act (wholes.whole_of asked (stores_of old))) → (act (wholes.whole_of asked (stores_of old))).told ≡ [] →
    IsOfSignals act → new.tables ≡ old.tables → TablesAgree old.tables → IsSound hosts asked old → Does hosts asked asked old new [] [] act
quiet_done hosts asked old new t act graph after is quiet f same h sound =
    signals_done hosts asked asked old new [] [] act
    (record {
      whole = (λ i. wholes.whole asked (graph i) (after i)) ∙ is;
      told = subst (Tells [] []) (sym quiet) (tells_none []);
      sound = subst (λ (g : Seen). signals.IsSound hosts asked (record { graph = g; watchers = new.watchers })) (sym graph) (record { kept = sound.kept; unasked = sound.unasked });
    })
    f same h

pub watcher_done : (hosts : Hosts) (asked : List HostPlace) (old new : World) (tries : Bool) → new.graph ≡ old.graph → new.watchers ≡ with_new tries old.watchers →
    new.tables ≡ old.tables → TablesAgree old.tables → IsSound hosts asked old → Does hosts asked asked old new [] [] (with_new_watcher tries)
watcher_done hosts asked old new tries graph after same h sound =
    quiet_done hosts asked old new (with_new tries old.watchers) (with_new_watcher tries) graph after refl refl (framed_watcher tries) same h sound

pub watch_done : (hosts : Hosts) (asked : List HostPlace) (old new : World) (n : ℕ) (f : plain.Watcher → plain.Watcher) → new.graph ≡ old.graph →
    new.watchers ≡ with_changed n f old.watchers → new.tables ≡ old.tables → TablesAgree old.tables → IsSound hosts asked old → Does hosts asked asked old new [] [] (changed_watcher n f)
watch_done hosts asked old new n f graph after same h sound =
    quiet_done hosts asked old new (with_changed n f old.watchers) (changed_watcher n f) graph after refl refl (framed_watch n f) same h sound

-- where nothing was made, each cell has its rule
pub none_ruled : (rules : ℕ) → signals.AreRuled rules no_state.signals
none_ruled rules = record { each = λ n. record { below = λ rule is. absurd (cc) } }

-- a watcher that watches nothing is watched for rightly
pub watched_more : (w : Signals) (xs : List plain.Watcher) (x : plain.Watcher) → x.signals ≡ [] → AreWatched w xs → AreWatched w (xs ++ x ∷ [])
watched_more w [] x none all = ((λ m e. let clash : true ≡ false = sym e ∙ ap (is_in m) none in absurd cc), tt)
watched_more w (y ∷ xs) x none all = (all.0, watched_more w xs x none all.1)

-- ---- makings

-- a signal is made, and put inside the owner that is given
pub cell_done : (hosts : Hosts) (asked : List HostPlace) (old new : World) (value : Value) (rule inside : Option ℕ) (n : ℕ) → n ≡ old.graph.given →
    signals.Does hosts asked asked (stores_of old) (stores_of new) [] [] (with_new_cell value rule None) → TablesAgree new.tables →
    ((w : plain.World) → at_rest (placed new.tables w) ≡ at_rest (adopted n inside (placed old.tables w))) → Does hosts asked asked old new [] [] (with_new_cell value rule inside)
cell_done hosts asked old new value rule inside n id d h is = record {
  whole =
      sym (placed_rests new.tables (wholes.whole_of asked (stores_of new)) h) ∙ is (wholes.whole_of asked (stores_of new))
      ∙ (λ i. at_rest (adopted (id i) inside (placed old.tables (d.whole i))));
  told = tells_none [];
  sound = d.sound;
}

-- a host formula is refused by the whole as by its signals
pub host_same : (o : Option ℕ) (t : Tables) (s : plain.World) → host_refused o (placed t s) ≡ host_refused o s
host_same None t s = refl
host_same (Some k) t s = refl

pub computed_done : (hosts : Hosts) (asked : List HostPlace) (old new : World) (r : Recipe) (inside : Option ℕ) (n : ℕ) → n ≡ old.graph.given →
    signals.Does hosts asked asked (stores_of old) (stores_of new) [] [] (λ w. with_use (host_of r.expression) (with_new_computed r None w)) → TablesAgree new.tables →
    ((w : plain.World) → at_rest (placed new.tables w) ≡ at_rest (adopted n inside (placed old.tables w))) →
    Does hosts asked asked old new [] [] (λ w. with_use (host_of r.expression) (with_new_computed r inside w))
computed_done hosts asked old new r inside n id d h is = record {
  whole =
      sym (placed_rests new.tables (wholes.whole_of asked (stores_of new)) h) ∙ is (wholes.whole_of asked (stores_of new))
      ∙ (λ i. at_rest (adopted (id i) inside (placed old.tables (d.whole i)))) ∙ used (host_of r.expression);
  told = told_none (host_of r.expression);
  sound = d.sound;
}
  where
    s : plain.World
    s = wholes.whole_of asked (stores_of old)

    used : (o : Option ℕ) → at_rest (adopted s.made.signals inside (placed old.tables (signals_at_rest (with_use o (with_new_computed r None s))))) ≡
        at_rest (with_use o (with_new_computed r inside (placed old.tables s)))
    used None = refl
    used (Some k) = refl

    told_none : (o : Option ℕ) → Tells [] [] (with_use o (with_new_computed r inside (placed old.tables s))).told
    told_none None = tells_none []
    told_none (Some k) = tells_none []

-- what stands is formed where something was made
formed_made : (old new : Tables) (inside : Option ℕ) (t : Thing) → CanStand t nothing → listed (tree_of new) ≡ listed (made_inside inside t (tree_of old)) → TablesAgree new →
    AreFormed (tree_of old) → AreFormed (tree_of new)
formed_made old new inside t can is h f = record {
  formed = subst (IsFormed (the_owner 0)) (sym is ∙ listed_tree new h) (formed_listed (the_owner 0) (made_inside inside t (tree_of old)) (go inside));
}
  where
    go : (o : Option ℕ) → IsFormed (the_owner 0) (made_inside o t (tree_of old))
    go None = (can, tt, f.formed)
    go (Some o) = formed_put (the_owner 0) (the_owner o) (alone t) (tree_of old) refl (can, tt, tt) f.formed

-- the signal that was made stands where it is to
pub owned_more : (old new : World) (inside : Option ℕ) (n : ℕ) → n ≡ old.graph.given → new.graph.given ≡ old.graph.given + 1 →
    listed (tree_of new.tables) ≡ listed (made_inside inside (the_signal n) (tree_of old.tables)) → TablesAgree new.tables →
    LeavesOut (Some n) old.tables.store new.tables.store → AreOwned old → AreOwned new
owned_more old new inside n id given tree h out o = record {
  tables = h;
  formed = formed_made old.tables new.tables inside (the_signal n) refl tree h o.formed;
  fresh = λ k l.
      let more : old.graph.given + 1 ≤ k = subst (λ g. g ≤ k) given l in
      out.still k (λ e. let same : n ≡ k = cc in omega (arith, more, same, id)) (o.fresh k (omega (arith, more)));
}

-- where no signal is made
pub owned_same : (old new : World) (inside : Option ℕ) (t : Thing) → CanStand t nothing → new.graph.given ≡ old.graph.given →
    listed (tree_of new.tables) ≡ listed (made_inside inside t (tree_of old.tables)) → TablesAgree new.tables → LeavesOut None old.tables.store new.tables.store → AreOwned old → AreOwned new
owned_same old new inside t can given tree h out o = record {
  tables = h;
  formed = formed_made old.tables new.tables inside t can tree h o.formed;
  fresh = λ k l. out.still k (λ e. cc) (o.fresh k (subst (λ g. g ≤ k) given l));
}

-- a page is made
pub page_done : (hosts : Hosts) (asked : List HostPlace) (old new : World) (inside : Option ℕ) →
    ((w : plain.World) → at_rest (placed new.tables w) ≡ at_rest (with_new_page inside (placed old.tables w))) → stores_of new ≡ stores_of old → TablesAgree new.tables → IsSound hosts asked old →
    Does hosts asked asked old new [] [] (with_new_page inside)
page_done hosts asked old new inside is same h sound =
    let s : plain.World = wholes.whole_of asked (stores_of old) in
    record {
      whole = (λ i. placed new.tables (wholes.whole_of asked (same i))) ∙ sym (placed_rests new.tables s h) ∙ is s;
      told = tells_none [];
      sound = subst (λ (w : SignalStores). signals.IsSound hosts asked w) (sym same) sound;
    }
