-- What changes that are collected in a batch do, where the stores do their part.
use Rattle.std.proofs.Common.{◌≡◌, ◌+◌, ◌-◌, ◌≤◌, inl, inr, ℕ, Bool, true, false, cond, List, [], ◌∷◌, ◌++◌, length, map, Some, None, refl, sym, ap, subst, ◌∙◌, arith, append-nil, append_assoc}
use Rattle.std.specs.List.{AllByRecursion}
use Rattle.std.specs.Map.{keys_of}
use Rattle.std.proofs.lemmas.List.{length-append}
use Rattle.sig_base.specs.declared.value.Value.{Value}
use Rattle.signal_model.specs.Recipes.{Hosts}
use Rattle.std.specs.Prelude.{IsErr, Ok, ◌↔◌}
use Rattle.std.specs.declared.result.Result.{Result}
use Rattle.signal_model.specs.Signals.{Signals, Cell, Stands, IsGone, IsCell, IsComputed, is_computed, is_in, is_there, standing}
use Rattle.signal_model.specs.Changes.{with_value}
use Rattle.signal_model.specs.Kept.{AreGiven, AreKept}
use Rattle.signal_model.specs.Memos.{Memos}
use Rattle.signal_laws.proofs.Shared.{given_set_law, set_law}
use Rattle.effect_model.specs.declared.how.How.TheVariants.{Set}
use Rattle.effect_model.specs.Worlds as plain
use Rattle.effect_model.specs.Worlds.{Environment, Watcher}
use Rattle.effect_model.specs.Acts.{are_alike, is_notified_by_any, notified_by_any, waiting_if, with_quiet_value}
use Rattle.effect_model.specs.Commands.{new_world}
use Rattle.effect_model.specs.Batches.{Batch, abort, commit, is_other, joined, joined_by, joined_replaced, net_of, replaced_by, set_quietly, with_replacing}
use Rattle.sig_host.specs.Hosts.{HostPlace}
use Rattle.sig_graph.specs.HostUse.{uses_host}
use Rattle.sig_graph.specs.States.{Seen, State, Becomes, is_computing, is_given, with_set}
use Rattle.sig_watcher.specs.Tables.{Table, with_each}
use Rattle.sig_watcher.specs.Notices.{told_entry}
use Rattle.sig_computed.specs.Asked.{AreThere}
use Rattle.sig_computed.specs.Notes.{IsIdle}
use Rattle.sig_state.specs.Batches.{all_given_back, Collected, HasRoom, with_joining, with_return, with_returns}
use Rattle.sig_state.specs.Equality.{is_alike_here}
use Rattle.sig_state.specs.declared.errors.Gone.{Gone}
use Rattle.sig_state.specs.declared.sets.SetDone.{SetDone}
use Rattle.sig_state.specs.declared.sets.SetDone.TheVariants.{Accepted, Same}
use Rattle.sig_effect.specs.declared.events.Event.{Event}
use Rattle.sig_effect.specs.declared.events.Event.TheVariants.{Change}
use Rattle.sig_effect.specs.Events.{AreNamed, AreTold, Tells}
use Rattle.sig_effect.specs.Results.{values_told, AreNotices}
use Rattle.sig_effect.specs.Wholes.{SignalStores, host_states, whole_of}
use Rattle.sig_effect.specs.Stores.{environment, Agrees, AreListed, AreOwn, AreRuled, AreUnasked, AreWatched, Does, IsSound}
use Rattle.sig_effect.proofs.Acts.{does_by, tells_none, IsWhole}
use Rattle.sig_effect.proofs.Edits.{cell_here, not_refused, not_same, notices_tell, there_by, watched_waiting}
use Rattle.sig_effect.proofs.Names.{named_behind, named_still, named_values}
use Rattle.sig_effect.proofs.Signals.{listed_value, ruled_value, value_host, value_keeps, watched_still}

-- ---- a set in a batch

-- a cell is as it was where nothing was set
quiet_same : (env : Environment) (n : ℕ) (v : Value) (w : plain.World) → is_alike_here env.slacks (standing w.signals n) v ≡ true → set_quietly env n v w ≡ w
quiet_same env n v w alike = go (standing w.signals n) alike
  where
    go : (s : Stands) → is_alike_here env.slacks s v ≡ true → with_replacing n v (replaced_by env.slacks s v) w ≡ w
    go IsGone h = cc
    go (IsCell c) h = ap (λ b. with_replacing n v (cond b None (Some c.value)) w) h
    go (IsComputed c) h = cc

-- and has the value where it was
quiet_other : (env : Environment) (n : ℕ) (v : Value) (w : plain.World) (c : Cell) → standing w.signals n ≡ IsCell c → are_alike env.slacks c.rule c.value v ≡ false →
    set_quietly env n v w ≡ with_quiet_value n v w
quiet_other env n v w c stands off =
    ap (λ s. with_replacing n v (replaced_by env.slacks s v) w) stands ∙ ap (λ b. with_replacing n v (cond b None (Some c.value)) w) off

-- a change of which nobody is told, on the stores
pub quiet_whole : (asked : List HostPlace) (old new : SignalStores) (n : ℕ) (v : Value) → Becomes old.graph new.graph (with_set old.graph.state n v) → new.watchers ≡ old.watchers →
    IsWhole asked new.graph new.watchers (with_quiet_value n v (whole_of asked old))
quiet_whole asked old new n v b same =
    let signals : new.graph.state.signals ≡ with_value old.graph.state.signals n v = ap (λ (s : State). s.signals) b.state in
    record {
      signals = signals;
      memos = ap (λ (s : State). s.memos) b.state;
      states = ap (λ (x : Signals). host_states (uses_host x) 0 asked) signals;
      watchers = ap (λ (t : Table). t.watchers) same;
      made = λ i. record ((new_world 0).made) { signals = b.given i; watchers = (same i).made };
      rest = refl;
    }

-- what is kept stays sound
pub value_sound : (hosts : Hosts) (asked : List HostPlace) (old new : SignalStores) (n : ℕ) (v : Value) (c : Cell) → standing old.graph.state.signals n ≡ IsCell c →
    Becomes old.graph new.graph (with_set old.graph.state n v) → IsSound hosts asked old → IsSound hosts asked new
value_sound hosts asked old new n v c stands b sound = record {
  kept = subst (λ (s : State). AreKept hosts s.signals s.memos) (sym b.state) (set_law hosts old.graph.state.signals old.graph.state.memos n c v stands sound.kept);
  unasked = subst (λ (x : Signals). AreUnasked asked x) (sym (ap (λ (s : State). s.signals) b.state)) (record { never = sound.unasked.never });
}

-- these cells have another value, in the plain world
abbrev values_changed : List ℕ → List plain.Event
values_changed ns = map (λ (n : ℕ). plain.changed_signal n Set) ns

values_each : (ns : List ℕ) → AreTold (values_told ns) (values_changed ns)
values_each [] = tt
values_each (n ∷ ns) = (refl, values_each ns)

-- that is told one by one
values_tell : (ns : List ℕ) (before after : List Event) → after ≡ before ++ values_told ns → Tells before after (values_changed ns)
values_tell ns before after is = record { more = values_told ns; behind = is; each = values_each ns }

-- a set that was accepted
pub quiet_does : (hosts : Hosts) (slacks : List ℕ) (asked : List HostPlace) (old new : SignalStores) (before after : List Event) (n : ℕ) (v : Value) (c : Cell) →
    standing old.graph.state.signals n ≡ IsCell c → are_alike slacks c.rule c.value v ≡ false → Becomes old.graph new.graph (with_set old.graph.state n v) →
    new.watchers ≡ old.watchers → after ≡ before ++ Change n Set ∷ [] → IsSound hosts asked old →
    Does hosts asked asked old new before after (set_quietly (environment hosts slacks) n v)
quiet_does hosts slacks asked old new before after n v c stands off b same told sound =
    does_by hosts asked asked old new before after (set_quietly (environment hosts slacks) n v) (with_quiet_value n v (whole_of asked old))
    (quiet_other (environment hosts slacks) n v (whole_of asked old) c stands off) (quiet_whole asked old new n v b same)
    (values_tell (n ∷ []) before after told) (value_sound hosts asked old new n v c stands b sound)

-- one that changed nothing
pub quiet_nothing : (hosts : Hosts) (slacks : List ℕ) (asked : List HostPlace) (old : SignalStores) (before : List Event) (n : ℕ) (v : Value) →
    is_alike_here slacks (standing old.graph.state.signals n) v ≡ true → IsSound hosts asked old →
    Does hosts asked asked old old before before (set_quietly (environment hosts slacks) n v)
quiet_nothing hosts slacks asked old before n v alike sound =
    does_by hosts asked asked old old before before (set_quietly (environment hosts slacks) n v) (whole_of asked old)
    (quiet_same (environment hosts slacks) n v (whole_of asked old) alike)
    (record { signals = refl; memos = refl; states = refl; watchers = refl; made = refl; rest = refl }) (tells_none before) sound

-- the stores still belong together
pub value_agrees : (asked : List HostPlace) (old new : SignalStores) (n : ℕ) (v : Value) → Becomes old.graph new.graph (with_set old.graph.state n v) → new.watchers ≡ old.watchers →
    Agrees asked old → Agrees asked new
value_agrees asked old new n v b same a =
    let w : Signals = old.graph.state.signals in
    let signals : new.graph.state.signals ≡ with_value w n v = ap (λ (s : State). s.signals) b.state in
    record {
      idle = λ m. ap (λ (s : State). is_computing s m) b.state ∙ a.idle m;
      listed = subst AreListed (sym signals) (listed_value w n v a.listed);
      there = subst (λ (x : Signals). AreThere x asked) (sym signals) (record { each = a.there.each });
      own = subst AreOwn (sym signals) (record { one = λ i m p x y. a.own.one i m p (sym (value_host w n v i) ∙ x) (sym (value_host w n v m) ∙ y) });
      watched = subst (λ x. x) (λ i. AreWatched (sym signals i) (sym same i).watchers)
          (watched_still w (with_value w n v) old.watchers.watchers (λ m h. value_keeps w n v m h) a.watched);
    }

-- the batch afterwards, where the cell's equality called the value another
pub joins_other : (slacks : List ℕ) (s : Stands) (n : ℕ) (v : Value) (c : Cell) (b : Batch) → s ≡ IsCell c → are_alike slacks c.rule c.value v ≡ false →
    joined n c.value b ≡ joined_by slacks s n v b
joins_other slacks s n v c b stands off =
    sym (ap (λ z. joined_by slacks z n v b) stands ∙ ap (λ x. joined_replaced n (cond x None (Some c.value)) b) off)

-- and where it called it the same
pub joins_same : (slacks : List ℕ) (s : Stands) (n : ℕ) (v : Value) (b : Batch) → is_alike_here slacks s v ≡ true → b ≡ joined_by slacks s n v b
joins_same slacks IsGone n v b h = cc
joins_same slacks (IsCell c) n v b h = sym (ap (λ x. joined_replaced n (cond x None (Some c.value)) b) h)
joins_same slacks (IsComputed c) n v b h = cc

-- a cell that joins takes the room of one
pub joining_room : (n : ℕ) (s : Stands) (c : Collected) → HasRoom n c →
    length (with_joining n s c).changed + (with_joining n s c).spare ≡ length c.changed + c.spare
joining_room n IsGone c h = refl
joining_room n (IsComputed d) c h = refl
joining_room n (IsCell d) c h = go (is_in n (keys_of c.changed)) refl h
  where
    go : (b : Bool) → is_in n (keys_of c.changed) ≡ b → HasRoom n c →
        length (cond b c.changed (c.changed ++ (n, d.value) ∷ [])) + cond b c.spare (c.spare - 1) ≡ length c.changed + c.spare
    go true e room = refl
    go false e (inl there) = let no : true ≡ false = sym there ∙ e in absurd cc
    go false e (inr more) = let l = length-append c.changed ((n, d.value) ∷ []) in omega (arith, l, more)

-- ---- a commit

-- its cells are told together
pub commit_does : (hosts : Hosts) (slacks : List ℕ) (asked : List HostPlace) (old new : SignalStores) (before after : List Event) (b : Batch) (cells : List ℕ) →
    cells ≡ net_of slacks old.graph.state.signals b → new.graph ≡ old.graph →
    new.watchers ≡ with_each (waiting_if (is_notified_by_any old.graph.state.signals old.graph.state.memos cells)) old.watchers →
    AreNotices (map told_entry (notified_by_any old.graph.state.signals old.graph.state.memos cells old.watchers.watchers)) before after → IsSound hosts asked old →
    Does hosts asked asked old new before after (commit (environment hosts slacks) b)
commit_does hosts slacks asked old new before after b cells is graph same notices sound =
    let w : Signals = old.graph.state.signals in
    let k : Memos = old.graph.state.memos in
    does_by hosts asked asked old new before after (commit (environment hosts slacks) b) (commit (environment hosts slacks) b (whole_of asked old)) refl
    (record {
      signals = ap (λ (g : Seen). g.state.signals) graph;
      memos = ap (λ (g : Seen). g.state.memos) graph;
      states = ap (λ (g : Seen). host_states (uses_host g.state.signals) 0 asked) graph;
      watchers = ap (λ (t : Table). t.watchers) same ∙ ap (λ (ns : List ℕ). map (waiting_if (is_notified_by_any w k ns)) old.watchers.watchers) is;
      made = λ i. record ((new_world 0).made) { signals = (graph i).given; watchers = (same i).made };
      rest = refl;
    })
    (notices_tell (notified_by_any w k (net_of slacks w b) old.watchers.watchers) before after
    (subst (λ (ns : List ℕ). AreNotices (map told_entry (notified_by_any w k ns old.watchers.watchers)) before after) is notices))
    (record {
      kept = subst (λ (g : Seen). AreKept hosts g.state.signals g.state.memos) (sym graph) sound.kept;
      unasked = subst (λ (g : Seen). AreUnasked asked g.state.signals) (sym graph) sound.unasked;
    })

pub commit_agrees : (asked : List HostPlace) (old new : SignalStores) (f : Watcher → Bool) → new.graph ≡ old.graph → new.watchers ≡ with_each (waiting_if f) old.watchers →
    Agrees asked old → Agrees asked new
commit_agrees asked old new f graph same a = record {
  idle = subst (λ (g : Seen). IsIdle g.state) (sym graph) a.idle;
  listed = subst (λ (g : Seen). AreListed g.state.signals) (sym graph) a.listed;
  there = subst (λ (g : Seen). AreThere g.state.signals asked) (sym graph) a.there;
  own = subst (λ (g : Seen). AreOwn g.state.signals) (sym graph) a.own;
  watched = subst (λ x. x) (λ i. AreWatched (sym graph i).state.signals (sym same i).watchers)
      (watched_waiting old.graph.state.signals f old.watchers.watchers a.watched);
}

-- ---- an abort

-- signals and what is kept of them after it, and what it tells
abbrev after_returns : Batch → State → plain.World → plain.World
after_returns b s x = record x {
  signals = (with_returns b s).signals;
  memos = (with_returns b s).memos;
  told = x.told ++ values_changed (all_given_back b s);
}

-- it does nothing else
pub abort_is : (b : Batch) (s : State) (x : plain.World) → abort b (record x { signals = s.signals; memos = s.memos }) ≡ after_returns b s x
abort_is [] s x = λ i. record x { signals = s.signals; memos = s.memos; told = sym (append-nil x.told) i }
abort_is (p ∷ b) s x = go (is_other p.1 (standing s.signals p.0)) (abort_is b (with_set s p.0 p.1) told_one) (abort_is b s x)
  where
    here : plain.World
    here = record x { signals = s.signals; memos = s.memos }

    told_one : plain.World
    told_one = record x { told = x.told ++ plain.changed_signal p.0 Set ∷ [] }

    after : State
    after = with_set s p.0 p.1

    go : (t : Bool) → abort b (with_quiet_value p.0 p.1 here) ≡ after_returns b after told_one → abort b here ≡ after_returns b s x →
        abort b (cond t (with_quiet_value p.0 p.1 here) here) ≡ record x {
          signals = (with_returns b (cond t after s)).signals;
          memos = (with_returns b (cond t after s)).memos;
          told = x.told ++ values_changed (cond t (p.0 ∷ []) [] ++ all_given_back b (cond t after s));
        }
    go true set kept = set ∙ (λ i. record (after_returns b after x) {
      told = append_assoc x.told (plain.changed_signal p.0 Set ∷ []) (values_changed (all_given_back b after)) i;
    })
    go false set kept = kept

-- whatever a set of a cell keeps, an abort keeps
pub returns_keep : (P : State → Type 0) → ((s : State) (n : ℕ) (v : Value) (c : Cell) → standing s.signals n ≡ IsCell c → P s → P (with_set s n v)) →
    (b : Batch) (s : State) → P s → P (with_returns b s)
returns_keep P sets [] s h = h
returns_keep P sets (p ∷ b) s h = returns_keep P sets b (with_return p.0 p.1 s) (go (standing s.signals p.0) refl)
  where
    by : (t : Bool) → P (with_set s p.0 p.1) → P (cond t (with_set s p.0 p.1) s)
    by true k = k
    by false k = h

    go : (z : Stands) → standing s.signals p.0 ≡ z → P (cond (is_other p.1 z) (with_set s p.0 p.1) s)
    go IsGone e = h
    go (IsCell c) e = by (is_other p.1 (IsCell c)) (sets s p.0 p.1 c e h)
    go (IsComputed c) e = h

-- the host formulas that are asked stay
states_stay : (asked : List HostPlace) (b : Batch) (s : State) → host_states (uses_host (with_returns b s).signals) 0 asked ≡ host_states (uses_host s.signals) 0 asked
states_stay asked b s = returns_keep (λ (z : State). host_states (uses_host z.signals) 0 asked ≡ host_states (uses_host s.signals) 0 asked) (λ z n v c e h. h) b s refl

pub abort_does : (hosts : Hosts) (asked : List HostPlace) (old new : SignalStores) (before after : List Event) (b : Batch) →
    Becomes old.graph new.graph (with_returns b old.graph.state) → new.watchers ≡ old.watchers →
    after ≡ before ++ values_told (all_given_back b old.graph.state) → IsSound hosts asked old → Does hosts asked asked old new before after (abort b)
abort_does hosts asked old new before after b becomes same told sound =
    let s : State = old.graph.state in
    let r : State = with_returns b s in
    let signals : new.graph.state.signals ≡ r.signals = ap (λ (z : State). z.signals) becomes.state in
    does_by hosts asked asked old new before after (abort b) (after_returns b s (whole_of asked old)) (abort_is b s (whole_of asked old))
    (record {
      signals = signals;
      memos = ap (λ (z : State). z.memos) becomes.state;
      states = ap (λ (x : Signals). host_states (uses_host x) 0 asked) signals ∙ states_stay asked b s;
      watchers = ap (λ (t : Table). t.watchers) same;
      made = λ i. record ((new_world 0).made) { signals = becomes.given i; watchers = (same i).made };
      rest = refl;
    })
    (values_tell (all_given_back b s) before after told)
    (record {
      kept = subst (λ (z : State). AreKept hosts z.signals z.memos) (sym becomes.state)
          (returns_keep (λ (z : State). AreKept hosts z.signals z.memos) (λ z n v c e h. set_law hosts z.signals z.memos n c v e h) b s sound.kept);
      unasked = subst (λ (x : Signals). AreUnasked asked x) (sym signals)
          (returns_keep (λ (z : State). AreUnasked asked z.signals) (λ z n v c e h. record { never = h.never }) b s sound.unasked);
    })

-- what is given back was given an id
back_given : (g : Seen) (b : Batch) (s : State) → AreGiven (is_given g) s.signals s.memos → AllByRecursion (λ (n : ℕ). is_given g n ≡ true) (all_given_back b s)
back_given g [] s h = tt
back_given g (p ∷ b) s h =
    go (standing s.signals p.0) refl (back_given g b (with_set s p.0 p.1) (given_set_law (is_given g) s.signals s.memos p.0 p.1 h)) (back_given g b s h)
  where
    are_given : List ℕ → Type 0
    are_given ns = AllByRecursion (λ (n : ℕ). is_given g n ≡ true) ns

    by : (t : Bool) → is_given g p.0 ≡ true → are_given (all_given_back b (with_set s p.0 p.1)) → are_given (all_given_back b s) →
        are_given (cond t (p.0 ∷ []) [] ++ all_given_back b (cond t (with_set s p.0 p.1) s))
    by true one set kept = (one, set)
    by false one set kept = kept

    go : (z : Stands) → standing s.signals p.0 ≡ z → are_given (all_given_back b (with_set s p.0 p.1)) → are_given (all_given_back b s) →
        are_given (cond (is_other p.1 z) (p.0 ∷ []) [] ++ all_given_back b (cond (is_other p.1 z) (with_set s p.0 p.1) s))
    go IsGone e set kept = kept
    go (IsCell c) e set kept = by (is_other p.1 (IsCell c)) (h.names p.0 (ap is_there e)) set kept
    go (IsComputed c) e set kept = kept

pub abort_named : (g h : Seen) (made : ℕ) (b : Batch) (before after : List Event) → AreGiven (is_given g) g.state.signals g.state.memos → h.given ≡ g.given →
    after ≡ before ++ values_told (all_given_back b g.state) → AreNamed g made before → AreNamed h made after
abort_named g h made b before after given same told named =
    named_still g h made made after same refl
    (named_behind g made before (values_told (all_given_back b g.state)) after told named (named_values g made (all_given_back b g.state) (back_given g b g.state given)))

pub abort_agrees : (asked : List HostPlace) (old new : SignalStores) (b : Batch) → Becomes old.graph new.graph (with_returns b old.graph.state) →
    new.watchers ≡ old.watchers → Agrees asked old → Agrees asked new
abort_agrees asked old new b becomes same a =
    let a : Agrees asked (with_state (with_returns b old.graph.state)) =
    returns_keep (λ (z : State). Agrees asked (with_state z))
    (λ z n v c e h. value_agrees asked (with_state z) (with_state (with_set z n v)) n v (record { state = refl; given = refl }) refl h) b old.graph.state a in
    record {
      idle = subst IsIdle (sym becomes.state) a.idle;
      listed = subst (λ (z : State). AreListed z.signals) (sym becomes.state) a.listed;
      there = subst (λ (z : State). AreThere z.signals asked) (sym becomes.state) a.there;
      own = subst (λ (z : State). AreOwn z.signals) (sym becomes.state) a.own;
      watched = subst (λ x. x) (λ i. AreWatched (sym becomes.state i).signals (sym same i).watchers) a.watched;
    }
  where
    with_state : State → SignalStores
    with_state z = record { graph = record (old.graph) { state = z }; watchers = old.watchers }

pub abort_ruled : (rules : ℕ) (s z : State) (b : Batch) → z ≡ with_returns b s → AreRuled rules s.signals → AreRuled rules z.signals
abort_ruled rules s z b is all =
    subst (λ (x : State). AreRuled rules x.signals) (sym is)
    (returns_keep (λ (x : State). AreRuled rules x.signals) (λ x n v c e h. ruled_value rules x.signals n v h) b s all)

-- each giving back raises the counters by one
pub abort_worn : (b : Batch) (s : State) → (with_returns b s).worn ≤ s.worn + length b
abort_worn [] s = omega arith
abort_worn (p ∷ b) s = go (is_other p.1 (standing s.signals p.0)) (abort_worn b (with_set s p.0 p.1)) (abort_worn b s)
  where
    go : (t : Bool) → (with_returns b (with_set s p.0 p.1)).worn ≤ s.worn + 1 + length b → (with_returns b s).worn ≤ s.worn + length b →
        (with_returns b (cond t (with_set s p.0 p.1) s)).worn ≤ s.worn + length (p ∷ b)
    go true set kept = omega (arith, set)
    go false set kept = omega (arith, kept)

-- ---- by what the calls answered

-- the cell that a set which was accepted gave another value
pub record IsOver (slacks : List ℕ) (s : Stands) (v : Value) : Type 0 where
  pub cell : Cell
  pub stands : s ≡ IsCell cell
  pub off : are_alike slacks cell.rule cell.value v ≡ false

pub accepted_over : (slacks : List ℕ) (s : Stands) (v : Value) (r : Result SetDone Gone) → r ≡ Ok Accepted → is_computed s ≡ false → IsErr r ↔ (is_there s ≡ false) →
    (r ≡ Ok Same) ↔ (is_alike_here slacks s v ≡ true) → IsOver slacks s v
accepted_over slacks s v r accepted kind gone same =
    let there : is_there s ≡ true = there_by (is_there s) (IsErr r) gone (not_refused r accepted) in
    let c = cell_here s there kind in
    record { cell = c.0; stands = c.1; off = sym (ap (λ z. is_alike_here slacks z v) c.1) ∙ not_same r (is_alike_here slacks s v) accepted same }

-- what was put behind nothing is all
pub behind_none : (all more none : List ℕ) → none ≡ [] → all ≡ none ++ more → all ≡ more
behind_none all more none e h = h ∙ ap (λ (ns : List ℕ). ns ++ more) e

-- those that were put behind nothing are told
pub abort_told : (back : List ℕ) (before after : List Event) (none all told : List ℕ) → none ≡ [] → all ≡ none ++ back → told ≡ all → after ≡ before ++ values_told told →
    after ≡ before ++ values_told back
abort_told back before after none all told empty behind same is =
    is ∙ ap (λ (ns : List ℕ). before ++ values_told ns) (same ∙ behind_none all back none empty behind)
