-- What each change of the signals keeps, commands keep: one induction over all that commands and effects do.
use Rattle.std.proofs.Common.{◌≡◌, ℕ, ◌+◌, ◌==◌, ◌||◌, Bool, true, false, cond, List, [], ◌∷◌, ◌++◌, map, slice_get, Option, Some, None, refl, sym}
use Rattle.std.proofs.Common.{ap, ◌∙◌, subst, set as put_at}
use Rattle.std.specs.Option.{option_or}
use Rattle.std.proofs.lemmas.Bool.{eqb-true}
use Rattle.std.proofs.lemmas.List.{append-nil}
use Rattle.sig_base.specs.declared.value.Value.{Value}
use Rattle.signal_model.specs.Recipes.{Recipe}
use Rattle.signal_model.specs.Signals.{Signals, Cell, Computed, Stands, IsGone, IsCell, IsComputed, is_in, is_there, standing}
use Rattle.signal_model.specs.Sound.{names_of}
use Rattle.signal_model.specs.Memos.{Memos}
use Rattle.signal_model.specs.Settling.{Settled, settled}
use Rattle.signal_model.specs.Asks.{Moment, moments}
use Rattle.signal_model.specs.Changes.{with_cell, with_computed, after_making, with_value, after_change, with_recipe, after_rewiring, without_signal}
use Rattle.signal_model.specs.Changes.{after_disposal}
use Rattle.effect_model.specs.Owners.{Thing, the_signal, the_effect, sets, logs, Undoing, cleans, ends, teardown_of, under, emptied, taken_out}
use Rattle.effect_model.specs.Owners.{disposal_of}
use Rattle.effect_model.specs.Bodies.{Act, to_set, to_log, to_note, to_make, to_dispose, to_rewire, BodyEvaluation, BodyResult, to_do, failed_by}
use Rattle.effect_model.specs.Bodies.{body_evaluation}
use Rattle.effect_model.specs.declared.how.How.TheVariants.{Set, Rewire, Gone}
use Rattle.effect_model.specs.Worlds.{Counts, Environment, HostState, used, dropped, Watcher, Effect, Event, ran, changed_signal, logged, cleaned, gone}
use Rattle.effect_model.specs.Worlds.{failed, dropped_host}
use Rattle.effect_model.specs.Worlds.{thing_gone, host_taken, still_due, refused, World, tell, tell_all, lives, asked_by, settle}
use Rattle.effect_model.specs.Acts.{notified_by_any, frozen_by, told_of, told_frozen, notify_of_all, are_alike, with_new_value, with_quiet_value, set_standing, set_cell}
use Rattle.effect_model.specs.Acts.{host_of, forget}
use Rattle.effect_model.specs.Acts.{asks_so_far, with_drop, with_use, is_free, host_refused, gone_refused, some_gone, rewiring_refused}
use Rattle.effect_model.specs.Acts.{rewire_standing, rewire_signal, without_node, end_standing, end_of, undo, undo_all, take_back, dispose_live, dispose_thing}
use Rattle.effect_model.specs.Batches.{Batch, abort, give_back, is_other, replaced_by, set_quietly, with_replacing}
use Rattle.effect_model.specs.Runs.{do_act, keep_reads, do_result, run_effect, turn, flush}
use Rattle.effect_model.specs.Commands.{Command, cell, computed, owner, effect, page, watcher, watch, unwatch, set, set_untold, restore, tell_together, rewire, ask, log}
use Rattle.effect_model.specs.Commands.{dispose, flush_all}
use Rattle.effect_model.specs.Commands.{inside_refused, with_new_computed, told_if, command_refused, done_by, after_command, after_commands}
use Rattle.effect_laws.specs.Counts.{others}
use Rattle.effect_laws.specs.KeptWorlds.{runs_told, noted_told}
use Rattle.effect_laws.specs.HostUse.{Drop, drops_told}
use Rattle.effect_laws.proofs.Names.{neither, either_way}
use Rattle.effect_laws.proofs.Turns.{IsKeptByRuns, turn_keeps, flush_keeps, acts_keep}

-- ---- the part of a world that changes of signals change

-- Signals, memos, host formulas, how many of each kind were made, effects aside, the runs and drops that were told, and the runs with the
-- changes of signals.
pub record Core : Type 0 where
  pub signals : Signals
  pub memos : Memos
  pub host_states : List HostState
  pub made : Counts
  pub runs : List Moment
  pub drops : List Drop
  pub noted : List Event

-- that of a world
abbrev pub core_of : World → Core
core_of w = record {
  signals = w.signals;
  memos = w.memos;
  host_states = w.host_states;
  made = others w;
  runs = runs_told w.told;
  drops = drops_told w.told;
  noted = noted_told w.told;
}

-- a host formula is used, or dropped
abbrev pub used_states : Option ℕ → List HostState → List HostState
used_states None hs = hs
used_states (Some k) hs = put_at hs k (used 0)

abbrev pub dropped_states : Option ℕ → List HostState → List HostState
dropped_states None hs = hs
dropped_states (Some k) hs = put_at hs k (dropped (asks_so_far (slice_get hs k)))

-- the drops, with one more where there is one
abbrev pub drops_more : Option ℕ → List HostState → List Drop → List Drop
drops_more None hs ds = ds
drops_more (Some k) hs ds = ds ++ record { place = k; asks = asks_so_far (slice_get hs k) } ∷ []

-- names are settled
abbrev pub after_settling : Environment → List ℕ → Core → Core
after_settling env names c =
    let s = settled env.hosts c.signals c.memos names in
    let runs = moments c.signals s.runs in
    record c { memos = s.memos; host_states = asked_by runs 0 c.host_states; runs = c.runs ++ runs; noted = c.noted ++ map ran runs }

-- a cell is set
abbrev pub after_set : ℕ → Value → Core → Core
after_set n v c = record c {
  signals = with_value c.signals n v;
  memos = after_change c.memos n;
  noted = c.noted ++ changed_signal n Set ∷ [];
}

-- a computed that had a host formula, or none, gets a recipe
abbrev pub after_rewire : ℕ → Recipe → Option ℕ → Core → Core
after_rewire n r old c = record c {
  signals = with_recipe c.signals n r;
  memos = after_rewiring c.memos n;
  host_states = dropped_states old (used_states (host_of r.expression) c.host_states);
  drops = drops_more old (used_states (host_of r.expression) c.host_states) c.drops;
  noted = c.noted ++ changed_signal n Rewire ∷ [];
}

-- a signal that had a host formula, or none, ends
abbrev pub after_end : ℕ → Option ℕ → Core → Core
after_end n old c = record c {
  signals = without_signal c.signals n;
  memos = after_disposal c.memos n;
  host_states = dropped_states old c.host_states;
  drops = drops_more old c.host_states c.drops;
  noted = c.noted ++ changed_signal n Gone ∷ [];
}

-- a cell is made, and a computed
abbrev pub with_made_cell : Value → Option ℕ → Core → Core
with_made_cell v rule c = record c {
  signals = with_cell c.signals (record { name = c.made.signals; value = v; rule = rule });
  memos = after_making c.memos c.made.signals;
  made = record (c.made) { signals = c.made.signals + 1 };
}

abbrev pub with_made_computed : Recipe → Core → Core
with_made_computed r c = record c {
  signals = with_computed c.signals (record { name = c.made.signals; recipe = r });
  memos = after_making c.memos c.made.signals;
  host_states = used_states (host_of r.expression) c.host_states;
  made = record (c.made) { signals = c.made.signals + 1 };
}

-- so many owners, pages and watchers were made
abbrev pub with_made : ℕ → ℕ → ℕ → Core → Core
with_made owners pages watchers c =
    record c { made = record { signals = c.made.signals; owners = owners; effects = 0; pages = pages; watchers = watchers } }

-- all these stand
abbrev pub AllStand : Signals → List ℕ → Type 0
AllStand w ns = (n : ℕ) → is_in n ns ≡ true → is_there (standing w n) ≡ true

-- a host formula that can be taken
abbrev pub IsFree : Option ℕ → List HostState → Type 0
IsFree p hs = (k : ℕ) → p ≡ Some k → is_free (slice_get hs k) ≡ true

-- the host formula of a signal, or none
abbrev pub IsHostOf : Signals → ℕ → Option ℕ → Type 0
IsHostOf w n p = (k : ℕ) → p ≡ Some k → (x : Computed) × (standing w n ≡ IsComputed x) × (host_of x.recipe.expression ≡ Some k)

-- each change of what stands keeps it
pub record IsKeptByEdits (P : Core → Type 0) : Type 0 where
  pub sets : (n : ℕ) (v : Value) (x : Cell) (c : Core) → standing c.signals n ≡ IsCell x → P c → P (after_set n v c)
  pub rewires : (n : ℕ) (r : Recipe) (x : Computed) (c : Core) → standing c.signals n ≡ IsComputed x → AllStand c.signals r.slots →
      IsFree (host_of r.expression) c.host_states → P c → P (after_rewire n r (host_of x.recipe.expression) c)
  pub ends : (n : ℕ) (old : Option ℕ) (c : Core) → is_there (standing c.signals n) ≡ true → IsHostOf c.signals n old → P c → P (after_end n old c)

-- so does settling
pub record IsKeptByActs (env : Environment) (P : Core → Type 0) : Type 0 where
  pub edits : IsKeptByEdits P
  pub settles : (names : List ℕ) (c : Core) → P c → P (after_settling env names c)

-- and so does making
pub record IsKeptByChanges (env : Environment) (P : Core → Type 0) : Type 0 where
  pub acts : IsKeptByActs env P
  pub makes_cell : (v : Value) (rule : Option ℕ) (c : Core) → P c → P (with_made_cell v rule c)
  pub makes_computed : (r : Recipe) (c : Core) → AllStand c.signals r.slots → IsFree (host_of r.expression) c.host_states → P c →
      P (with_made_computed r c)
  pub makes_others : (owners pages watchers : ℕ) (c : Core) → P c → P (with_made owners pages watchers c)

-- ---- what is told

pub runs_append : (es fs : List Event) → runs_told (es ++ fs) ≡ runs_told es ++ runs_told fs
runs_append [] fs = refl
runs_append (ran m ∷ es) fs = ap (λ ms. m ∷ ms) (runs_append es fs)
runs_append (_ ∷ es) fs = runs_append es fs

drops_append : (es fs : List Event) → drops_told (es ++ fs) ≡ drops_told es ++ drops_told fs
drops_append [] fs = refl
drops_append (dropped_host place asks ∷ es) fs = ap (λ ds. record { place = place; asks = asks } ∷ ds) (drops_append es fs)
drops_append (_ ∷ es) fs = drops_append es fs

noted_append : (es fs : List Event) → noted_told (es ++ fs) ≡ noted_told es ++ noted_told fs
noted_append [] fs = refl
noted_append (ran m ∷ es) fs = ap (λ ns. ran m ∷ ns) (noted_append es fs)
noted_append (changed_signal n how ∷ es) fs = ap (λ ns. changed_signal n how ∷ ns) (noted_append es fs)
noted_append (_ ∷ es) fs = noted_append es fs

-- more that was told tells of these runs and drops too, and notes this
told_more : (P : Core → Type 0) (w : World) (es : List Event) (ms : List Moment) (ds : List Drop) (ns : List Event) → runs_told es ≡ ms →
    drops_told es ≡ ds → noted_told es ≡ ns →
    P (record (core_of w) { runs = runs_told w.told ++ ms; drops = drops_told w.told ++ ds; noted = noted_told w.told ++ ns }) →
    P (core_of (tell_all es w))
told_more P w es ms ds ns h k l p =
    subst (λ rs. P (record (core_of w) { runs = rs; drops = drops_told (w.told ++ es); noted = noted_told (w.told ++ es) }))
    (sym (runs_append w.told es ∙ ap (λ rs. runs_told w.told ++ rs) h))
    (subst (λ xs. P (record (core_of w) { runs = runs_told w.told ++ ms; drops = xs; noted = noted_told (w.told ++ es) }))
    (sym (drops_append w.told es ∙ ap (λ xs. drops_told w.told ++ xs) k))
    (subst (λ xs. P (record (core_of w) { runs = runs_told w.told ++ ms; drops = drops_told w.told ++ ds; noted = xs }))
    (sym (noted_append w.told es ∙ ap (λ xs. noted_told w.told ++ xs) l)) p))

-- what tells of neither, and notes this
told_noted : (P : Core → Type 0) (w : World) (es ns : List Event) → runs_told es ≡ [] → drops_told es ≡ [] → noted_told es ≡ ns →
    P (record (core_of w) { noted = noted_told w.told ++ ns }) → P (core_of (tell_all es w))
told_noted P w es ns h k l p =
    told_more P w es [] [] ns h k l
    (subst (λ rs. P (record (core_of w) { runs = rs; drops = drops_told w.told ++ []; noted = noted_told w.told ++ ns }))
    (sym (append-nil (runs_told w.told)))
    (subst (λ ds. P (record (core_of w) { drops = ds; noted = noted_told w.told ++ ns })) (sym (append-nil (drops_told w.told))) p))

-- what tells of none of these
tells_none : (P : Core → Type 0) (w : World) (es : List Event) → runs_told es ≡ [] → drops_told es ≡ [] → noted_told es ≡ [] → P (core_of w) →
    P (core_of (tell_all es w))
tells_none P w es h k l p =
    told_noted P w es [] h k l (subst (λ ns. P (record (core_of w) { noted = ns })) (sym (append-nil (noted_told w.told))) p)

notified_runs : (xs : List Watcher) (ns : List ℕ) → runs_told (told_of xs ++ told_frozen ns) ≡ []
notified_runs [] [] = refl
notified_runs [] (n ∷ ns) = refl
notified_runs (x ∷ xs) ns = notified_runs xs ns

notified_drops : (xs : List Watcher) (ns : List ℕ) → drops_told (told_of xs ++ told_frozen ns) ≡ []
notified_drops [] [] = refl
notified_drops [] (n ∷ ns) = refl
notified_drops (x ∷ xs) ns = notified_drops xs ns

notified_noted : (xs : List Watcher) (ns : List ℕ) → noted_told (told_of xs ++ told_frozen ns) ≡ []
notified_noted [] [] = refl
notified_noted [] (n ∷ ns) = refl
notified_noted (x ∷ xs) ns = notified_noted xs ns

settled_runs : (ms : List Moment) → runs_told (map ran ms) ≡ ms
settled_runs [] = refl
settled_runs (m ∷ ms) = ap (λ rs. m ∷ rs) (settled_runs ms)

settled_drops : (ms : List Moment) → drops_told (map ran ms) ≡ []
settled_drops [] = refl
settled_drops (m ∷ ms) = settled_drops ms

settled_noted : (ms : List Moment) → noted_told (map ran ms) ≡ map ran ms
settled_noted [] = refl
settled_noted (m ∷ ms) = ap (λ ns. ran m ∷ ns) (settled_noted ms)

-- ---- changes of a world

pub settle_keeps_core : (env : Environment) (P : Core → Type 0) → IsKeptByActs env P → (names : List ℕ) (w : World) → P (core_of w) →
    P (core_of (settle env names w))
settle_keeps_core env P k names w p =
    let s : Settled = settled env.hosts w.signals w.memos names in
    let runs : List Moment = moments w.signals s.runs in
    told_more P (record w { memos = s.memos; host_states = asked_by runs 0 w.host_states }) (map ran runs) runs [] (map ran runs)
    (settled_runs runs) (settled_drops runs) (settled_noted runs)
    (subst (λ ds. P (record (after_settling env names (core_of w)) { drops = ds })) (sym (append-nil (drops_told w.told)))
    (k.settles names (core_of w) p))

notify_keeps : (P : Core → Type 0) (ns : List ℕ) (w : World) → P (core_of w) → P (core_of (notify_of_all ns w))
notify_keeps P ns w p =
    let xs : List Watcher = notified_by_any w.signals w.memos ns w.watchers in
    tells_none P w (told_of xs ++ told_frozen (frozen_by xs)) (notified_runs xs (frozen_by xs)) (notified_drops xs (frozen_by xs))
    (notified_noted xs (frozen_by xs)) p

quiet_keeps : (P : Core → Type 0) → IsKeptByEdits P → (n : ℕ) (v : Value) (x : Cell) (w : World) → standing w.signals n ≡ IsCell x →
    P (core_of w) → P (core_of (with_quiet_value n v w))
quiet_keeps P k n v x w e p =
    let w' : World = record w { signals = with_value w.signals n v; memos = after_change w.memos n } in
    let one : List Event = changed_signal n Set ∷ [] in
    told_noted P w' one one refl refl refl (k.sets n v x (core_of w) e p)

set_case : (env : Environment) (P : Core → Type 0) → IsKeptByEdits P → (n : ℕ) (v : Value) (s : Stands) (w : World) → standing w.signals n ≡ s →
    P (core_of w) → P (core_of (set_standing s env n v w))
set_case env P k n v IsGone w e p = tells_none P w (refused (thing_gone (the_signal n)) ∷ []) refl refl refl p
set_case env P k n v (IsCell x) w e p = go (are_alike env.slacks x.rule x.value v)
  where
    go : (b : Bool) → P (core_of (cond b w (with_new_value n v w)))
    go true = p
    go false = notify_keeps P (n ∷ []) (with_quiet_value n v w) (quiet_keeps P k n v x w e p)
set_case env P k n v (IsComputed x) w e p = p

set_quietly_keeps : (env : Environment) (P : Core → Type 0) → IsKeptByEdits P → (n : ℕ) (v : Value) (w : World) → P (core_of w) →
    P (core_of (set_quietly env n v w))
set_quietly_keeps env P k n v w p = go (standing w.signals n) refl
  where
    by : (x : Cell) → standing w.signals n ≡ IsCell x → (b : Bool) → P (core_of (with_replacing n v (cond b None (Some x.value)) w))
    by x e true = p
    by x e false = quiet_keeps P k n v x w e p

    go : (s : Stands) → standing w.signals n ≡ s → P (core_of (with_replacing n v (replaced_by env.slacks s v) w))
    go IsGone e = p
    go (IsCell x) e = by x e (are_alike env.slacks x.rule x.value v)
    go (IsComputed x) e = p

give_back_keeps : (P : Core → Type 0) → IsKeptByEdits P → (n : ℕ) (v : Value) (w : World) → P (core_of w) → P (core_of (give_back n v w))
give_back_keeps P k n v w p = go (standing w.signals n) refl
  where
    by : (x : Cell) → standing w.signals n ≡ IsCell x → (b : Bool) → P (core_of (cond b (with_quiet_value n v w) w))
    by x e true = quiet_keeps P k n v x w e p
    by x e false = p

    go : (s : Stands) → standing w.signals n ≡ s → P (core_of (cond (is_other v s) (with_quiet_value n v w) w))
    go IsGone e = p
    go (IsCell x) e = by x e (is_other v (IsCell x))
    go (IsComputed x) e = p

abort_keeps : (P : Core → Type 0) → IsKeptByEdits P → (b : Batch) (w : World) → P (core_of w) → P (core_of (abort b w))
abort_keeps P k [] w p = p
abort_keeps P k (q ∷ b) w p = abort_keeps P k b (give_back q.0 q.1 w) (give_back_keeps P k q.0 q.1 w p)

drop_keeps : (P : Core → Type 0) (old : Option ℕ) (w : World) →
    P (record (core_of w) { host_states = dropped_states old w.host_states; drops = drops_more old w.host_states (drops_told w.told) }) →
    P (core_of (with_drop old w))
drop_keeps P None w p = p
drop_keeps P (Some place) w p =
    let asks : ℕ = asks_so_far (slice_get w.host_states place) in
    let hs : List HostState = put_at w.host_states place (dropped asks) in
    let d : Drop = record { place = place; asks = asks } in
    told_more P (record w { host_states = hs }) (dropped_host place asks ∷ []) [] (d ∷ []) [] refl refl refl
    (subst (λ rs. P (record (core_of w) { host_states = hs; runs = rs; drops = drops_told w.told ++ d ∷ []; noted = noted_told w.told ++ [] }))
    (sym (append-nil (runs_told w.told)))
    (subst (λ ns. P (record (core_of w) { host_states = hs; drops = drops_told w.told ++ d ∷ []; noted = ns }))
    (sym (append-nil (noted_told w.told))) p))

use_keeps : (P : Core → Type 0) (new : Option ℕ) (w : World) → P (record (core_of w) { host_states = used_states new w.host_states }) →
    P (core_of (with_use new w))
use_keeps P None w p = p
use_keeps P (Some place) w p = p

gone_stands : (n : ℕ) (w : World) → gone_refused (the_signal n) w ≡ None → is_there (standing w.signals n) ≡ true
gone_stands n w h = go (is_there (standing w.signals n)) h
  where
    go : (b : Bool) → cond b None (Some (thing_gone (the_signal n))) ≡ None → b ≡ true
    go true h = refl
    go false h = cc

all_stand : (ns : List ℕ) (w : World) → some_gone ns w ≡ None → AllStand w.signals ns
all_stand [] w h m i = cc
all_stand (n ∷ ns) w h m i = go (m == n) refl i (all_stand ns w both.1 m)
  where
    both : (gone_refused (the_signal n) w ≡ None) × (some_gone ns w ≡ None)
    both = neither (gone_refused (the_signal n) w) (some_gone ns w) h

    go : (b : Bool) → (m == n) ≡ b → (b || is_in m ns) ≡ true → (is_in m ns ≡ true → is_there (standing w.signals m) ≡ true) →
        is_there (standing w.signals m) ≡ true
    go true e j rest = subst (λ x. is_there (standing w.signals x) ≡ true) (sym (eqb-true m n e)) (gone_stands n w both.0)
    go false e j rest = rest j

free_host : (new : Option ℕ) (w : World) → host_refused new w ≡ None → IsFree new w.host_states
free_host None w h k e = cc
free_host (Some place) w h k e = subst (λ m. is_free (slice_get w.host_states m) ≡ true) same (go (is_free (slice_get w.host_states place)) h)
  where
    same : place ≡ k
    same = cc

    go : (b : Bool) → cond b None (Some (host_taken place)) ≡ None → b ≡ true
    go true h = refl
    go false h = cc

rewire_case : (P : Core → Type 0) → IsKeptByEdits P → (n : ℕ) (r : Recipe) (s : Stands) (w : World) →
    standing w.signals n ≡ s →
    AllStand w.signals r.slots → IsFree (host_of r.expression) w.host_states → P (core_of w) → P (core_of (rewire_standing s n r w))
rewire_case P k n r IsGone w e a f p = p
rewire_case P k n r (IsCell x) w e a f p = p
rewire_case P k n r (IsComputed x) w e a f p =
    let old : Option ℕ = host_of x.recipe.expression in
    let w' : World = record w { signals = with_recipe w.signals n r; memos = after_rewiring w.memos n } in
    let ev : List Event = changed_signal n Rewire ∷ [] in
    let Q : Core → Type 0 = λ c. P (record c { host_states = dropped_states old c.host_states; drops = drops_more old c.host_states c.drops }) in
    drop_keeps P old (with_use (host_of r.expression) (tell (changed_signal n Rewire) w'))
    (use_keeps Q (host_of r.expression) (tell (changed_signal n Rewire) w')
    (told_noted (λ c. Q (record c { host_states = used_states (host_of r.expression) c.host_states })) w' ev ev refl refl refl
    (k.rewires n r x (core_of w) e a f p)))

pub rewire_keeps_core : (P : Core → Type 0) → IsKeptByEdits P → (n : ℕ) (r : Recipe) (w : World) → P (core_of w) →
    P (core_of (rewire_signal n r w))
rewire_keeps_core P k n r w p =
    either_way (λ v. P (core_of v)) (rewiring_refused n r w) (rewire_standing (standing w.signals n) n r w) w
    (λ h. let fine : (some_gone r.slots w ≡ None) × (host_refused (host_of r.expression) w ≡ None) =
    neither (some_gone r.slots w) (host_refused (host_of r.expression) w)
    (neither (gone_refused (the_signal n) w) (option_or (some_gone r.slots w) (host_refused (host_of r.expression) w)) h).1 in
    rewire_case P k n r (standing w.signals n) w refl (all_stand r.slots w fine.0) (free_host (host_of r.expression) w fine.1) p)
    (λ why. tells_none P w (refused why ∷ []) refl refl refl p)

pub set_keeps_core : (env : Environment) (P : Core → Type 0) → IsKeptByEdits P → (n : ℕ) (v : Value) (w : World) → P (core_of w) →
    P (core_of (set_cell env n v w))
set_keeps_core env P k n v w p = set_case env P k n v (standing w.signals n) w refl p

-- ---- ends and teardowns

end_keeps : (P : Core → Type 0) → IsKeptByEdits P → (t : Thing) (w : World) → P (core_of w) → P (core_of (end_of t w))
end_keeps P k (the_signal n) w p = go (standing w.signals n) refl
  where
    left : (v : World) → P (after_end n None (core_of v)) → P (core_of (without_node n v))
    left v q =
        let one : List Event = changed_signal n Gone ∷ [] in
        told_noted P (record v { signals = without_signal v.signals n; memos = after_disposal v.memos n; watchers = map (forget n) v.watchers }) one one
        refl refl refl q

    go : (s : Stands) → standing w.signals n ≡ s → P (core_of (end_standing s n w))
    go IsGone e = p
    go (IsCell x) e = left w (k.ends n None (core_of w) (ap is_there e) (λ j h. cc) p)
    go (IsComputed x) e =
        left (with_drop (host_of x.recipe.expression) w) (drop_keeps (λ c. P (after_end n None c)) (host_of x.recipe.expression) w
        (k.ends n (host_of x.recipe.expression) (core_of w) (ap is_there e) (λ j h. (x, e, h)) p))
end_keeps P k _ w p = p

undo_keeps : (env : Environment) (P : Core → Type 0) → IsKeptByEdits P → (u : Undoing) (w : World) → P (core_of w) → P (core_of (undo env u w))
undo_keeps env P k (cleans h (sets n v)) w p =
    set_case env P k n v (standing w.signals n) (tell (cleaned h (sets n v)) w) refl (tells_none P w (cleaned h (sets n v) ∷ []) refl refl refl p)
undo_keeps env P k (cleans h (logs v)) w p =
    tells_none P (tell (cleaned h (logs v)) w) (logged v ∷ []) refl refl refl (tells_none P w (cleaned h (logs v) ∷ []) refl refl refl p)
undo_keeps env P k (ends h) w p = tells_none P (end_of h w) (gone h ∷ []) refl refl refl (end_keeps P k h w p)

undo_all_keeps : (env : Environment) (P : Core → Type 0) → IsKeptByEdits P → (us : List Undoing) (w : World) → P (core_of w) →
    P (core_of (undo_all env us w))
undo_all_keeps env P k [] w p = p
undo_all_keeps env P k (u ∷ us) w p = undo_all_keeps env P k us (undo env u w) (undo_keeps env P k u w p)

pub back_keeps_core : (env : Environment) (P : Core → Type 0) → IsKeptByEdits P → (t : Thing) (w : World) → P (core_of w) →
    P (core_of (take_back env t w))
back_keeps_core env P k t w p = undo_all_keeps env P k (teardown_of t (under t w.owned)) (record w { owned = emptied t w.owned }) p

pub dispose_keeps_core : (env : Environment) (P : Core → Type 0) → IsKeptByEdits P → (t : Thing) (w : World) → P (core_of w) →
    P (core_of (dispose_thing env t w))
dispose_keeps_core env P k t w p = go (lives t w)
  where
    go : (b : Bool) → P (core_of (cond b (dispose_live env t w) (tell (refused (thing_gone t)) w)))
    go true = undo_all_keeps env P k (disposal_of t w.owned) (record w { owned = taken_out t w.owned }) p
    go false = tells_none P w (refused (thing_gone t) ∷ []) refl refl refl p

-- ---- acts, runs and commands

act_keeps : (env : Environment) (P : Core → Type 0) → IsKeptByActs env P → (e j : ℕ) (a : Act) (w : World) → P (core_of w) →
    P (core_of (do_act env e j a w))
act_keeps env P k e j (to_set n v) w p = set_keeps_core env P k.edits n v w p
act_keeps env P k e j (to_log v) w p = tells_none P w (logged v ∷ []) refl refl refl p
act_keeps env P k e j (to_note c) w p = tells_none P w _ refl refl refl p
act_keeps env P k e j (to_make b) w p = tells_none P w _ refl refl refl p
act_keeps env P k e j (to_dispose t) w p = dispose_keeps_core env P k.edits t w p
act_keeps env P k e j (to_rewire n r) w p = rewire_keeps_core P k.edits n r w p

result_keeps : (env : Environment) (P : Core → Type 0) → IsKeptByActs env P → (e : ℕ) (r : BodyResult) (w : World) → P (core_of w) →
    P (core_of (do_result env e r w))
result_keeps env P k e (failed_by f) w p = tells_none P w (failed e f ∷ []) refl refl refl p
result_keeps env P k e (to_do as') w p = acts_keep env (λ v. P (core_of v)) e (λ j a v h q. act_keeps env P k e j a v q) 1 as' w p

pub run_keeps_core : (env : Environment) (P : Core → Type 0) → IsKeptByActs env P → (x : Effect) (w : World) → P (core_of w) →
    P (core_of (run_effect env x w))
run_keeps_core env P k x w p =
    let e : Thing = the_effect x.number in
    let w' : World = take_back env e w in
    let b : BodyEvaluation = body_evaluation env.hosts w'.signals x.body in
    let v : World = settle env (names_of b.reads) w' in
    result_keeps env P k x.number b.result (keep_reads x.number b.tracked v)
    (tells_none P v _ refl refl refl (settle_keeps_core env P k (names_of b.reads) w'
    (back_keeps_core env P k.edits e w p)))

by_runs : (env : Environment) (P : Core → Type 0) → IsKeptByActs env P → IsKeptByRuns env (λ v. P (core_of v))
by_runs env P k = record { settles = λ names v q. settle_keeps_core env P k names v q; runs = λ e x v h q. run_keeps_core env P k x v q }

-- a turn keeps it, and a flush
pub turn_keeps_core : (env : Environment) (P : Core → Type 0) → IsKeptByActs env P → (w : World) → P (core_of w) → P (core_of (turn env w).world)
turn_keeps_core env P k w p = turn_keeps env (λ v. P (core_of v)) (by_runs env P k) w p

pub flush_keeps_core : (env : Environment) (P : Core → Type 0) → IsKeptByActs env P → (w : World) → P (core_of w) → P (core_of (flush env w).world)
flush_keeps_core env P k w p = flush_keeps env (λ v. P (core_of v)) (by_runs env P k) 100 w p

told_if_keeps : (P : Core → Type 0) (b : Bool) (w : World) → P (core_of w) → P (core_of (told_if b w))
told_if_keeps P true w p = tells_none P w (refused still_due ∷ []) refl refl refl p
told_if_keeps P false w p = p

done_keeps : (env : Environment) (P : Core → Type 0) → IsKeptByChanges env P → (c : Command) (w : World) → command_refused c w ≡ None →
    P (core_of w) → P (core_of (done_by env c w))
done_keeps env P k (cell v rule inside) w h p = k.makes_cell v rule (core_of w) p
done_keeps env P k (computed r inside) w h p =
    let fine : (some_gone r.slots w ≡ None) × (option_or (inside_refused inside w) (host_refused (host_of r.expression) w) ≡ None)
    = neither (some_gone r.slots w) (option_or (inside_refused inside w) (host_refused (host_of r.expression) w)) h in
    let free : host_refused (host_of r.expression) w ≡ None = (neither (inside_refused inside w) (host_refused (host_of r.expression) w) fine.1).1 in
    use_keeps P (host_of r.expression) (with_new_computed r inside w)
    (k.makes_computed r (core_of w) (all_stand r.slots w fine.0) (free_host (host_of r.expression) w free) p)
done_keeps env P k (owner inside) w h p = k.makes_others (w.made.owners + 1) w.made.pages w.made.watchers (core_of w) p
done_keeps env P k (effect b inside) w h p = p
done_keeps env P k (page inside) w h p = k.makes_others w.made.owners (w.made.pages + 1) w.made.watchers (core_of w) p
done_keeps env P k (watcher tries) w h p = k.makes_others w.made.owners w.made.pages (w.made.watchers + 1) (core_of w) p
done_keeps env P k (watch n names) w h p = p
done_keeps env P k (unwatch n m) w h p = p
done_keeps env P k (set n v) w h p = set_keeps_core env P k.acts.edits n v w p
done_keeps env P k (set_untold n v) w h p = set_quietly_keeps env P k.acts.edits n v w p
done_keeps env P k (restore b) w h p = abort_keeps P k.acts.edits b w p
done_keeps env P k (tell_together ns) w h p = notify_keeps P ns w p
done_keeps env P k (rewire n r) w h p = rewire_keeps_core P k.acts.edits n r w p
done_keeps env P k (ask names) w h p = settle_keeps_core env P k.acts names w p
done_keeps env P k (log v) w h p = tells_none P w (logged v ∷ []) refl refl refl p
done_keeps env P k (dispose t) w h p = dispose_keeps_core env P k.acts.edits t w p
done_keeps env P k flush_all w h p = told_if_keeps P (flush env w).refused (flush env w).world (flush_keeps_core env P k.acts w p)

-- one command keeps it
pub command_keeps : (env : Environment) (P : Core → Type 0) → IsKeptByChanges env P → (w : World) (c : Command) → P (core_of w) →
    P (core_of (after_command env w c))
command_keeps env P k w c p =
    either_way (λ v. P (core_of v)) (command_refused c w) (done_by env c w) w (λ h. done_keeps env P k c w h p)
    (λ why. tells_none P w (refused why ∷ []) refl refl refl p)

-- and so do any
pub commands_keep : (env : Environment) (P : Core → Type 0) → IsKeptByChanges env P → (cs : List Command) (w : World) → P (core_of w) →
    P (core_of (after_commands env w cs))
commands_keep env P k [] w p = p
commands_keep env P k (c ∷ cs) w p = commands_keep env P k cs (after_command env w c) (command_keeps env P k w c p)
