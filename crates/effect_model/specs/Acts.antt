-- What acts do, and how things end.
use Rattle.std.specs.Prelude.{ℕ, ◌||◌, ◌&&◌, Bool, true, false, List, [], ◌∷◌, ◌++◌, map, slice_index, slice_get, set, length, Option, Some}
use Rattle.std.specs.Prelude.{None, if◌then◌else◌}
use Rattle.std.specs.Option.{option_or}
use Rattle.std.specs.List.{filter}
use Rattle.sig_base.specs.declared.value.Value.{Value}
use Rattle.sig_base.specs.Values.{same_value, is_alike}
use Rattle.signal_model.specs.Recipes.{Recipe, Expression, formula, host}
use Rattle.signal_model.specs.Signals.{Signals, Stands, IsGone, IsCell, IsComputed, is_in, standing, without}
use Rattle.signal_model.specs.Memos.{Memos}
use Rattle.signal_model.specs.Marks.{found_below}
use Rattle.signal_model.specs.Changes.{with_value, after_change, with_recipe, after_rewiring, without_signal, after_disposal}
use Rattle.effect_model.specs.declared.how.How.TheVariants.{Set, Rewire, Gone}
use Rattle.effect_model.specs.Owners.{Thing, the_signal, the_owner, the_effect, the_page, the_watcher, Cleanup, sets, logs, Undoing, cleans, ends}
use Rattle.effect_model.specs.Owners.{teardown_of, under, emptied, taken_out, disposal_of}
use Rattle.effect_model.specs.Worlds.{Environment, HostState, unused, used, dropped, Watcher, Effect, Refused, thing_gone, host_taken, Event}
use Rattle.effect_model.specs.Worlds.{changed_signal, notified, frozen, logged, cleaned, gone, dropped_host, refused, World, tell, tell_all, lives}

-- ---- notifications

-- a signal is one of these, or one of these is kept below it
abbrev pub is_reached_by_any : Signals → Memos → List ℕ → ℕ → Bool
is_reached_by_any w k ns m = is_in m ns || found_below (λ p. is_in p ns) (length w.computeds) k m

-- whether some number passes
abbrev pub some_name : (ℕ → Bool) → List ℕ → Bool
some_name f [] = false
some_name f (n ∷ ns) = f n || some_name f ns

-- Changes of signals that are told together notify a watcher that is watching, where one of its signals is one of them, or has one of them
-- in the closure of its kept sources.
abbrev pub is_notified_by_any : Signals → Memos → List ℕ → Watcher → Bool
is_notified_by_any w k ns x = x.watching && some_name (is_reached_by_any w k ns) x.signals

-- the watchers that are notified, each once, in the order of making
abbrev pub notified_by_any : Signals → Memos → List ℕ → List Watcher → List Watcher
notified_by_any w k ns xs = filter (is_notified_by_any w k ns) xs

-- a change that is told alone
abbrev pub is_notified : Signals → Memos → ℕ → Watcher → Bool
is_notified w k n x = is_notified_by_any w k (n ∷ []) x

-- and the watchers that it notifies
abbrev pub notified_by : Signals → Memos → ℕ → List Watcher → List Watcher
notified_by w k n xs = notified_by_any w k (n ∷ []) xs

-- those among them whose notification tries a command, which is refused
abbrev pub frozen_by : List Watcher → List ℕ
frozen_by xs = map (λ (x : Watcher). x.number) (filter (λ (x : Watcher). x.tries) xs)

-- each of them is notified
abbrev pub told_of : List Watcher → List Event
told_of xs = map (λ (x : Watcher). notified x.number) xs

-- the refused ones are told together, where there are any
abbrev pub told_frozen : List ℕ → List Event
told_frozen [] = []
told_frozen (n ∷ ns) = frozen (n ∷ ns) ∷ []

-- a watcher that passes is waiting afterwards
abbrev pub waiting_if : (Watcher → Bool) → Watcher → Watcher
waiting_if f x = if f x then record x { watching = false } else x

-- signals were changed: these watchers are notified and are waiting, and then the frozen ones are told
abbrev pub notify_of_all : List ℕ → World → World
notify_of_all ns w =
    let xs = notified_by_any w.signals w.memos ns w.watchers in
    tell_all (told_of xs ++ told_frozen (frozen_by xs))
    (record w { watchers = map (waiting_if (is_notified_by_any w.signals w.memos ns)) w.watchers })

-- one was
abbrev pub notify : ℕ → World → World
notify n w = notify_of_all (n ∷ []) w

-- ---- acts on signals

-- whether a cell's equality answers yes: that of its rule, or sameness
abbrev pub are_alike : List ℕ → Option ℕ → Value → Value → Bool
are_alike slacks None a b = same_value a b
are_alike slacks (Some rule) a b = is_alike (slice_index slacks rule) a b

-- a cell has another value; that is told, and nobody is notified
abbrev pub with_quiet_value : ℕ → Value → World → World
with_quiet_value n v w = tell (changed_signal n Set) (record w { signals = with_value w.signals n v; memos = after_change w.memos n })

-- a cell has another value, and then its watchers are notified
abbrev pub with_new_value : ℕ → Value → World → World
with_new_value n v w = notify n (with_quiet_value n v w)

-- what is gone is refused
abbrev pub set_standing : Stands → Environment → ℕ → Value → World → World
set_standing IsGone env n v w = tell (refused (thing_gone (the_signal n))) w
set_standing (IsCell c) env n v w = if are_alike env.slacks c.rule c.value v then w else with_new_value n v w
set_standing (IsComputed c) env n v w = w

-- a cell is set; nothing happens where its equality answers yes
abbrev pub set_cell : Environment → ℕ → Value → World → World
set_cell env n v w = set_standing (standing w.signals n) env n v w

-- the place of the host formula that is asked, where it is one
abbrev pub host_of : Expression → Option ℕ
host_of (formula row t) = None
host_of (host place) = Some place

-- how often a host formula was asked
abbrev pub asks_so_far : Option HostState → ℕ
asks_so_far (Some (used asks)) = asks
asks_so_far (Some (dropped asks)) = asks
asks_so_far _ = 0

-- a host formula is dropped, and its asks are told
abbrev pub with_drop : Option ℕ → World → World
with_drop None w = w
with_drop (Some place) w =
    let asks = asks_so_far (slice_get w.host_states place) in
    tell (dropped_host place asks) (record w { host_states = set w.host_states place (dropped asks) })

-- a host formula is used from here on
abbrev pub with_use : Option ℕ → World → World
with_use None w = w
with_use (Some place) w = record w { host_states = set w.host_states place (used 0) }

-- whether a host formula can be taken
abbrev pub is_free : Option HostState → Bool
is_free (Some unused) = true
is_free _ = false

-- one that is used or was dropped is refused
abbrev pub host_refused : Option ℕ → World → Option Refused
host_refused None w = None
host_refused (Some place) w = if is_free (slice_get w.host_states place) then None else Some (host_taken place)

-- what is gone is refused
abbrev pub gone_refused : Thing → World → Option Refused
gone_refused t w = if lives t w then None else Some (thing_gone t)

-- the first of these signals that is gone
abbrev pub some_gone : List ℕ → World → Option Refused
some_gone [] w = None
some_gone (n ∷ ns) w = option_or (gone_refused (the_signal n) w) (some_gone ns w)

-- why a rewiring is refused: first its target, then the names of its source, then its host formula
abbrev pub rewiring_refused : ℕ → Recipe → World → Option Refused
rewiring_refused n r w =
    option_or (gone_refused (the_signal n) w) (option_or (some_gone r.slots w) (host_refused (host_of r.expression) w))

-- The change is told, a new host formula is used, and then the one before is dropped. Only a computed is rewired.
abbrev pub rewire_standing : Stands → ℕ → Recipe → World → World
rewire_standing (IsComputed c) n r w =
    with_drop (host_of c.recipe.expression) (with_use (host_of r.expression)
    (tell (changed_signal n Rewire) (record w { signals = with_recipe w.signals n r; memos = after_rewiring w.memos n })))
rewire_standing _ n r w = w

-- what is done, unless there is a refusal to be told
abbrev pub or_refused : Option Refused → World → World → World
or_refused None done w = done
or_refused (Some why) done w = tell (refused why) w

-- a computed gets another recipe
abbrev pub rewire_signal : ℕ → Recipe → World → World
rewire_signal n r w = or_refused (rewiring_refused n r w) (rewire_standing (standing w.signals n) n r w) w

-- ---- ends

-- a watcher no longer watches a signal
abbrev pub forget : ℕ → Watcher → Watcher
forget n x = record x { signals = without (λ (m : ℕ). m) n x.signals }

-- a signal goes, from all watchers too, and that is told
abbrev pub without_node : ℕ → World → World
without_node n w =
    tell (changed_signal n Gone)
    (record w { signals = without_signal w.signals n; memos = after_disposal w.memos n; watchers = map (forget n) w.watchers })

-- a computed that has a host formula drops that first
abbrev pub end_standing : Stands → ℕ → World → World
end_standing IsGone n w = w
end_standing (IsCell c) n w = without_node n w
end_standing (IsComputed c) n w = without_node n (with_drop (host_of c.recipe.expression) w)

-- a thing goes out of its table
abbrev pub end_of : Thing → World → World
end_of (the_signal n) w = end_standing (standing w.signals n) n w
end_of (the_owner n) w = record w { owners = without (λ (m : ℕ). m) n w.owners }
end_of (the_effect n) w = record w { effects = without (λ (x : Effect). x.number) n w.effects }
end_of (the_page n) w = record w { pages = without (λ (m : ℕ). m) n w.pages }
end_of (the_watcher n) w = record w { watchers = without (λ (x : Watcher). x.number) n w.watchers }

-- a cleanup is done as the act of the same words
abbrev pub do_cleanup : Environment → Cleanup → World → World
do_cleanup env (sets n v) w = set_cell env n v w
do_cleanup env (logs v) w = tell (logged v) w

-- one step of a teardown
abbrev pub undo : Environment → Undoing → World → World
undo env (cleans t c) w = do_cleanup env c (tell (cleaned t c) w)
undo env (ends t) w = tell (gone t) (end_of t w)

-- the steps of a teardown in order
abbrev pub undo_all : Environment → List Undoing → World → World
undo_all env [] w = w
undo_all env (u ∷ us) w = undo_all env us (undo env u w)

-- what stands under a thing is taken back
abbrev pub take_back : Environment → Thing → World → World
take_back env t w = undo_all env (teardown_of t (under t w.owned)) (record w { owned = emptied t w.owned })

-- a thing that lives is disposed
abbrev pub dispose_live : Environment → Thing → World → World
dispose_live env t w = undo_all env (disposal_of t w.owned) (record w { owned = taken_out t w.owned })

-- a thing is disposed; one that is gone is refused
abbrev pub dispose_thing : Environment → Thing → World → World
dispose_thing env t w = if lives t w then dispose_live env t w else tell (refused (thing_gone t)) w
