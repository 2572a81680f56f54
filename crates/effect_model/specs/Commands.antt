-- What the commands of a script do to the whole, apart from names, limits and what pages show.
use Rattle.std.specs.Prelude.{ℕ, ◌+◌, Bool, true, false, List, [], ◌∷◌, ◌++◌, Option, Some, None, replicate, if◌then◌else◌}
use Rattle.std.specs.Option.{option_or}
use Rattle.sig_base.specs.declared.value.Value.{Value}
use Rattle.signal_model.specs.Recipes.{Recipe}
use Rattle.signal_model.specs.Signals.{is_in, changed}
use Rattle.signal_model.specs.Changes.{no_signals, no_memos, with_cell, with_computed, after_making}
use Rattle.effect_model.specs.Owners.{Thing, the_signal, the_owner, the_effect, the_page, the_watcher, nothing, made_inside}
use Rattle.effect_model.specs.Bodies.{Body}
use Rattle.effect_model.specs.Worlds.{Environment, unused, Watcher, Refused, still_due, refused, logged, World, tell, settle}
use Rattle.effect_model.specs.Acts.{set_cell, rewire_signal, dispose_thing, host_of, with_use, host_refused, gone_refused, some_gone, or_refused}
use Rattle.effect_model.specs.Acts.{forget, notify_of_all}
use Rattle.effect_model.specs.Batches.{Batch, set_quietly, abort}
use Rattle.effect_model.specs.Runs.{with_effect, flush}

-- a command, with the things that its names stand for
pub data Command : Type 0 where
  -- a cell with a value and perhaps a rule, and a computed with a recipe, each perhaps inside an owner
  cell : Value → Option ℕ → Option ℕ → Command
  computed : Recipe → Option ℕ → Command
  owner : Option ℕ → Command
  effect : Body → Option ℕ → Command
  page : Option ℕ → Command
  -- a watcher, and whether its notification tries a command
  watcher : Bool → Command
  -- a watcher and the signals that it watches too, or the one that it no longer watches
  watch : ℕ → List ℕ → Command
  unwatch : ℕ → ℕ → Command
  set : ℕ → Value → Command
  -- what batches do: a cell is set and nobody is notified, cells have their earlier values back, and of signals that were changed is told together
  set_untold : ℕ → Value → Command
  restore : Batch → Command
  tell_together : List ℕ → Command
  rewire : ℕ → Recipe → Command
  -- these signals are asked for; what is gone may be among them
  ask : List ℕ → Command
  -- a value is logged
  log : Value → Command
  dispose : Thing → Command
  flush_all : Command

-- nothing was made yet, and there are so many host formulas
abbrev pub new_world : ℕ → World
new_world n = record {
  signals = no_signals;
  memos = no_memos;
  host_states = replicate n unused;
  watchers = [];
  owners = [];
  effects = [];
  pages = [];
  owned = nothing;
  made = record { signals = 0; owners = 0; effects = 0; pages = 0; watchers = 0 };
  told = [];
}

-- a cell is made
abbrev pub with_new_cell : Value → Option ℕ → Option ℕ → World → World
with_new_cell v rule inside w = record w {
  signals = with_cell w.signals (record { name = w.made.signals; value = v; rule = rule });
  memos = after_making w.memos w.made.signals;
  owned = made_inside inside (the_signal w.made.signals) w.owned;
  made = record (w.made) { signals = w.made.signals + 1 };
}

-- a computed is made
abbrev pub with_new_computed : Recipe → Option ℕ → World → World
with_new_computed r inside w = record w {
  signals = with_computed w.signals (record { name = w.made.signals; recipe = r });
  memos = after_making w.memos w.made.signals;
  owned = made_inside inside (the_signal w.made.signals) w.owned;
  made = record (w.made) { signals = w.made.signals + 1 };
}

-- an owner is made
abbrev pub with_new_owner : Option ℕ → World → World
with_new_owner inside w = record w {
  owners = w.owners ++ w.made.owners ∷ [];
  owned = made_inside inside (the_owner w.made.owners) w.owned;
  made = record (w.made) { owners = w.made.owners + 1 };
}

-- an effect is made; it has not run
abbrev pub with_new_effect : Body → Option ℕ → World → World
with_new_effect b inside w =
    with_effect (record { number = w.made.effects; body = b; kept = None })
    (record w { owned = made_inside inside (the_effect w.made.effects) w.owned })

-- a page is made
abbrev pub with_new_page : Option ℕ → World → World
with_new_page inside w = record w {
  pages = w.pages ++ w.made.pages ∷ [];
  owned = made_inside inside (the_page w.made.pages) w.owned;
  made = record (w.made) { pages = w.made.pages + 1 };
}

-- a watcher is made; it watches nothing and is waiting
abbrev pub with_new_watcher : Bool → World → World
with_new_watcher tries w = record w {
  watchers = w.watchers ++ record { number = w.made.watchers; signals = []; watching = false; tries = tries } ∷ [];
  made = record (w.made) { watchers = w.made.watchers + 1 };
}

-- a signal that is watched already isn't appended again
abbrev pub also_watched : List ℕ → List ℕ → List ℕ
also_watched old [] = old
also_watched old (n ∷ ns) = also_watched (if is_in n old then old else old ++ n ∷ []) ns

-- it watches these too, and is watching
abbrev pub armed : List ℕ → Watcher → Watcher
armed names x = record x { signals = also_watched x.signals names; watching = true }

-- a watcher is changed
abbrev pub changed_watcher : ℕ → (Watcher → Watcher) → World → World
changed_watcher n f w = record w { watchers = changed (λ (x : Watcher). x.number) n f w.watchers }

-- a flush that is refused tells so
abbrev pub told_if : Bool → World → World
told_if true w = tell (refused still_due) w
told_if false w = w

-- an owner that is gone can't own
abbrev pub inside_refused : Option ℕ → World → Option Refused
inside_refused None w = None
inside_refused (Some o) w = gone_refused (the_owner o) w

-- Why a command is refused before it does anything, where it isn't one that effects have as an act: its names in the order of the text,
-- and then its host formula.
abbrev pub command_refused : Command → World → Option Refused
command_refused (cell v rule inside) w = inside_refused inside w
command_refused (computed r inside) w =
    option_or (some_gone r.slots w) (option_or (inside_refused inside w) (host_refused (host_of r.expression) w))
command_refused (owner inside) w = inside_refused inside w
command_refused (effect b inside) w = inside_refused inside w
command_refused (page inside) w = inside_refused inside w
command_refused (watch n names) w = option_or (gone_refused (the_watcher n) w) (some_gone names w)
command_refused (unwatch n m) w = option_or (gone_refused (the_watcher n) w) (gone_refused (the_signal m) w)
command_refused _ w = None

-- what a command does that isn't refused so
abbrev pub done_by : Environment → Command → World → World
done_by env (cell v rule inside) w = with_new_cell v rule inside w
done_by env (computed r inside) w = with_use (host_of r.expression) (with_new_computed r inside w)
done_by env (owner inside) w = with_new_owner inside w
done_by env (effect b inside) w = with_new_effect b inside w
done_by env (page inside) w = with_new_page inside w
done_by env (watcher tries) w = with_new_watcher tries w
done_by env (watch n names) w = changed_watcher n (armed names) w
done_by env (unwatch n m) w = changed_watcher n (forget m) w
done_by env (set n v) w = set_cell env n v w
done_by env (set_untold n v) w = set_quietly env n v w
done_by env (restore b) w = abort b w
done_by env (tell_together ns) w = notify_of_all ns w
done_by env (rewire n r) w = rewire_signal n r w
done_by env (ask names) w = settle env names w
done_by env (log v) w = tell (logged v) w
done_by env (dispose t) w = dispose_thing env t w
done_by env flush_all w = let f = flush env w in told_if f.refused f.world

-- one command
abbrev pub after_command : Environment → World → Command → World
after_command env w c = or_refused (command_refused c w) (done_by env c w) w

-- commands, one after the other
abbrev pub after_commands : Environment → World → List Command → World
after_commands env w [] = w
after_commands env w (c ∷ cs) = after_commands env (after_command env w c) cs
