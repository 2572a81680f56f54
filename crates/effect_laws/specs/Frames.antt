-- The part of a plain world that acts on signals read and change.
use Rattle.std.specs.Prelude.{◌≡◌, ℕ, List, [], ◌∷◌, ◌++◌}
use Rattle.signal_model.specs.Signals.{without}
use Rattle.effect_model.specs.Owners.{the_owner, the_effect, the_page, nothing, Undoing, ends}
use Rattle.effect_model.specs.Worlds.{Effect, World}

-- the signals of a world, with their watchers and host formulas, in a world where nothing else was made and nothing was told
abbrev pub signal_part : World → World
signal_part w = record w {
  owners = [];
  effects = [];
  pages = [];
  owned = nothing;
  made = record (w.made) { owners = 0; effects = 0; pages = 0 };
  told = [];
}

-- a world with the signals of another, and with what that told behind what it told itself
abbrev pub with_part : World → World → World
with_part part w = record w {
  signals = part.signals;
  memos = part.memos;
  host_states = part.host_states;
  watchers = part.watchers;
  made = record (w.made) { signals = part.made.signals; watchers = part.made.watchers };
  told = w.told ++ part.told;
}

-- an act on signals: it does to a world what it does to its signals alone
pub record IsOfSignals (act : World → World) : Type 0 where
  pub framed : (w : World) → act w ≡ with_part (act (signal_part w)) w

-- what ends in a step of a teardown goes out of its table, a signal or a watcher apart
abbrev pub ended_one : Undoing → World → World
ended_one (ends (the_owner n)) w = record w { owners = without (λ (m : ℕ). m) n w.owners }
ended_one (ends (the_effect n)) w = record w { effects = without (λ (x : Effect). x.number) n w.effects }
ended_one (ends (the_page n)) w = record w { pages = without (λ (m : ℕ). m) n w.pages }
ended_one _ w = w

-- the same in each step, in order
abbrev pub ended_all : List Undoing → World → World
ended_all [] w = w
ended_all (u ∷ us) w = ended_all us (ended_one u w)
