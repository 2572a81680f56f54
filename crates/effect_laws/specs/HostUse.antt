-- Which computed has which host formula, and how often each is asked.
use Rattle.std.specs.Prelude.{◌≡◌, ℕ, Bool, true, false, List, [], ◌∷◌, slice_get, Option, Some}
use Rattle.std.specs.List.{AllByRecursion}
use Rattle.signal_model.specs.Signals.{Computed, computed_at}
use Rattle.signal_model.specs.Asks.{asks_of}
use Rattle.effect_model.specs.Worlds.{Environment, HostState, used, Event, dropped_host, World}
use Rattle.effect_model.specs.Acts.{host_of, asks_so_far}
use Rattle.effect_model.specs.Commands.{Command, new_world, after_commands}
use Rattle.effect_laws.specs.KeptWorlds.{runs_told}

-- whether a host formula is used
abbrev pub is_used : Option HostState → Bool
is_used (Some (used asks)) = true
is_used _ = false

-- the host formula of each computed is used, and is that of no other computed
pub record HaveHosts (cs : List Computed) (ss : List HostState) : Type 0 where
  pub there : (n : ℕ) (c : Computed) (k : ℕ) → computed_at n cs ≡ Some c → host_of c.recipe.expression ≡ Some k → is_used (slice_get ss k) ≡ true
  pub own : (n m : ℕ) (c d : Computed) (k : ℕ) → computed_at n cs ≡ Some c → computed_at m cs ≡ Some d →
      host_of c.recipe.expression ≡ Some k → host_of d.recipe.expression ≡ Some k → n ≡ m

-- a host formula that was dropped, and how often it had been asked
pub record Drop : Type 0 where
  pub place : ℕ
  pub asks : ℕ

-- the drops that were told
abbrev pub drops_told : List Event → List Drop
drops_told [] = []
drops_told (dropped_host place asks ∷ es) = record { place = place; asks = asks } ∷ drops_told es
drops_told (e ∷ es) = drops_told es

-- How often host formulas were asked: what is kept of each is that of all runs that were told. So is what a drop told, since no later run
-- asks it.
pub record AsksAgree (w : World) : Type 0 where
  pub kept : (place : ℕ) → asks_so_far (slice_get w.host_states place) ≡ asks_of place (runs_told w.told)
  pub told : AllByRecursion (λ (d : Drop). d.asks ≡ asks_of d.place (runs_told w.told)) (drops_told w.told)

-- so it is after any commands; and the host formula of each computed is used, and is that of no other
abbrev pub HostLaw : Type 0
HostLaw = (env : Environment) (n : ℕ) (cs : List Command) →
    let w = after_commands env (new_world n) cs in HaveHosts w.signals.computeds w.host_states × AsksAgree w
