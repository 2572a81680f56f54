-- What a command that may ask host formulas asks for, and what it leaves.
use Rattle.std.specs.Prelude.{◌≡◌, ◌≤◌, ◌<◌, ◌+◌, ℕ, Bool, List}
use Rattle.signal_model.specs.Recipes.{Hosts}
use Rattle.sig_host.specs.Hosts.{HostPlace, most_asked}
use Rattle.effect_world.specs.Costs.{weight}
use Rattle.effect_world.specs.Stores.{Agrees, IsSound}
use Rattle.live_entries.specs.declared.entry.Entry.{Entry}
use Rattle.live_entries.specs.Printed.{AreToldFor}
use Rattle.live_model.specs.Machine as plain
use Rattle.live_model.specs.Machine.{Told}
use Rattle.live_core.specs.Consistency.{IsReady, Leaves, Steps, WorldAgrees}
use Rattle.live_core.specs.declared.machine.Machine.{Machine}

-- Host formulas may be asked: the machine is ready, its stores belong together with what is known of them, the shelf counts its asks, and no
-- counter has come so far.
pub record CanAsk (asked : List HostPlace) (m : Machine) (counts : Type 0) (far : ℕ) : Type 0 where
  pub ready : IsReady m
  pub agrees : Agrees asked m.world
  pub counted : counts
  pub weight : weight m.world < far
  pub most : most_asked asked < far

-- and so many equality rules be used
pub record CanDo (asked : List HostPlace) (rules : ℕ) (m : Machine) (counts : Type 0) (far : ℕ) : Type 0 where
  pub ready : IsReady m
  pub holds : WorldAgrees asked rules m.world
  pub counted : counts
  pub weight : weight m.world < far
  pub most : most_asked asked < far

-- A command was done, by a shelf that counts its asks: machine and entries are what the plain machine comes to, where the shelf answers by its
-- meanings and what was kept was sound, and the machine is ready for the next command; the shelf answers as before, and none of its counts rose
-- further than so much.
pub record Did (asked later : List HostPlace) (rules : ℕ) (old new : Machine) (before after : Hosts → Type 0) (counts : Type 0) (asks : ℕ)
    (entries : List Entry) (next : Hosts → Told) : Type 0 where
  pub steps : (hosts : Hosts) → before hosts → IsSound hosts asked old.world → Steps hosts later new entries (next hosts)
  pub leaves : (hosts : Hosts) → before hosts → IsSound hosts asked old.world → Leaves asked later rules old new
  pub answers : (hosts : Hosts) → before hosts → after hosts
  pub counted : counts
  pub most : most_asked later ≤ most_asked asked + asks

-- A command was done so, and these entries are what is told; where no trace is asked for, some may be missing that only a trace prints.
pub record DidFor (traced : Bool) (asked later : List HostPlace) (rules : ℕ) (old new : Machine) (before after : Hosts → Type 0)
    (counts : Type 0) (asks : ℕ) (entries : List Entry) (next : Hosts → Told) : Type 0 where
  pub all : List Entry
  pub told : AreToldFor traced entries all
  pub did : Did asked later rules old new before after counts asks all next

-- A plain machine was reached, and these entries are what is told; where no trace is asked for, some may be missing that only a trace prints.
pub record TellsFor (traced : Bool) (m : plain.Machine) (entries : List Entry) (next : Told) : Type 0 where
  pub all : List Entry
  pub told : AreToldFor traced entries all
  pub is : plain.reached m all ≡ next
