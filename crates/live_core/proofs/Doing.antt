-- What commands ask for and leave that leave the shelf as it was, or raise its counts by less.
use Rattle.std.proofs.Common.{◌≤◌, ℕ, arith, List, Result, Ok, Err, IfOk, OnOk}
use Rattle.signal_model.specs.Recipes.{Hosts}
use Rattle.sig_host.specs.Hosts.{HostPlace}
use Rattle.effect_world.specs.Stores.{IsSound}
use Rattle.live_entries.specs.declared.entry.Entry.{Entry}
use Rattle.live_model.specs.Machine.{Told}
use Rattle.live_core.specs.Consistency.{Leaves, Steps}
use Rattle.live_core.specs.Doing.{CanAsk, CanDo, Did}
use Rattle.live_core.specs.declared.machine.Machine.{Machine}

-- a command was done that leaves the shelf as it was
pub did_alone : {A E : Type 0} (r : Result A E) (items : A → List Entry) (asked : List HostPlace) (count : ℕ) (old new : Machine) (before : Hosts → Type 0)
    (counted : Type 0) (asks : ℕ) (next : Hosts → Told) → counted →
    ((hosts : Hosts) → IsSound hosts asked old.world → IfOk r (λ x. Steps hosts asked new (items x) (next hosts))) →
    ((hosts : Hosts) → IsSound hosts asked old.world → OnOk r (Leaves asked asked count old new)) →
    IfOk r (λ x. Did asked asked count old new before before counted asks (items x) next)
did_alone (Ok x) items asked count old new before counted asks next counts steps leaves = record {
  steps = λ hosts a sound. steps hosts sound;
  leaves = λ hosts a sound. leaves hosts sound;
  answers = λ hosts a. a;
  counted = counts;
  most = omega arith;
}
did_alone (Err e) items asked count old new before counted asks next counts steps leaves = tt

-- and one whose asks are fewer than they may be
pub did_within : {A E : Type 0} (r : Result A E) (items : A → List Entry) (asked later : List HostPlace) (count : ℕ) (old new : Machine) (before after : Hosts → Type 0)
    (counted : Type 0) (asks most : ℕ) (next : Hosts → Told) → asks ≤ most →
    IfOk r (λ x. Did asked later count old new before after counted asks (items x) next) →
    IfOk r (λ x. Did asked later count old new before after counted most (items x) next)
did_within (Ok x) items asked later count old new before after counted asks most next few d = record {
  steps = d.steps;
  leaves = d.leaves;
  answers = d.answers;
  counted = d.counted;
  most = let a = d.most in omega (arith, a, few);
}
did_within (Err e) items asked later count old new before after counted asks most next few d = tt

-- what may use rules may ask host formulas, and may do so while the counters come further
pub can_ask : (asked : List HostPlace) (rules : ℕ) (m : Machine) (counted : Type 0) (far further : ℕ) → far ≤ further → CanDo asked rules m counted far →
    CanAsk asked m counted further
can_ask asked rules m counted far further le can =
    let w = can.weight in
    let a = can.most in
    record { ready = can.ready; agrees = can.holds.agrees; counted = can.counted; weight = omega (arith, w, le); most = omega (arith, a, le) }

pub can_further : (asked : List HostPlace) (rules : ℕ) (m : Machine) (counted : Type 0) (far further : ℕ) → far ≤ further → CanDo asked rules m counted far →
    CanDo asked rules m counted further
can_further asked rules m counted far further le can =
    let w = can.weight in
    let a = can.most in
    record { ready = can.ready; holds = can.holds; counted = can.counted; weight = omega (arith, w, le); most = omega (arith, a, le) }
