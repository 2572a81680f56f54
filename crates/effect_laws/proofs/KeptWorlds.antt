-- Commands keep the memos sound, and tell current runs.
use Rattle.std.proofs.Common.{ℕ, ◌+◌, List, [], ◌∷◌}
use Rattle.std.specs.List.{AllByRecursion}
use Rattle.signal_model.specs.Signals.{Signals, Cell, Computed}
use Rattle.signal_model.specs.Memos.{Memos}
use Rattle.signal_model.specs.Settling.{Run, settled}
use Rattle.signal_model.specs.Asks.{moments}
use Rattle.signal_model.specs.Kept.{AreKept, AreGiven}
use Rattle.signal_laws.specs.ChangeLaws.{AllGiven, given_below, IsNext}
use Rattle.signal_laws.specs.RunLaws.{IsCurrentRun}
use Rattle.signal_laws.proofs.Shared.{empty_law, set_law, rewire_law, dispose_law, cell_law, computed_law, settle_law, currency_law, all_append, given_next_law, given_empty_law, given_more_law, given_cell_law, given_computed_law, given_set_law, given_rewire_law, given_dispose_law, given_settle_law}
use Rattle.effect_model.specs.Worlds.{Environment, World}
use Rattle.effect_model.specs.Runs.{flush}
use Rattle.effect_model.specs.Commands.{new_world, after_command, after_commands}
use Rattle.effect_laws.specs.KeptWorlds.{IsCurrentMoment, IsKeptWorld, NewWorldLaw, CommandLaw, FlushLaw, CommandsLaw}
use Rattle.effect_laws.proofs.Changes.{Core, core_of, AllStand, IsKeptByChanges, flush_keeps_core, command_keeps, commands_keep}

-- the memos of the part that changes, the names in use, and the runs that were told
abbrev pub Kept : Environment → Core → Type 0
Kept env c = AreKept env.hosts c.signals c.memos × AreGiven (given_below c.made.signals) c.signals c.memos × AllByRecursion (IsCurrentMoment env) c.runs

-- the runs of a settling are current at its moment
moments_current : (env : Environment) (w : Signals) (k : Memos) (asked : List ℕ) → AreKept env.hosts w k → (rs : List Run) →
    AllByRecursion (IsCurrentRun env.hosts w k asked) rs → AllByRecursion (IsCurrentMoment env) (moments w rs)
moments_current env w k asked kept [] h = tt
moments_current env w k asked kept (r ∷ rs) h =
    (record { memos = k; asked = asked; kept = kept; current = h.0 }, moments_current env w k asked kept rs h.1)

-- what stands was given
stand_given : (made : ℕ) (w : Signals) (k : Memos) (ns : List ℕ) → AreGiven (given_below made) w k → AllStand w ns → AllGiven (given_below made) ns
stand_given made w k ns g s n i = g.names n (s n i)

pub changes_keep : (env : Environment) → IsKeptByChanges env (Kept env)
changes_keep env = record {
  acts = record {
    edits = record {
      sets = λ n v x c e k. (set_law env.hosts c.signals c.memos n x v e k.0, given_set_law (given_below c.made.signals) c.signals c.memos n v k.1, k.2);
      rewires = λ n r x c e stand free k. (
        rewire_law env.hosts c.signals c.memos n x r e k.0,
        given_rewire_law (given_below c.made.signals) c.signals c.memos n r (stand_given c.made.signals c.signals c.memos r.slots k.1 stand) k.1,
        k.2,
      );
      ends = λ n old c stands host k. (
        dispose_law env.hosts c.signals c.memos n stands k.0,
        given_dispose_law (given_below c.made.signals) c.signals c.memos n k.1,
        k.2,
      );
    };
    settles = λ names c k. (
      settle_law env.hosts c.signals c.memos names k.0,
      given_settle_law env.hosts (given_below c.made.signals) c.signals c.memos names k.1,
      all_append (IsCurrentMoment env) c.runs _ k.2
          (moments_current env c.signals c.memos names k.0 (settled env.hosts c.signals c.memos names).runs
          (currency_law env.hosts c.signals c.memos names k.0)),
    );
  };
  makes_cell = λ v rule c k.
      let x : Cell = record { name = c.made.signals; value = v; rule = rule } in
      let next : IsNext c.made.signals = given_next_law c.made.signals in
      let more : AreGiven (given_below (c.made.signals + 1)) c.signals c.memos =
      given_more_law (given_below c.made.signals) (given_below (c.made.signals + 1)) c.signals c.memos next.stay k.1 in (
        cell_law env.hosts (given_below c.made.signals) c.signals c.memos x k.1 next.new k.0,
        given_cell_law (given_below (c.made.signals + 1)) c.signals c.memos x next.given more,
        k.2,
      );
  makes_computed = λ r c stand free k.
      let x : Computed = record { name = c.made.signals; recipe = r } in
      let next : IsNext c.made.signals = given_next_law c.made.signals in
      let more : AreGiven (given_below (c.made.signals + 1)) c.signals c.memos =
      given_more_law (given_below c.made.signals) (given_below (c.made.signals + 1)) c.signals c.memos next.stay k.1 in (
        computed_law env.hosts (given_below c.made.signals) c.signals c.memos x k.1 next.new k.0,
        given_computed_law (given_below (c.made.signals + 1)) c.signals c.memos x next.given
            (stand_given (c.made.signals + 1) c.signals c.memos r.slots more stand) more,
        k.2,
      );
  makes_others = λ owners pages watchers c k. k;
}

pub of_world : (env : Environment) (w : World) → IsKeptWorld env w → Kept env (core_of w)
of_world env w k = (k.memos, k.names, k.runs)

to_world : (env : Environment) (w : World) → Kept env (core_of w) → IsKeptWorld env w
to_world env w k = record { memos = k.0; names = k.1; runs = k.2 }

pub new_world_law : NewWorldLaw
new_world_law env n = record { memos = empty_law env.hosts; names = given_empty_law (given_below 0); runs = tt }

pub command_law : CommandLaw
command_law env w c k = to_world env (after_command env w c) (command_keeps env (Kept env) (changes_keep env) w c (of_world env w k))

pub flush_law : FlushLaw
flush_law env w k = to_world env (flush env w).world (flush_keeps_core env (Kept env) (changes_keep env).acts w (of_world env w k))

pub commands_law : CommandsLaw
commands_law env n cs =
    to_world env (after_commands env (new_world n) cs)
    (commands_keep env (Kept env) (changes_keep env) cs (new_world n) (of_world env (new_world n) (new_world_law env n)))
