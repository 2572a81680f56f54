-- What a script tells, and where it comes to.
use Rattle.std.specs.Prelude.{List, [], ◌∷◌, ◌++◌}
use Rattle.effect_model.specs.Worlds.{Environment}
use Rattle.live_cmd.specs.declared.command.Item.{Item}
use Rattle.live_entries.specs.declared.entry.Entry.{Entry}
use Rattle.live_model.specs.Machine.{Machine, step}

-- the machine that items come to, one after the other
abbrev pub machine_after : Environment → Machine → List Item → Machine
machine_after env m [] = m
machine_after env m (i ∷ is) = machine_after env (step env m i).machine is

-- what they tell
abbrev pub entries_from : Environment → Machine → List Item → List Entry
entries_from env m [] = []
entries_from env m (i ∷ is) = (step env m i).entries ++ entries_from env (step env m i).machine is
