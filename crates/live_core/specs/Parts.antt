-- Parts of a machine that stay.
use Rattle.std.specs.Prelude.{◌≡◌}
use Rattle.live_core.specs.declared.machine.Machine.{Machine}

-- beside names and what things are called all is as before
abbrev pub KeepsParts : Machine → Machine → Type 0
KeepsParts old new = new ≡ record old { names = new.names; labels = new.labels }
