-- What is refused of a name in the body of the effect that has it.
use Rattle.std.specs.Prelude.{Option, Some, None, if◌then◌else◌}
use Rattle.live_entries.specs.declared.refusal.Refusal.{Refusal}
use Rattle.live_entries.specs.declared.refusal.Refusal.TheVariants as refusal
use Rattle.live_model.specs.declared.names.Kind.TheVariants as kind
use Rattle.live_model.specs.Names.{Use, meets}

-- what is refused of the own name of an effect in its body
abbrev pub own_refused : Use → Option Refusal
own_refused (n, needed) = if meets needed kind.Effect then None else Some (refusal.Kind n)
