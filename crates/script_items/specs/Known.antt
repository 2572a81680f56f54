-- What a table of names knows.
use Rattle.std.specs.Prelude.{◌≡◌, None}
use Rattle.std.specs.List.{All}
use Rattle.script_items.specs.declared.known.KnownNames.{KnownNames}

-- no name is known
abbrev pub KnowsNone : KnownNames → Type 0
KnowsNone k = All (λ n. n ≡ None) k.names.items
