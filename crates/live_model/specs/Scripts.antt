-- Commands and items as a script has them.
use Rattle.std.specs.Prelude.{◌≡◌, ◌≤◌, ◌&&◌, ℕ, nat_lt, not, Bool, true, List, length}
use Rattle.sig_base.specs.declared.limits.TheConstants.{MOST_FIELDS, MOST_SOURCES}
use Rattle.tpl_blocks.specs.Blocks.{lines_of}
use Rattle.tpl_model.specs.Laws.{IsTemplate}
use Rattle.live_cmd.specs.Grammar.{are_fields}
use Rattle.live_cmd.specs.declared.command.Command.{Command}
use Rattle.live_cmd.specs.declared.command.Command.TheVariants as command
use Rattle.live_cmd.specs.declared.command.Item.{Item}
use Rattle.live_cmd.specs.declared.command.Item.TheVariants as item
use Rattle.live_cmd.specs.declared.command.SourceText.{SourceText}
use Rattle.live_cmd.specs.declared.command.SourceText.TheVariants as source
use Rattle.live_model.specs.Uses.{is_fit}

-- whether names are those of a list's fields
abbrev pub is_list : List (List ℕ) → Bool
is_list fields = are_fields fields && not (nat_lt MOST_FIELDS (length fields))

-- a host formula is on no more signals than a formula may name
abbrev pub IsReadSource : SourceText → Type 0
IsReadSource (source.Formula f) = Unit {0}
IsReadSource (source.Host place arguments) = length arguments ≤ MOST_SOURCES

-- A list that a command makes has the fields of one, a host formula has few arguments, the body of an effect or of a handler is one that a script
-- can have, and the lines of a template are those of one that was read.
abbrev pub IsReadable : Command → Type 0
IsReadable (command.List n fields inside) = is_list fields ≡ true
IsReadable (command.Computed n s inside) = IsReadSource s
IsReadable (command.Rewire n s) = IsReadSource s
IsReadable (command.Effect n b inside) = is_fit b ≡ true
IsReadable (command.On t line event b) = is_fit b ≡ true
IsReadable (command.Template n t) = IsTemplate (lines_of t)
IsReadable _ = Unit {0}

-- so it is with an item
abbrev pub IsReadItem : Item → Type 0
IsReadItem (item.Do c) = IsReadable c
IsReadItem (item.Refused r) = Unit {0}
