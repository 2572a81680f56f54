-- Worked examples of batches: a list of items, and what the machine tells of it.
use Rattle.std.specs.Prelude.{◌≡◌, List, [], ◌∷◌, Some, None, codes}
use Rattle.std.proofs.Common.{refl}
use Rattle.sig_formula.specs.declared.formula.BinOp.TheVariants.{Add}
use Rattle.sig_formula.specs.Trees.{slot, binary}
use Rattle.live_cmd.specs.declared.command.Bare.{Bare}
use Rattle.live_cmd.specs.declared.command.Bare.TheVariants as bares
use Rattle.live_cmd.specs.declared.command.Command.TheVariants as command
use Rattle.live_cmd.specs.declared.command.Try.TheVariants as try
use Rattle.live_cmd.specs.declared.command.Item.{Item}
use Rattle.live_cmd.specs.declared.command.Item.TheVariants as item
use Rattle.live_entries.specs.declared.entry.Entry.TheVariants as entry
use Rattle.live_entries.specs.declared.refusal.Refusal.TheVariants as refusal
use Rattle.live_model.specs.Examples.{told_by, a_cell, int, a_computed, a_set, a_get, a_dispose, a_pending, a_watcher, a_watch, comes_to, error, untraced}

-- ---- words for the examples

-- a command of one word
abbrev pub alone : Bare → Item
alone b = item.Do (command.Bare b)

-- ---- batches, one after the other

-- a = 10 by the second rule; b = 1; c = a + b; a watcher of c. In a batch both are set and c is asked for; a flush and another beginning are
-- refused, and it is committed; there is nothing to commit then. In the next a is set and set back; in the last b is set, and is given back.
abbrev pub told_once : List Item
told_once = item.Do (command.Cell (codes "a") (int 10) (Some 1) None) ∷ a_cell (codes "b") (int 1)
    ∷ a_computed (codes "c") (binary Add (slot 0) (slot 1)) (codes "a" ∷ codes "b" ∷ []) ∷ a_watcher (codes "w")
    ∷ a_watch (codes "w") (codes "c" ∷ []) ∷ a_get (codes "c")
    ∷ alone bares.Begin ∷ a_set (codes "a") (int 20) ∷ a_set (codes "b") (int 2) ∷ a_get (codes "c") ∷ alone bares.Flush ∷ alone bares.Begin
    ∷ alone bares.Commit ∷ alone bares.Commit
    ∷ a_watch (codes "w") [] ∷ alone bares.Begin ∷ a_set (codes "a") (int 30) ∷ a_set (codes "a") (int 20) ∷ alone bares.Commit
    ∷ alone bares.Begin ∷ a_set (codes "b") (int 9) ∷ a_get (codes "c") ∷ alone bares.Abort ∷ a_get (codes "b") ∷ a_get (codes "c") ∷ []

-- what it tells
pub told_once_told : untraced (told_by 0 told_once)
    ≡ comes_to (codes "c") 11 ∷ comes_to (codes "c") 22 ∷ error refusal.BatchOpen ∷ error refusal.BatchOpen ∷ entry.Notify (codes "w")
    ∷ error refusal.NoBatch ∷ comes_to (codes "c") 29 ∷ comes_to (codes "b") 2 ∷ comes_to (codes "c") 22 ∷ []
told_once_told = refl

-- a = 10 by the second rule, and a watcher of a that tries `get a`. A batch that comes from 10 to 12 by way of 20 tells nobody; one that comes
-- to 18 does, and what it changed stands though the try is refused.
abbrev pub net_alone : List Item
net_alone = item.Do (command.Cell (codes "a") (int 10) (Some 1) None) ∷ item.Do (command.Watcher (codes "v") (Some (try.Get (codes "a"))))
    ∷ a_watch (codes "v") (codes "a" ∷ []) ∷ alone bares.Begin ∷ a_set (codes "a") (int 20) ∷ a_set (codes "a") (int 12) ∷ alone bares.Commit
    ∷ a_get (codes "a") ∷ alone bares.Begin ∷ a_set (codes "a") (int 18) ∷ alone bares.Commit ∷ a_get (codes "a") ∷ []

-- what it tells
pub net_alone_told : told_by 0 net_alone
    ≡ comes_to (codes "a") 12 ∷ entry.Notify (codes "v") ∷ error (refusal.Frozen (codes "v" ∷ [])) ∷ comes_to (codes "a") 18 ∷ []
net_alone_told = refl

-- ---- what is refused

-- While a batch is open, what isn't done in it is refused before its names are looked up, and what is done is refused for its names. What a
-- watcher has pending can be asked for. An abort where none is open is refused.
abbrev pub refused_in_batch : List Item
refused_in_batch = a_cell (codes "a") (int 1) ∷ a_watcher (codes "w") ∷ alone bares.Abort ∷ alone bares.Begin ∷ a_dispose (codes "z")
    ∷ a_cell (codes "a") (int 2) ∷ a_watch (codes "w") [] ∷ a_get (codes "z") ∷ a_set (codes "w") (int 2) ∷ a_pending (codes "w")
    ∷ item.Refused (refusal.Syntax 11) ∷ []

-- what it tells
pub refused_in_batch_told : told_by 0 refused_in_batch
    ≡ error refusal.NoBatch ∷ error refusal.BatchOpen ∷ error refusal.BatchOpen ∷ error refusal.BatchOpen ∷ error (refusal.Unknown (codes "z"))
    ∷ error (refusal.Kind (codes "w")) ∷ entry.Pending (codes "w") [] ∷ error (refusal.Syntax 11) ∷ []
refused_in_batch_told = refl
