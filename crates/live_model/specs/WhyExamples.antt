-- Worked examples of journals: a list of items, and what the machine tells of it.
use Rattle.std.specs.Prelude.{◌≡◌, ℕ, List, [], ◌∷◌, codes}
use Rattle.std.proofs.Common.{refl}
use Rattle.sig_formula.specs.declared.formula.BinOp.TheVariants.{Add, Mul}
use Rattle.sig_formula.specs.Trees.{slot, literal, binary}
use Rattle.why_model.specs.Records.{with_fact}
use Rattle.live_cmd.specs.declared.command.Bare.TheVariants as bares
use Rattle.live_cmd.specs.declared.command.Command.TheVariants as command
use Rattle.live_cmd.specs.declared.command.SourceText.TheVariants as source
use Rattle.live_cmd.specs.declared.command.Verb.TheVariants as verb
use Rattle.live_cmd.specs.declared.command.Item.{Item}
use Rattle.live_cmd.specs.declared.command.Item.TheVariants as item
use Rattle.live_entries.specs.declared.entry.Entry.TheVariants as entry
use Rattle.live_entries.specs.declared.entry.Reason.TheVariants as reason
use Rattle.live_entries.specs.declared.refusal.Refusal.TheVariants as refusal
use Rattle.live_model.specs.BatchExamples.{alone}
use Rattle.live_model.specs.Examples.{told_by, a_cell, int, a_computed, a_set, a_get, comes_to, error, untraced}

-- why a computed ran
abbrev pub a_why : List ℕ → Item
a_why n = item.Do (command.Named verb.Why n)

-- b = a + 1; d = b * 2. After a set of a, and after a rewiring of b, it is asked why d and b ran.
abbrev pub led_back : List Item
led_back = alone bares.Record ∷ a_cell (codes "a") (int 1) ∷ a_computed (codes "b") (binary Add (slot 0) (literal (int 1))) (codes "a" ∷ [])
    ∷ a_computed (codes "d") (binary Mul (slot 0) (literal (int 2))) (codes "b" ∷ []) ∷ a_get (codes "d") ∷ a_set (codes "a") (int 5)
    ∷ a_get (codes "d") ∷ a_why (codes "d") ∷ a_why (codes "b") ∷ item.Do (command.Rewire (codes "b") (source.Formula (literal (int 3), [])))
    ∷ a_get (codes "d") ∷ a_why (codes "d") ∷ []

-- what it tells
pub led_back_told : untraced (told_by 0 led_back)
    ≡ comes_to (codes "d") 4 ∷ comes_to (codes "d") 12 ∷ entry.Why (codes "d") 5 (reason.Changed (codes "b") 4)
    ∷ entry.Why (codes "b") 4 (reason.Changed (codes "a") 3) ∷ entry.Why (codes "b") 4 (reason.Changed (codes "a") 3) ∷ comes_to (codes "d") 6
    ∷ entry.Why (codes "d") 8 (reason.Changed (codes "b") 7) ∷ entry.Why (codes "b") 7 (reason.Rewired 6) ∷ []
unfolding with_fact
led_back_told = refl

-- a journal that would begin after a cell was made, and what has never run
abbrev pub begun_late : List Item
begun_late = a_cell (codes "a") (int 1) ∷ alone bares.Record ∷ a_computed (codes "b") (slot 0) (codes "a" ∷ []) ∷ a_why (codes "b") ∷ []

-- what it tells
pub begun_late_told : told_by 0 begun_late ≡ error refusal.Late ∷ error (refusal.NoRun (codes "b")) ∷ []
unfolding with_fact
begun_late_told = refl

-- A journal begins once. While a batch is open neither is done. A value that an abort gives back is noted.
abbrev pub noted_back : List Item
noted_back = alone bares.Record ∷ alone bares.Record ∷ a_cell (codes "a") (int 1) ∷ a_computed (codes "b") (slot 0) (codes "a" ∷ [])
    ∷ a_get (codes "b") ∷ alone bares.Begin ∷ a_set (codes "a") (int 2) ∷ a_why (codes "b") ∷ alone bares.Record ∷ alone bares.Abort
    ∷ a_get (codes "b") ∷ a_why (codes "b") ∷ []

-- what it tells
pub noted_back_told : untraced (told_by 0 noted_back)
    ≡ error refusal.Late ∷ comes_to (codes "b") 1 ∷ error refusal.BatchOpen ∷ error refusal.BatchOpen ∷ comes_to (codes "b") 1
    ∷ entry.Why (codes "b") 4 (reason.Changed (codes "a") 3) ∷ []
unfolding with_fact
noted_back_told = refl
