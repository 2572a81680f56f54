-- Worked examples with owners, effects and pages inside owners.
use Rattle.std.specs.Prelude.{◌≡◌, ℕ, pos, List, [], ◌∷◌, Some, None, codes}
use Rattle.std.proofs.Common.{refl}
use Rattle.sig_base.specs.declared.value.Value.TheVariants as value
use Rattle.sig_base.specs.declared.value.Fault.TheVariants as fault
use Rattle.sig_formula.specs.declared.formula.BinOp.TheVariants.{Add}
use Rattle.sig_formula.specs.Trees.{Tree, literal, slot, binary}
use Rattle.effect_model.specs.declared.plain.Plain.TheVariants as p
use Rattle.sig_untrack.specs.Stated.{Stated, Bodies, no_bodies, body, no_more, plain, when, effect, rewire}
use Rattle.sig_untrack.specs.Stated as stated
use Rattle.live_cmd.specs.declared.command.SourceText.TheVariants as source
use Rattle.live_cmd.specs.declared.command.Verb.TheVariants as verb
use Rattle.live_cmd.specs.declared.command.Bare.TheVariants as bares
use Rattle.live_cmd.specs.declared.command.Command.TheVariants as command
use Rattle.live_cmd.specs.declared.command.Item.{Item}
use Rattle.live_cmd.specs.declared.command.Item.TheVariants as item
use Rattle.live_entries.specs.declared.entry.Entry.{Entry}
use Rattle.live_entries.specs.declared.entry.Entry.TheVariants as entry
use Rattle.live_entries.specs.declared.label.Label.{Label}
use Rattle.live_entries.specs.declared.refusal.Refusal.TheVariants as refusal
use Rattle.live_model.specs.Examples.{told_by, a_cell, int, a_host, a_template, a_set, a_get, a_dispose, comes_to, error, gone, ran_to, untraced}

-- ---- words for the examples

-- a whole number as a formula
abbrev pub number : ℕ → Tree
number n = literal (int n)

-- a cell is set by a formula, before other statements
abbrev pub line_set : ℕ → Tree → Stated → Stated
line_set t f rest = plain (p.Set t f) rest

-- a formula is logged
abbrev pub line_log : Tree → Stated → Stated
line_log f rest = plain (p.Log f) rest

-- a formula is noted to be logged at the cleanup
abbrev pub line_cleanup_log : Tree → Stated → Stated
line_cleanup_log f rest = plain (p.CleanupLog f) rest

-- a thing is disposed
abbrev pub line_dispose : ℕ → Stated → Stated
line_dispose t rest = plain (p.Dispose t) rest

-- a body of statements that act on these things and read these signals, without nested effects and rewirings
abbrev pub simple : Stated → List (List ℕ) → List (List ℕ) → Bodies
simple ss targets names = body ss targets names no_bodies [] no_bodies

-- an effect of a body is made
abbrev pub an_effect : List ℕ → Bodies → Item
an_effect n b = item.Do (command.Effect n b None)

-- an owner is made
abbrev pub an_owner : List ℕ → Item
an_owner n = item.Do (command.Owner n None)

-- a flush
abbrev pub a_flush : Item
a_flush = item.Do (command.Bare bares.Flush)

-- the label of a child
abbrev pub child : List ℕ → List ℕ → Label
child n path = record { name = n; path = path }

-- a body was evaluated
abbrev pub evaluated : List ℕ → List ℕ → List (List ℕ) → Entry
evaluated n path reads = entry.Effect (child n path) reads

-- a whole number was logged
abbrev pub logged : ℕ → Entry
logged n = entry.Log (value.Int (pos n))

-- a cleanup is about to be done
abbrev pub cleaned : List ℕ → List ℕ → Entry
cleaned n path = entry.Cleanup (child n path)

-- ---- owners

-- owner o; cell a = 1 in o; computed b = a in o; effect e in o with this body; flush; dispose o
abbrev pub in_owner : Bodies → List Item
in_owner b = an_owner (codes "o") ∷ item.Do (command.Cell (codes "a") (int 1) None (Some (codes "o")))
    ∷ item.Do (command.Computed (codes "b") (source.Formula (slot 0, codes "a" ∷ [])) (Some (codes "o")))
    ∷ item.Do (command.Effect (codes "e") b (Some (codes "o"))) ∷ a_flush ∷ a_dispose (codes "o") ∷ []

-- where e logs b
pub owner_told : told_by 0 (in_owner (simple (line_log (slot 0) no_more) [] (codes "b" ∷ [])))
    ≡ ran_to (codes "b") (codes "a" ∷ []) 1 ∷ evaluated (codes "e") [] (codes "b" ∷ []) ∷ logged 1
    ∷ gone (codes "e") ∷ gone (codes "b") ∷ gone (codes "a") ∷ gone (codes "o") ∷ []
owner_told = refl

-- where e notes a cleanup
pub cleanup_told : told_by 0 (in_owner (simple (line_cleanup_log (number 9) no_more) [] []))
    ≡ evaluated (codes "e") [] [] ∷ cleaned (codes "e") [] ∷ logged 9
    ∷ gone (codes "e") ∷ gone (codes "b") ∷ gone (codes "a") ∷ gone (codes "o") ∷ []
cleanup_told = refl

-- a page stands in an owner: with the owner it is gone, and another page stays
abbrev pub page_in_owner : List Item
page_in_owner = an_owner (codes "o") ∷ a_template (codes "t") [] [] ∷ item.Do (command.Mount (codes "p") (codes "t") (Some (codes "o")))
    ∷ item.Do (command.Mount (codes "q") (codes "t") None) ∷ a_dispose (codes "o") ∷ a_flush ∷ item.Do (command.Named verb.Show (codes "p"))
    ∷ item.Do (command.Named verb.Show (codes "q")) ∷ a_dispose (codes "t") ∷ item.Do (command.Mount (codes "r") (codes "t") (Some (codes "o"))) ∷ []

-- what it tells
pub page_told : told_by 0 page_in_owner
    ≡ entry.Page (codes "p") [] ∷ entry.Page (codes "q") [] ∷ gone (codes "p") ∷ gone (codes "o") ∷ error (refusal.Gone (codes "p"))
    ∷ entry.Page (codes "q") [] ∷ error (refusal.Kind (codes "t")) ∷ error (refusal.Gone (codes "o")) ∷ []
page_told = refl

-- ---- acts

-- a = 1; b = 2; the effect disposes b, sets it, which is refused, and logs a
abbrev pub refused_act : List Item
refused_act = a_cell (codes "a") (int 1) ∷ a_cell (codes "b") (int 2)
    ∷ an_effect (codes "e") (simple (line_dispose 0 (line_set 0 (number 3) (line_log (slot 0) no_more))) (codes "b" ∷ []) (codes "a" ∷ []))
    ∷ a_flush ∷ []

-- what it tells
pub refused_act_told : told_by 0 refused_act
    ≡ evaluated (codes "e") [] (codes "a" ∷ []) ∷ gone (codes "b") ∷ error (refusal.Gone (codes "b")) ∷ logged 1 ∷ []
refused_act_told = refl

-- a = 1; the effect logs a; its child disposes it, and would log 5
abbrev pub child_ends : List Item
child_ends = a_cell (codes "a") (int 1)
    ∷ an_effect (codes "e") (body (effect 0 (line_log (slot 0) no_more)) [] (codes "a" ∷ [])
    (simple (line_dispose 0 (line_log (number 5) no_more)) (codes "e" ∷ []) []) [] no_bodies) ∷ a_flush ∷ a_flush ∷ a_dispose (codes "e") ∷ []

-- the child is made in the first turn and runs in the second
pub child_ends_told : told_by 0 child_ends
    ≡ evaluated (codes "e") [] (codes "a" ∷ []) ∷ logged 1 ∷ evaluated (codes "e") (1 ∷ []) [] ∷ entry.Gone (child (codes "e") (1 ∷ []))
    ∷ gone (codes "e") ∷ error (refusal.Gone (codes "e")) ∷ []
child_ends_told = refl

-- a = 1; the effect has a child that logs a, and the child has one that logs 7; then a is set and the effect is disposed
abbrev pub grandchild : List Item
grandchild = a_cell (codes "a") (int 1)
    ∷ an_effect (codes "e") (body (effect 0 no_more) [] []
    (body (line_log (slot 0) (effect 0 no_more)) [] (codes "a" ∷ []) (simple (line_log (number 7) no_more) [] []) [] no_bodies) [] no_bodies)
    ∷ a_flush ∷ a_set (codes "a") (int 2) ∷ a_flush ∷ a_dispose (codes "e") ∷ []

-- the child is taken back and runs again; its own child is another one with the same label
pub grandchild_told : told_by 0 grandchild
    ≡ evaluated (codes "e") [] [] ∷ evaluated (codes "e") (1 ∷ []) (codes "a" ∷ []) ∷ logged 1 ∷ evaluated (codes "e") (1 ∷ 1 ∷ []) [] ∷ logged 7
    ∷ entry.Gone (child (codes "e") (1 ∷ 1 ∷ [])) ∷ evaluated (codes "e") (1 ∷ []) (codes "a" ∷ []) ∷ logged 2
    ∷ evaluated (codes "e") (1 ∷ 1 ∷ []) [] ∷ logged 7 ∷ entry.Gone (child (codes "e") (1 ∷ 1 ∷ []))
    ∷ entry.Gone (child (codes "e") (1 ∷ [])) ∷ gone (codes "e") ∷ []
grandchild_told = refl

-- a body fails and does nothing
pub failed_told : told_by 0 (a_cell (codes "a") (int 1)
    ∷ an_effect (codes "e") (simple (line_log (number 3) (when (slot 0) (line_log (number 2) no_more) no_more)) [] (codes "a" ∷ [])) ∷ a_flush ∷ [])
    ≡ evaluated (codes "e") [] (codes "a" ∷ []) ∷ entry.Fail (child (codes "e") []) fault.Kind ∷ []
failed_told = refl

-- ---- turns

-- x = 0; the effect sets x to x + 1, so it is due after the last turn of a flush
abbrev pub endless : List Item
endless = a_cell (codes "x") (int 0)
    ∷ an_effect (codes "e") (simple (line_set 0 (binary Add (slot 0) (number 1)) no_more) (codes "x" ∷ []) (codes "x" ∷ [])) ∷ a_flush
    ∷ a_get (codes "x") ∷ []

-- the flush is refused, and what the turns did stands
pub endless_told : untraced (told_by 0 endless) ≡ error refusal.Turns ∷ comes_to (codes "x") 100 ∷ []
endless_told = refl

-- ---- refusals

-- an effect that stands in itself; one that reads itself; one that sets what wasn't made; one that disposes itself, which is right; one that
-- rewires to a host formula that isn't there, and one to one that is used, which is refused when it is done
abbrev pub refusals : List Item
refusals = a_cell (codes "a") (int 1) ∷ item.Do (command.Effect (codes "e") (simple no_more [] []) (Some (codes "e")))
    ∷ an_effect (codes "e") (simple (line_log (slot 0) no_more) [] (codes "e" ∷ []))
    ∷ an_effect (codes "e") (simple (line_log (slot 0) (line_set 0 (number 1) no_more)) (codes "z" ∷ []) (codes "a" ∷ []))
    ∷ an_effect (codes "e") (simple (line_dispose 0 no_more) (codes "e" ∷ []) [])
    ∷ a_host (codes "h") 0 (codes "a" ∷ [])
    ∷ an_effect (codes "f") (body (rewire 0 no_more) (codes "h" ∷ []) [] no_bodies
    (record { target = 0; source = stated.host 6; names = [] } ∷ []) no_bodies)
    ∷ an_effect (codes "f") (body (rewire 0 no_more) (codes "h" ∷ []) [] no_bodies
    (record { target = 0; source = stated.host 0; names = codes "a" ∷ [] } ∷ []) no_bodies) ∷ a_flush ∷ []

-- what it tells
pub refusals_told : told_by 1 refusals
    ≡ error (refusal.Unknown (codes "e")) ∷ error (refusal.Kind (codes "e")) ∷ error (refusal.Unknown (codes "z")) ∷ error (refusal.HostPlace 6)
    ∷ evaluated (codes "e") [] [] ∷ gone (codes "e") ∷ evaluated (codes "f") [] [] ∷ error (refusal.HostTaken 0) ∷ []
refusals_told = refl
