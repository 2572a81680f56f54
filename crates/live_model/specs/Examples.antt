-- Worked examples: a list of items, and what the machine tells of it.
use Rattle.std.specs.Prelude.{◌≡◌, ℕ, pos, List, [], ◌∷◌, Some, None, true, false, not, codes}
use Rattle.std.specs.List.{filter}
use Rattle.std.proofs.Common.{refl}
use Rattle.sig_base.specs.declared.scalar.Scalar.{Scalar}
use Rattle.sig_base.specs.declared.scalar.Scalar.TheVariants as scalar
use Rattle.sig_base.specs.declared.value.Outcome.TheVariants.{Good, Bad}
use Rattle.sig_base.specs.declared.value.Value.TheVariants as value
use Rattle.sig_base.specs.declared.value.Fault.TheVariants as fault
use Rattle.sig_formula.specs.Evaluation.{answer_of}
use Rattle.sig_formula.specs.declared.formula.BinOp.TheVariants.{Add, Mul}
use Rattle.sig_formula.specs.Trees.{Tree, literal, slot, binary, choice}
use Rattle.tpl_syntax.specs.declared.line.Line.{Line}
use Rattle.effect_model.specs.Worlds.{Environment}
use Rattle.live_cmd.specs.declared.command.SourceText.TheVariants as source
use Rattle.live_cmd.specs.declared.command.Try.TheVariants as try
use Rattle.live_cmd.specs.declared.command.Verb.TheVariants as verb
use Rattle.live_cmd.specs.declared.command.Command.TheVariants as command
use Rattle.live_cmd.specs.declared.command.Item.{Item}
use Rattle.live_cmd.specs.declared.command.Item.TheVariants as item
use Rattle.live_entries.specs.declared.entry.Entry.{Entry}
use Rattle.live_entries.specs.declared.entry.Entry.TheVariants as entry
use Rattle.live_entries.specs.declared.refusal.Refusal.{Refusal}
use Rattle.live_entries.specs.declared.refusal.Refusal.TheVariants as refusal
use Rattle.live_entries.specs.Printed.{is_traced}
use Rattle.live_model.specs.Machine.{empty}
use Rattle.live_model.specs.Output.{entries_from}

-- ---- words for the examples

-- each host formula picks its second or its third argument by its first; two values are equal by the first rule where they are the same,
-- and by the second where they are at most five apart
abbrev pub environment : Environment
environment = record { hosts = λ place known. answer_of (choice (slot 0) (slot 1) (slot 2)) None known; slacks = 0 ∷ 5 ∷ [] }

-- what the items tell, where there are so many host formulas
abbrev pub told_by : ℕ → List Item → List Entry
told_by hosts is = entries_from environment (empty hosts) is

-- what isn't a line of a trace
abbrev pub untraced : List Entry → List Entry
untraced es = filter (λ e. not (is_traced e)) es

-- a cell is made
abbrev pub a_cell : List ℕ → Scalar → Item
a_cell n v = item.Do (command.Cell n v None None)

-- a whole number
abbrev pub int : ℕ → Scalar
int n = scalar.Int (pos n)

-- a computed of a formula is made
abbrev pub a_computed : List ℕ → Tree → List (List ℕ) → Item
a_computed n t names = item.Do (command.Computed n (source.Formula (t, names)) None)

-- a computed of a host formula is made
abbrev pub a_host : List ℕ → ℕ → List (List ℕ) → Item
a_host n place names = item.Do (command.Computed n (source.Host place names) None)

-- a template of these lines, whose slots have these names
abbrev pub a_template : List ℕ → List (Line Tree) → List (List ℕ) → Item
a_template n lines names = item.Do (command.Template n (record { lines = lines; names = names }))

-- a cell is set
abbrev pub a_set : List ℕ → Scalar → Item
a_set n v = item.Do (command.Set n v)

-- a name is asked for
abbrev pub a_get : List ℕ → Item
a_get n = item.Do (command.Named verb.Get n)

-- a thing is disposed
abbrev pub a_dispose : List ℕ → Item
a_dispose n = item.Do (command.Named verb.Dispose n)

-- it is asked what a watcher has pending
abbrev pub a_pending : List ℕ → Item
a_pending n = item.Do (command.Named verb.Pending n)

-- a watcher is made
abbrev pub a_watcher : List ℕ → Item
a_watcher n = item.Do (command.Watcher n None)

-- a watcher watches these signals too
abbrev pub a_watch : List ℕ → List (List ℕ) → Item
a_watch n signals = item.Do (command.Watch n signals)

-- a name comes to a whole number
abbrev pub comes_to : List ℕ → ℕ → Entry
comes_to n v = entry.Outcome n (Good (value.Int (pos v)))

-- a refusal is told
abbrev pub error : Refusal → Entry
error r = entry.Error r

-- what has a name is gone
abbrev pub gone : List ℕ → Entry
gone n = entry.Gone (record { name = n; path = [] })

-- a computed ran and came to a whole number
abbrev pub ran_to : List ℕ → List (List ℕ) → ℕ → Entry
ran_to n sources v = entry.Run n sources (Good (value.Int (pos v)))

-- ---- host formulas

-- s = true; p = 1; q = 2; h = host 0 (s, p, q); then it is asked for, s is set to false, it is asked for, and rewired to a formula. A
-- computed of the same host formula, one of a place outside, and h once more.
abbrev pub lent : List Item
lent = a_cell (codes "s") (scalar.Bool true) ∷ a_cell (codes "p") (int 1) ∷ a_cell (codes "q") (int 2)
    ∷ a_host (codes "h") 0 (codes "s" ∷ codes "p" ∷ codes "q" ∷ []) ∷ a_get (codes "h") ∷ a_set (codes "s") (scalar.Bool false)
    ∷ a_get (codes "h") ∷ item.Do (command.Rewire (codes "h") (source.Formula (literal (int 7), [])))
    ∷ a_host (codes "k") 0 (codes "s" ∷ codes "p" ∷ codes "q" ∷ []) ∷ a_host (codes "m") 6 (codes "s" ∷ []) ∷ a_get (codes "h") ∷ []

-- what it tells
pub lent_told : told_by 6 lent
    ≡ ran_to (codes "h") (codes "s" ∷ codes "p" ∷ []) 1 ∷ comes_to (codes "h") 1
    ∷ ran_to (codes "h") (codes "s" ∷ codes "q" ∷ []) 2 ∷ comes_to (codes "h") 2
    ∷ entry.Drop 0 6 ∷ error (refusal.HostTaken 0) ∷ error (refusal.HostPlace 6) ∷ ran_to (codes "h") [] 7 ∷ comes_to (codes "h") 7 ∷ []
lent_told = refl

-- t = true; s = host 0 (t) asks for a slot outside its arguments; a computed that uses the host formula in turn is refused, is rewired to
-- itself is refused, and its disposal tells the asks before the end
abbrev pub outside : List Item
outside = a_cell (codes "t") (scalar.Bool true) ∷ a_host (codes "s") 0 (codes "t" ∷ []) ∷ a_get (codes "s")
    ∷ item.Do (command.Rewire (codes "s") (source.Host 0 (codes "t" ∷ []))) ∷ a_dispose (codes "s") ∷ a_host (codes "r") 0 [] ∷ []

-- what it tells
pub outside_told : told_by 1 outside
    ≡ entry.Run (codes "s") (codes "t" ∷ []) (Bad fault.Slot) ∷ entry.Outcome (codes "s") (Bad fault.Slot)
    ∷ error (refusal.HostTaken 0) ∷ entry.Drop 0 2 ∷ gone (codes "s") ∷ error (refusal.HostTaken 0) ∷ []
outside_told = refl

-- ---- equality rules

-- a = 10 by the second rule, and a watcher of it: a set to 15 changes nothing, one to 16 does
abbrev pub within_slack : List Item
within_slack = item.Do (command.Cell (codes "a") (int 10) (Some 1) None) ∷ a_watcher (codes "w") ∷ a_watch (codes "w") (codes "a" ∷ [])
    ∷ a_set (codes "a") (int 15) ∷ a_get (codes "a") ∷ a_set (codes "a") (int 16) ∷ a_get (codes "a") ∷ []

-- what it tells
pub within_slack_told : told_by 0 within_slack ≡ comes_to (codes "a") 10 ∷ entry.Notify (codes "w") ∷ comes_to (codes "a") 16 ∷ []
within_slack_told = refl

-- t = "x" by the second rule is set to 3 and to 8; a cell of a rule that isn't there; a watcher of t, named twice, t is disposed, the
-- watcher is armed again, has nothing pending, doesn't watch t, is disposed, and is gone
abbrev pub disposals : List Item
disposals = item.Do (command.Cell (codes "t") (scalar.Text (codes "x")) (Some 1) None) ∷ a_set (codes "t") (int 3) ∷ a_get (codes "t")
    ∷ a_set (codes "t") (int 8) ∷ a_get (codes "t") ∷ item.Do (command.Cell (codes "u") (int 1) (Some 2) None) ∷ a_watcher (codes "w")
    ∷ a_watch (codes "w") (codes "t" ∷ codes "t" ∷ []) ∷ a_dispose (codes "t") ∷ a_watch (codes "w") [] ∷ a_pending (codes "w")
    ∷ item.Do (command.Unwatch (codes "w") (codes "t")) ∷ a_dispose (codes "w") ∷ a_pending (codes "w") ∷ []

-- what it tells
pub disposals_told : told_by 0 disposals
    ≡ comes_to (codes "t") 3 ∷ comes_to (codes "t") 3 ∷ error (refusal.RulePlace 2) ∷ gone (codes "t") ∷ entry.Pending (codes "w") []
    ∷ error (refusal.Gone (codes "t")) ∷ gone (codes "w") ∷ error (refusal.Gone (codes "w")) ∷ []
disposals_told = refl

-- ---- watchers

-- a = 1; b = a + 1; never = a * 3; the watchers w of b, v of a, which tries `get a`, and n of never. Then b is asked for, and a is set
-- twice; w is armed again and a is set once more; what w and n have pending; a.
abbrev pub watched : List Item
watched = a_cell (codes "a") (int 1) ∷ a_computed (codes "b") (binary Add (slot 0) (literal (int 1))) (codes "a" ∷ [])
    ∷ a_computed (codes "never") (binary Mul (slot 0) (literal (int 3))) (codes "a" ∷ []) ∷ a_watcher (codes "w")
    ∷ item.Do (command.Watcher (codes "v") (Some (try.Get (codes "a")))) ∷ a_watcher (codes "n") ∷ a_watch (codes "w") (codes "b" ∷ [])
    ∷ a_watch (codes "v") (codes "a" ∷ []) ∷ a_watch (codes "n") (codes "never" ∷ []) ∷ a_get (codes "b") ∷ a_set (codes "a") (int 2)
    ∷ a_set (codes "a") (int 3) ∷ a_watch (codes "w") [] ∷ a_set (codes "a") (int 4) ∷ a_pending (codes "w") ∷ a_pending (codes "n")
    ∷ a_get (codes "a") ∷ []

-- what it tells
pub watched_told : told_by 0 watched
    ≡ ran_to (codes "b") (codes "a" ∷ []) 2 ∷ comes_to (codes "b") 2 ∷ entry.Notify (codes "w") ∷ entry.Notify (codes "v")
    ∷ error (refusal.Frozen (codes "v" ∷ [])) ∷ entry.Notify (codes "w") ∷ entry.Pending (codes "w") (codes "b" ∷ [])
    ∷ entry.Pending (codes "n") (codes "never" ∷ []) ∷ comes_to (codes "a") 4 ∷ []
watched_told = refl

-- what is refused: a new name that was made, one that wasn't, a signal that isn't watched, one that is gone, the place of a rule, and that
-- of a host formula
abbrev pub refusals : List Item
refusals = a_cell (codes "a") (int 1) ∷ a_cell (codes "a") (int 2) ∷ a_get (codes "z") ∷ a_watcher (codes "w")
    ∷ item.Do (command.Unwatch (codes "w") (codes "a")) ∷ a_get (codes "w") ∷ a_dispose (codes "a") ∷ a_get (codes "a")
    ∷ item.Do (command.Cell (codes "b") (int 1) (Some 9) None) ∷ a_host (codes "c") 99 [] ∷ []

-- what it tells
pub refusals_told : told_by 6 refusals
    ≡ error (refusal.Taken (codes "a")) ∷ error (refusal.Unknown (codes "z")) ∷ error (refusal.NotWatched (codes "a"))
    ∷ error (refusal.Kind (codes "w")) ∷ gone (codes "a") ∷ error (refusal.Gone (codes "a")) ∷ error (refusal.RulePlace 9)
    ∷ error (refusal.HostPlace 99) ∷ []
refusals_told = refl
