-- What a template shows on the signals that stand, and on outcomes that are known so far.
use Rattle.std.specs.Prelude.{ℕ, zero, suc, ◌+◌, ◌&&◌, Bool, true, false, List, [], ◌∷◌, length, Option, Some, None, if◌then◌else◌}
use Rattle.std.specs.List.{slice_get}
use Rattle.std.specs.Str.{bytes_eq}
use lib.Pointwise.{pointwise}
use Rattle.sig_base.specs.Tables.{same_row}
use Rattle.sig_base.specs.declared.rows.Row.{Row}
use Rattle.sig_base.specs.declared.value.Fault.TheVariants.{Gone}
use Rattle.sig_base.specs.declared.value.Outcome.{Outcome}
use Rattle.sig_base.specs.declared.value.Outcome.TheVariants.{Bad}
use Rattle.sig_formula.specs.declared.formula.RowRef.{RowRef}
use Rattle.signal_model.specs.Recipes.{Hosts, no_hosts, formula}
use Rattle.signal_model.specs.Signals.{Signals, is_in}
use Rattle.signal_model.specs.Values.{asked_from, value_of}
use Rattle.page_model.specs.Forest.{Forest, none, node, keys}
use Rattle.page_model.specs.Labels.{Kind, Look, shown}
use Rattle.tpl_model.specs.Lines.{Line}
use Rattle.tpl_model.specs.Shapes.{Evaluating, shown_lines, shape_of}

-- a formula evaluated where its slots have these names and the names these outcomes; it asks no host
abbrev pub evaluating : List ℕ → (ℕ → Outcome) → Evaluating
evaluating links source row f = asked_from no_hosts (record { expression = formula row f; slots = links }) source []

-- the names of a list, each at its first place, that aren't among those before
abbrev pub firsts : List ℕ → List ℕ → List ℕ
firsts before [] = []
firsts before (n ∷ ns) = if is_in n before then firsts before ns else n ∷ firsts (n ∷ before) ns

-- ---- rows

-- two rows, or two places where there is none
abbrev pub same_place : Option Row → Option Row → Bool
same_place None None = true
same_place (Some r) (Some s) = same_row r s
same_place _ _ = false

-- rows of the same fields with the same row at their places, wherever these are
abbrev pub same_here : RowRef → RowRef → Bool
same_here r s = pointwise bytes_eq r.rows.fields s.rows.fields && same_place (slice_get r.rows.rows r.place)
    (slice_get s.rows.rows s.place)

-- ---- on the signals

-- the slots are signals, whose values are from scratch
abbrev pub on_signals : Hosts → Signals → List ℕ → Evaluating
on_signals hosts w links = evaluating links (λ n. value_of hosts w n [])

-- the shape of a template whose names are these signals
abbrev pub template_shape : Hosts → Signals → List Line → List ℕ → Forest Look
template_shape hosts w lines links = shape_of (on_signals hosts w links) lines

-- the signals that it reads, in the order of first reading
abbrev pub template_asked : Hosts → Signals → List Line → List ℕ → List ℕ
template_asked hosts w lines links = firsts [] (shown_lines (on_signals hosts w links) lines).reads

-- ---- on outcomes that are known

-- so many numbers, from a number on
abbrev pub counted : ℕ → ℕ → List ℕ
counted zero i = []
counted (suc n) i = i ∷ counted n (suc i)

-- an outcome that is known, and otherwise any
abbrev pub or_gone : Option (Option Outcome) → Outcome
or_gone (Some (Some o)) = o
or_gone _ = Bad Gone

-- whether an outcome is known
abbrev pub is_there : Option (Option Outcome) → Bool
is_there (Some (Some o)) = true
is_there _ = false

-- the names are their places among these outcomes
abbrev pub on_known : List (Option Outcome) → Evaluating
on_known known = evaluating (counted (length known) 0) (λ n. or_gone (slice_get known n))

-- the first of these names whose outcome isn't known
abbrev pub first_missing : List (Option Outcome) → List ℕ → Option ℕ
first_missing known [] = None
first_missing known (n ∷ ns) = if is_there (slice_get known n) then first_missing known ns else Some n

-- the name that is needed first and isn't known: what comes before it doesn't rest on it
abbrev pub needed : List (Option Outcome) → List Line → Option ℕ
needed known lines = first_missing known (shown_lines (on_known known) lines).reads

-- ---- pages from scratch

-- nodes numbered in document order, from a number on
abbrev pub in_order : {A : Type 0} → ℕ → Forest A → Forest A
in_order n none = none
in_order n (node a x k r) = node n x (in_order (suc n) k) (in_order (suc n + length (keys k)) r)

-- what a template shows on what is known, numbered in document order from 1
abbrev pub known_page : List (Option Outcome) → List Line → Forest Kind
known_page known lines = shown (in_order 1 (shown_lines (on_known known) lines).nodes)
