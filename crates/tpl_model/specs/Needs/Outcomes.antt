-- A template's names are asked for as they are needed, and their outcomes come to be known at their places.
use Rattle.std.specs.Prelude.{◌≡◌, ◌<◌, ℕ, true, List, length, map, slice_get, slice_index, Option, Some, None}
use Rattle.sig_base.specs.declared.value.Outcome.{Outcome}
use Rattle.signal_model.specs.Signals.{is_in}
use Rattle.signal_laws.specs.ReadLaws.{firsts_after, with_name}
use Rattle.tpl_model.specs.Lines.{Line}
use Rattle.tpl_model.specs.Shapes.{Showing, shape_of, shown_lines}
use Rattle.tpl_model.specs.Sources.{counted, evaluating, is_there, needed, on_known}
use Rattle.tpl_model.specs.PageUpdates.Updates.{reads_on, shape_on}

-- the same is shown, of names that are called anew
abbrev pub shown_anew : (ℕ → ℕ) → Showing → Showing
shown_anew g x = record { nodes = x.nodes; reads = map g x.reads; failed = x.failed }

-- the outcomes of names, by their places
abbrev pub placed : List ℕ → (ℕ → Outcome) → ℕ → Outcome
placed links source i = source (slice_index links i)

-- The outcomes that are known so far of a template's names, each at the place of its name, and the names that were asked for. Those that are known
-- are the outcomes of their names, which were asked for.
pub record AreKnown (links : List ℕ) (source : ℕ → Outcome) (known : List (Option Outcome)) (names : List ℕ) : Type 0 where
  pub count : length known ≡ length links
  pub outcomes : (n : ℕ) (o : Outcome) → slice_get known n ≡ Some (Some o) → o ≡ source (slice_index links n)
  pub asked : (n : ℕ) → is_there (slice_get known n) ≡ true → is_in (slice_index links n) names ≡ true

-- on names and on their places the same is shown, and the names of the places are read
abbrev pub PlacesLaw : Type 0
PlacesLaw = (lines : List Line) (links : List ℕ) (source : ℕ → Outcome) →
    shown_lines (evaluating links source) lines
    ≡ shown_anew (slice_index links) (shown_lines (evaluating (counted (length links) 0) (placed links source)) lines)

-- what is needed is the place of one of the names
abbrev pub InsideLaw : Type 0
InsideLaw = (lines : List Line) (known : List (Option Outcome)) (i : ℕ) → needed known lines ≡ Some i → i < length known

-- asked for next, the name that is needed is the first of those that the template reads which wasn't asked for before
abbrev pub NextLaw : Type 0
NextLaw = (lines : List Line) (links : List ℕ) (source : ℕ → Outcome) (known : List (Option Outcome)) (asked : List ℕ) (i : ℕ) →
    AreKnown links source known asked → needed known lines ≡ Some i →
    firsts_after (with_name asked (slice_index links i)) (reads_on lines links source) ≡ firsts_after asked (reads_on lines links source)

-- where none is needed, what is shown is what all outcomes show, and each name that the template reads was asked for
abbrev pub LastLaw : Type 0
LastLaw = (lines : List Line) (links : List ℕ) (source : ℕ → Outcome) (known : List (Option Outcome)) (asked : List ℕ) →
    AreKnown links source known asked → needed known lines ≡ None →
    (shape_of (on_known known) lines ≡ shape_on lines links source) × (firsts_after asked (reads_on lines links source) ≡ asked)
