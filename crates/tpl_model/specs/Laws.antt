-- What holds of templates and of what they show.
use Rattle.std.specs.Prelude.{◌≡◌, ℕ, zero, suc, ◌*◌, ◌≤◌, length, Bool, true, false, List, [], Option, Some}
use Rattle.html_out.specs.Html.{is_void}
use Rattle.sig_base.specs.Tables.{AreRows, Table}
use Rattle.sig_base.specs.declared.limits.TheConstants.{MOST_ROWS}
use Rattle.sig_base.specs.declared.value.Known.{Known}
use Rattle.sig_base.specs.declared.value.Value.TheVariants as value
use Rattle.sig_base.specs.declared.value.Outcome.{Outcome}
use Rattle.sig_base.specs.declared.value.Outcome.TheVariants.{Good}
use Rattle.sig_formula.specs.Evaluation.{answer_of}
use Rattle.sig_formula.specs.Trees.{Tree}
use Rattle.sig_formula.specs.declared.formula.RowRef.{RowRef}
use Rattle.page_model.specs.Forest.{keys, node, none}
use Rattle.page_model.specs.Labels.{Root, Element, Distinct, GoodLabel, shown}
use Rattle.page_model.specs.Pages.{IsPage, IsShape, NumberedPage, SameOrigin, bare, edits_between, renumbered, tree_of}
use Rattle.page_model.specs.Replay.{Done, replay}
use Rattle.tpl_model.specs.Lines.{Line, Block, empty, text, tag, choice, each, attempt, block_of}
use Rattle.tpl_model.specs.Shapes.{Evaluating, shape_of, shown_lines}
use Rattle.signal_model.specs.Recipes.{Hosts, formula}
use Rattle.signal_model.specs.Signals.{is_in}
use Rattle.signal_model.specs.Values.{asked_from}
use Rattle.sig_host.specs.Loans.{IsGoodOutcome}
use Rattle.tpl_model.specs.Sources.{evaluating, in_order, same_here}

-- Blocks that nest so deep at most, with no `each` inside an `each`. The attributes of each element are distinct, one that can't hold
-- children has nothing inside, and its name and those of its attributes are names of HTML.
abbrev pub Fits : Block → ℕ → Bool → Type 0
Fits empty d in_row = Unit {0}
Fits (text n f rest) d in_row = Fits rest d in_row
Fits (tag n name attributes inner rest) zero in_row = ⊥
Fits (tag n name attributes inner rest) (suc d) in_row =
    Distinct attributes × (is_void name ≡ true → inner ≡ empty) × Fits inner d in_row × Fits rest (suc d) in_row
    × GoodLabel (Element name attributes)
Fits (choice f one other rest) zero in_row = ⊥
Fits (choice f one other rest) (suc d) in_row = Fits one d in_row × Fits other d in_row × Fits rest (suc d) in_row
Fits (each f inner rest) zero in_row = ⊥
Fits (each f inner rest) (suc d) in_row = (in_row ≡ false) × Fits inner d true × Fits rest (suc d) in_row
Fits (attempt first second rest) zero in_row = ⊥
Fits (attempt first second rest) (suc d) in_row = Fits first d in_row × Fits second d in_row × Fits rest (suc d) in_row

-- lines that make a template, which is itself the first of 32 levels
abbrev pub IsTemplate : List Line → Type 0
IsTemplate lines = Fits (block_of lines) 31 false

-- ---- rows

-- rows that a formula comes to are rows: their keys are distinct, and they are at most `MOST_ROWS`
abbrev pub GivesRows : Evaluating → Type 0
GivesRows evaluate =
    (row : Option RowRef) (f : Tree) (t : Table) → (evaluate row f).outcome ≡ Good (value.Rows t) → AreRows t.fields t.rows

-- a formula makes no rows but of other rows: where those of the names are rows, so are those of the lines
abbrev pub RowsLaw : Type 0
RowsLaw = (links : List ℕ) (source : ℕ → Outcome) → ((n : ℕ) → IsGoodOutcome (source n)) → GivesRows (evaluating links source)

-- a formula answers the same on two rows that are the same, whatever stands before and behind them
abbrev pub SameRowsLaw : Type 0
SameRowsLaw = (r s : RowRef) → same_here r s ≡ true → (f : Tree) (known : List Known) →
    answer_of f (Some r) known ≡ answer_of f (Some s) known

-- ---- evaluation

-- a line's formula is evaluated as any other that has its row
abbrev pub EvaluatingLaw : Type 0
EvaluatingLaw = (hosts : Hosts) (links : List ℕ) (source : ℕ → Outcome) (row : Option RowRef) (f : Tree) →
    evaluating links source row f ≡ asked_from hosts (record { expression = formula row f; slots = links }) source []

-- what a template shows and reads rests on the outcomes of the names that it reads, and on no others
abbrev pub AgreeLaw : Type 0
AgreeLaw = (lines : List Line) (links : List ℕ) (source other : ℕ → Outcome) →
    ((n : ℕ) → is_in n (shown_lines (evaluating links source) lines).reads ≡ true → source n ≡ other n) →
    shown_lines (evaluating links source) lines ≡ shown_lines (evaluating links other) lines

-- ---- shapes

-- what a template shows is a shape
abbrev pub ShapeLaw : Type 0
ShapeLaw = (lines : List Line) (evaluate : Evaluating) → IsTemplate lines → GivesRows evaluate → IsShape (shape_of evaluate lines)

-- two shapes of one template have one origin
abbrev pub OriginLaw : Type 0
OriginLaw = (lines : List Line) (evaluate later : Evaluating) → IsTemplate lines →
    SameOrigin (shape_of evaluate lines) (shape_of later lines)

-- a template shows at most `MOST_ROWS` nodes for each of its lines
abbrev pub SizeLaw : Type 0
SizeLaw = (lines : List Line) (evaluate : Evaluating) → IsTemplate lines → GivesRows evaluate →
    length (keys (shown_lines evaluate lines).nodes) ≤ MOST_ROWS * length lines

-- ---- pages

-- a page that is made from a template: the bare one, and each one carried to a shape of the template
pub data IsMade (lines : List Line) : NumberedPage → Type 0 where
  begun : IsMade lines bare
  carried_on : {p : NumberedPage} (evaluate : Evaluating) → GivesRows evaluate → IsMade lines p →
      IsMade lines (renumbered p (shape_of evaluate lines))

-- it is a page
abbrev pub MadeLaw : Type 0
MadeLaw = (lines : List Line) (old : NumberedPage) → IsTemplate lines → IsMade lines old → IsPage old

-- its edits to the template's next shape, replayed on its tree, give the tree of the next page, and none is refused
abbrev pub ReplayLaw : Type 0
ReplayLaw = (lines : List Line) (old : NumberedPage) (evaluate : Evaluating) → IsTemplate lines → IsMade lines old → GivesRows evaluate →
    let new = renumbered old (shape_of evaluate lines) in
    replay (edits_between old new) (tree_of old) ≡ Done (tree_of new)

-- mounted from the bare page, a template has the numbers of document order from 1
abbrev pub ScratchLaw : Type 0
ScratchLaw = (lines : List Line) (evaluate : Evaluating) → IsTemplate lines → GivesRows evaluate →
    tree_of (renumbered bare (shape_of evaluate lines)) ≡ node 0 Root (shown (in_order 1 (shown_lines evaluate lines).nodes)) none
