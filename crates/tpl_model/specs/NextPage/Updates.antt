-- A page that is brought up to date by what is kept of its lines on the outcomes of now, with all nodes compared that are on both pages.
use Rattle.std.specs.Prelude.{◌≡◌, ℕ, Bool, List, map}
use Rattle.sig_base.specs.declared.value.Outcome.{Outcome}
use Rattle.page_model.specs.Edits.{listed}
use Rattle.page_model.specs.Forest.{Forest}
use Rattle.page_model.specs.Labels.{Kind, Look, Sound}
use Rattle.page_model.specs.Pages.{NumberedPage, number_of, page_shape, renumbered, tree_of}
use Rattle.tpl_model.specs.Laws.{GivesRows, IsTemplate}
use Rattle.tpl_model.specs.Lines.{Line}
use Rattle.tpl_model.specs.Sources.{evaluating}
use Rattle.tpl_model.specs.PageUpdates.PageMemos.{PageMemo}
use Rattle.tpl_model.specs.PageUpdates.Updates.{Keeps, memo_on, memo_shape, shape_on}
use Rattle.tpl_model.specs.NextPage.Operations.{Leads}
use Rattle.tpl_model.specs.NextPage.Marks.{common}

-- the number is that of a node of both pages
abbrev pub is_kept : NumberedPage → Forest Look → ℕ → Bool
is_kept p shape n = listed n (map (number_of p) (common (page_shape p) shape))

-- What is kept shows the template's shape, and stands for the page that comes next, which can be brought up to date again; the operations lead there.
pub record Updates (lines : List Line) (links : List ℕ) (now : ℕ → Outcome) (m : PageMemo) (p : NumberedPage) (shape : Forest Look) : Type 0 where
  pub shows : shape ≡ shape_on lines links now
  pub keeps : Keeps lines links now m (renumbered p shape) (tree_of (renumbered p shape))
  pub sound : Sound (page_shape (renumbered p shape))
  pub leads : Leads p shape (is_kept p shape) (common (page_shape p) shape) (common (page_shape p) shape)

-- so it is, where the page stood on the outcomes of before
abbrev pub UpdateLaw : Type 0
UpdateLaw = (lines : List Line) (links : List ℕ) (before now : ℕ → Outcome) (was m : PageMemo) (p : NumberedPage) (tree : Forest Kind) →
    IsTemplate lines → Keeps lines links before was p tree → Sound (page_shape p) → GivesRows (evaluating links now) → m ≡ memo_on lines links now →
    Updates lines links now m p (memo_shape lines m)
