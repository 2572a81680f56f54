-- Templates whose names stand for signals, the pages made from them, and what these show.
use Rattle.std.specs.Prelude.{ℕ, zero, suc, Bool, true, false, List, [], slice_get, Option, Some, unwrap_or}
use Rattle.signal_model.specs.Recipes.{Hosts}
use Rattle.signal_model.specs.Signals.{Signals}
use Rattle.page_model.specs.Html.{html_of}
use Rattle.page_model.specs.Labels.{shown}
use Rattle.page_model.specs.Pages.{NumberedPage, tree_of}
use Rattle.tpl_model.specs.Lines.{Line, TagLine}
use Rattle.tpl_model.specs.Sources.{template_asked, template_shape}

-- a template: its lines, and the signals for which the slots of their formulas stand
pub record Template : Type 0 where
  pub lines : List Line
  pub links : List ℕ

-- nothing is shown
abbrev pub no_template : Template
no_template = record { lines = []; links = [] }

-- the template of a number; none past the last
abbrev pub template_in : List Template → ℕ → Template
template_in templates t = unwrap_or (slice_get templates t) no_template

-- whether a line makes an element
abbrev pub is_tag : Option Line → Bool
is_tag (Some (TagLine n)) = true
is_tag _ = false

-- whether the line of an ordinal does; lines are counted from 1
abbrev pub tag_in : Template → ℕ → Bool
tag_in t zero = false
tag_in t (suc i) = is_tag (slice_get t.lines i)

-- a page that lives: its name, its number among all pages that were mounted, the number of its template, and its nodes as they were last
-- brought up to date
pub record Page : Type 0 where
  pub name : List ℕ
  pub number : ℕ
  pub template : ℕ
  pub content : NumberedPage

-- the HTML of a page as it was last brought up to date
abbrev pub page_html : Page → List ℕ
page_html p = html_of (tree_of p.content)

-- the HTML of a template, from scratch
abbrev pub scratch_html : Hosts → Signals → Template → List ℕ
scratch_html hosts w t = html_of (shown (template_shape hosts w t.lines t.links))

-- the signals that a template reads, in order of first reading
abbrev pub asked_of : Hosts → Signals → Template → List ℕ
asked_of hosts w t = template_asked hosts w t.lines t.links
