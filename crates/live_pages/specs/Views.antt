-- Templates and pages, as the definitions speak of them.
use Rattle.std.specs.Prelude.{ℕ, List}
use Rattle.page_model.specs.Html.{html_of}
use Rattle.page_model.specs.Pages.{tree_of}
use Rattle.tpl_blocks.specs.Blocks.{lines_of}
use Rattle.tpl_live.specs.declared.page.Page as live
use Rattle.tpl_live.specs.Pages.{page_in}
use Rattle.tpl_live.specs.Contents.{standing}
use Rattle.live_model.specs.Pages.{Page, Template}
use Rattle.live_pages.specs.declared.mounted.LinkedTemplate.{LinkedTemplate}
use Rattle.live_pages.specs.declared.mounted.Mounted.{Mounted}

-- a template whose names stand for signals
abbrev pub template_of : LinkedTemplate → Template
template_of t = record { lines = lines_of t.template; links = t.links.items }

-- a page, and its nodes as they were last brought up to date
abbrev pub page_of : Mounted → Page
page_of p = record { name = p.name; number = p.number; template = p.template; content = page_in (standing p.page) }

-- the HTML of a page's nodes
abbrev pub content_html : live.Page → List ℕ
content_html p = html_of (tree_of (page_in (standing p)))
