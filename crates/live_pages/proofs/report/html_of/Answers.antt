use Rattle.std.proofs.Common.{ap, ◌∙◌}
use Rattle.page_model.specs.Forest.{Forest}
use Rattle.page_model.specs.Html.{html_of}
use Rattle.page_model.specs.Labels.{Kind}
use Rattle.tpl_live.specs.Contents.{standing}
use Rattle.live_pages.proofs.Stood.{bytes_stand}
use Rattle.live_pages.proofs.report.html_of.Goals as goal

pub returns : goal.returns
returns c =
    bytes_stand (standing c.args.page.now) c.in_ok-html.html c.requires (c.in_ok-html.ensures ∙ ap (λ (t : Forest Kind). html_of t) c.tree.ensures)
