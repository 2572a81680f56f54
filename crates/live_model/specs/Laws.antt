-- What holds of the pages of the machine.
use Rattle.std.specs.Prelude.{◌≡◌, false}
use Rattle.std.specs.List.{AllByRecursion}
use Rattle.effect_model.specs.Runs.{flush}
use Rattle.effect_model.specs.Worlds.{Environment}
use Rattle.page_model.specs.Forest.{Forest}
use Rattle.page_model.specs.Html.{html_of}
use Rattle.page_model.specs.Labels.{Look, shown}
use Rattle.page_model.specs.Pages.{NumberedPage, renumbered, tree_of}
use Rattle.live_model.specs.Machine.{Machine, flushing, template_at}
use Rattle.live_model.specs.Pages.{Page, page_html, scratch_html}

-- a page that is carried to a shape has the shape's HTML, whatever it was before
abbrev pub PageLaw : Type 0
PageLaw = (old : NumberedPage) (shape : Forest Look) → html_of (tree_of (renumbered old shape)) ≡ html_of (shown shape)

-- the HTML of a page is what its template shows from scratch, on the signals as they are
abbrev pub ShowsScratch : Environment → Machine → Page → Type 0
ShowsScratch env m p = page_html p ≡ scratch_html env.hosts m.world.signals (template_at m p.template)

-- after a flush that isn't refused so it is with each page that lives
abbrev pub FlushLaw : Type 0
FlushLaw = (env : Environment) (m : Machine) → (flush env m.world).refused ≡ false
    → AllByRecursion (ShowsScratch env (flushing env m).machine) (flushing env m).machine.pages
