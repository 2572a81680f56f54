-- The tree of a page that stands.
use Rattle.std.proofs.Common.{◌≡◌, ℕ, List, ap, ◌∙◌}
use Rattle.page_model.specs.Html.{html_of}
use Rattle.page_model.specs.Pages.{tree_of}
use Rattle.tpl_live.specs.Pages.{page_in, IsStanding, Standing}

-- its bytes are those of the page's nodes
pub bytes_stand : (s : Standing) (html : List ℕ) → IsStanding s → html ≡ html_of s.tree → html ≡ html_of (tree_of (page_in s))
bytes_stand s html stands is = is ∙ ap html_of stands.stands.keeps.stands
