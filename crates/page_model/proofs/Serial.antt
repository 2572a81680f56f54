-- The bytes of a page don't depend on its numbers.
use Rattle.std.proofs.Common.{◌≡◌, ℕ, Bool, false, refl, ap, ◌∙◌, ◌++◌}
use Rattle.html_out.specs.Html.{is_raw}
use Rattle.page_model.specs.Forest.{Forest, none, node, numbered}
use Rattle.page_model.specs.Labels.{Root, Text, Element, Look, shown}
use Rattle.page_model.specs.Pages.{NumberedPage, tree_of, carried, renumbered}
use Rattle.page_model.specs.Html.{characters, html_in, html_of}
use Rattle.page_model.proofs.Looks.{by_number_with}

html_num : (raw : Bool) (num : ℕ → ℕ) (s : Forest Look) → html_in raw (shown (numbered num s)) ≡ html_in raw (shown s)
html_num raw num none = refl
html_num raw num (node m Root k r) = html_num raw num r
html_num raw num (node m (Text t) k r) = ap (λ z. characters raw t ++ z) (html_num raw num r)
html_num raw num (node m (Element name lines) k r) = rw (html_num (is_raw name) num k, html_num raw num r) refl

html_root : (num : ℕ → ℕ) (s : Forest Look) → html_of (shown (numbered num s)) ≡ html_of (shown s)
html_root num none = refl
html_root num (node m x k r) = html_num false num k

pub html_after : (old : NumberedPage) (shape : Forest Look) → html_of (tree_of (renumbered old shape)) ≡ html_of (shown shape)
html_after old shape = ap (λ t. html_of (shown t)) (by_number_with (carried old shape) shape) ∙ html_root (carried old shape) shape
