-- A page that is brought up to date by what is kept of its lines.
use Rattle.std.proofs.Common.{◌≡◌, refl, sym, ap, subst, ◌∙◌}
use Rattle.page_model.specs.Forest.{Forest}
use Rattle.page_model.specs.Labels.{Look, Sound}
use Rattle.page_model.specs.Pages.{IsShape, SameOrigin, page_shape}
use Rattle.page_model.proofs.Shared.{page_after, shape_after}
use Rattle.tpl_model.specs.Sources.{evaluating}
use Rattle.tpl_model.proofs.Origins.{origin_law}
use Rattle.tpl_model.proofs.Shaped.{shape_law}
use Rattle.tpl_model.specs.PageUpdates.Updates.{memo_shape, shape_on}
use Rattle.tpl_model.proofs.PageUpdates.Memos.{shape_shown}
use Rattle.tpl_model.specs.NextPage.Marks.{common}
use Rattle.tpl_model.specs.NextPage.Updates.{UpdateLaw, is_kept}
use Rattle.tpl_model.proofs.NextPage.Marks.{whole_law}
use Rattle.tpl_model.proofs.NextPage.Lookups.{kept_law}
use Rattle.tpl_model.proofs.NextPage.Edits.{operations_law}

pub update_law : UpdateLaw
update_law lines links before now was m p tree t k d rows e =
    let shape : Forest Look = memo_shape lines m in
    let old = page_shape p in
    let shows : shape ≡ shape_on lines links now = ap (memo_shape lines) e ∙ shape_shown lines links now in
    let showed : old ≡ shape_on lines links before = k.shape ∙ (ap (memo_shape lines) k.memo ∙ shape_shown lines links before) in
    let s : IsShape shape = subst IsShape (sym shows) (shape_law lines (evaluating links now) t rows) in
    let o : SameOrigin old shape = subst (λ z. SameOrigin z shape) (sym showed)
    (subst (SameOrigin (shape_on lines links before)) (sym shows) (origin_law lines (evaluating links before) (evaluating links now) t)) in
    let marks = common old shape in
    record {
      shows = shows;
      keeps = record { memo = e; shape = shape_after p shape; page = page_after p shape k.page s; stands = refl };
      sound = subst Sound (sym (shape_after p shape)) s.sound;
      leads = operations_law p shape (is_kept p shape) marks marks k.page d s o (kept_law p shape k.page) (whole_law old shape);
    }
