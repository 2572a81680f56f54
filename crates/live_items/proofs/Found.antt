-- What a command doesn't find: a node of a page, a line of a template.
use Rattle.std.proofs.Common.{◌≡◌, ◌≤◌, ℕ, zero, suc, Bool, true, false, cond, List, length, map, Option, Some, None, refl, ap, ◌∙◌}
use Rattle.std.specs.Prelude.{is_some, option_map, slice_get, unwrap_or}
use Rattle.std.proofs.lemmas.Option.{slice_get-map, slice_get_past}
use Rattle.sig_formula.specs.Trees.{Tree}
use Rattle.tpl_blocks.specs.Blocks.{lines_of, model_line}
use Rattle.tpl_syntax.specs.Lines.{Plan, tag_at}
use Rattle.tpl_syntax.specs.Lines as syntax
use Rattle.tpl_syntax.specs.declared.line.Line.{Line}
use Rattle.tpl_syntax.specs.declared.line.Line.TheVariants as line
use Rattle.tpl_syntax.specs.declared.line.Mark.TheVariants as mark
use Rattle.tpl_syntax.specs.declared.line.Purpose.TheVariants as purpose
use Rattle.live_model.specs.Pages.{Template, is_tag, no_template, tag_in, template_in}
use Rattle.live_pages.specs.declared.mounted.LinkedTemplate.{LinkedTemplate}
use Rattle.live_pages.specs.Views.{template_of}

-- whether something is there, by its test
pub some_tested : {A : Type 0} (b : Bool) (x : A) → is_some (cond b (Some x) None) ≡ b
some_tested true x = refl
some_tested false x = refl

-- and whether what is made of it is
pub some_mapped : {A B : Type 0} (f : A → B) (o : Option A) → is_some (option_map f o) ≡ is_some o
some_mapped f None = refl
some_mapped f (Some x) = refl

-- no line of no template makes an element
none_tagged : (k : ℕ) → tag_in no_template k ≡ false
none_tagged zero = refl
none_tagged (suc i) = refl

-- a line of a template makes an element where the line that was read begins one
tag_same : (o : Option (Line Tree)) → is_tag (option_map model_line o) ≡ syntax.is_tag o
tag_same None = refl
tag_same (Some (line.Plain (mark.Tag n))) = refl
tag_same (Some (line.Plain mark.Try)) = refl
tag_same (Some (line.Plain mark.Else)) = refl
tag_same (Some (line.Plain mark.End)) = refl
tag_same (Some (line.Over purpose.Text f)) = refl
tag_same (Some (line.Over (purpose.Attr n) f)) = refl
tag_same (Some (line.Over purpose.If f)) = refl
tag_same (Some (line.Over purpose.Each f)) = refl

pub tagged_same : (plan : Plan) (links : List ℕ) (k : ℕ) → tag_in (record { lines = lines_of plan; links = links }) k ≡ tag_at k plan.lines
tagged_same plan links zero = refl
tagged_same plan links (suc i) = ap is_tag (slice_get-map model_line plan.lines i) ∙ tag_same (slice_get plan.lines i)

-- no line past the last template does
pub tagged_past : (ts : List LinkedTemplate) (t k : ℕ) → length ts ≤ t → tag_in (template_in (map template_of ts) t) k ≡ false
tagged_past ts t k past =
    ap (λ (o : Option Template). tag_in (unwrap_or o no_template) k) (slice_get-map template_of ts t ∙ ap (option_map template_of) (slice_get_past ts t past)) ∙ none_tagged k
