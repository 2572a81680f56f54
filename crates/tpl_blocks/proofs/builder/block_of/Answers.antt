use Rattle.std.proofs.Common.{◌∙◌, ap, map, sym}
use Rattle.std.proofs.lemmas.Simd.{map-map}
use Rattle.sig_formula.specs.Trees.{tree}
use Rattle.tpl_model.specs.Lines as model
use Rattle.tpl_syntax.specs.Lines.{mapped}
use Rattle.tpl_blocks.specs.Blocks.{model_line}
use Rattle.tpl_blocks.proofs.builder.block_of.Goals as goal

pub returns : goal.returns
returns c =
    c.first_lines.ensures
    ∙ ap model.first_block (c.in_ok-parts.ensures ∙ ap (model.parts_from 1) (sym (map-map model_line (mapped tree) c.lines.result.now) ∙ ap (map model_line) c.lines.ensures))
