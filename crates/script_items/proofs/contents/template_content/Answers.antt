use Rattle.std.proofs.Common.{map, refl}
use Rattle.std.specs.Prelude.{Ok}
use Rattle.script_lines.specs.Views.{line_of}
use Rattle.script_items.proofs.TemplateNumbers.{template_refused_by}
use Rattle.script_items.proofs.contents.template_content.Goals as goal

pub returns-in-Ok : goal.returns-in-Ok
returns-in-Ok c = (Ok c.in-Ok.template, c.in-Ok.ensures.ok, refl)

pub returns-in_ok-content-in-Err : goal.returns-in_ok-content-in-Err
returns-in_ok-content-in-Err c =
    template_refused_by (map line_of c.args.lines.now) c.in-Err.fault.at c.number_at.result c.in_ok-content-in-Err.content c.args.name
    c.in-Err.fault.why c.in-Err.ensures.refused c.in_ok-content-in-Err.ensures.lines c.number_at.ensures c.in_ok-content-in-Err.ensures.content
