use Rattle.std.proofs.Common.{map, ap}
use Rattle.std.specs.Prelude.{Ok}
use Rattle.script_lines.specs.Views.{line_of}
use Rattle.sig_untrack.specs.Stated.{Bodies, before, no_bodies}
use Rattle.script_items.specs.declared.contents.Content.TheVariants as content
use Rattle.live_cmd.specs.declared.command.Command.TheVariants as command
use Rattle.body_text.specs.Allowances.{effects}
use Rattle.script_items.specs.Blocks.{effect_of}
use Rattle.script_items.proofs.Numbers.{refused_by}
use Rattle.script_items.proofs.contents.effect_content.Goals as goal

pub returns-in_ok-body-in-Ok : goal.returns-in_ok-body-in-Ok
returns-in_ok-body-in-Ok c =
    (Ok (before c.in-Ok.read no_bodies), rw c.effect.ensures at c.in-Ok.ensures.ok, ap (λ (b : Bodies). content.Makes (command.Effect c.args.name b c.args.inside)) c.in_ok-body-in-Ok.ensures)

pub returns-in_ok-content-in-Err : goal.returns-in_ok-content-in-Err
returns-in_ok-content-in-Err c =
    refused_by effects (map line_of c.args.lines.now) c.in-Err.fault.at c.number_at.result c.in-Err.fault.why c.in_ok-content-in-Err.content (effect_of c.args.name c.args.inside)
    (rw c.effect.ensures at c.in-Err.ensures.refused) c.in_ok-content-in-Err.ensures.lines c.number_at.ensures c.in_ok-content-in-Err.ensures.content
