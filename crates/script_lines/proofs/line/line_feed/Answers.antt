use Rattle.script_lines.specs.Lines.{is_line_feed}
use Rattle.script_lines.proofs.Fronts.{first_is}
use Rattle.script_lines.proofs.line.line_feed.Goals as goal

pub returns : goal.returns
returns c = first_is is_line_feed c.args.bytes.now c.memchr-place.result c.memchr-place.ensures
