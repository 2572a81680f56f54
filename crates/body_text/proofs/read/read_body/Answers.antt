use Rattle.sig_base.specs.declared.limits.TheConstants.{MOST_LINE}
use Rattle.script_lines.specs.Lines.{kept_lines}
use Rattle.script_lines.proofs.Shared.{short_held}
use Rattle.body_text.proofs.read.read_body.Goals as goal

pub read_numbered-requires : goal.read_numbered-requires
read_numbered-requires c =
    rw c.deref.ensures.value (short_held MOST_LINE c.in_ok-lines.lines.items (kept_lines 0 c.args.block.now) c.in_ok-lines.ensures c.requires.lines)
