use Rattle.line_forms.specs.Forms.{name}
use Rattle.line_forms.specs.Told.{ahead}
use Rattle.line_forms.proofs.Listed.{goes, ends}
use Rattle.line_forms.proofs.lists.names_behind.Goals as goal

pub loop-after-preserved : goal.loop-after-preserved
loop-after-preserved c =
    rw c.in_ok-push-2.ensures.items
    (goes name c.loop-after.names.items c.in_ok-name.name (ahead c.args.line.now c.args.tokens.now c.loop-after.at) (ahead c.args.line.now c.args.tokens.now c.in-Ok.after) (ahead c.args.line.now c.args.tokens.now c.in_ok-name.next) _
    c.loop-after.invariant c.in-Ok.ensures.exact c.in_ok-name.ensures.exact)

pub returns : goal.returns
returns c =
    rw c.of.ensures (ends name c.loop-after.names.items (ahead c.args.line.now c.args.tokens.now c.loop-after.at) (ahead c.args.line.now c.args.tokens.now c.in_ok-after.after) _
    c.loop-after.invariant c.in_default.ensures.exact c.in_ok-after.ensures.exact)
