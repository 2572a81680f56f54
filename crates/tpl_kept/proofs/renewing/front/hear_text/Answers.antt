use Rattle.std.proofs.Common.{subst}
use Rattle.std.specs.Option.{option_copied}
use Rattle.sig_formula.specs.Trees.{tree}
use Rattle.tpl_hearing.specs.HeardAgain.{AreSame}
use Rattle.tpl_hearing.proofs.Shared.{nothing_heard}
use Rattle.tpl_model.specs.KeptLines.Kept.{heard_of}
use Rattle.tpl_kept.proofs.Listened.Reuse.{line_stayed}
use Rattle.tpl_kept.proofs.renewing.front.hear_text.Goals as goal

pub returns-then-are_same-clause-heard : goal.returns-then-are_same-clause-heard
returns-then-are_same-clause-heard g c =
    let heard = c.args.hearing.now.heard in
    line_stayed (tree c.args.formula.now) c.args.links.now (option_copied c.args.row) c.args.before.now heard heard (heard_of c.args.line.now) c.requires.was
    (subst (λ ns. AreSame c.args.before.now ns heard heard) c.deref.ensures.value (c.are_same.ensures c.if-are_same.true))

pub returns-then-are_same-clause-after : goal.returns-then-are_same-clause-after
returns-then-are_same-clause-after g c = nothing_heard _ _ c.args.hearing.now.heard c.requires.can.idle
