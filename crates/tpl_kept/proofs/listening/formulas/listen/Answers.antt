use Rattle.std.specs.Option.{option_copied}
use Rattle.sig_formula.specs.Trees.{tree}
use Rattle.tpl_model.specs.KeptLines.Kept.{heard_of}
use Rattle.tpl_kept.proofs.Listened.Sequences.{listened}
use Rattle.tpl_kept.proofs.listening.formulas.listen.Goals as goal

pub returns-clause-heard : goal.returns-clause-heard
returns-clause-heard g c =
    listened (tree c.args.formula.now) c.args.links.now (option_copied c.args.row) c.args.heard.now c.evaluate.new.heard c.in_ok-evaluated.evaluated
    (heard_of c.in_ok-line.line) c.in_ok-evaluated.ensures.evaluated c.in_ok-line.ensures
