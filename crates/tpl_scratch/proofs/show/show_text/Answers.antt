use Rattle.std.specs.Option.{option_copied}
use Rattle.sig_formula.specs.Trees.{tree}
use Rattle.tpl_scratch.specs.Pages.{nodes_of}
use Rattle.tpl_scratch.proofs.Parts.{text_shows}
use Rattle.tpl_scratch.proofs.show.show_text.Goals as goal

pub returns-clause-shows : goal.returns-clause-shows
returns-clause-shows c =
    text_shows c.args.known.now (option_copied c.args.here) c.args.line (tree c.args.formula.now) c.in_ok-outcome.outcome c.in_ok-text.text
    (nodes_of c.args.out.now) (nodes_of c.put_text.new.self) c.is_fault-failed.result c.in_ok-outcome.ensures.found c.is_fault-failed.ensures c.in_ok-text.ensures
    c.in_ok-put_text.ensures
