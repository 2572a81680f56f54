use Rattle.std.proofs.Common.{◌∙◌, arith}
use Rattle.sig_seats.specs.Found.{place_of}
use Rattle.sig_seats.proofs.NotedFinds.{held_here, held_written}
use Rattle.sig_seats.proofs.finds.note_later.Goals as goal

pub returns-clause-here : goal.returns-clause-here
returns-clause-here c = λ n high. held_here c.lengthen.new.at.items c.args.place high n c.args.found (omega arith)

pub returns-clause-others : goal.returns-clause-others
returns-clause-others c = λ n high apart.
    held_written c.lengthen.new.at.items c.args.place c.args.found (place_of n) high n apart ∙ c.lengthen.ensures.held n high
