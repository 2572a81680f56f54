use Rattle.std.proofs.Common.{◌<◌, ◌++◌, List, ℕ, length, sym, ap, ◌∙◌, subst}
use Rattle.std.specs.List.{All}
use Rattle.sig_marks.specs.Tables.{dependants_at}
use Rattle.sig_marks.specs.Sets.{keys_of, marks_of, newly_marked, with_marks}
use Rattle.sig_marks.proofs.LinkedSets.{all_in}
use Rattle.sig_marks.proofs.propagation.mark_dependants.Goals as goal

pub mark_each-requires-clause-within : goal.mark_each-requires-clause-within
mark_each-requires-clause-within c =
    let n = length c.args.marked.now.entries in
    subst (λ (ds : List ℕ). All (λ d. d < n) ds) (sym c.dependants_in.ensures)
    (all_in (dependants_at (keys_of c.args.sets.now.entries) c.args.id) n (λ d on. c.requires.within c.args.id d on))

pub returns-clause-marked : goal.returns-clause-marked
returns-clause-marked c = c.mark_each.ensures.marked ∙ ap (λ ds. with_marks ds (marks_of c.args.marked.now.entries)) c.dependants_in.ensures

pub returns-clause-fresh : goal.returns-clause-fresh
returns-clause-fresh c = c.mark_each.ensures.fresh ∙ ap (λ ds. c.args.fresh.now.items ++ newly_marked ds (marks_of c.args.marked.now.entries)) c.dependants_in.ensures
