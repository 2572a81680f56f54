use Rattle.std.proofs.Common.{◌≡◌, ◌<◌, map, arith, sym, ap, ◌∙◌}
use Rattle.std.proofs.lemmas.Bool.Decides.{nat_tests}
use Rattle.std.specs.Box.{box_value}
use Rattle.tpl_blocks.specs.Blocks.{block}
use Rattle.tpl_model.specs.KeptLines.Changes.{chain, changed, nothing, over, same_before}
use Rattle.tpl_model.proofs.ChangeEquations.{changed_first, changed_made, changed_over, changed_same, changed_stays, none_before, one_less}
use Rattle.tpl_drawn.specs.Comparison.{keeps_nodes}
use Rattle.tpl_drawn.proofs.Compares.Tops.{made_keep, stays_keep}
use Rattle.tpl_drawn.proofs.comparing.keeping.+keeping.Goals as goal

pub keeps_nodes-returns-in-Stays : goal.keeps_nodes-returns-in-Stays
keeps_nodes-returns-in-Stays u c =
    sym (ap (keeps_nodes (block c.args.lines.now)) (ap changed c.in-Stays.is ∙ changed_stays) ∙ stays_keep (block c.args.lines.now))

pub keeps_nodes-returns-in-Made : goal.keeps_nodes-returns-in-Made
keeps_nodes-returns-in-Made u c =
    c.is_plain.ensures ∙ sym (ap (keeps_nodes (block c.args.lines.now)) (ap changed c.in-Made.is ∙ changed_made) ∙ made_keep (block c.args.lines.now))

pub keeps_nodes-returns-in-Over : goal.keeps_nodes-returns-in-Over
keeps_nodes-returns-in-Over u c =
    let inside = chain (map changed c.in-Over.field-1.items) in
    rw c.deref.ensures at (c.keeps_parts.ensures inside)
    ∙ ap (keeps_nodes (block c.args.lines.now))
    (ap (over c.in-Over.same inside) (none_before (changed (box_value c.in-Over.later)))
    ∙ sym (ap changed c.in-Over.is ∙ changed_over c.in-Over.same c.in-Over.field-1 c.in-Over.later))

pub keeps_nodes-returns-in-First : goal.keeps_nodes-returns-in-First
keeps_nodes-returns-in-First u c =
    c.keeps_before.ensures (chain (map changed c.in-First.field-1.items))
    ∙ ap (keeps_nodes (block c.args.lines.now)) (sym (ap changed c.in-First.is ∙ changed_first c.in-First.same c.in-First.field-1))

pub keeps_nodes-returns-in-Same : goal.keeps_nodes-returns-in-Same
keeps_nodes-returns-in-Same u c =
    rw c.deref-in-Same.ensures at (c.keeps_parts-in-Same.ensures nothing)
    ∙ ap (keeps_nodes (block c.args.lines.now)) (sym (ap changed c.in-Same.is ∙ changed_same c.in-Same.more c.in-Same.later))

pub keeps_behind-returns-then-count-eq0 : goal.keeps_behind-returns-then-count-eq0
keeps_behind-returns-then-count-eq0 t c =
    let none : c.args.count ≡ 0 = grind (arith, nat_tests, c.if-count-eq0.true) in
    c.keeps_nodes.ensures
    ∙ ap (keeps_nodes (block c.args.lines.now)) (sym (ap (λ z. same_before z (changed c.args.later.now)) none ∙ none_before (changed c.args.later.now)))

pub keeps_behind-returns : goal.keeps_behind-returns
keeps_behind-returns t c =
    let some : 0 < c.args.count = grind (arith, nat_tests, c.if-count-eq0.false) in
    c.keeps_parts.ensures nothing ∙ ap (keeps_nodes (block c.args.lines.now)) (one_less c.args.count (changed c.args.later.now) some)
