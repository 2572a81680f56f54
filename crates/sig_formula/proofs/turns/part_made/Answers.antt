use Rattle.std.proofs.Common.{◌≡◌, ◌++◌, Some, ap, subst, sym}
use Rattle.sig_formula.specs.Trees.{Tree, binary, choice, tree}
use Rattle.sig_formula.specs.Turns.{IsPartRead, first_in, next_in}
use Rattle.sig_formula.proofs.InTurn.{branch_read, operation_read}
use Rattle.sig_formula.proofs.turns.part_made.Goals as goal

pub returns-in-Bin : goal.returns-in-Bin
returns-in-Bin c = λ a b known more first h is read.
    let o = c.in-Bin.op in
    let x = tree c.in-Bin.field-1.value in
    let y = tree c.in-Bin.field-2.value in
    let whole : tree c.args.f.now ≡ binary o x y = ap tree c.in-Bin.is in
    subst (λ (t : Tree). IsPartRead c.operation_made.result t (known ++ more)) (sym whole)
    (operation_read o x y a b c.args.first c.args.next c.operation_made.result known more c.operation_made.ensures
    (subst (λ (t : Tree). first_in t ≡ Some a) whole first) h (subst (λ (t : Tree). next_in t c.args.first ≡ Some b) whole is) read)

pub returns-in-If : goal.returns-in-If
returns-in-If c = λ a b known more first h is read.
    let t = tree c.in-If.field-0.value in
    let x = tree c.in-If.field-1.value in
    let y = tree c.in-If.field-2.value in
    let whole : tree c.args.f.now ≡ choice t x y = ap tree c.in-If.is in
    subst (λ (u : Tree). IsPartRead c.args.next u (known ++ more)) (sym whole)
    (branch_read t x y a b c.args.first c.args.next known more (subst (λ (u : Tree). first_in u ≡ Some a) whole first) h
    (subst (λ (u : Tree). next_in u c.args.first ≡ Some b) whole is) read)
