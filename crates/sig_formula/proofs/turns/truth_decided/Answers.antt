use Rattle.std.proofs.Common.{◌≡◌, Some, ap, not, subst, sym}
use Rattle.sig_formula.specs.declared.parts.Part.TheVariants as part
use Rattle.sig_formula.specs.Trees.{Tree, binary, negation, tree}
use Rattle.sig_formula.specs.Turns.{IsPartRead, first_in}
use Rattle.sig_formula.proofs.InTurn.{decided_read, negation_read}
use Rattle.sig_formula.proofs.turns.truth_decided.Goals as goal

pub returns-in-Not : goal.returns-in-Not
returns-in-Not c = λ a known first h.
    let x = tree c.in-Not.field-0.value in
    let whole : tree c.args.f.now ≡ negation x = ap tree c.in-Not.is in
    subst (λ (t : Tree). IsPartRead (part.Truth (not c.args.truth)) t known) (sym whole)
    (negation_read x a c.args.truth known (subst (λ (t : Tree). first_in t ≡ Some a) whole first) h)

pub returns-in-Bin : goal.returns-in-Bin
returns-in-Bin c = λ a known first h.
    let o = c.in-Bin.op in
    let x = tree c.in-Bin.field-1.value in
    let y = tree c.in-Bin.field-2.value in
    let whole : tree c.args.f.now ≡ binary o x y = ap tree c.in-Bin.is in
    subst (λ (t : Tree). IsPartRead c.operation_decided.result t known) (sym whole)
    (decided_read o x y a c.args.truth c.operation_decided.result known c.operation_decided.ensures
    (subst (λ (t : Tree). first_in t ≡ Some a) whole first) h)

pub returns-in_default : goal.returns-in_default
returns-in_default c = λ a known first h. tt
