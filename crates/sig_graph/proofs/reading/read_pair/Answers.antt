use Rattle.std.proofs.Common.{FitsSigned, ◌∙◌, ap, of_z, rules, subst, to_z, w64}
use Rattle.std.proofs.lemmas.Int.{to_z-of_z}
use Rattle.sig_base.specs.declared.value.Value.TheVariants as value
use Rattle.sig_formula.specs.declared.parts.Part.{Part}
use Rattle.sig_formula.specs.Evaluation.{operated}
use Rattle.sig_formula.specs.Trees.{tree}
use Rattle.sig_formula.specs.Turns.{IsPartRead}
use Rattle.sig_graph.proofs.ReadOn.{first_left, left_asks, pair_answers, read_both, second_asks, second_left}
use Rattle.sig_graph.proofs.reading.read_pair.Goals as goal

pub read_side-requires : goal.read_side-requires
read_side-requires c =
    left_asks c.args.computation.now.recipe c.args.op (tree c.args.left.now) (tree c.args.right.now) c.args.known.now.items c.requires.formula

pub read_side-requires-2 : goal.read_side-requires-2
read_side-requires-2 c =
    let a = tree c.args.left.now in
    let known = c.read_side.new.known.items in
    let good = subst (λ (p : Part). IsPartRead p a known) c.in-Number.is c.in_ok-number.ensures.part in
    second_asks c.args.computation.now.recipe c.args.op a (tree c.args.right.now) known (value.Int c.in-Number.number) c.requires.formula c.requires.free
    good

pub returns-then-operate_numbers-clause-read : goal.returns-then-operate_numbers-clause-read
returns-then-operate_numbers-clause-read c =
    read_both c.args.nodes.now.items c.args.marks.now.marked c.args.computation.now.recipe c.args.known.now.items c.read_side.new.known.items
    c.read_side-2.new.known.items c.args.reads.now.items c.read_side.new.reads.items c.read_side-2.new.reads.items c.in_ok-number.ensures.read
    c.in_ok-second.ensures.read

pub returns-then-operate_numbers-clause-walked : goal.returns-then-operate_numbers-clause-walked
returns-then-operate_numbers-clause-walked c =
    let a = tree c.args.left.now in
    let b = tree c.args.right.now in
    let known = c.read_side.new.known.items in
    let known' = c.read_side-2.new.known.items in
    let first = subst (λ (p : Part). IsPartRead p a known) c.in-Number.is c.in_ok-number.ensures.part in
    let second = subst (λ (p : Part). IsPartRead p b known') c.in-Number-2.is c.in_ok-second.ensures.part in
    let m = c.in-Number.number in
    let n = c.in-Number-2.second in
    let fits : FitsSigned w64 c.in-Number.number = search rules in
    let fits-too : FitsSigned w64 c.in-Number-2.second = search rules in
    let made = c.operate_numbers.ensures c.if-operate_numbers.true ∙ ap (λ z. operated c.args.op (value.Int z) (value.Int (to_z w64 (of_z w64 n)))) (to_z-of_z w64 m fits)
    ∙ ap (λ z. operated c.args.op (value.Int m) (value.Int z)) (to_z-of_z w64 n fits-too) in
    pair_answers c.args.nodes.now.items c.args.marks.now.marked c.args.computation.now.recipe known known' c.read_side.new.reads.items
    c.read_side-2.new.reads.items c.args.op a b (value.Int m) (value.Int n) c.operate_numbers.new.outcome c.requires.formula c.requires.free first
    c.in_ok-second.ensures.read second made

pub returns-else-operate_numbers-clause-read : goal.returns-else-operate_numbers-clause-read
returns-else-operate_numbers-clause-read c =
    read_both c.args.nodes.now.items c.args.marks.now.marked c.args.computation.now.recipe c.args.known.now.items c.read_side.new.known.items
    c.read_side-2.new.known.items c.args.reads.now.items c.read_side.new.reads.items c.read_side-2.new.reads.items c.in_ok-number.ensures.read
    c.in_ok-second.ensures.read

pub returns-in-Slot-2-clause-read : goal.returns-in-Slot-2-clause-read
returns-in-Slot-2-clause-read c =
    read_both c.args.nodes.now.items c.args.marks.now.marked c.args.computation.now.recipe c.args.known.now.items c.read_side.new.known.items
    c.read_side-2.new.known.items c.args.reads.now.items c.read_side.new.reads.items c.read_side-2.new.reads.items c.in_ok-number.ensures.read
    c.in_ok-second.ensures.read

pub returns-in_default-2-clause-read : goal.returns-in_default-2-clause-read
returns-in_default-2-clause-read c =
    read_both c.args.nodes.now.items c.args.marks.now.marked c.args.computation.now.recipe c.args.known.now.items c.read_side.new.known.items
    c.read_side-2.new.known.items c.args.reads.now.items c.read_side.new.reads.items c.read_side-2.new.reads.items c.in_ok-number.ensures.read
    c.in_ok-second.ensures.read

pub returns-in-Slot-clause-walked : goal.returns-in-Slot-clause-walked
returns-in-Slot-clause-walked c =
    let a = tree c.args.left.now in
    let known = c.read_side.new.known.items in
    first_left c.args.computation.now.recipe c.args.op a (tree c.args.right.now) known c.in-Slot.slot c.requires.formula
    (subst (λ (p : Part). IsPartRead p a known) c.in-Slot.is c.in_ok-number.ensures.part)

pub returns-in-Slot-2-clause-walked : goal.returns-in-Slot-2-clause-walked
returns-in-Slot-2-clause-walked c =
    let a = tree c.args.left.now in
    let b = tree c.args.right.now in
    let known = c.read_side.new.known.items in
    let known' = c.read_side-2.new.known.items in
    second_left c.args.nodes.now.items c.args.marks.now.marked c.args.computation.now.recipe known known' c.read_side.new.reads.items
    c.read_side-2.new.reads.items c.args.op a b (value.Int c.in-Number.number) c.in-Slot-2.slot c.requires.formula c.requires.free
    (subst (λ (p : Part). IsPartRead p a known) c.in-Number.is c.in_ok-number.ensures.part) c.in_ok-second.ensures.read
    (subst (λ (p : Part). IsPartRead p b known') c.in-Slot-2.is c.in_ok-second.ensures.part)
