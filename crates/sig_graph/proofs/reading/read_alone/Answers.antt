use Rattle.std.proofs.Common.{FitsSigned, ◌∙◌, ap, rules, subst, w64}
use Rattle.std.proofs.lemmas.Int.{to_z-of_z}
use Rattle.sig_base.specs.declared.value.Outcome.TheVariants.{Good}
use Rattle.sig_base.specs.declared.value.Value.TheVariants as value
use Rattle.sig_formula.specs.declared.parts.Part.{Part}
use Rattle.sig_formula.specs.Turns.{IsPartRead}
use Rattle.sig_formula.specs.Trees.{tree}
use Rattle.sig_graph.proofs.ReadOn.{alone_asks, alone_ends, alone_left}
use Rattle.sig_graph.proofs.reading.read_alone.Goals as goal

pub read_side-requires : goal.read_side-requires
read_side-requires c = alone_asks c.args.computation.now.recipe (tree c.args.formula.now) c.args.known.now.items c.requires

pub returns-in-Number-clause-walked : goal.returns-in-Number-clause-walked
returns-in-Number-clause-walked c =
    let t = tree c.args.formula.now in
    let known = c.read_side.new.known.items in
    let good = subst (λ (p : Part). IsPartRead p t known) c.in-Number.is c.in_ok-number.ensures.part in
    let z = c.in-Number.number in
    let fits : FitsSigned w64 c.in-Number.number = search rules in
    alone_ends c.args.computation.now.recipe t known (value.Int z) c.put_number.new.outcome c.requires good
    (c.put_number.ensures ∙ ap (λ m. Good (value.Int m)) (to_z-of_z w64 z fits))

pub returns-in-Truth-clause-walked : goal.returns-in-Truth-clause-walked
returns-in-Truth-clause-walked c =
    let t = tree c.args.formula.now in
    let known = c.read_side.new.known.items in
    alone_ends c.args.computation.now.recipe t known (value.Bool c.in-Truth.truth) c.put_truth.new.outcome c.requires
    (subst (λ (p : Part). IsPartRead p t known) c.in-Truth.is c.in_ok-number.ensures.part) c.put_truth.ensures

pub returns-in-Slot-clause-walked : goal.returns-in-Slot-clause-walked
returns-in-Slot-clause-walked c =
    let t = tree c.args.formula.now in
    let known = c.read_side.new.known.items in
    alone_left c.args.computation.now.recipe t known c.in-Slot.slot c.requires
    (subst (λ (p : Part). IsPartRead p t known) c.in-Slot.is c.in_ok-number.ensures.part)
