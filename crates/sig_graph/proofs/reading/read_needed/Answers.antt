use Rattle.std.proofs.Common.{FitsSigned, ap, of_z, refl, rules, sym, subst, to_z, w64}
use Rattle.std.proofs.lemmas.Int.{to_z-of_z}
use Rattle.sig_base.specs.declared.value.Value.TheVariants as value
use Rattle.sig_formula.specs.declared.parts.Part.{Part}
use Rattle.sig_graph.specs.Reading.{IsReadyPart}
use Rattle.sig_graph.proofs.ReadOn.{number_read, number_told}
use Rattle.sig_graph.proofs.reading.read_needed.Goals as goal

pub returns-in_ok-learn-in-Number-clause-read : goal.returns-in_ok-learn-in-Number-clause-read
returns-in_ok-learn-in-Number-clause-read c =
    let z = c.in-Number.number in
    let fits : FitsSigned w64 c.in-Number.number = search rules in
    let xs = c.args.nodes.now.items in
    let marked = c.args.marks.now.marked in
    number_read xs marked c.args.computation.now.recipe c.args.known.now.items c.learn.new.known.items c.args.reads.now.items c.learn.new.reads.items
    c.args.slot c.in-Some.id (value.Int z) (value.Int (to_z w64 (of_z w64 z))) (sym c.in-Some.ensures) c.requires.needed
    (subst (λ (p : Part). IsReadyPart p xs marked c.in-Some.id) c.in-Number.is c.ready_part.ensures) (ap value.Int (to_z-of_z w64 z fits))
    c.in_ok-learn-in-Number.ensures.known c.in_ok-learn-in-Number.ensures.reads

pub returns-in_ok-learn-in-Number-clause-part : goal.returns-in_ok-learn-in-Number-clause-part
returns-in_ok-learn-in-Number-clause-part c =
    number_told c.args.slot c.args.known.now.items c.learn.new.known.items (value.Int (to_z w64 (of_z w64 c.in-Number.number))) c.requires.unknown
    c.in_ok-learn-in-Number.ensures.known

pub returns-in_ok-learn-in-Truth-clause-read : goal.returns-in_ok-learn-in-Truth-clause-read
returns-in_ok-learn-in-Truth-clause-read c =
    let b = c.in-Truth.truth in
    let xs = c.args.nodes.now.items in
    let marked = c.args.marks.now.marked in
    number_read xs marked c.args.computation.now.recipe c.args.known.now.items c.learn-in-Truth.new.known.items c.args.reads.now.items c.learn-in-Truth.new.reads.items
    c.args.slot c.in-Some.id (value.Bool b) (value.Bool b) (sym c.in-Some.ensures) c.requires.needed
    (subst (λ (p : Part). IsReadyPart p xs marked c.in-Some.id) c.in-Truth.is c.ready_part.ensures) refl c.in_ok-learn-in-Truth.ensures.known
    c.in_ok-learn-in-Truth.ensures.reads

pub returns-in_ok-learn-in-Truth-clause-part : goal.returns-in_ok-learn-in-Truth-clause-part
returns-in_ok-learn-in-Truth-clause-part c =
    number_told c.args.slot c.args.known.now.items c.learn-in-Truth.new.known.items (value.Bool c.in-Truth.truth) c.requires.unknown
    c.in_ok-learn-in-Truth.ensures.known
