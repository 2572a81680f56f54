use Rattle.std.proofs.Common.{◌<◌, length, refl, sym, arith}
use Rattle.std.proofs.lemmas.Bool.Decides.{nat_tests}
use Rattle.std.proofs.lemmas.Option.{slice_get_read}
use Rattle.tpl_patch.proofs.Numbers.{one_there}
use Rattle.tpl_patch.proofs.leaving.stands_at.Goals as goal

pub returns-in-Some : goal.returns-in-Some
returns-in-Some c = λ e.
    let xs = c.args.numbers.now in
    let i = c.args.place in
    let held = c.in-Some.held.now in
    let there : i < length xs = grind (arith, nat_tests, c.in-Some.ensures.lookup.0) in
    one_there xs i held c.args.number (sym (slice_get_read xs (length xs) i held refl there c.in-Some.ensures.lookup.1)) e
