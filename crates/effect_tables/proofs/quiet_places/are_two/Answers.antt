use Rattle.std.proofs.Common.{◌+◌, false, sym, ◌∙◌, arith}
use Rattle.std.proofs.lemmas.Bool.{and_parts}
use Rattle.effect_tables.proofs.Marks.{mark_alone, mark_at, marks_joined}
use Rattle.effect_tables.proofs.quiet_places.are_two.Goals as goal

pub returns : goal.returns
returns c = λ on.
    let p = c.args.place in
    let bs = c.args.marks.now in
    let l = c.requires in
    let both = and_parts _ _ on in
    marks_joined p 1 1 bs
    (mark_alone p bs (sym (mark_at bs p false (omega (arith, l))) ∙ both.0))
    (mark_alone (p + 1) bs (sym (mark_at bs (p + 1) false (omega (arith, l))) ∙ both.1))
