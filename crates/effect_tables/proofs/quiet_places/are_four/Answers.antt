use Rattle.std.proofs.lemmas.Bool.{and_parts}
use Rattle.effect_tables.proofs.Marks.{marks_joined}
use Rattle.effect_tables.proofs.quiet_places.are_four.Goals as goal

pub returns : goal.returns
returns c = λ on.
    let both = and_parts _ _ on in
    marks_joined c.args.place 2 2 c.args.marks.now (c.are_two-front.ensures both.0) (c.are_two-rest.ensures both.1)
