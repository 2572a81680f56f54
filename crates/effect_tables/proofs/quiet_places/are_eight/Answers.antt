use Rattle.std.proofs.lemmas.Bool.{and_parts}
use Rattle.effect_tables.proofs.Marks.{marks_joined}
use Rattle.effect_tables.proofs.quiet_places.are_eight.Goals as goal

pub returns : goal.returns
returns c = λ on.
    let both = and_parts _ _ on in
    marks_joined c.args.place 4 4 c.args.marks.now (c.are_four-front.ensures both.0) (c.are_four-rest.ensures both.1)
