use Rattle.std.proofs.lemmas.Int.{fits_signed_from_abs, to_z-of_z, to_z_pos}
use Rattle.std.specs.Int.{w64}
use Rattle.std.specs.Prelude.{pos}
use Rattle.script_items.proofs.short.short.Goals as goal

pub returns-in-Some : goal.returns-in-Some
returns-in-Some c =
    let n = c.in-Some.ensures in rw (to_z_pos w64 c.in-Some.number n.0) (fits_signed_from_abs w64 (pos c.in-Some.number) n.0, n.1)

pub returns-in-Some-whole : goal.returns-in-Some-whole
returns-in-Some-whole c = rw (to_z-of_z w64 c.in-Some-whole.number c.in-Some-whole.ensures.0) c.in-Some-whole.ensures
