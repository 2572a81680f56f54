use Rattle.std.specs.Str.{bytes_eq}
use Rattle.sig_rows.proofs.Keys.{first_found}
use Rattle.sig_rows.proofs.row.field_place.Goals as goal

pub returns : goal.returns
returns c = first_found (λ f. bytes_eq f c.args.name.now) c.args.fields.now c.first_place-found.result c.first_place-found.ensures
