-- Rows in which lines are gone over, one after the other.
use Rattle.std.specs.Prelude.{List, [], ◌∷◌, length, Option}
use Rattle.sig_formula.specs.declared.formula.RowRef.{RowRef}
use Rattle.tpl_kept.specs.Heads.{places_from}
use Rattle.tpl_kept.specs.declared.renewing.places.Places.{Places}
use Rattle.tpl_kept.specs.declared.renewing.places.Places.TheVariants as held

-- all of them
abbrev pub listed : Places → List (Option RowRef)
listed held.Nowhere = []
listed (held.Alone r) = r.now ∷ []
listed (held.Table t) = places_from t.now 0 (length t.now.rows)
