use Rattle.std.proofs.Common.{ℕ, List, [], refl, sym, subst}
use Rattle.sig_base.specs.Tables.{AreRows}
use Rattle.live_model.proofs.Shared.{new_rows}
use Rattle.live_core.proofs.lists.rows_at.Goals as goal

pub new_rows-requires : goal.new_rows-requires
new_rows-requires c = subst (λ (fields : List (List ℕ)). AreRows fields []) (sym c.new.ensures.items) (new_rows [] refl)
