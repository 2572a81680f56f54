use Rattle.std.proofs.Common.{◌∙◌, ℕ, List, [], sym, subst}
use Rattle.sig_base.specs.Tables.{AreRows}
use Rattle.live_model.proofs.Shared.{new_rows}
use Rattle.live_core.proofs.creation.no_rows.Goals as goal

pub new_rows-requires : goal.new_rows-requires
new_rows-requires c = subst (λ (fields : List (List ℕ)). AreRows fields []) (sym (c.in_ok-names.ensures ∙ c.as_slice.ensures)) (new_rows c.args.fields.now c.requires)
