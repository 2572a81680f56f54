use Rattle.std.proofs.Common.{◌≡◌, true, false, Bool, refl}
use Rattle.std.specs.Bool.{Decides}
use Rattle.sig_base.specs.Tables.{same_table, same_table-Decides}
use Rattle.sig_base.proofs.rows.RowsPartialEq.eq.Goals as goal

-- what would be wrong fails
refuted : {A : Type 0} (b : Bool) → Decides b A → (A → ⊥) → false ≡ b
refuted true d never = absurd (never (d.0 refl))
refuted false d never = refl

pub returns-then-differ : goal.returns-then-differ
returns-then-differ c = refuted (same_table c.args.self.now c.args.other.now) (same_table-Decides c.args.self.now c.args.other.now) (c.differ.ensures c.if-differ.true)
