use Rattle.std.proofs.Common.{◌≡◌, ℕ, List, [], ◌∷◌, length, codes, false, refl, arith}
use Rattle.std.specs.List.{IsDistinct}
use Rattle.std.specs.Str.{bytes_eq}
use Rattle.std.proofs.lemmas.List.Elements.{All-nil}
use Rattle.sig_base.specs.declared.rows.Row.{Row}
use Rattle.sig_base.specs.Tables.{AreRows}
use Rattle.value_rows.proofs.rows.no_rows.Goals as goal

none-distinct : IsDistinct bytes_eq []
unfolding IsDistinct
none-distinct = tt

one-distinct : (x : List ℕ) → IsDistinct bytes_eq (x ∷ [])
unfolding IsDistinct
one-distinct x = (tt, tt)

one-fits : (f : List ℕ) → bytes_eq (codes "key") f ≡ false → AreRows (f ∷ []) []
one-fits f e = record {
  few_fields = omega arith;
  distinct_fields = one-distinct f;
  no_key_field = rw e refl;
  few_rows = omega arith;
  distinct_keys = none-distinct;
  one_value_each = All-nil (λ (r : Row). length r.values ≡ 1);
}

pub new_rows-requires : goal.new_rows-requires
new_rows-requires c = rw c.in_ok-fields.ensures (one-fits _ (rw c.in_ok-new.ensures.ok c.requires))
