use Rattle.std.proofs.Common.{◌≡◌, ℕ, List, [], ◌∷◌, length, codes, false, refl, arith}
use Rattle.std.specs.List.{IsDistinct}
use Rattle.std.specs.Str.{bytes_eq}
use Rattle.std.proofs.lemmas.List.Elements.{All-cons, All-nil}
use Rattle.sig_base.specs.declared.rows.Row.{Row}
use Rattle.sig_base.specs.Tables.{AreRows}
use Rattle.value_rows.proofs.values.two_rows.Goals as goal

two-distinct : (x y : List ℕ) → bytes_eq x y ≡ false → IsDistinct bytes_eq (x ∷ y ∷ [])
unfolding IsDistinct
two-distinct x y h = ((h, tt), (tt, tt))

two-fit : (f g : List ℕ) (r s : Row) → f ≡ codes "n" → g ≡ codes "t" → r.key ≡ codes "k1" → s.key ≡ codes "k2"
    → length r.values ≡ 2 → length s.values ≡ 2 → AreRows (f ∷ g ∷ []) (r ∷ s ∷ [])
two-fit f g r s ef eg er es nr ns =
    let W : Row → Type 0 = λ x. length x.values ≡ 2 in
    record {
      few_fields = omega arith;
      distinct_fields = two-distinct f g (rw (ef, eg) refl);
      no_key_field = rw (ef, eg) refl;
      few_rows = omega arith;
      distinct_keys = two-distinct r.key s.key (rw (er, es) refl);
      one_value_each = All-cons W r (s ∷ []) nr (All-cons W s [] ns (All-nil W));
    }

pub of-requires : goal.of-requires
of-requires c =
    rw (c.in_ok-fields.ensures, c.in_ok-rows.ensures)
    (two-fit _ _ _ _ c.in_ok-new.ensures.ok c.in_ok-new-2.ensures.ok c.in_ok-row.ensures.0 c.in_ok-row-2.ensures.0 c.in_ok-row.ensures.1 c.in_ok-row-2.ensures.1)
