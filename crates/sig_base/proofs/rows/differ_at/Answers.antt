use Rattle.std.proofs.Common.{◌≡◌, ap, true, false, Bool, not, Option, Some, sym, ◌∙◌}
use Rattle.std.specs.List.{slice_get}
use Rattle.sig_base.specs.declared.rows.Row.{Row}
use Rattle.sig_base.specs.Tables.{Table, same_row, same_row-Decides}
use Rattle.sig_base.proofs.rows.differ_at.Goals as goal

-- what holds doesn't fail
both : (b : Bool) → b ≡ true → not b ≡ true → ⊥
both true e h = absurd cc
both false e h = absurd cc

-- one place has one row
one : (o : Option Row) (r s : Row) → o ≡ Some r → o ≡ Some s → r ≡ s
one o r s a b = cc

pub returns : goal.returns
returns c h e =
    let row = c.row.result.now in
    let other = c.row-2.result.now in
    let there = ap (λ (t : Table). slice_get t.rows c.args.place) e in
    let same = one (slice_get c.args.rows.now.rows c.args.place) row other c.row.ensures (there ∙ c.row-2.ensures) in
    both (same_row row other) ((same_row-Decides row other).1 same) (sym c.ne.ensures ∙ h)
