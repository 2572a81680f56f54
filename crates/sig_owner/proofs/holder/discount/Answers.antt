use Rattle.std.proofs.Common.{ℕ, ◌≡◌, arith, cond, true, sym, ap, ◌∙◌}
use Rattle.sig_owner.specs.Tables.{is_owner_row, row_at, rows_of}
use Rattle.sig_owner.proofs.Counts.{count_ended}
use Rattle.sig_owner.proofs.holder.discount.Goals as goal

pub overflow_sub-owners : goal.overflow_sub-owners
overflow_sub-owners c =
    let rows = rows_of c.args.holders.now.entries in
    let here : is_owner_row (row_at rows c.args.id) ≡ true = sym c.is_owner_at.ensures ∙ c.if-is_owner_at.true in
    omega (arith, c.requires, count_ended rows c.args.id, ap {B = ℕ} (λ b. cond b 1 0) here)

pub returns-then-is_owner_at : goal.returns-then-is_owner_at
returns-then-is_owner_at c =
    let rows = rows_of c.args.holders.now.entries in
    let here : is_owner_row (row_at rows c.args.id) ≡ true = sym c.is_owner_at.ensures ∙ c.if-is_owner_at.true in
    rw here (omega (arith, c.requires, count_ended rows c.args.id, ap {B = ℕ} (λ b. cond b 1 0) here))
