use Rattle.std.proofs.Common.{◌≡◌, not, true, length, suc, arith, sym, ap, ◌∙◌}
use Rattle.std.specs.Prelude.{is_some}
use Rattle.sig_store.specs.Stored.{entry}
use Rattle.effect_tables.specs.Owners.{OwnerList, closed_at, living}
use Rattle.effect_tables.proofs.Gone.{counted_fewer, gone_none, taken_out}
use Rattle.effect_tables.proofs.owner_rows.OwnerRows.close.Goals as goal

pub returns-then-is_none-clause-after : goal.returns-then-is_none-clause-after
returns-then-is_none-clause-after c = gone_none c.args.self.now.items c.args.id (sym (ap is_some c.get.ensures) ∙ c.is_none.ensures ∙ ap not c.if-is_none.true)

pub overflow_sub-self : goal.overflow_sub-self
overflow_sub-self c =
    let es = c.self.inside.rows.entries in
    let there : is_some (entry es c.args.id) ≡ true =
    ap (λ (o : OwnerList). is_some (entry o.items c.args.id)) c.self.view_is ∙ sym (ap is_some c.get.ensures) ∙ c.is_none.ensures ∙ ap not c.if-is_none.false in
    let fewer : c.self.inside.live ≡ suc (length (living 0 (closed_at c.args.id es))) = counted_fewer es c.args.id c.self.inside.live c.self.invariant there in
    omega (arith, fewer)

pub invariant_of-self : goal.invariant_of-self
invariant_of-self c =
    let es = c.self.inside.rows.entries in
    let there : is_some (entry es c.args.id) ≡ true =
    ap (λ (o : OwnerList). is_some (entry o.items c.args.id)) c.self.view_is ∙ sym (ap is_some c.get.ensures) ∙ c.is_none.ensures ∙ ap not c.if-is_none.false in
    let fewer : c.self.inside.live ≡ suc (length (living 0 (closed_at c.args.id es))) = counted_fewer es c.args.id c.self.inside.live c.self.invariant there in
    let same = ap (λ xs. length (living 0 xs)) (c.remove.ensures.entries ∙ taken_out es c.args.id c.number.result c.number.ensures) in
    omega (arith, fewer, same)

pub returns-clause-after : goal.returns-clause-after
returns-clause-after c =
    c.remove.ensures.entries ∙ taken_out c.self.inside.rows.entries c.args.id c.number.result c.number.ensures ∙ ap (λ (o : OwnerList). closed_at c.args.id o.items) c.self.view_is
