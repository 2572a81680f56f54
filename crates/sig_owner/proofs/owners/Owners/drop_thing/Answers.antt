use Rattle.std.proofs.Common.{◌≡◌, ℕ, true, false, sym, ap, subst, ◌∙◌}
use Rattle.sig_owner.specs.Keys.{placed}
use Rattle.sig_owner.specs.Tables.{dropped, is_row_of, live_at, owner_count, row_at, rows_of, thing_of}
use Rattle.sig_owner.proofs.Counts.{count_sifted_row}
use Rattle.sig_owner.proofs.Removals.{at_gone, at_nothing, at_outer, dropped_kept, holder_dropped, row_is}
use Rattle.sig_owner.specs.Removals.{is_leaf_of}
use Rattle.effect_model.specs.Owners.{the_owner, under}
use Rattle.sig_owner.specs.Trees.{has_thing, owned_of}
use Rattle.sig_owner.proofs.Membership.{bare_rows}
use Rattle.sig_owner.proofs.Trees.{dropped_seen}
use Rattle.sig_owner.proofs.Absent.{dropped_absent}
use Rattle.sig_owner.proofs.owners.Owners.drop_thing.Goals as goal

pub returns-in_default-clause-after : goal.returns-in_default-clause-after
returns-in_default-clause-after c =
    sym c.self.view_is ∙ (at_nothing (rows_of c.self.inside.holders.entries) c.self.inside.owners (placed c.self.inside.places) c.args.thing c.self.invariant (sym c.in_default.ensures) ∙ ap (dropped (thing_of c.args.thing)) c.self.view_is)

pub invariant_of-self : goal.invariant_of-self
invariant_of-self c =
    let rows = rows_of c.self.inside.holders.entries in
    let here : is_row_of (thing_of c.args.thing) (row_at rows c.in-Some.id) ≡ true = sym c.is_thing_at.ensures ∙ c.if-is_thing_at.true in
    let bare = bare_rows rows c.self.inside.owners c.self.invariant.holds (thing_of c.args.thing) (λ e. ap (λ rs. under (thing_of c.args.thing) (owned_of rs)) c.self.view_is ∙ c.requires e) in
    dropped_kept rows c.self.inside.owners c.drop_holder_at.new.owners (placed c.self.inside.places) (placed c.forget.new.places) c.args.thing c.forget.ensures c.self.invariant _ bare
    (c.drop_holder_at.ensures.rows ∙ holder_dropped rows c.self.inside.owners (placed c.self.inside.places) c.args.thing c.self.invariant c.in-Some.id here) c.drop_holder_at.ensures.count

pub returns-then-is_thing_at-clause-after : goal.returns-then-is_thing_at-clause-after
returns-then-is_thing_at-clause-after c =
    let rows = rows_of c.self.inside.holders.entries in
    let here : is_row_of (thing_of c.args.thing) (row_at rows c.in-Some.id) ≡ true = sym c.is_thing_at.ensures ∙ c.if-is_thing_at.true in
    c.drop_holder_at.ensures.rows ∙ (holder_dropped rows c.self.inside.owners (placed c.self.inside.places) c.args.thing c.self.invariant c.in-Some.id here ∙ ap (dropped (thing_of c.args.thing)) c.self.view_is)

pub invariant_of-self-then-is_live_at : goal.invariant_of-self-then-is_live_at
invariant_of-self-then-is_live_at c =
    let rows = rows_of c.self.inside.holders.entries in
    let off : is_row_of (thing_of c.args.thing) (row_at rows c.in-Some.id) ≡ false = sym c.is_thing_at.ensures ∙ c.if-is_thing_at.false in
    let live : live_at rows c.in-Some.id ≡ true = sym c.is_live_at.ensures ∙ c.if-is_live_at.true in
    let bare = bare_rows rows c.self.inside.owners c.self.invariant.holds (thing_of c.args.thing) (λ e. ap (λ rs. under (thing_of c.args.thing) (owned_of rs)) c.self.view_is ∙ c.requires e) in
    let e = c.drop_leaf_at.ensures ∙ at_outer rows c.self.inside.owners (placed c.self.inside.places) c.args.thing c.self.invariant c.in-Some.id (sym c.in-Some.ensures) off live in
    dropped_kept rows c.self.inside.owners c.self.inside.owners (placed c.self.inside.places) (placed c.forget-then-is_live_at.new.places) c.args.thing c.forget-then-is_live_at.ensures c.self.invariant _ bare e
    (c.self.invariant.holds.count ∙ sym (ap owner_count c.drop_leaf_at.ensures ∙ count_sifted_row (is_leaf_of c.args.thing) c.in-Some.id rows))

pub returns-then-is_live_at-clause-after : goal.returns-then-is_live_at-clause-after
returns-then-is_live_at-clause-after c =
    let rows = rows_of c.self.inside.holders.entries in
    let off : is_row_of (thing_of c.args.thing) (row_at rows c.in-Some.id) ≡ false = sym c.is_thing_at.ensures ∙ c.if-is_thing_at.false in
    let live : live_at rows c.in-Some.id ≡ true = sym c.is_live_at.ensures ∙ c.if-is_live_at.true in
    c.drop_leaf_at.ensures ∙ (at_outer rows c.self.inside.owners (placed c.self.inside.places) c.args.thing c.self.invariant c.in-Some.id (sym c.in-Some.ensures) off live ∙ ap (dropped (thing_of c.args.thing)) c.self.view_is)

pub returns-else-is_live_at-clause-after : goal.returns-else-is_live_at-clause-after
returns-else-is_live_at-clause-after c =
    let rows = rows_of c.self.inside.holders.entries in
    let off : is_row_of (thing_of c.args.thing) (row_at rows c.in-Some.id) ≡ false = sym c.is_thing_at.ensures ∙ c.if-is_thing_at.false in
    let dead : live_at rows c.in-Some.id ≡ false = sym c.is_live_at.ensures ∙ c.if-is_live_at.false in
    sym c.self.view_is ∙ (at_gone rows c.self.inside.owners (placed c.self.inside.places) c.args.thing c.self.invariant c.in-Some.id (sym c.in-Some.ensures) off dead ∙ ap (dropped (thing_of c.args.thing)) c.self.view_is)

pub returns-in_default-clause-tree : goal.returns-in_default-clause-tree
returns-in_default-clause-tree c =
    let rows = rows_of c.self.inside.holders.entries in
    let bare = bare_rows rows c.self.inside.owners c.self.invariant.holds (thing_of c.args.thing) (λ e. ap (λ rs. under (thing_of c.args.thing) (owned_of rs)) c.self.view_is ∙ c.requires e) in
    sym (ap owned_of c.self.view_is) ∙ dropped_seen rows rows _ c.self.inside.owners (thing_of c.args.thing) bare c.self.invariant.holds
    (at_nothing rows c.self.inside.owners (placed c.self.inside.places) c.args.thing c.self.invariant (sym c.in_default.ensures)) c.self.view_is

pub returns-then-is_thing_at-clause-tree : goal.returns-then-is_thing_at-clause-tree
returns-then-is_thing_at-clause-tree c =
    let rows = rows_of c.self.inside.holders.entries in
    let bare = bare_rows rows c.self.inside.owners c.self.invariant.holds (thing_of c.args.thing) (λ e. ap (λ rs. under (thing_of c.args.thing) (owned_of rs)) c.self.view_is ∙ c.requires e) in
    let here : is_row_of (thing_of c.args.thing) (row_at rows c.in-Some.id) ≡ true = sym c.is_thing_at.ensures ∙ c.if-is_thing_at.true in
    dropped_seen rows _ _ c.self.inside.owners (thing_of c.args.thing) bare c.self.invariant.holds
    (c.drop_holder_at.ensures.rows ∙ holder_dropped rows c.self.inside.owners (placed c.self.inside.places) c.args.thing c.self.invariant c.in-Some.id here) c.self.view_is

pub returns-then-is_live_at-clause-tree : goal.returns-then-is_live_at-clause-tree
returns-then-is_live_at-clause-tree c =
    let rows = rows_of c.self.inside.holders.entries in
    let bare = bare_rows rows c.self.inside.owners c.self.invariant.holds (thing_of c.args.thing) (λ e. ap (λ rs. under (thing_of c.args.thing) (owned_of rs)) c.self.view_is ∙ c.requires e) in
    let off : is_row_of (thing_of c.args.thing) (row_at rows c.in-Some.id) ≡ false = sym c.is_thing_at.ensures ∙ c.if-is_thing_at.false in
    let live : live_at rows c.in-Some.id ≡ true = sym c.is_live_at.ensures ∙ c.if-is_live_at.true in
    dropped_seen rows _ _ c.self.inside.owners (thing_of c.args.thing) bare c.self.invariant.holds
    (c.drop_leaf_at.ensures ∙ at_outer rows c.self.inside.owners (placed c.self.inside.places) c.args.thing c.self.invariant c.in-Some.id (sym c.in-Some.ensures) off live) c.self.view_is

pub returns-else-is_live_at-clause-tree : goal.returns-else-is_live_at-clause-tree
returns-else-is_live_at-clause-tree c =
    let rows = rows_of c.self.inside.holders.entries in
    let bare = bare_rows rows c.self.inside.owners c.self.invariant.holds (thing_of c.args.thing) (λ e. ap (λ rs. under (thing_of c.args.thing) (owned_of rs)) c.self.view_is ∙ c.requires e) in
    let off : is_row_of (thing_of c.args.thing) (row_at rows c.in-Some.id) ≡ false = sym c.is_thing_at.ensures ∙ c.if-is_thing_at.false in
    let dead : live_at rows c.in-Some.id ≡ false = sym c.is_live_at.ensures ∙ c.if-is_live_at.false in
    sym (ap owned_of c.self.view_is) ∙ dropped_seen rows rows _ c.self.inside.owners (thing_of c.args.thing) bare c.self.invariant.holds
    (at_gone rows c.self.inside.owners (placed c.self.inside.places) c.args.thing c.self.invariant c.in-Some.id (sym c.in-Some.ensures) off dead) c.self.view_is

pub returns-in_default-clause-nowhere : goal.returns-in_default-clause-nowhere
returns-in_default-clause-nowhere c =
    let rows = rows_of c.self.inside.holders.entries in
    let bare = bare_rows rows c.self.inside.owners c.self.invariant.holds (thing_of c.args.thing) (λ e. ap (λ rs. under (thing_of c.args.thing) (owned_of rs)) c.self.view_is ∙ c.requires e) in
    subst (λ rs. (n : ℕ) → live_at rs n ≡ false → has_thing (the_owner n) (owned_of rs) ≡ false) c.self.view_is
    (dropped_absent rows rows c.self.inside.owners (thing_of c.args.thing) bare c.self.invariant.holds
    (at_nothing rows c.self.inside.owners (placed c.self.inside.places) c.args.thing c.self.invariant (sym c.in_default.ensures)))

pub returns-then-is_thing_at-clause-nowhere : goal.returns-then-is_thing_at-clause-nowhere
returns-then-is_thing_at-clause-nowhere c =
    let rows = rows_of c.self.inside.holders.entries in
    let bare = bare_rows rows c.self.inside.owners c.self.invariant.holds (thing_of c.args.thing) (λ e. ap (λ rs. under (thing_of c.args.thing) (owned_of rs)) c.self.view_is ∙ c.requires e) in
    let here : is_row_of (thing_of c.args.thing) (row_at rows c.in-Some.id) ≡ true = sym c.is_thing_at.ensures ∙ c.if-is_thing_at.true in
    dropped_absent rows _ c.self.inside.owners (thing_of c.args.thing) bare c.self.invariant.holds
    (c.drop_holder_at.ensures.rows ∙ holder_dropped rows c.self.inside.owners (placed c.self.inside.places) c.args.thing c.self.invariant c.in-Some.id here)

pub returns-then-is_live_at-clause-nowhere : goal.returns-then-is_live_at-clause-nowhere
returns-then-is_live_at-clause-nowhere c =
    let rows = rows_of c.self.inside.holders.entries in
    let bare = bare_rows rows c.self.inside.owners c.self.invariant.holds (thing_of c.args.thing) (λ e. ap (λ rs. under (thing_of c.args.thing) (owned_of rs)) c.self.view_is ∙ c.requires e) in
    let off : is_row_of (thing_of c.args.thing) (row_at rows c.in-Some.id) ≡ false = sym c.is_thing_at.ensures ∙ c.if-is_thing_at.false in
    let live : live_at rows c.in-Some.id ≡ true = sym c.is_live_at.ensures ∙ c.if-is_live_at.true in
    dropped_absent rows _ c.self.inside.owners (thing_of c.args.thing) bare c.self.invariant.holds
    (c.drop_leaf_at.ensures ∙ at_outer rows c.self.inside.owners (placed c.self.inside.places) c.args.thing c.self.invariant c.in-Some.id (sym c.in-Some.ensures) off live)

pub returns-else-is_live_at-clause-nowhere : goal.returns-else-is_live_at-clause-nowhere
returns-else-is_live_at-clause-nowhere c =
    let rows = rows_of c.self.inside.holders.entries in
    let bare = bare_rows rows c.self.inside.owners c.self.invariant.holds (thing_of c.args.thing) (λ e. ap (λ rs. under (thing_of c.args.thing) (owned_of rs)) c.self.view_is ∙ c.requires e) in
    let off : is_row_of (thing_of c.args.thing) (row_at rows c.in-Some.id) ≡ false = sym c.is_thing_at.ensures ∙ c.if-is_thing_at.false in
    let dead : live_at rows c.in-Some.id ≡ false = sym c.is_live_at.ensures ∙ c.if-is_live_at.false in
    subst (λ rs. (n : ℕ) → live_at rs n ≡ false → has_thing (the_owner n) (owned_of rs) ≡ false) c.self.view_is
    (dropped_absent rows rows c.self.inside.owners (thing_of c.args.thing) bare c.self.invariant.holds
    (at_gone rows c.self.inside.owners (placed c.self.inside.places) c.args.thing c.self.invariant c.in-Some.id (sym c.in-Some.ensures) off dead))
