use Rattle.std.proofs.Common.{◌≡◌, ◌+◌, true, length, refl, sym, ap, ◌∙◌, arith}
use Rattle.effect_model.specs.Owners.{the_owner}
use Rattle.sig_owner.specs.Keys.{placed}
use Rattle.sig_owner.specs.Tables.{is_open, rows_of}
use Rattle.sig_owner.proofs.Rows.{rows_length}
use Rattle.sig_owner.proofs.Consistency.{new_owner}
use Rattle.sig_owner.proofs.Placement.{holder_kept}
use Rattle.sig_owner.proofs.Trees.{made_seen}
use Rattle.sig_owner.proofs.owners.Owners.make.Goals as goal

pub invariant_of-self-2 : goal.invariant_of-self-2
invariant_of-self-2 c =
    let hs = c.self.inside.holders.entries in
    let rows = rows_of hs in
    let may : is_open rows c.args.inside ≡ true = sym c.is_open.ensures ∙ c.if-not-is_open.false in
    let id : c.of-id.result ≡ length rows = omega (arith, rows_length hs, c.of-id.ensures, c.made.ensures) in
    holder_kept rows _ c.self.inside.owners (c.self.inside.owners + 1) (placed c.self.inside.places) c.args.inside (the_owner c.of-id.result) (new_owner rows c.self.inside.owners c.of-id.result id c.self.invariant.holds) may
    (λ e q. absurd (cc)) c.in_ok-add_holder.ensures.ok refl c.self.invariant.holds c.self.invariant.placed

pub returns-clause-tree : goal.returns-clause-tree
returns-clause-tree c =
    let hs = c.self.inside.holders.entries in
    let rows = rows_of hs in
    let may : is_open rows c.args.inside ≡ true = sym c.is_open.ensures ∙ c.if-not-is_open.false in
    let id : c.of-id.result ≡ length rows = omega (arith, rows_length hs, c.of-id.ensures, c.made.ensures) in
    made_seen rows _ _ c.self.inside.owners c.args.inside (the_owner c.of-id.result) (new_owner rows c.self.inside.owners c.of-id.result id c.self.invariant.holds) may c.self.invariant.holds c.in_ok-add_holder.ensures.ok c.self.view_is
