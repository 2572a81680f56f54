use Rattle.std.proofs.Common.{◌≡◌, true, sym, ap, ◌∙◌, arith}
use Rattle.std.proofs.lemmas.Bool.{true≢false}
use Rattle.sig_owner.specs.Keys.{placed}
use Rattle.sig_owner.specs.Tables.{cleanup_of, live_at, noted, rows_of}
use Rattle.sig_owner.proofs.Placement.{item_kept}
use Rattle.sig_owner.proofs.Trees.{noted_seen}
use Rattle.sig_owner.proofs.owners.Owners.note_cleanup.Goals as goal

pub put_at-requires : goal.put_at-requires
put_at-requires c = sym c.is_live_at.ensures ∙ c.if-not-is_live_at.false

pub invariant_of-self-2 : goal.invariant_of-self-2
invariant_of-self-2 c =
    let rows = rows_of c.self.inside.holders.entries in
    let live : live_at rows c.args.id ≡ true = sym c.is_live_at.ensures ∙ c.if-not-is_live_at.false in
    item_kept rows _ c.self.inside.owners c.args.id (placed c.self.inside.places) (noted (cleanup_of c.args.cleanup)) tt live
    (λ t e. absurd (true≢false (sym e))) c.in_ok-put_at.ensures.ok c.self.invariant.holds c.self.invariant.placed

pub returns-clause-tree : goal.returns-clause-tree
returns-clause-tree c =
    let rows = rows_of c.self.inside.holders.entries in
    let live : live_at rows c.args.id ≡ true = sym c.is_live_at.ensures ∙ c.if-not-is_live_at.false in
    noted_seen rows _ _ c.self.inside.owners c.args.id (cleanup_of c.args.cleanup) live c.self.invariant.holds c.in_ok-put_at.ensures.ok c.self.view_is
