use Rattle.std.proofs.Common.{◌≡◌, true, refl, sym, ap, ◌∙◌, arith}
use Rattle.sig_owner.specs.Keys.{placed}
use Rattle.sig_owner.specs.Trees.{has_thing, owned_of}
use Rattle.sig_owner.specs.Tables.{leaf, live_at, rows_of, thing_of}
use Rattle.sig_owner.proofs.Placement.{item_kept, lone_leaf, one_kept, one_placed, place_noted, same_kept}
use Rattle.sig_owner.proofs.Trees.{leaf_seen}
use Rattle.sig_owner.proofs.owners.Owners.adopt.Goals as goal

pub invariant_of-self : goal.invariant_of-self
invariant_of-self c =
    let rows = rows_of c.self.inside.holders.entries in
    same_kept rows rows c.self.inside.owners (placed c.self.inside.places) (placed c.note_place.new.places) refl c.in_err-note_place.ensures.err c.self.invariant

pub put_at-requires : goal.put_at-requires
put_at-requires c = sym c.is_live_at.ensures ∙ c.if-not-is_live_at.false

pub invariant_of-self-in_err-put_at : goal.invariant_of-self-in_err-put_at
invariant_of-self-in_err-put_at c =
    let rows = rows_of c.self.inside.holders.entries in
    let lone = lone_leaf rows c.self.inside.owners c.args.thing c.requires.kind (ap (λ rs. has_thing (thing_of c.args.thing) (owned_of rs)) c.self.view_is ∙ c.requires.lone) c.self.invariant.holds in
    one_kept rows _ c.self.inside.owners (placed c.self.inside.places) (placed c.note_place.new.places) c.args.thing c.args.id lone c.in_err-put_at.ensures.err c.in_ok-note_place.ensures.ok c.self.invariant

pub invariant_of-self-2 : goal.invariant_of-self-2
invariant_of-self-2 c =
    let rows = rows_of c.self.inside.holders.entries in
    let live : live_at rows c.args.id ≡ true = sym c.is_live_at.ensures ∙ c.if-not-is_live_at.false in
    let lone = lone_leaf rows c.self.inside.owners c.args.thing c.requires.kind (ap (λ rs. has_thing (thing_of c.args.thing) (owned_of rs)) c.self.view_is ∙ c.requires.lone) c.self.invariant.holds in
    let places = one_placed rows (placed c.self.inside.places) (placed c.note_place.new.places) c.args.thing c.args.id lone c.in_ok-note_place.ensures.ok c.self.invariant.placed in
    item_kept rows _ c.self.inside.owners c.args.id (placed c.note_place.new.places) (leaf (thing_of c.args.thing)) c.requires.kind live
    (place_noted (placed c.self.inside.places) (placed c.note_place.new.places) c.args.thing c.args.id c.in_ok-note_place.ensures.ok) c.in_ok-put_at.ensures.ok c.self.invariant.holds places

pub returns-clause-tree : goal.returns-clause-tree
returns-clause-tree c =
    let rows = rows_of c.self.inside.holders.entries in
    let live : live_at rows c.args.id ≡ true = sym c.is_live_at.ensures ∙ c.if-not-is_live_at.false in
    leaf_seen rows _ _ c.self.inside.owners c.args.id (thing_of c.args.thing) c.requires.kind live c.self.invariant.holds c.in_ok-put_at.ensures.ok c.self.view_is
