use Rattle.std.proofs.Common.{◌≡◌, true, length, refl, sym, ap, ◌∙◌, add-zero, arith}
use Rattle.effect_model.specs.Owners.{the_effect}
use Rattle.sig_owner.specs.Keys.{placed}
use Rattle.sig_owner.specs.declared.thing.Thing.TheVariants as a
use Rattle.sig_owner.specs.Tables.{is_open, rows_of}
use Rattle.sig_owner.proofs.Rows.{rows_length}
use Rattle.sig_owner.specs.Trees.{has_thing, owned_of}
use Rattle.sig_owner.proofs.Membership.{new_effect}
use Rattle.sig_owner.proofs.Placement.{effect_noted, holder_kept, lone_effect, one_kept, one_placed, same_kept}
use Rattle.sig_owner.proofs.Trees.{made_seen}
use Rattle.sig_owner.proofs.owners.Owners.make_for.Goals as goal

pub invariant_of-self : goal.invariant_of-self
invariant_of-self c =
    let rows = rows_of c.self.inside.holders.entries in
    same_kept rows rows c.self.inside.owners (placed c.self.inside.places) (placed c.note_place.new.places) refl c.in_err-note_place.ensures.err c.self.invariant

pub invariant_of-self-in_err-add_holder : goal.invariant_of-self-in_err-add_holder
invariant_of-self-in_err-add_holder c =
    let rows = rows_of c.self.inside.holders.entries in
    let new = new_effect rows c.self.inside.owners c.args.effect (ap (λ rs. has_thing (the_effect c.args.effect) (owned_of rs)) c.self.view_is ∙ c.requires) c.self.invariant.holds in
    one_kept rows _ c.self.inside.owners (placed c.self.inside.places) (placed c.note_place.new.places) (a.Effect c.args.effect) c.of-id.result (lone_effect rows c.self.inside.owners c.args.effect new c.self.invariant.holds)
    c.in_err-add_holder.ensures.err c.in_ok-note_place.ensures.ok c.self.invariant

pub invariant_of-self-2 : goal.invariant_of-self-2
invariant_of-self-2 c =
    let hs = c.self.inside.holders.entries in
    let rows = rows_of hs in
    let may : is_open rows c.args.inside ≡ true = sym c.is_open.ensures ∙ c.if-not-is_open.false in
    let id : c.of-id.result ≡ length rows = omega (arith, rows_length hs, c.of-id.ensures, c.made.ensures) in
    let new = new_effect rows c.self.inside.owners c.args.effect (ap (λ rs. has_thing (the_effect c.args.effect) (owned_of rs)) c.self.view_is ∙ c.requires) c.self.invariant.holds in
    let places = one_placed rows (placed c.self.inside.places) (placed c.note_place.new.places) (a.Effect c.args.effect) c.of-id.result (lone_effect rows c.self.inside.owners c.args.effect new c.self.invariant.holds) c.in_ok-note_place.ensures.ok c.self.invariant.placed in
    holder_kept rows _ c.self.inside.owners c.self.inside.owners (placed c.note_place.new.places) c.args.inside (the_effect c.args.effect) new may
    (effect_noted (placed c.self.inside.places) (placed c.note_place.new.places) c.args.effect c.of-id.result (length rows) id c.in_ok-note_place.ensures.ok)
    c.in_ok-add_holder.ensures.ok (sym (add-zero c.self.inside.owners)) c.self.invariant.holds places

pub returns-clause-tree : goal.returns-clause-tree
returns-clause-tree c =
    let rows = rows_of c.self.inside.holders.entries in
    let may : is_open rows c.args.inside ≡ true = sym c.is_open.ensures ∙ c.if-not-is_open.false in
    let new = new_effect rows c.self.inside.owners c.args.effect (ap (λ rs. has_thing (the_effect c.args.effect) (owned_of rs)) c.self.view_is ∙ c.requires) c.self.invariant.holds in
    made_seen rows _ _ c.self.inside.owners c.args.inside (the_effect c.args.effect) new may c.self.invariant.holds c.in_ok-add_holder.ensures.ok c.self.view_is
