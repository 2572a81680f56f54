use Rattle.std.proofs.Common.{None, cond, ◌≡◌, true, sym, ap, subst, ◌∙◌}
use Rattle.sig_owner.specs.Tables.{all_ended, changed_at, emptied_row, live_at, owner_count, rows_of, thing_at}
use Rattle.sig_owner.specs.Keys.{are_gone_in, placed}
use Rattle.effect_model.specs.Owners.{teardown_of, under}
use Rattle.sig_owner.specs.Trees.{owned_of}
use Rattle.sig_owner.specs.Walks.{undoings_of}
use Rattle.sig_owner.proofs.Forests.{under_is}
use Rattle.sig_owner.specs.declared.thing.Thing.{Thing as AThing}
use Rattle.sig_owner.proofs.Teardowns.{teardown_steps}
use Rattle.sig_owner.proofs.Vacancies.{forgotten_kept}
use Rattle.sig_owner.proofs.Survivors.{lasting_seen}
use Rattle.sig_owner.proofs.Trees.{taken_back_seen}
use Rattle.sig_owner.proofs.Absent.{taken_back_absent}
use Rattle.sig_owner.proofs.owners.Owners.take_back.Goals as goal

pub invariant_of-self : goal.invariant_of-self
invariant_of-self c =
    let rows = rows_of c.self.inside.holders.entries in
    let us = c.in_ok-teardown.teardown.undoings.items in
    let ended = c.deref.ensures.value ∙ c.in_ok-teardown.ensures.ended in
    let after = c.end_each.ensures.rows ∙ ap (λ ns. all_ended ns rows) ended in
    let told = c.in_ok-teardown.ensures.undoings in
    let forgot = subst (λ xs. (t : AThing) → placed c.forget_each.new.places t ≡ cond (are_gone_in xs t) None (placed c.self.inside.places t)) c.deref-2.ensures.value c.forget_each.ensures in
    forgotten_kept rows c.self.inside.owners c.args.id c.end_each.new.owners (placed c.self.inside.places) (placed c.forget_each.new.places) us (told ∙ sym (teardown_steps rows c.args.id)) forgot c.self.invariant
    (rows_of c.clear_at.new.holders.entries) (c.clear_at.ensures ∙ ap (changed_at emptied_row c.args.id) after) (c.end_each.ensures.count ∙ ap owner_count after)

pub returns-clause-undoings : goal.returns-clause-undoings
returns-clause-undoings c =
    let rows = rows_of c.self.inside.holders.entries in
    let us = c.in_ok-teardown.teardown.undoings.items in
    let live : live_at rows c.args.id ≡ true = sym c.is_live_at.ensures ∙ c.if-not-is_live_at.false in
    let told = c.in_ok-teardown.ensures.undoings in
    subst (λ rs. undoings_of (thing_at rs) us ≡ teardown_of (thing_at rs c.args.id) (under (thing_at rs c.args.id) (owned_of rs))) c.self.view_is
    (told ∙ ap (teardown_of (thing_at rows c.args.id)) (sym (under_is rows c.self.inside.owners c.self.invariant.holds c.args.id live)))

pub returns-clause-tree : goal.returns-clause-tree
returns-clause-tree c =
    let rows = rows_of c.self.inside.holders.entries in
    let live : live_at rows c.args.id ≡ true = sym c.is_live_at.ensures ∙ c.if-not-is_live_at.false in
    let ended = c.deref.ensures.value ∙ c.in_ok-teardown.ensures.ended in
    let after = c.end_each.ensures.rows ∙ ap (λ ns. all_ended ns rows) ended in
    taken_back_seen rows _ _ c.self.inside.owners c.args.id live c.self.invariant.holds (c.clear_at.ensures ∙ ap (changed_at emptied_row c.args.id) after) c.self.view_is

pub returns-clause-lives : goal.returns-clause-lives
returns-clause-lives c =
    let rows = rows_of c.self.inside.holders.entries in
    let us = c.in_ok-teardown.teardown.undoings.items in
    let ended = c.deref.ensures.value ∙ c.in_ok-teardown.ensures.ended in
    let after = c.end_each.ensures.rows ∙ ap (λ ns. all_ended ns rows) ended in
    let told = c.in_ok-teardown.ensures.undoings in
    lasting_seen rows _ _ c.self.inside.owners c.args.id us c.self.invariant.holds (c.clear_at.ensures ∙ ap (changed_at emptied_row c.args.id) after) told c.self.view_is

pub returns-clause-nowhere : goal.returns-clause-nowhere
returns-clause-nowhere c =
    let rows = rows_of c.self.inside.holders.entries in
    let ended = c.deref.ensures.value ∙ c.in_ok-teardown.ensures.ended in
    let after = c.end_each.ensures.rows ∙ ap (λ ns. all_ended ns rows) ended in
    taken_back_absent rows _ c.self.inside.owners c.args.id c.self.invariant.holds (c.clear_at.ensures ∙ ap (changed_at emptied_row c.args.id) after)
