use Rattle.std.proofs.Common.{List, length, sym, ap, ◌∙◌, subst, arith, rules}
use Rattle.effect_model.specs.Worlds.{Watcher}
use Rattle.sig_watcher.specs.Numbers.{IsFirst, Rises}
use Rattle.sig_watcher.specs.Tables.{Table, with_removal}
use Rattle.sig_watcher.proofs.Places.{removed_length, isnt_gone, first_below, removed_first, rises_removed}
use Rattle.sig_watcher.proofs.watchers.Watchers.remove.Goals as goal

pub remove-removed-requires : goal.remove-removed-requires
remove-removed-requires c =
    let at = subst (λ (xs : List Watcher). IsFirst xs c.args.w c.in-Some.place) c.deref.ensures.value c.in-Some.ensures.some in
    let inside = first_below c.self.inside.watchers.items c.args.w c.in-Some.place at in
    search rules

pub invariant_of-self : goal.invariant_of-self
invariant_of-self c =
    let parts = c.remove-removed.ensures.by_index.2 in
    record {
      rising = subst (λ (xs : List Watcher). Rises 0 xs c.self.inside.made) (sym parts) (rises_removed 0 c.self.inside.made c.in-Some.place c.self.inside.watchers.items c.self.invariant.rising);
      room = let room = c.self.invariant.room in let fewer = removed_length c.in-Some.place c.self.inside.watchers.items in let len = ap length parts in omega (arith, room, fewer, len);
    }

pub returns-clause-after : goal.returns-clause-after
returns-clause-after c =
    let at = subst (λ (xs : List Watcher). IsFirst xs c.args.w c.in-Some.place) c.deref.ensures.value c.in-Some.ensures.some in
    let items = c.remove-removed.ensures.by_index.2 ∙ removed_first 0 c.self.inside.made c.args.w c.in-Some.place c.self.inside.watchers.items at c.self.invariant.rising in
    ap (λ (xs : List Watcher). let t : Table = record { watchers = xs; made = c.self.inside.made } in t) items ∙ ap (λ (t : Table). with_removal c.args.w t) c.self.view_is

pub returns-clause-gone : goal.returns-clause-gone
returns-clause-gone c =
    isnt_gone _ c.args.self.now _ c.args.w c.in-Some.place c.self.view_is c.deref.ensures.value c.in-Some.ensures.some (λ q. cc)
