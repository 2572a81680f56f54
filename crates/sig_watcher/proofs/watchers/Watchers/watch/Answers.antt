use Rattle.std.proofs.Common.{◌≡◌, List, length, sym, ap, ◌∙◌, subst, arith, refl}
use Rattle.effect_model.specs.Worlds.{Watcher}
use Rattle.sig_watcher.specs.Numbers.{IsFirst, Rises}
use Rattle.sig_watcher.specs.Tables.{Table, with_changed}
use Rattle.sig_watcher.proofs.Places.{changed_first, isnt_gone, first_below, rises_changed, length_changed}
use Rattle.sig_watcher.proofs.watchers.Watchers.watch.Goals as goal
use Rattle.effect_model.specs.Commands.{armed}
use Rattle.sig_watcher.specs.declared.errors.WatchFault.TheVariants as fault
use Rattle.sig_watcher.proofs.Lists.{err_at}

pub arm_at-requires : goal.arm_at-requires
arm_at-requires c =
    let at = subst (λ (xs : List Watcher). IsFirst xs c.args.w c.in-Some.place) c.deref.ensures.value c.in-Some.ensures.some in
    first_below c.self.inside.watchers.items c.args.w c.in-Some.place at

pub returns-in_err-arm_at-clause-gone : goal.returns-in_err-arm_at-clause-gone
returns-in_err-arm_at-clause-gone c =
    isnt_gone _ c.args.self.now _ c.args.w c.in-Some.place c.self.view_is c.deref.ensures.value c.in-Some.ensures.some
    (λ q. let h : fault.NoMemory ≡ fault.Gone = sym (err_at _ _ _ c.from_residual.ensures.1 q) in cc)

pub invariant_of-self-2 : goal.invariant_of-self-2
invariant_of-self-2 c =
    let f = armed c.args.ids.now in
    record {
      rising = subst (λ (xs : List Watcher). Rises 0 xs c.self.inside.made) (sym c.in_ok-arm_at.ensures.after) (rises_changed 0 c.self.inside.made c.in-Some.place f c.self.inside.watchers.items (λ x. refl) c.self.invariant.rising);
      room = let room = c.self.invariant.room in let len = ap length c.in_ok-arm_at.ensures.after ∙ length_changed c.in-Some.place f c.self.inside.watchers.items in omega (arith, room, len);
    }

pub returns-clause-after : goal.returns-clause-after
returns-clause-after c =
    let at = subst (λ (xs : List Watcher). IsFirst xs c.args.w c.in-Some.place) c.deref.ensures.value c.in-Some.ensures.some in
    let f = armed c.args.ids.now in
    let items = c.in_ok-arm_at.ensures.after ∙ changed_first 0 c.self.inside.made c.args.w c.in-Some.place f c.self.inside.watchers.items at c.self.invariant.rising in
    ap (λ (xs : List Watcher). let t : Table = record { watchers = xs; made = c.self.inside.made } in t) items ∙ ap (λ (t : Table). with_changed c.args.w f t) c.self.view_is

pub returns-clause-gone : goal.returns-clause-gone
returns-clause-gone c =
    isnt_gone _ c.args.self.now _ c.args.w c.in-Some.place c.self.view_is c.deref.ensures.value c.in-Some.ensures.some (λ q. cc)
