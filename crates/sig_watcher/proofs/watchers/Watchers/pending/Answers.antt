use Rattle.std.proofs.Common.{◌<◌, ◌≡◌, List, length, sym, ap, ◌∙◌, subst}
use Rattle.effect_model.specs.Worlds.{Watcher}
use Rattle.sig_watcher.specs.declared.errors.WatchFault.TheVariants as fault
use Rattle.sig_watcher.specs.Numbers.{IsFirst}
use Rattle.sig_watcher.proofs.Lists.{err_at}
use Rattle.sig_watcher.proofs.Places.{isnt_gone, first_below}
use Rattle.sig_watcher.proofs.watchers.Watchers.pending.Goals as goal

pub pending_at-requires : goal.pending_at-requires
pending_at-requires c =
    let at = subst (λ (xs : List Watcher). IsFirst xs c.args.w c.in-Some.place) c.deref.ensures.value c.in-Some.ensures.some in
    subst (λ (xs : List Watcher). c.in-Some.place < length xs) (sym c.deref-2.ensures.value) (first_below c.self.inside.watchers.items c.args.w c.in-Some.place at)

pub returns-in_err-pending-clause-gone : goal.returns-in_err-pending-clause-gone
returns-in_err-pending-clause-gone c =
    isnt_gone _ c.args.self.now _ c.args.w c.in-Some.place c.self.view_is c.deref.ensures.value c.in-Some.ensures.some
    (λ q. let h : fault.NoMemory ≡ fault.Gone = sym (err_at _ _ _ c.from_residual.ensures.1 q) in cc)

pub returns-clause-gone : goal.returns-clause-gone
returns-clause-gone c =
    isnt_gone _ c.args.self.now _ c.args.w c.in-Some.place c.self.view_is c.deref.ensures.value c.in-Some.ensures.some (λ q. cc)
