use Rattle.std.proofs.Common.{◌+◌, ◌≤◌, ◌==◌, true≢false, ◌++◌, ◌∷◌, [], List, length, sym, ap, ◌∙◌, subst}
use Rattle.std.proofs.lemmas.Bool.{eq-eqb}
use Rattle.effect_model.specs.Worlds.{Watcher}
use Rattle.effect_model.specs.declared.limits.TheConstants.{MOST_WATCHERS}
use Rattle.sig_watcher.specs.Numbers.{Rises}
use Rattle.sig_watcher.specs.Tables.{new_watcher}
use Rattle.sig_watcher.proofs.Places.{rises_more, room_more}
use Rattle.sig_watcher.proofs.watchers.Watchers.add.Goals as goal

pub invariant_of-self-2 : goal.invariant_of-self-2
invariant_of-self-2 c =
    let made = c.new.ensures ∙ ap (λ n. new_watcher n c.args.tries) c.of-id.ensures in
    let items = c.in_ok-push.ensures.items ∙ ap (λ (x : Watcher). c.self.inside.watchers.items ++ x ∷ []) made in
    record {
      rising = subst (Rises 0 c.push.new.self.items) (sym c.in_ok-made.ensures.ok)
          (subst (λ (xs : List Watcher). Rises 0 xs (c.self.inside.made + 1)) (sym items) (rises_more 0 c.self.inside.made c.self.inside.watchers.items c.args.tries c.self.invariant.rising));
      room = subst (λ (xs : List Watcher). length xs ≤ MOST_WATCHERS) (sym items) (room_more c.self.inside.watchers.items (new_watcher c.self.inside.made c.args.tries) MOST_WATCHERS c.self.invariant.room (λ e. true≢false (sym (c.is_full.ensures ∙ ap (λ (xs : List Watcher). length xs == MOST_WATCHERS) c.deref.ensures.value ∙ eq-eqb (length c.self.inside.watchers.items) MOST_WATCHERS e) ∙ c.if-is_full.false)));
    }
