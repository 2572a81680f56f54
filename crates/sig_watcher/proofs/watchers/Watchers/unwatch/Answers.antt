use Rattle.std.proofs.Common.{◌<◌, ◌&&◌, not, List, length, sym, ap, ◌∙◌, subst, arith, refl}
use Rattle.effect_model.specs.Worlds.{Watcher}
use Rattle.sig_watcher.specs.Numbers.{IsFirst, Rises}
use Rattle.effect_model.specs.Watchers.{watches}
use Rattle.sig_watcher.specs.Tables.{Table, with_changed}
use Rattle.sig_watcher.proofs.Places.{changed_first, isnt_gone, found_alive, first_below, rises_changed, length_changed}
use Rattle.sig_watcher.proofs.watchers.Watchers.unwatch.Goals as goal
use Rattle.effect_model.specs.Acts.{forget}

pub watches_at-requires : goal.watches_at-requires
watches_at-requires c =
    let at = subst (λ (xs : List Watcher). IsFirst xs c.args.w c.in-Some.place) c.deref.ensures.value c.in-Some.ensures.some in
    subst (λ (xs : List Watcher). c.in-Some.place < length xs) (sym c.deref-2.ensures.value) (first_below c.self.inside.watchers.items c.args.w c.in-Some.place at)

pub returns-then-not-watches_at-clause-gone : goal.returns-then-not-watches_at-clause-gone
returns-then-not-watches_at-clause-gone c =
    isnt_gone _ c.args.self.now _ c.args.w c.in-Some.place c.self.view_is c.deref.ensures.value c.in-Some.ensures.some (λ q. cc)

pub returns-then-not-watches_at-clause-not_watched : goal.returns-then-not-watches_at-clause-not_watched
returns-then-not-watches_at-clause-not_watched c =
    let at = subst (λ (xs : List Watcher). IsFirst xs c.args.w c.in-Some.place) c.deref.ensures.value c.in-Some.ensures.some in
    let alive = found_alive _ c.args.self.now _ c.args.w c.in-Some.place c.self.view_is c.deref.ensures.value c.in-Some.ensures.some in
    let read = subst (λ (xs : List Watcher). IsFirst xs c.args.w c.in-Some.place) (sym c.deref-2.ensures.value) at in
    let off = ap (λ (t : Table). watches t.watchers c.args.w c.args.id) (sym c.self.view_is) ∙ ap (λ (xs : List Watcher). watches xs c.args.w c.args.id) (sym c.deref-2.ensures.value) ∙ sym (c.watches_at.ensures c.args.w read) ∙ c.if-not-watches_at.true in
    (λ q. ap (λ b. b && not (watches c.args.self.now.watchers c.args.w c.args.id)) alive ∙ ap not off, λ q. refl)

pub forget_at-requires : goal.forget_at-requires
forget_at-requires c =
    let at = subst (λ (xs : List Watcher). IsFirst xs c.args.w c.in-Some.place) c.deref.ensures.value c.in-Some.ensures.some in
    first_below c.self.inside.watchers.items c.args.w c.in-Some.place at

pub invariant_of-self : goal.invariant_of-self
invariant_of-self c =
    let f = forget c.args.id in
    record {
      rising = subst (λ (xs : List Watcher). Rises 0 xs c.self.inside.made) (sym c.forget_at.ensures) (rises_changed 0 c.self.inside.made c.in-Some.place f c.self.inside.watchers.items (λ x. refl) c.self.invariant.rising);
      room = let room = c.self.invariant.room in let len = ap length c.forget_at.ensures ∙ length_changed c.in-Some.place f c.self.inside.watchers.items in omega (arith, room, len);
    }

pub returns-clause-after : goal.returns-clause-after
returns-clause-after c =
    let at = subst (λ (xs : List Watcher). IsFirst xs c.args.w c.in-Some.place) c.deref.ensures.value c.in-Some.ensures.some in
    let f = forget c.args.id in
    let items = c.forget_at.ensures ∙ changed_first 0 c.self.inside.made c.args.w c.in-Some.place f c.self.inside.watchers.items at c.self.invariant.rising in
    ap (λ (xs : List Watcher). let t : Table = record { watchers = xs; made = c.self.inside.made } in t) items ∙ ap (λ (t : Table). with_changed c.args.w f t) c.self.view_is

pub returns-clause-gone : goal.returns-clause-gone
returns-clause-gone c =
    isnt_gone _ c.args.self.now _ c.args.w c.in-Some.place c.self.view_is c.deref.ensures.value c.in-Some.ensures.some (λ q. cc)
