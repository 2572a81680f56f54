use Rattle.std.proofs.Common.{◌≡◌, ◌∙◌, List, sym, subst, arith}
use Rattle.sig_seats.specs.declared.finds.Found.{Found}
use Rattle.sig_seats.specs.Found.{held_at, place_of}
use Rattle.sig_seats.proofs.NotedFinds.{held_longer}
use Rattle.sig_seats.proofs.finds.lengthen.Goals as goal

pub loop-at-preserved : goal.loop-at-preserved
loop-at-preserved c =
    let inv = c.loop-at.invariant in
    let more = c.push_reserved.ensures.capacity in
    record {
      held = λ n high. subst (λ (fs : List Found). held_at fs (place_of n) high n ≡ held_at c.args.at.now.items (place_of n) high n) (sym c.push_reserved.ensures.items)
          (held_longer c.loop-at.at.items _ n high (λ e. c.nowhere.ensures (omega (arith, e))) ∙ inv.held n high);
      room = let r = inv.room in omega (arith, more, r);
    }
