use Rattle.std.proofs.Common.{◌<◌, ◌+◌, [], ◌++◌, drop, length, sym, ap, ◌∙◌, subst, arith}
use Rattle.sig_marks.specs.Tables.{AreFresh, AreListed, dependants_at}
use Rattle.sig_marks.specs.Sets.{keys_of, marks_of, newly_marked}
use Rattle.sig_marks.proofs.PushedMarks.{marks_len, unmarked_few, begun, went_on, all_listed, listed_on, none_behind, ended, Spreading}
use Rattle.sig_marks.proofs.propagation.spread.Goals as goal

pub mark_dependants-requires-clause-room : goal.mark_dependants-requires-clause-room
mark_dependants-requires-clause-room c =
    let len = c.clear.ensures.len in
    let cap = c.clear.ensures.capacity in
    let u = unmarked_few c.args.marked.now.entries in
    let r = c.requires.room in
    omega (arith, len, cap, u, r)

pub loop-place-init : goal.loop-place-init
loop-place-init c =
    let deps = keys_of c.args.sets.now.entries in
    let ms = c.args.marked.now.entries in
    let t0 = marks_of ms in
    let e = c.mark_dependants.ensures in
    let start = begun deps t0 c.args.id (λ p m on. subst (λ z. m < z) (sym (marks_len ms)) (c.requires.within p m on)) in
    let t = marks_of c.mark_dependants.new.marked.entries in
    let new = newly_marked (dependants_at deps c.args.id) t0 in
    let items = e.fresh ∙ ap (λ ys. ys ++ new) c.clear.ensures.items in
    let all = subst (λ s. AreListed t0 t s) (sym items) (subst (λ u. AreListed t0 u ([] ++ new)) (sym e.marked) (all_listed (dependants_at deps c.args.id) t0 t0 [] (λ m off on. cc (sym on ∙ off)))) in
    let pushing = subst (λ s. Spreading deps t0 c.args.id t s) (sym items)
    (subst (λ u. Spreading deps t0 c.args.id u ([] ++ new)) (sym e.marked) start) in
    let cap = e.capacity in
    let cap0 = c.clear.ensures.capacity in
    record {
      pushing = pushing;
      fresh = pushing.stack;
      listed = all;
      stands = e.stands;
      room = e.room;
      capacity = omega (arith, cap, cap0);
    }

pub loop-place-preserved : goal.loop-place-preserved
loop-place-preserved c =
    let deps = keys_of c.args.sets.now.entries in
    let ms = c.args.marked.now.entries in
    let t0 = marks_of ms in
    let t = marks_of c.loop-place.marked.entries in
    let e = c.mark_dependants-in-loop-place.ensures in
    let after = marks_of c.mark_dependants-in-loop-place.new.marked.entries in
    let fs = c.loop-place.fresh.items in
    let i = c.loop-place.place in
    let x = c.index-next.result.now in
    let within = c.loop-place-test.true in
    let len = c.len.ensures in
    let l : i < length fs = omega (arith, within, len) in
    let on = went_on deps t0 c.args.id t fs i x x (λ p m on. subst (λ z. m < z) (sym (marks_len ms)) (c.requires.within p m on)) l (sym c.index-next.ensures) c.loop-place.invariant.pushing in
    let pushing = subst (λ s. Spreading deps t0 c.args.id after (drop (i + 1) s)) (sym e.fresh) (subst (λ u. Spreading deps t0 c.args.id u (drop (i + 1) (fs ++ newly_marked (dependants_at deps x) t))) (sym e.marked) on) in
    let cap = e.capacity in
    let cap0 = c.loop-place.invariant.capacity in
    record {
      pushing = pushing;
      fresh = subst (λ s. AreFresh deps t0 c.args.id s) (sym e.fresh)
          (listed_on deps t0 c.args.id after fs (newly_marked (dependants_at deps x) t) i l c.loop-place.invariant.fresh (subst (λ s. Spreading deps t0 c.args.id after (drop (i + 1) s)) e.fresh pushing));
      listed = subst (λ s. AreListed t0 after s) (sym e.fresh)
          (subst (λ u. AreListed t0 u (fs ++ newly_marked (dependants_at deps x) t)) (sym e.marked) (all_listed (dependants_at deps x) t0 t fs c.loop-place.invariant.listed));
      stands = e.stands ∙ c.loop-place.invariant.stands;
      room = e.room;
      capacity = omega (arith, cap, cap0);
    }

pub returns-clause-marked : goal.returns-clause-marked
returns-clause-marked c =
    let deps = keys_of c.args.sets.now.entries in
    let t0 = marks_of c.args.marked.now.entries in
    let t = marks_of c.loop-place.marked.entries in
    let past = c.loop-place-test.false in
    let len = c.len.ensures in
    ended deps t0 c.args.id t (subst (λ s. Spreading deps t0 c.args.id t s) (none_behind c.loop-place.fresh.items c.loop-place.place (omega (arith, past, len))) c.loop-place.invariant.pushing)
