use Rattle.std.proofs.Common.{[], refl, arith}
use Rattle.std.specs.Rc.{rc_value}
use Rattle.effect_model.specs.Runs.{do_acts}
use Rattle.sig_untrack.specs.Links.{act_of}
use Rattle.effect_teardown.specs.Sites.{parts_of}
use Rattle.effect_acts.proofs.Shared.{acted_still}
use Rattle.effect_acts.proofs.Ordered.{acted_all, acted_next, label_more, one_child}
use Rattle.effect_acts.proofs.sequence.do_acts.Goals as goal

pub loop-act-init : goal.loop-act-init
loop-act-init g c = record {
  done = acted_still _ c.args.world.now _ _ _ 0 (λ env. do_acts env c.args.id 1 []) (λ env. refl) c.requires.agrees;
  label = refl;
  small = omega arith;
  within = omega arith;
  counted = c.requires.counted;
}

pub loop-act-preserved : goal.loop-act-preserved
loop-act-preserved g c =
    let p = parts_of c.args.site.now.origin (rc_value c.args.site.now.script) c.args.site.now.path.items in
    let i = c.loop-act.invariant in
    record {
      done = acted_next _ _ _ _ _ _ _ p c.args.id c.loop-act.label c.args.acts.now c.loop-act.act-index c.act-item.result c.requires.agrees c.loop-act-test.true c.act-item.is i.label i.done c.in_ok-act_there.ensures.done;
      label = label_more p c.args.acts.now c.loop-act.act-index c.loop-act.label c.next_label-next.result c.act-item.result c.loop-act-test.true c.act-item.is i.label (c.next_label-next.ensures p);
      small =
          let n = c.next_label-next.ensures p in
          let m = one_child (act_of p c.act-item.result) c.loop-act.label in
          let s = i.small in
          omega (arith, n, m, s);
      within = omega arith;
      counted = c.in_ok-act_there.ensures.counted;
    }

pub returns-clause-done : goal.returns-clause-done
returns-clause-done g c =
    acted_all _ _ _ _ _ (parts_of c.args.site.now.origin (rc_value c.args.site.now.script) c.args.site.now.path.items) c.args.id c.args.acts.now c.loop-act.act-index c.loop-act-test.false
    c.loop-act.invariant.within c.loop-act.invariant.done
