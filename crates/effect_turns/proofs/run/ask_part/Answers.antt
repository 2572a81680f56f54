use Rattle.std.proofs.Common.{[], arith}
use Rattle.std.specs.Rc.{rc_value}
use Rattle.effect_teardown.specs.Sites.{parts_of}
use Rattle.effect_tables.specs.declared.links.Links.TheViews.{out-Links}
use Rattle.effect_runs.specs.Evaluations.{result_of}
use Rattle.effect_teardown.proofs.SharedSites.{part_fits, part_seen}
use Rattle.effect_turns.proofs.Carried.{can_hear, low_after, run_spends}
use Rattle.effect_turns.proofs.Counted.{any_parts}
use Rattle.effect_turns.proofs.Joined.{run_joined}
use Rattle.effect_turns.proofs.run.ask_part.Goals as goal

pub evaluate-requires-clause-can : goal.evaluate-requires-clause-can
evaluate-requires-clause-can g c = can_hear _ c.requires.can

pub evaluate-requires-clause-fits : goal.evaluate-requires-clause-fits
evaluate-requires-clause-fits g c = part_fits _ _ _ _ c.requires.part c.requires.fits

pub keep_reads-requires : goal.keep_reads-requires
keep_reads-requires g c = (c.in_ok-run.ensures.done [] any_parts).agrees.owned

pub finish-requires-clause-may : goal.finish-requires-clause-may
finish-requires-clause-may g c =
    let run = c.in_ok-run.ensures.done [] any_parts in
    let kept = c.in_ok-keep_reads.ensures.done _ [] run.agrees in
    record {
      agrees = kept.agrees;
      ruled = kept.rules _ (run.rules _ c.requires.ruled);
      worn = low_after _ _ _ _ _ c.requires.can c.in_ok-run.ensures.spent kept c.in_ok-keep_reads.ensures.told (omega arith);
    }

pub returns-clause-done : goal.returns-clause-done
returns-clause-done g c =
    run_joined _ _ _ _ _ _ _ _ c.args.id (parts_of c.args.site.now.origin (rc_value c.args.site.now.script) c.args.site.now.path.items) c.args.body.now
    (out-Links c.args.links.now).names.items _ c.in_ok-run.run'.tracked.items
    (result_of (parts_of c.args.site.now.origin (rc_value c.args.site.now.script) c.args.site.now.path.items) c.in_ok-run.run'.end) (part_seen _ _ _ _ c.requires.part _) c.requires.can.agrees
    (λ hosts all sound. let r = c.in_ok-run.ensures.run hosts _ all sound in record { tracked = r.tracked; result = r.result }) (c.in_ok-run.ensures.done _ _)
    (c.in_ok-keep_reads.ensures.done _ _ (c.in_ok-run.ensures.done [] any_parts).agrees) c.in_ok-finish.ensures.done

pub returns-clause-spent : goal.returns-clause-spent
returns-clause-spent g c =
    let e = c.in_ok-finish.ensures.used in
    run_spends _ _ _ _ _ _ c.in_ok-run.ensures.spent (c.in_ok-keep_reads.ensures.done _ [] (c.in_ok-run.ensures.done [] any_parts).agrees) c.in_ok-keep_reads.ensures.told e.worn e.most
    e.told
