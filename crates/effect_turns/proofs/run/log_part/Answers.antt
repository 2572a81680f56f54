use Rattle.std.proofs.Common.{[], ◌∷◌, arith}
use Rattle.std.specs.Rc.{rc_value}
use Rattle.effect_model.specs.Bodies.{to_do, to_log}
use Rattle.effect_runs.proofs.Shared.{logged_result, logged_tracked}
use Rattle.effect_tables.specs.declared.links.Links.TheViews.{out-Links}
use Rattle.effect_teardown.specs.Sites.{parts_of}
use Rattle.effect_teardown.proofs.SharedSites.{part_seen}
use Rattle.effect_turns.proofs.Carried.{acted_runs, low_after, run_spends, spends_none}
use Rattle.effect_turns.proofs.Joined.{logged_runs, run_joined}
use Rattle.effect_turns.proofs.run.log_part.Goals as goal

pub keep_one-requires : goal.keep_one-requires
keep_one-requires g c = c.requires.can.agrees.owned

pub do_acts-requires-clause-agrees : goal.do_acts-requires-clause-agrees
do_acts-requires-clause-agrees g c = (c.in_ok-keep_one.ensures.done _ [] c.requires.can.agrees).agrees

pub do_acts-requires-clause-ruled : goal.do_acts-requires-clause-ruled
do_acts-requires-clause-ruled g c = (c.in_ok-keep_one.ensures.done _ [] c.requires.can.agrees).rules _ c.requires.ruled

pub do_acts-requires-clause-worn : goal.do_acts-requires-clause-worn
do_acts-requires-clause-worn g c =
    low_after _ _ _ _ _ c.requires.can (spends_none _) (c.in_ok-keep_one.ensures.done _ [] c.requires.can.agrees) c.in_ok-keep_one.ensures.told (omega arith)

pub returns-clause-done : goal.returns-clause-done
returns-clause-done g c =
    let p = parts_of c.args.site.now.origin (rc_value c.args.site.now.script) c.args.site.now.path.items in
    run_joined _ _ _ _ _ _ _ _ c.args.id p c.args.body.now (out-Links c.args.links.now).names.items _ (c.args.logged.read ∷ []) (to_do (to_log c.args.logged.value ∷ []))
    (part_seen _ _ _ _ c.requires.part _) c.requires.can.agrees
    (λ hosts all sound. record {
      tracked = logged_tracked _ _ _ _ c.requires.logs hosts p;
      result = logged_result _ _ _ _ c.requires.logs hosts p;
    })
    (logged_runs _ _ _ p c.args.body.now (out-Links c.args.links.now).names.items c.args.logged c.requires.can.agrees c.requires.logs)
    (c.in_ok-keep_one.ensures.done _ _ c.requires.can.agrees)
    (acted_runs _ _ _ _ _ _ _ c.in_ok-do_acts.ensures.done)

pub returns-clause-spent : goal.returns-clause-spent
returns-clause-spent g c =
    let d = c.in_ok-do_acts.ensures.done in
    let w = d.worn in
    run_spends _ _ _ _ _ _ (spends_none _) (c.in_ok-keep_one.ensures.done _ [] c.requires.can.agrees) c.in_ok-keep_one.ensures.told (omega (arith, w)) d.most d.told
