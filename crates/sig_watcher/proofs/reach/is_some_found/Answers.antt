use Rattle.sig_watcher.proofs.Closure.{among, none_more}
use Rattle.sig_watcher.proofs.reach.is_some_found.Goals as goal

pub returns-then-is_found-clause-found : goal.returns-then-is_found-clause-found
returns-then-is_found-clause-found c = λ q. record {
  name = c.name-item.result;
  here = among c.args.names.now c.loop-name.name-index c.name-item.result c.loop-name-test.true c.name-item.is;
  found = c.is_found.ensures.found c.if-is_found.true;
}

pub loop-name-preserved : goal.loop-name-preserved
loop-name-preserved c =
    none_more c.args.graph.now c.args.ids.now c.args.reached.now c.args.names.now c.loop-name.name-index c.name-item.result c.loop-name-test.true c.name-item.is c.loop-name.invariant
    (c.is_found.ensures.clear c.if-is_found.false)
