use Rattle.effect_runs.proofs.Looks.{all_looked, next_differs, next_looked, next_same, none_differs, none_read}
use Rattle.effect_runs.proofs.due.look_at.Goals as goal

pub loop-read-init : goal.loop-read-init
loop-read-init g c = record {
  read = none_read _ _ c.requires.can.idle;
  can = c.requires.can;
  counted = c.requires.counted;
}

pub returns-then-differs-clause-differs : goal.returns-then-differs-clause-differs
returns-then-differs-clause-differs g c =
    let e = c.in_ok-differs.ensures in
    next_differs _ _ _ _ c.args.reads.now c.loop-read.read-index c.read-item.result c.in_ok-differs.differs
    (record { inside = c.loop-read-test.true; read = c.read-item.is; differs = e.differs }) c.loop-read.invariant.read c.if-differs.true

pub returns-then-differs-clause-after : goal.returns-then-differs-clause-after
returns-then-differs-clause-after g c =
    let e = c.in_ok-differs.ensures in
    next_looked _ _ _ _ c.args.reads.now c.loop-read.read-index c.read-item.result c.in_ok-differs.differs
    (record { inside = c.loop-read-test.true; read = c.read-item.is; differs = e.differs }) c.loop-read.invariant.read
    _ _ e.settles c.if-differs.true

pub loop-read-preserved : goal.loop-read-preserved
loop-read-preserved g c =
    let e = c.in_ok-differs.ensures in
    record {
      read = next_same _ _ _ _ c.args.reads.now c.loop-read.read-index c.read-item.result c.in_ok-differs.differs
          (record { inside = c.loop-read-test.true; read = c.read-item.is; differs = e.differs }) c.loop-read.invariant.read
          _ _ e.settles c.if-differs.false;
      can = e.can;
      counted = e.counted;
    }

pub returns-clause-differs : goal.returns-clause-differs
returns-clause-differs g c = none_differs _ _ _ _ c.args.reads.now c.loop-read.read-index c.loop-read-test.false c.loop-read.invariant.read

pub returns-clause-after : goal.returns-clause-after
returns-clause-after g c = all_looked _ _ _ _ c.args.reads.now c.loop-read.read-index c.loop-read-test.false c.loop-read.invariant.read
