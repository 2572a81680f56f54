use Rattle.std.proofs.Common.{arith}
use Rattle.sig_marks.proofs.LinkedSets.{makes_none, makes_more, reserved}
use Rattle.sig_marks.proofs.links.reserve_all.Goals as goal

pub loop-read-init : goal.loop-read-init
loop-read-init c = record { makes = makes_none c.args.sets.now.entries c.args.reader; room = λ i d l k. absurd (omega (arith, l)) }

pub returns-in_err-reserve_at-clause-makes : goal.returns-in_err-reserve_at-clause-makes
returns-in_err-reserve_at-clause-makes c = makes_more c.args.sets.now.entries c.loop-read.sets.entries c.reserve_at.new.sets.entries c.args.reader c.loop-read.invariant.makes c.reserve_at.ensures.makes

pub loop-read-preserved : goal.loop-read-preserved
loop-read-preserved c =
    let inv = c.loop-read.invariant in
    let now = c.in_ok-reserve_at.ensures in
    record {
      makes = makes_more c.args.sets.now.entries c.loop-read.sets.entries c.reserve_at.new.sets.entries c.args.reader inv.makes c.reserve_at.ensures.makes;
      room = λ i d l k. reserved c.loop-read.sets.entries c.reserve_at.new.sets.entries c.args.reads.now c.args.reader c.loop-read.read-index c.read-item.result c.read-item.is c.reserve_at.ensures.makes.room inv.room now.ok i d l k;
    }

pub returns-clause-ok : goal.returns-clause-ok
returns-clause-ok c = λ k d l. let done = c.loop-read-test.false in c.loop-read.invariant.room k d (omega (arith, l, done)) l

pub returns-clause-makes : goal.returns-clause-makes
returns-clause-makes c = c.loop-read.invariant.makes
