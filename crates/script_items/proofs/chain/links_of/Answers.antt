use Rattle.std.proofs.Common.{arith}
use Rattle.script_items.proofs.Chains.{begins, ends, goes_on}
use Rattle.script_items.proofs.chain.links_of.Goals as goal

pub loop-sign-init : goal.loop-sign-init
loop-sign-init c = rw c.new-links.ensures.items (begins c.args.text.now)

pub returns-in_default-more : goal.returns-in_default-more
returns-in_default-more c =
    let few = c.if-len-ge-MOST_LINKS.false in
    ends c.args.text.now c.loop-sign.rest.now c.in-Some.sign.now c.in-Some.others.now c.first_of.result.0.now c.loop-sign.links.items _ c.in_ok-link.link
    c.in-Some-operator_behind.operator c.loop-sign.rule c.in-Some-operator_behind.own c.loop-sign.invariant c.in-Some.ensures c.in-Some-operator_behind.ensures
    c.in_ok-link.ensures c.in_ok-push.ensures.items (rw c.in_default-more.is at c.first_of.ensures) (omega (arith, few))

pub loop-sign-preserved : goal.loop-sign-preserved
loop-sign-preserved c =
    goes_on c.args.text.now c.loop-sign.rest.now c.in-Some.sign.now c.in-Some.others.now c.first_of.result.0.now c.loop-sign.links.items _ c.in_ok-link.link
    c.in-Some-operator_behind.operator c.loop-sign.rule c.in-Some-operator_behind.own c.loop-sign.invariant c.in-Some.ensures c.in-Some-operator_behind.ensures
    c.in_ok-link.ensures c.in_ok-push.ensures.items c.in-Some-more.more.now (rw c.in-Some-more.is at c.first_of.ensures)
