use Rattle.std.proofs.Common.{◌≡◌, ◌+◌, ◌≤◌, ◌∷◌, [], length, length-append, sym, ap, ◌∙◌, subst, arith}
use Rattle.sig_graph.specs.declared.reading.Onward.{Onward}
use Rattle.sig_graph.specs.Reading.{IsOnward}
use Rattle.sig_graph.proofs.ReadOn.{counted_most, read_more}
use Rattle.sig_graph.proofs.reading.read_anew.Goals as goal

pub loop-preserved : goal.loop-preserved
loop-preserved c =
    let xs = c.args.nodes.now.items in
    let marked = c.args.marks.now.marked in
    let r = c.args.computation.now.recipe in
    let known = c.loop.known.items in
    let known' = c.read_next.new.known.items in
    let reads = c.loop.reads.items in
    let reads' = c.read_next.new.reads.items in
    let next = subst (λ (w : Onward). IsOnward xs marked r w known reads known' reads' c.read_next.new.outcome) c.in-Read.is c.in_ok-read_next.ensures.onward in
    let even = c.loop.invariant.even in
    let more = c.in_ok-read_next.ensures.even in
    let steps = c.loop.invariant.steps in
    let step : c.count.new.looked ≤ c.loop.looked + 1 = subst (λ n. n ≤ c.loop.looked + 1) (sym c.count.ensures) (counted_most c.loop.looked) in
    let one : length known' ≡ length known + 1 = ap length next.knows ∙ length-append known (next.read.known ∷ []) in
    record {
      read = read_more xs marked r c.args.known.now.items known known' c.args.reads.now.items reads reads' c.loop.invariant.read next;
      even = omega (arith, even, more);
      steps = omega (arith, steps, step, one);
    }
