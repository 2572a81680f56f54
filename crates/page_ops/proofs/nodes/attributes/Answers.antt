use Rattle.std.proofs.Common.{arith, sym, ap, ◌∙◌}
use Rattle.page_ops.specs.Parser.{behind_front, front}
use Rattle.page_ops.proofs.Listed.{left_ends, left_goes, left_shorter, tail_begins}
use Rattle.page_ops.proofs.nodes.attributes.Goals as goal

pub loop-alloc-smaller : goal.loop-alloc-smaller
loop-alloc-smaller c = left_shorter c.loop-alloc.left.now c.behind_literal-left.result.now c.word.result.1.now c.behind-quote.result.now (sym c.loop-alloc-test.ensures) (c.word.ensures.behind ∙ ap behind_front c.behind.ensures) c.behind-quote.ensures c.behind_literal-left.ensures

pub loop-alloc-preserved : goal.loop-alloc-preserved
loop-alloc-preserved c =
    let begins = sym c.loop-alloc-test.ensures in
    let after = c.word.ensures.behind ∙ ap behind_front c.behind.ensures in
    let less = left_shorter c.loop-alloc.left.now c.behind_literal-left.result.now c.word.result.1.now c.behind-quote.result.now begins after c.behind-quote.ensures c.behind_literal-left.ensures in
    let old = c.loop-alloc.invariant.shorter in
    record {
      fit = c.in_ok-put_attribute.ensures.fit;
      shorter = omega arith;
      leads = λ xs k rest fit e.
          left_goes c.loop-alloc.list.items c.put_attribute.new.list.items c.loop-alloc.left.now c.behind_literal-left.result.now xs _ c.word.result.0.now c.word.result.1.now c.behind-quote.result.now c.in_ok-name.name c.in_ok-value.value
          fit (tail_begins k rest) begins (c.loop-alloc.invariant.leads xs k rest fit e)
          (c.word.ensures.front ∙ ap front c.behind.ensures) after c.behind-quote.ensures
          c.in_ok-name.ensures.same c.in_ok-value.ensures.same c.in_ok-put_attribute.ensures.put c.behind_literal-left.ensures;
    }

pub returns-clause-same : goal.returns-clause-same
returns-clause-same c = λ xs k rest fit e. left_ends c.loop-alloc.list.items c.loop-alloc.left.now xs _ fit (sym c.loop-alloc-test.ensures) (c.loop-alloc.invariant.leads xs k rest fit e)
