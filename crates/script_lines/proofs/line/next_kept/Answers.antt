use Rattle.std.proofs.Common.{arith, drop, sym, ◌∙◌}
use Rattle.script_lines.proofs.Reader.{none_kept, passed_first, kept_first}
use Rattle.script_lines.proofs.line.next_kept.Goals as goal

pub returns-then-not-is_passed-clause-kept : goal.returns-then-not-is_passed-clause-kept
returns-then-not-is_passed-clause-kept c =
    sym c.loop-text.invariant.rest
    ∙ kept_first c.loop-text.line (drop c.loop-text.at c.args.script.now) c.in-Some.text.now (drop c.in-Some.next c.args.script.now) c.in-Some.ensures.line (sym c.if-not-is_passed.ensures)

pub loop-text-preserved : goal.loop-text-preserved
loop-text-preserved c =
    let w = c.in-Some.ensures.within in
    let v = c.loop-text.invariant in
    record {
      after = omega arith;
      within = omega arith;
      count = omega arith;
      rest = sym (passed_first c.loop-text.line (drop c.loop-text.at c.args.script.now) c.in-Some.text.now (drop c.in-Some.next c.args.script.now) c.in-Some.ensures.line (sym c.if-not-is_passed.ensures))
          ∙ c.loop-text.invariant.rest;
    }

pub returns-clause-kept : goal.returns-clause-kept
returns-clause-kept c = sym c.loop-text.invariant.rest ∙ none_kept c.loop-text.line (drop c.loop-text.at c.args.script.now) c.in_default.ensures.line
