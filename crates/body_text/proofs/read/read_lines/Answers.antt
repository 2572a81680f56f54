use Rattle.std.proofs.Common.{ℕ, [], ◌∷◌, map, drop, refl, subst, append_assoc, arith}
use Rattle.std.proofs.lemmas.List.{append-nil, drop_all}
use Rattle.script_lines.specs.declared.line.NumberedLine.{NumberedLine}
use Rattle.script_lines.specs.Views.{line_of}
use Rattle.body_text.specs.Views.{AreRead}
use Rattle.body_text.proofs.LineByLine.{found_at, faulty_later, read_later, left_open, one_deeper}
use Rattle.body_text.proofs.read.read_lines.Goals as goal

pub loop-numbered-preserved : goal.loop-numbered-preserved
loop-numbered-preserved c =
    let d : NumberedLine = record { number = 0; text = record { ref_ptr = (0, 0); now = [] } } in
    let n = c.loop-numbered.depth in
    let m = c.moved-next.result in
    let found = found_at c.args.allowance _ _ _ (rw c.in-Some.is at c.in_ok-found.ensures) in
    let within = c.loop-numbered-test.true in
    let next = c.moved-next.ensures in
    record {
      few = let a = one_deeper n c.in-Some.found.kind in let b = c.loop-numbered.invariant.few in omega (arith, next);
      faulty = λ k f. c.loop-numbered.invariant.faulty k (faulty_later c.args.allowance n m c.args.lines.now c.loop-numbered.numbered-index d c.in-Some.found k within found next f);
      says = λ rs to a.
          let later = read_later c.args.allowance n m c.args.lines.now c.loop-numbered.numbered-index d c.in-Some.found c.read_at.result rs to within found next c.read_at.ensures a in
          let more = c.loop-numbered.invariant.says (c.read_at.result ∷ rs) to later in
          rw (c.in_ok-push.ensures.items, append_assoc) more;
    }

pub returns-then-depth-eq0 : goal.returns-then-depth-eq0
returns-then-depth-eq0 c =
    let h = c.loop-numbered-test.false in
    let n = c.loop-numbered.depth in
    let none = drop_all c.loop-numbered.numbered-index c.args.lines.now (omega arith) in
    let done : AreRead c.args.allowance n (map line_of (drop c.loop-numbered.numbered-index c.args.lines.now)) [] n = rw none refl in
    subst (λ (to : ℕ). AreRead c.args.allowance 0 (map line_of c.args.lines.now) c.loop-numbered.said.items to) c.if-depth-eq0.true
    (rw append-nil at (c.loop-numbered.invariant.says [] n done))

pub returns-else-depth-eq0 : goal.returns-else-depth-eq0
returns-else-depth-eq0 c =
    let h = c.loop-numbered-test.false in
    let n = c.loop-numbered.depth in
    let none = drop_all c.loop-numbered.numbered-index c.args.lines.now (omega arith) in
    let done : AreRead c.args.allowance n (map line_of (drop c.loop-numbered.numbered-index c.args.lines.now)) [] n = rw none refl in
    let some = c.if-depth-eq0.false in
    left_open c.args.allowance (map line_of c.args.lines.now) c.loop-numbered.said.items n (rw append-nil at (c.loop-numbered.invariant.says [] n done)) (omega arith)
