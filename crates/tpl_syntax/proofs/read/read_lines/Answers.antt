use Rattle.std.proofs.Common.{◌≡◌, [], ◌∷◌, map, drop, refl, sym, ap, ◌∙◌, append_assoc, arith}
use Rattle.std.proofs.lemmas.List.{append-nil, drop_all}
use Rattle.script_lines.specs.declared.line.NumberedLine.{NumberedLine}
use Rattle.script_lines.specs.Views.{line_of}
use Rattle.tpl_syntax.specs.declared.judge.ReadLine.{ReadLine}
use Rattle.tpl_syntax.specs.Places.{moved}
use Rattle.tpl_syntax.specs.Views.{AreRead, place_of}
use Rattle.tpl_syntax.proofs.LineByLine.{found_at, faulty_later, read_later, left_open}
use Rattle.tpl_syntax.proofs.read.read_lines.Goals as goal

pub loop-numbered-preserved : goal.loop-numbered-preserved
loop-numbered-preserved c =
    let d : NumberedLine = record { number = 0; text = record { ref_ptr = (0, 0); now = [] } } in
    let p = place_of c.loop-numbered.place in
    let q = place_of c.step.new.self in
    let found = found_at _ _ _ (rw c.in-Some.is at c.in_ok-line.ensures) in
    let within = c.loop-numbered-test.true in
    let read = c.into_inner.ensures ∙ c.in_ok-read.ensures in
    let next : q ≡ moved p c.in-Some.line.value = c.in_ok-step.ensures ∙ ap (λ (r : ReadLine). moved p r.line) (c.deref.ensures ∙ c.in_ok-read.ensures) in
    record {
      faulty = λ k f. c.loop-numbered.invariant.faulty k (faulty_later p q c.args.lines.now c.loop-numbered.numbered-index d c.in-Some.line.value k within found next f);
      says = λ rs to a.
          let later = read_later p q c.args.lines.now c.loop-numbered.numbered-index d c.in-Some.line.value c.into_inner.result rs to within found next read a in
          let more = c.loop-numbered.invariant.says (c.into_inner.result ∷ rs) to later in
          rw (c.in_ok-push.ensures.items, append_assoc) more;
    }

pub returns-then-is_closed : goal.returns-then-is_closed
returns-then-is_closed c =
    let h = c.loop-numbered-test.false in
    let p = place_of c.loop-numbered.place in
    let none = drop_all c.loop-numbered.numbered-index c.args.lines.now (omega arith) in
    let done : AreRead p (map line_of (drop c.loop-numbered.numbered-index c.args.lines.now)) [] p = rw none refl in
    record { to = p; closed = sym c.if-is_closed.ensures; read = rw append-nil at (c.loop-numbered.invariant.says [] p done) }

pub returns : goal.returns
returns c =
    let h = c.loop-numbered-test.false in
    let p = place_of c.loop-numbered.place in
    let none = drop_all c.loop-numbered.numbered-index c.args.lines.now (omega arith) in
    let done : AreRead p (map line_of (drop c.loop-numbered.numbered-index c.args.lines.now)) [] p = rw none refl in
    left_open (map line_of c.args.lines.now) c.loop-numbered.said.items p (rw append-nil at (c.loop-numbered.invariant.says [] p done)) (sym c.if-is_closed.ensures)
