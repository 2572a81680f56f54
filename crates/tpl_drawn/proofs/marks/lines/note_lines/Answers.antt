use Rattle.std.proofs.Common.{◌+◌, drop, sym, ap, ◌∙◌, arith}
use Rattle.std.proofs.lemmas.List.{drop_all}
use Rattle.tpl_drawn.specs.Lines.{line_in, lined_from}
use Rattle.tpl_drawn.proofs.Compares.Rows.{left_of}
use Rattle.tpl_drawn.proofs.Numbered.Lines.{first_from}
use Rattle.tpl_drawn.proofs.marks.lines.note_lines.Goals as goal

pub loop-address-preserved : goal.loop-address-preserved
loop-address-preserved c =
    let inv = c.loop-address.invariant in
    let count = inv.count in
    let i = c.loop-address.address-index in
    let x = c.address-item.result in
    let cut = left_of c.args.addresses.now i x c.loop-address-test.true c.address-item.is in
    record {
      count = omega (arith, count);
      onward = λ k.
          first_from (drop (i + 1) c.args.addresses.now) x c.loop-address.number (line_in c.loop-address.lines) (line_in c.note_line.new.lines)
          c.in_ok-note_line.ensures k
          ∙ (ap (λ z. lined_from z c.loop-address.number (line_in c.loop-address.lines) k) (sym cut) ∙ inv.onward k);
    }

pub returns : goal.returns
returns c = λ k.
    ap (λ z. lined_from z c.loop-address.number (line_in c.loop-address.lines) k)
    (sym (drop_all c.loop-address.address-index c.args.addresses.now c.loop-address-test.false))
    ∙ c.loop-address.invariant.onward k
