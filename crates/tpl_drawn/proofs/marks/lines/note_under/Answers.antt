use Rattle.std.proofs.Common.{◌+◌, ◌<◌, drop, get_or, length, sym, ap, ◌∙◌, arith}
use Rattle.std.proofs.lemmas.List.{drop_all, drop_more}
use Rattle.tpl_drawn.specs.Lines.{line_in, lined}
use Rattle.tpl_drawn.proofs.Compares.Rows.{left_of}
use Rattle.tpl_drawn.proofs.Numbered.Lines.{first_lined}
use Rattle.tpl_drawn.proofs.marks.lines.note_under.Goals as goal

pub loop-address-preserved : goal.loop-address-preserved
loop-address-preserved c =
    let inv = c.loop-address.invariant in
    let count = inv.count in
    let i = c.loop-address.address-index in
    let at = c.loop-address.at in
    let x = c.address-item.result in
    let n = get_or c.args.numbers.now at 0 in
    let there = c.loop-address-test.true in
    let many = c.requires in
    let within : at < length c.args.numbers.now = omega (arith, count, there, many) in
    let cut = left_of c.args.addresses.now i x there c.address-item.is in
    let numbers = drop_more c.args.numbers.now at 0 within in
    record {
      count = omega (arith, count);
      onward = λ k.
          first_lined (drop (i + 1) c.args.addresses.now) x (drop (at + 1) c.args.numbers.now) n (line_in c.loop-address.lines) (line_in c.note_line.new.lines)
          c.in_ok-note_line.ensures k
          ∙ ((λ j. lined (sym cut j) (sym numbers j) (line_in c.loop-address.lines) k) ∙ inv.onward k);
    }

pub returns : goal.returns
returns c = λ k.
    ap (λ z. lined z (drop c.loop-address.at c.args.numbers.now) (line_in c.loop-address.lines) k)
    (sym (drop_all c.loop-address.address-index c.args.addresses.now c.loop-address-test.false))
    ∙ c.loop-address.invariant.onward k
