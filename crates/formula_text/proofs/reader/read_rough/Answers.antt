use Rattle.formula_text.specs.Rough.{draft}
use Rattle.formula_text.proofs.Places.{none_read, some_read}
use Rattle.formula_text.proofs.reader.read_rough.Goals as goal

pub returns-in_default : goal.returns-in_default
returns-in_default c = none_read c.args.line.now c.args.tokens.now c.args.from (λ n small. let e = c.in_ok-rough.ensures.exact n small in rw c.in_default.is at e)

pub returns : goal.returns
returns c =
    let line = c.args.line.now in
    let tokens = c.args.tokens.now in
    let part = rw c.in-Some.is at c.in_ok-rough.ensures.part in
    rw c.into_inner.ensures
    (record {
      reads = some_read line tokens c.args.from c.in-Some.to c.in-Some.field-0-1 (draft line tokens c.in-Some.rough.value) part.within part.shorter (λ n small. let e = c.in_ok-rough.ensures.exact n small in rw c.in-Some.is at e);
      leaves = part.leaves;
    })
