use Rattle.std.proofs.Common.{ap, ◌∙◌, arith}
use Rattle.live_why.specs.declared.index.Marks.{Marks}
use Rattle.live_why.proofs.Marks.{marked_none, marked_inside, marked_run, marked_change}
use Rattle.live_why.proofs.ledger.Ledger.last_run.Goals as goal

pub returns-then-number-eq0 : goal.returns-then-number-eq0
returns-then-number-eq0 c = record {
  found =
      marked_none c.args.self.now.facts.items c.args.id c.at-number.result.run
      (ap (λ (m : Marks). m.run) (c.at-number.ensures ∙ c.requires.marks c.args.id)) c.if-number-eq0.true;
}

pub index-requires : goal.index-requires
index-requires c =
    let l = marked_inside c.args.self.now.facts.items c.args.id c.at-number.result.run
    (ap (λ (m : Marks). m.run) (c.at-number.ensures ∙ c.requires.marks c.args.id)) in
    omega (arith, l)

pub unreachable-requires : goal.unreachable-requires
unreachable-requires c =
    marked_change c.args.self.now.facts.items c.args.id c.at-number.result.run c.index.result.now c.in-Change.field-0 c.in-Change.field-1
    (ap (λ (m : Marks). m.run) (c.at-number.ensures ∙ c.requires.marks c.args.id)) c.if-number-eq0.false c.index.ensures c.in-Change.is

pub returns : goal.returns
returns c = record {
  found =
      marked_run c.args.self.now.facts.items c.args.id c.at-number.result.run c.index.result.now c.in-Run.note
      (ap (λ (m : Marks). m.run) (c.at-number.ensures ∙ c.requires.marks c.args.id)) c.if-number-eq0.false c.index.ensures c.in-Run.is;
}
