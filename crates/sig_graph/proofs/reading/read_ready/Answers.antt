use Rattle.std.proofs.Common.{refl, sym, subst}
use Rattle.sig_base.specs.declared.value.Value.{Value}
use Rattle.sig_graph.specs.Reading.{IsReady}
use Rattle.sig_graph.proofs.reading.read_ready.Goals as goal

pub returns-clause-read : goal.returns-clause-read
returns-clause-read c = record {
  read = record { known = record { slot = c.args.slot; value = c.in_ok-value.value }; name = c.in-Some.id };
  same = refl;
  knows = c.in_ok-learn.ensures.known;
  names = c.in_ok-learn.ensures.reads;
  name = sym c.in-Some.ensures;
  ready = subst (λ (v : Value). IsReady c.args.nodes.now.items c.args.marks.now.marked c.in-Some.id v) (sym c.in_ok-value.ensures)
      c.in-Some-ready_value.ensures;
}
