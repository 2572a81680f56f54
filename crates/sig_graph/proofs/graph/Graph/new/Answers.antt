use Rattle.std.proofs.Common.{◌≡◌, [], List, None, Some, sym, subst, ◌∙◌, arith, true≢false}
use Rattle.sig_marks.specs.Tables.{MarkTable}
use Rattle.sig_nodes.specs.declared.node.Node.{Node}
use Rattle.sig_graph.specs.Places.{IsGraph, KeepsMarks}
use Rattle.sig_graph.proofs.KeptFinds.{none_kept as none_found}
use Rattle.sig_graph.proofs.KeptMarks.{none_kept}
use Rattle.sig_graph.proofs.graph.Graph.new.Goals as goal

pub invariant_of-result : goal.invariant_of-result
invariant_of-result c =
    let seats = c.in_ok-new-2.ensures in
    let free = seats.free in
    subst (λ (xs : List Node). IsGraph xs c.in_ok-new-2.field-0 0 0 c.new-3.result c.in_ok-new-3.field-0) (sym c.in_ok-new.ensures) (record {
      fields = record {
        numbers = λ m. omega arith;
        current = omega arith;
        made = omega arith;
        sources = λ n m q. absurd (true≢false (sym q));
        slots = λ n m q. absurd (true≢false (sym q));
        few = λ n. tt;
        seated = λ n q. absurd (true≢false (sym q));
        living = λ s n q. let e : None ≡ Some n = sym (seats.empty s) ∙ q in absurd (cc);
        room = omega (arith, free);
        size = seats.size;
      };
      marks = subst (λ (t : MarkTable). KeepsMarks [] 0 t) (sym c.new-3.ensures) none_kept;
      found = none_found c.in_ok-new-3.field-0 c.in_ok-new-3.ensures;
    })
