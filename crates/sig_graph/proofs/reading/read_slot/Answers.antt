use Rattle.std.proofs.Common.{Bool, ℕ, sym, subst}
use Rattle.std.proofs.lemmas.Option.{slice_get_within}
use Rattle.sig_nodes.specs.Reading.{IsNeeded}
use Rattle.sig_graph.specs.Reading.{IsReadWhere}
use Rattle.sig_graph.proofs.reading.read_slot.Goals as goal

pub returns-then-read-clause-onward : goal.returns-then-read-clause-onward
returns-then-read-clause-onward c = λ o.
    let r = c.args.computation.now.recipe in
    let known = c.args.known.now.items in
    let h = subst (λ (b : Bool). IsReadWhere b c.args.nodes.now.items c.args.marks.now.marked r c.args.slot known c.args.reads.now.items
    c.read_ready.new.known.items c.read_ready.new.reads.items) c.if-read.true c.in_ok-read.ensures.read in
    let needed = subst (λ (n : ℕ). IsNeeded r known n) (sym h.same) c.requires in
    let inside = slice_get_within r.slots h.read.known.slot h.read.name h.name in
    record {
      read = h.read;
      knows = h.knows;
      names = h.names;
      here = record { asked = (needed inside).0; judged = (needed inside).1; name = h.name; ready = h.ready };
    }

pub returns-clause-onward : goal.returns-clause-onward
returns-clause-onward c = λ o.
    subst (λ (b : Bool). IsReadWhere b c.args.nodes.now.items c.args.marks.now.marked c.args.computation.now.recipe c.args.slot c.args.known.now.items
    c.args.reads.now.items c.read_ready.new.known.items c.read_ready.new.reads.items) c.if-read.false c.in_ok-read.ensures.read
