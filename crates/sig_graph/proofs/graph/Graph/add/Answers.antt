use Rattle.sig_marks.specs.Tables.{MarkTable, with_place}
use Rattle.sig_nodes.specs.Nodes.{is_computed_body, slots_body, new_node}
use Rattle.sig_graph.proofs.KeptFinds.{raised_kept}
use Rattle.sig_graph.proofs.KeptMarks.{new_kept}
use Rattle.std.proofs.Common.{◌≡◌, ◌+◌, ◌++◌, ◌∷◌, [], List, length, sym, ap, ◌∙◌, subst, arith}
use Rattle.sig_nodes.specs.declared.node.Node.{Node}
use Rattle.sig_graph.specs.States.{Seen}
use Rattle.sig_seats.specs.Seats.{Seating}
use Rattle.sig_graph.specs.Places.{NodesAgree, KeepsMarks}
use Rattle.sig_graph.specs.Parts.{state_of, with_new}
use Rattle.std.proofs.Common.{length-append}
use Rattle.sig_seats.specs.Seats.{with_taken}
use Rattle.sig_graph.proofs.StateEdits.{new_state}
use Rattle.sig_graph.proofs.Consistency.{given_below, in_all, makes, new_holds}
use Rattle.sig_graph.proofs.graph.Graph.add.Goals as goal

pub invariant_of-self-2 : goal.invariant_of-self-2
invariant_of-self-2 c =
    let xs = c.self.inside.nodes.items in
    let items = c.push.ensures ∙ ap (λ (n : Node). c.reserve.new.self.items ++ n ∷ []) c.new-node.ensures ∙ ap (λ (ys : List Node). ys ++ new_node c.take-seat.result c.args.body ∷ []) c.reserve.ensures.items in
    let id : c.of-id.result ≡ length xs = c.of-id.ensures ∙ c.made.ensures ∙ ap (λ (ys : List Node). length ys) c.reserve.ensures.items in
    let below = given_below c.args.self.now (state_of xs c.self.inside.generation c.self.inside.looked c.self.inside.worn) c.self.inside.seats.holders (length xs) (slots_body c.args.body) c.self.view_is c.requires.given in
    let some = c.free.ensures in
    let h = new_holds xs c.take-seat.result c.args.body c.self.inside.seats c.self.inside.generation c.self.inside.worn c.requires.fresh (λ m. in_all (slots_body c.args.body) (length xs) m below) c.requires.few (omega (arith, some))
    c.take-seat.ensures.inside c.take-seat.ensures.free c.self.invariant.fields in
    let seats = c.take-seat.ensures.seats ∙ ap (with_taken c.self.inside.seats c.take-seat.result) id in
    let g = c.self.inside.generation in
    let marks = new_kept xs c.take-seat.result c.args.body g c.self.inside.worn c.self.inside.seats c.self.inside.marks c.requires.fresh c.self.invariant.fields c.self.invariant.marks in
    let table = c.in_ok-add.ensures.after ∙ ap (with_place c.self.inside.marks) c.is_computed.ensures in
    record {
      fields = subst (λ (t : Seating). NodesAgree c.push.new.self.items t g (c.self.inside.worn + 1)) (sym seats)
          (subst (λ (ys : List Node). NodesAgree ys (with_taken c.self.inside.seats c.take-seat.result (length xs)) g (c.self.inside.worn + 1)) (sym items) h);
      marks = subst (λ (t : MarkTable). KeepsMarks c.push.new.self.items g t) (sym table)
          (subst (λ (ys : List Node). KeepsMarks ys g (with_place c.self.inside.marks (is_computed_body c.args.body))) (sym items) marks);
      found = raised_kept xs c.push.new.self.items g g c.self.inside.worn c.self.inside.finds c.self.invariant.found;
    }

pub returns-clause-after : goal.returns-clause-after
returns-clause-after c =
    let xs = c.self.inside.nodes.items in
    let ys = c.push.new.self.items in
    let g = c.self.inside.generation in
    let l = c.self.inside.looked in
    let w = c.self.inside.worn in
    let items = c.push.ensures ∙ ap (λ (n : Node). c.reserve.new.self.items ++ n ∷ []) c.new-node.ensures ∙ ap (λ (zs : List Node). zs ++ new_node c.take-seat.result c.args.body ∷ []) c.reserve.ensures.items in
    let id : c.of-id.result ≡ length xs = c.of-id.ensures ∙ c.made.ensures ∙ ap (λ (ys : List Node). length ys) c.reserve.ensures.items in
    let len = ap length items ∙ length-append xs (new_node c.take-seat.result c.args.body ∷ []) in
    makes c.args.self.now (state_of ys g l (w + 1)) (with_new c.args.self.now.state c.of-id.result c.args.body) xs c.self.inside.seats c.take-seat.new.self.holders g l w (length ys) c.of-id.result c.self.view_is id len
    (ap (λ zs. state_of zs g l (w + 1)) items ∙ new_state xs c.take-seat.result c.args.body g l w c.requires.fresh ∙ ap (λ n. with_new (state_of xs g l w) n c.args.body) (sym id) ∙ ap (λ (s : Seen). with_new s.state c.of-id.result c.args.body) c.self.view_is)
    c.self.invariant.fields
