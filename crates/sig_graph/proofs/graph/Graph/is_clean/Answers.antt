use Rattle.std.proofs.Common.{length, ap, ◌∙◌, refl}
use Rattle.sig_graph.specs.States.{Seen, with_look}
use Rattle.sig_graph.specs.Parts.{state_of}
use Rattle.sig_graph.proofs.Consistency.{became}
use Rattle.sig_graph.proofs.graph.Graph.is_clean.Goals as goal

pub returns-clause-after : goal.returns-clause-after
returns-clause-after c =
    let xs = c.self.inside.nodes.items in
    let g = c.self.inside.generation in
    let w = c.self.inside.worn in
    let is = c.self.view_is ∙ c.has_clean_mark-clean.ensures.same in
    became c.args.self.now (state_of xs g c.self.inside.looked w) (state_of xs g c.count.new.looked w) (with_look c.args.self.now.state) c.self.inside.seats.holders c.self.inside.seats.holders (length xs) (length xs)
    is refl (ap (λ l. state_of xs g l w) c.count.ensures ∙ ap (λ (s : Seen). with_look s.state) is)

pub returns-clause-seats : goal.returns-clause-seats
returns-clause-seats c = ap (λ (s : Seen). s.seats) (c.self.view_is ∙ c.has_clean_mark-clean.ensures.same)
