use Rattle.std.proofs.Common.{◌<◌, ◌∙◌, ℕ, List, length, sym, subst}
use Rattle.std.specs.List.{All}
use Rattle.sig_marks.specs.Tables.{Relinks}
use Rattle.sig_graph.proofs.KeptMarks.{links_others, links_same}
use Rattle.sig_graph.proofs.links.relink.Goals as goal

pub relink-requires-clause-sources : goal.relink-requires-clause-sources
relink-requires-clause-sources c = subst (λ (ns : List ℕ). All (λ m. m < length c.args.marks.now.marked) ns) (sym c.sources_at-sources.ensures) c.requires.sources

pub returns-then-are_same-clause-after : goal.returns-then-are_same-clause-after
returns-then-are_same-clause-after c =
    links_same c.args.id c.args.nodes.now.items c.args.marks.now.dependants c.args.reads.now c.requires.linked (sym c.sources_at-sources.ensures ∙ c.are_same.ensures c.if-are_same.true)

pub returns-clause-after : goal.returns-clause-after
returns-clause-after c =
    links_others c.args.id c.args.nodes.now.items c.args.marks.now.dependants c.relink.new.self.dependants c.args.marks.now.stands c.args.reads.now c.requires.standing c.requires.linked
    (subst (λ (ns : List ℕ). Relinks c.args.marks.now.dependants c.relink.new.self.dependants c.args.marks.now.stands ns c.args.reads.now c.args.id) c.sources_at-sources.ensures c.in_ok-relink.ensures.after)
