use Rattle.std.proofs.Common.{Some, ap, sym, ◌∙◌}
use Rattle.live_why.specs.declared.index.Marks.{Marks}
use Rattle.live_why.proofs.Marks.{marked_inside, chain_none, chain_some}
use Rattle.live_why.proofs.ledger.Ledger.chain.Goals as goal

pub returns-then-number-eq0 : goal.returns-then-number-eq0
returns-then-number-eq0 c =
    sym (chain_none c.args.self.now.facts.items c.args.id c.at-number.result.run
    (ap (λ (m : Marks). m.run) (c.at-number.ensures ∙ c.requires.marks c.args.id)) c.if-number-eq0.true)

pub links_from-requires-clause-inside : goal.links_from-requires-clause-inside
links_from-requires-clause-inside c =
    marked_inside c.args.self.now.facts.items c.args.id c.at-number.result.run
    (ap (λ (m : Marks). m.run) (c.at-number.ensures ∙ c.requires.marks c.args.id))

pub returns : goal.returns
returns c =
    ap Some c.in_ok-links.ensures
    ∙ sym (chain_some c.args.self.now.facts.items c.args.id c.at-number.result.run
    (ap (λ (m : Marks). m.run) (c.at-number.ensures ∙ c.requires.marks c.args.id)) c.if-number-eq0.false)
