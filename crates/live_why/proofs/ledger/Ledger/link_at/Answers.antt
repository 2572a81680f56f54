use Rattle.std.proofs.Common.{◌∷◌, ◌-◌, sym, ap, ◌∙◌, arith}
use Rattle.why_model.specs.Chains.{links_from, moved_by}
use Rattle.live_why.specs.Views.{past}
use Rattle.live_why.proofs.SharedLinks.{cause_inside, no_links_zero, change_links, run_links}
use Rattle.live_why.proofs.SharedPasts.{length-past}
use Rattle.live_why.specs.Marking.{back}
use Rattle.live_why.proofs.Marks.{back-past, kept_cause, causes_inside}
use Rattle.live_why.proofs.ledger.Ledger.link_at.Goals as goal

pub returns-then-number-eq0-clause-link : goal.returns-then-number-eq0-clause-link
returns-then-number-eq0-clause-link c =
    ap (links_from (back c.args.self.now.facts.items)) c.if-number-eq0.true
    ∙ ap (λ js. links_from js 0) (back-past c.args.self.now.facts.items)
    ∙ no_links_zero c.args.self.now.facts.items

pub index-requires-in-Run : goal.index-requires-in-Run
index-requires-in-Run c =
    let l = causes_inside c.args.self.now.facts.items c.args.self.now.causes.items c.args.self.now.index.marks.entries c.requires.right in
    omega (arith, l)

pub returns-in-Change-clause-link : goal.returns-in-Change-clause-link
returns-in-Change-clause-link c =
    ap (λ js. links_from js c.args.number) (back-past c.args.self.now.facts.items)
    ∙ change_links c.args.self.now.facts.items c.args.number c.index.result.now c.in-Change.field-0 c.in-Change.field-1 (omega arith) c.requires.inside
    c.index.ensures c.in-Change.is

pub returns-in-Run-clause-link : goal.returns-in-Run-clause-link
returns-in-Run-clause-link c =
    ap (λ js. links_from js c.args.number) (back-past c.args.self.now.facts.items)
    ∙ run_links c.args.self.now.facts.items c.args.number c.index.result.now c.in-Run.field-0 c.index-in-Run.result.now (omega arith) c.requires.inside
    c.index.ensures c.in-Run.is
    (kept_cause c.args.self.now.facts.items c.args.self.now.causes.items c.args.self.now.index.marks.entries c.args.number c.index.result.now
    c.in-Run.field-0 c.index-in-Run.result.now c.requires.right (omega arith) c.requires.inside c.index.ensures c.in-Run.is c.index-in-Run.ensures)
    ∙ ap (λ js. record { run = c.args.number; cause = c.index-in-Run.result.now } ∷ links_from js (moved_by c.index-in-Run.result.now))
    (sym (back-past c.args.self.now.facts.items))

pub returns-in-Run-clause-lower : goal.returns-in-Run-clause-lower
returns-in-Run-clause-lower c =
    let js = past c.args.self.now.facts.items (c.args.number - 1) in
    let why = kept_cause c.args.self.now.facts.items c.args.self.now.causes.items c.args.self.now.index.marks.entries c.args.number c.index.result.now
    c.in-Run.field-0 c.index-in-Run.result.now c.requires.right (omega arith) c.requires.inside c.index.ensures c.in-Run.is c.index-in-Run.ensures in
    let most = cause_inside c.in-Run.field-0.id js in
    let size = length-past c.args.self.now.facts.items (c.args.number - 1) (omega arith) in
    let same = ap moved_by why in
    omega (arith, most, size, same)
