use Rattle.std.proofs.Common.{length, ◌∙◌, ap, arith}
use Rattle.why_model.specs.Chains.{links_from}
use Rattle.live_why.specs.Views.{past}
use Rattle.live_why.proofs.SharedLinks.{no_links, no_links_zero, change_links, run_links}
use Rattle.why_check.proofs.causes.link_at.Goals as goal

pub returns-then-number-eq0 : goal.returns-then-number-eq0
returns-then-number-eq0 c =
    ap (links_from (past c.args.facts.now (length c.args.facts.now))) c.if-number-eq0.true ∙ no_links_zero c.args.facts.now

pub returns-then-number-facts : goal.returns-then-number-facts
returns-then-number-facts c = no_links c.args.facts.now c.args.number c.if-number-facts.true

pub returns-in-Change : goal.returns-in-Change
returns-in-Change c =
    change_links c.args.facts.now c.args.number c.index-facts-number.result c.in-Change.field-0 c.in-Change.field-1 (omega arith) c.if-number-facts.false
    c.index-facts-number.is c.in-Change.is

pub returns-in-Run : goal.returns-in-Run
returns-in-Run c =
    run_links c.args.facts.now c.args.number c.index-facts-number.result c.in-Run.note c.cause_of.result (omega arith) c.if-number-facts.false
    c.index-facts-number.is c.in-Run.is c.cause_of.ensures
