use Rattle.std.proofs.Common.{◌&&◌, false, refl, sym, ap, ◌∙◌}
use Rattle.why_model.specs.Facts.{is_news, is_rewire, last_run}
use Rattle.live_why.specs.declared.facts.Fact.TheVariants.{Change, Run}
use Rattle.live_why.specs.Views.{past}
use Rattle.why_check.specs.declared.looking.Wanted.TheVariants.{Move, Rewiring}
use Rattle.why_check.proofs.Hits.{hit_is}
use Rattle.why_check.proofs.looking.is_hit.Goals as goal

pub returns-in-Move : goal.returns-in-Move
returns-in-Move c =
    hit_is c.args.facts.now c.args.at c.args.id c.args.wanted Move c.index-facts-at.result (Change c.in-Change.changed c.in-Change.how) c.eq.result
    c.requires c.index-facts-at.is c.in-Change.is c.in-Move.is c.eq.ensures

pub returns-then-eq : goal.returns-then-eq
returns-then-eq c =
    hit_is c.args.facts.now c.args.at c.args.id c.args.wanted Rewiring c.index-facts-at.result (Change c.in-Change.changed c.in-Change.how)
    c.is_rewire.result c.requires c.index-facts-at.is c.in-Change.is c.in-Rewiring.is
    (c.is_rewire.ensures ∙ ap (λ t. t && is_rewire c.in-Change.how) (sym (sym c.eq-in-Rewiring.ensures ∙ c.if-eq.true)))

pub returns-else-eq : goal.returns-else-eq
returns-else-eq c =
    hit_is c.args.facts.now c.args.at c.args.id c.args.wanted Rewiring c.index-facts-at.result (Change c.in-Change.changed c.in-Change.how)
    c.eq-in-Rewiring.result c.requires c.index-facts-at.is c.in-Change.is c.in-Rewiring.is
    (c.if-eq.false ∙ ap (λ t. t && is_rewire c.in-Change.how) (sym (sym c.eq-in-Rewiring.ensures ∙ c.if-eq.false)))

pub returns-then-eq-2 : goal.returns-then-eq-2
returns-then-eq-2 c =
    hit_is c.args.facts.now c.args.at c.args.id c.args.wanted Move c.index-facts-at.result (Run c.in-Run.note) c.is_news.result c.requires
    c.index-facts-at.is c.in-Run.is c.in-Move-wanted.is
    (c.is_news.ensures
    ∙ ap (λ t. t && is_news (last_run c.args.id (past c.args.facts.now c.args.at)) c.in-Run.note.outcome)
    (sym (sym c.eq-in-Move-wanted.ensures ∙ c.if-eq-2.true)))

pub returns-else-eq-2 : goal.returns-else-eq-2
returns-else-eq-2 c =
    hit_is c.args.facts.now c.args.at c.args.id c.args.wanted Move c.index-facts-at.result (Run c.in-Run.note) c.eq-in-Move-wanted.result c.requires
    c.index-facts-at.is c.in-Run.is c.in-Move-wanted.is
    (c.if-eq-2.false
    ∙ ap (λ t. t && is_news (last_run c.args.id (past c.args.facts.now c.args.at)) c.in-Run.note.outcome)
    (sym (sym c.eq-in-Move-wanted.ensures ∙ c.if-eq-2.false)))

pub returns-in-Rewiring-wanted : goal.returns-in-Rewiring-wanted
returns-in-Rewiring-wanted c =
    hit_is c.args.facts.now c.args.at c.args.id c.args.wanted Rewiring c.index-facts-at.result (Run c.in-Run.note) false c.requires
    c.index-facts-at.is c.in-Run.is c.in-Rewiring-wanted.is refl
