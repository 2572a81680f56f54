use Rattle.std.proofs.Common.{◌<◌, length, sym, ap, ◌∙◌, subst, true}
use Rattle.sig_marks.specs.Tables.{MarkTable, Spreads}
use Rattle.sig_marks.proofs.Shared.{mark_set_len}
use Rattle.sig_marks.proofs.marks.Marks.mark_on.Goals as goal

pub spread-requires : goal.spread-requires
spread-requires c =
    subst (λ (m : MarkTable). c.args.id < length m.marked) (sym c.mark.ensures)
    (subst (λ z. c.args.id < z) (sym (mark_set_len c.args.self.now.marked c.args.id true)) c.requires)

pub returns-clause-marks : goal.returns-clause-marks
returns-clause-marks c = subst (λ (m : MarkTable). Spreads m.dependants m.marked c.spread.new.self.marked c.args.id) c.mark.ensures c.spread.ensures.marks

pub returns-clause-dependants : goal.returns-clause-dependants
returns-clause-dependants c = c.spread.ensures.dependants ∙ ap (λ (m : MarkTable). m.dependants) c.mark.ensures

pub returns-clause-stands : goal.returns-clause-stands
returns-clause-stands c = c.spread.ensures.stands ∙ ap (λ (m : MarkTable). m.stands) c.mark.ensures
